-- The rule of the table: its words are what one lawful history of all steps leaves, and each view is its holder's part
-- of that history.
use Rattle.std.specs.Prelude.{◌≡◌, ℕ, ◌+◌, ◌-◌, ◌*◌, ◌/◌, ◌%◌, ◌<◌, ◌≤◌, List, [], ◌∷◌, ◌++◌, length, slice_index}
use mathlib.Core.Option.{some}
use lib.ListN.{get_elem?}
use Rattle.atomic_table.specs.Table.{State, Me, Step}
use Rattle.table_words.specs.Limits.{section_stride}
use Rattle.read_table.specs.declared.view.Move.{Move}
use Rattle.read_table.specs.declared.view.Move.TheVariants.{Open, Close, Learn, Load, Store, Header, Scan}
use Rattle.read_table.specs.declared.view.TableShape.{TableShape}
use Rattle.read_table.specs.declared.view.View.{View}
use Rattle.read_table.specs.History.{moves_of, inside, header_in, word_at_place, IsLawful}

-- how many words a slot has
abbrev pub width_of : TableShape → ℕ
width_of k = k.key_words + k.value_words

-- The words of a table: a section word for each reader, in a stretch of its own, then a header for each slot, from
-- here on,
abbrev pub headers_from : TableShape → ℕ
headers_from k = k.readers * section_stride

-- then the words of the slots, one slot after another, from here on,
abbrev pub base_of : TableShape → ℕ
base_of k = headers_from k + k.slots

-- and in all these
abbrev pub count_of : TableShape → ℕ
count_of k = base_of k + k.slots * width_of k

-- where a word of a slot lies
abbrev pub index_in : TableShape → ℕ → ℕ → ℕ
index_in k slot place = base_of k + (slot * width_of k + place)

-- one history goes on from another
abbrev pub Later : List (ℕ × Move) → List (ℕ × Move) → Type 0
Later new old = (between : List (ℕ × Move)) × (new ≡ between ++ old)

-- what the rule says of the view of the seat j: its list is its part of the history, and it saw an earlier part of it
pub record Fits (k : TableShape) (log : List (ℕ × Move)) (next : ℕ) (seat_of : ℕ → ℕ) (j : ℕ)
    (v : View) : Type 0 where
  pub shape : v.shape ≡ k
  pub seat : seat_of v.me ≡ j
  pub known : v.me < next
  pub deals : v.me ≡ 0 → v.next ≡ next
  pub mine : moves_of v.me log ≡ v.mine
  pub later : Later log v.seen

-- There is one lawful history of all steps. The headers, the section words and the words of the slots are what it leaves,
-- and each seat fits it.
pub record Kept (k : TableShape) (s : State ℕ View) : Type 0 where
  pub log : List (ℕ × Move)
  pub next : ℕ
  pub seat_of : ℕ → ℕ
  pub wide : length s.words ≡ count_of k
  pub headers : (slot : ℕ) → slot < k.slots →
      slice_index s.words (headers_from k + slot) ≡ header_in slot (moves_of 0 log)
  pub sections : (r : ℕ) → r < k.readers →
      slice_index s.words (r * section_stride) ≡ inside (moves_of (r + 1) log)
  pub stored : (slot place : ℕ) → slot < k.slots → place < width_of k →
      slice_index s.words (index_in k slot place) ≡ word_at_place slot place log
  pub lawful : IsLawful k log
  pub fresh : (who : ℕ) → next ≤ who → moves_of who log ≡ []
  pub each_seat : (j : ℕ) (v : View) → get_elem? s.views j ≡ some v → Fits k log next seat_of j v

-- the writer at first
abbrev pub writer_of : TableShape → View
writer_of k = record { shape = k; me = 0; next = 1; mine = []; seen = [] }

-- the writer, once it has made the seats of n readers
abbrev pub writer_after : ℕ → TableShape → View
writer_after n k = record { shape = k; me = 0; next = n + 1; mine = []; seen = [] }

-- the writer, once it has made one more reader
abbrev pub dealt : View → View
dealt v = record v { next = v.next + 1 }

-- the reader that the writer makes next
abbrev pub reader_of : View → View
reader_of v = record { shape = v.shape; me = v.next; next = 0; mine = []; seen = [] }

-- the holder after its next step, with what others did between
abbrev pub did : View → Move → List (ℕ × Move) → View
did v m between = record v { mine = m ∷ v.mine; seen = (v.me, m) ∷ (between ++ v.seen) }

-- The holder did just this. It saw a lawful history, which goes on from what it saw before and in which its own part is
-- what it did.
abbrev pub Gains : View → Move → View → Type 0
Gains v m w =
    (between : List (ℕ × Move)) × (w ≡ did v m between) × IsLawful v.shape w.seen
    × (moves_of v.me w.seen ≡ w.mine)

-- a seat as a step sees it. What each kind of step tells is a fact of the step, the seat before, the word that was
-- found, and the seat after:
abbrev Sat : Type 0
Sat = Me ℕ View

-- a reader began a section
abbrev pub opens : Step ℕ → Sat → ℕ → Sat → Type 0
opens st m n m' = Gains m.0 Open m'.0 × (m'.1 ≡ m.1)

-- a reader ended its section
abbrev pub closes : Step ℕ → Sat → ℕ → Sat → Type 0
closes st m n m' = Gains m.0 Close m'.0 × (m'.1 ≡ m.1)

-- a reader found the header of a slot
abbrev pub learns : Step ℕ → Sat → ℕ → Sat → Type 0
learns st m n m' = Gains m.0 (Learn (st.word - headers_from m.0.shape) n) m'.0 × (m'.1 ≡ m.1)

-- a reader found a word of a slot, and read no other word
abbrev pub loads : Step ℕ → Sat → ℕ → Sat → Type 0
loads st m n m' =
    let at = st.word - base_of m.0.shape in
    (base_of m.0.shape ≤ st.word)
    × Gains m.0 (Load (at / width_of m.0.shape) (at % width_of m.0.shape) n) m'.0 × (m'.1 ≡ m.1)

-- a holder wrote a word of a slot, and no other word
abbrev pub stores : Step ℕ → Sat → ℕ → Sat → Type 0
stores st m n m' =
    let at = st.word - base_of m.0.shape in
    (base_of m.0.shape ≤ st.word)
    × Gains m.0 (Store (at / width_of m.0.shape) (at % width_of m.0.shape) st.first) m'.0 × (m'.1 ≡ m.1)

-- the writer changed the header of a slot
abbrev pub changes : Step ℕ → Sat → ℕ → Sat → Type 0
changes st m n m' = Gains m.0 (Header (st.word - headers_from m.0.shape) st.first) m'.0 × (m'.1 ≡ m.1)

-- the writer found the section word of a reader
abbrev pub scans : Step ℕ → Sat → ℕ → Sat → Type 0
scans st m n m' = Gains m.0 (Scan (st.word / section_stride + 1) n) m'.0 × (m'.1 ≡ m.1)
