-- The rule of the table: its words are what one lawful history of all steps leaves, and each view is its holder's part
-- of that history.
use Rattle.std.specs.Prelude.{◌≡◌, ℕ, ◌+◌, ◌-◌, ◌*◌, ◌/◌, ◌%◌, ◌^◌, ◌<◌, ◌≤◌, List, [], ◌∷◌, ◌++◌, length, slice_index}
use mathlib.Core.Option.{some}
use lib.ListN.{get_elem?}
use Rattle.atomic_table.specs.Table.{State, Me, Step}
use Rattle.table_words.specs.Layout.{bucket_ways}
use Rattle.table_words.specs.Hashes.{layout_of}
use Rattle.table_words.specs.Limits.{section_stride}
use Rattle.table_words.specs.Values.{stored_of}
use Rattle.table_words.specs.declared.moves.Move.{Move}
use Rattle.table_words.specs.declared.moves.Move.TheVariants.{Open, Close, Learn, Load, Store, Put, Double, Scan}
use Rattle.table_words.specs.declared.view.TableShape.{TableShape}
use Rattle.table_words.specs.declared.view.View.{View}
use Rattle.table_words.specs.History.{moves_of, section_word, word_in, word_at, IsLawful}

-- how many words an element has: those of its key, and those of its values behind them
abbrev pub width_of : TableShape → ℕ
width_of k = k.key_words + stored_of k

-- how many ways a table has
abbrev pub ways_of : TableShape → ℕ
ways_of k = k.buckets * bucket_ways

-- The words of a table: a section word for each reader, in a stretch of its own, then the ways, from here on,
abbrev pub ways_from : TableShape → ℕ
ways_from k = k.readers * section_stride

-- then the words of the elements, one element after another, from here on,
abbrev pub base_of : TableShape → ℕ
base_of k = ways_from k + ways_of k

-- and in all these
abbrev pub count_of : TableShape → ℕ
count_of k = base_of k + k.elements * width_of k

-- where a word of an element lies
abbrev pub index_in : TableShape → ℕ → ℕ → ℕ
index_in k element place = base_of k + (element * width_of k + place)

-- one history goes on from another
abbrev pub Later : List (ℕ × Move) → List (ℕ × Move) → Type 0
Later new old = (between : List (ℕ × Move)) × (new ≡ between ++ old)

-- what the rule says of the view of the seat j: its list is its part of the history, and it saw an earlier part of it
pub record Fits (k : TableShape) (log : List (ℕ × Move)) (next : ℕ) (seat_of : ℕ → ℕ) (j : ℕ)
    (v : View) : Type 0 where
  pub shape : v.shape ≡ k
  pub seat : seat_of v.me ≡ j
  pub known : v.me < next
  pub deals : v.me ≡ 0 → v.next ≡ next
  pub mine : moves_of v.me log ≡ v.mine
  pub later : Later log v.seen

-- There is one lawful history of all steps. The section words, the ways and the words of the elements are what it leaves,
-- and each seat fits it.
pub record Kept (k : TableShape) (s : State ℕ View) : Type 0 where
  pub log : List (ℕ × Move)
  pub next : ℕ
  pub seat_of : ℕ → ℕ
  pub wide : length s.words ≡ count_of k
  pub ways : (way : ℕ) → way < ways_of k →
      slice_index s.words (ways_from k + way) ≡ word_in way (moves_of 0 log)
  pub sections : (r : ℕ) → r < k.readers →
      slice_index s.words (r * section_stride) ≡ section_word (moves_of (r + 1) log)
  pub stored : (element place : ℕ) → element < k.elements → place < width_of k →
      slice_index s.words (index_in k element place) ≡ word_at element place log
  pub lawful : IsLawful (layout_of k) log
  pub fresh : (who : ℕ) → next ≤ who → moves_of who log ≡ []
  pub each_seat : (j : ℕ) (v : View) → get_elem? s.views j ≡ some v → Fits k log next seat_of j v

-- the writer at first
abbrev pub writer_of : TableShape → View
writer_of k = record { shape = k; me = 0; next = 1; mine = []; seen = [] }

-- the writer, once it has made the seats of n readers
abbrev pub writer_after : ℕ → TableShape → View
writer_after n k = record { shape = k; me = 0; next = n + 1; mine = []; seen = [] }

-- the writer, once it has made one more reader
abbrev pub dealt : View → View
dealt v = record v { next = v.next + 1 }

-- the reader that the writer makes next: it has done nothing, and saw what the writer saw
abbrev pub reader_of : View → View
reader_of v = record { shape = v.shape; me = v.next; next = 0; mine = []; seen = v.seen }

-- the holder after its next step, with what others did between
abbrev pub did : View → Move → List (ℕ × Move) → View
did v m between = record v { mine = m ∷ v.mine; seen = (v.me, m) ∷ (between ++ v.seen) }

-- The holder did just this. It saw a lawful history, which goes on from what it saw before and in which its own part is
-- what it did.
abbrev pub Gains : View → Move → View → Type 0
Gains v m w =
    (between : List (ℕ × Move)) × (w ≡ did v m between) × IsLawful (layout_of v.shape) w.seen
    × (moves_of v.me w.seen ≡ w.mine)

-- The holder did just these two moves, and nobody did anything between them.
abbrev pub GainsBoth : View → Move → Move → View → Type 0
GainsBoth v m n w =
    (between : List (ℕ × Move)) × (w ≡ did (did v m between) n []) × IsLawful (layout_of v.shape) w.seen
    × (moves_of v.me w.seen ≡ w.mine)

-- a seat as a step sees it. What each kind of step tells is a fact of the step, the seat before, the word that was
-- found, and the seat after:
abbrev Sat : Type 0
Sat = Me ℕ View

-- a reader began a section, and wrote the section word that it has since
abbrev pub opens : Step ℕ → Sat → ℕ → Sat → Type 0
opens st m n m' = Gains m.0 Open m'.0 × (m'.1 ≡ m.1) × (st.first ≡ section_word m'.0.mine)

-- a reader ended its section, and wrote the section word that it has since
abbrev pub closes : Step ℕ → Sat → ℕ → Sat → Type 0
closes st m n m' = Gains m.0 Close m'.0 × (m'.1 ≡ m.1) × (st.first ≡ section_word m'.0.mine)

-- a reader found the word of a way
abbrev pub learns : Step ℕ → Sat → ℕ → Sat → Type 0
learns st m n m' = Gains m.0 (Learn (st.word - ways_from m.0.shape) n) m'.0 × (m'.1 ≡ m.1)

-- a reader found a word of an element, and read no other word
abbrev pub loads : Step ℕ → Sat → ℕ → Sat → Type 0
loads st m n m' =
    let at = st.word - base_of m.0.shape in
    (base_of m.0.shape ≤ st.word)
    × Gains m.0 (Load (at / width_of m.0.shape) (at % width_of m.0.shape) n) m'.0 × (m'.1 ≡ m.1)

-- a holder wrote a word of an element, and no other word
abbrev pub stores : Step ℕ → Sat → ℕ → Sat → Type 0
stores st m n m' =
    let at = st.word - base_of m.0.shape in
    (base_of m.0.shape ≤ st.word)
    × Gains m.0 (Store (at / width_of m.0.shape) (at % width_of m.0.shape) st.first) m'.0 × (m'.1 ≡ m.1)

-- a reader added to a word of an element: it found a word, and stored the sum at once
abbrev pub adds : Step ℕ → Sat → ℕ → Sat → Type 0
adds st m n m' =
    let at = st.word - base_of m.0.shape in
    (base_of m.0.shape ≤ st.word)
    × GainsBoth m.0 (Load (at / width_of m.0.shape) (at % width_of m.0.shape) n)
    (Store (at / width_of m.0.shape) (at % width_of m.0.shape) ((n + st.first) % 2 ^ 64)) m'.0 × (m'.1 ≡ m.1)

-- the writer put a word in a way
abbrev pub puts : Step ℕ → Sat → ℕ → Sat → Type 0
puts st m n m' = Gains m.0 (Put (st.word - ways_from m.0.shape) st.first) m'.0 × (m'.1 ≡ m.1)

-- the writer put the word of a way in a second one
abbrev pub doubles : Step ℕ → Sat → ℕ → Sat → Type 0
doubles st m n m' =
    ((from : ℕ) × Gains m.0 (Double from (st.word - ways_from m.0.shape) st.first) m'.0) × (m'.1 ≡ m.1)

-- the writer found the section word of a reader, and one that it has not made yet has done nothing
abbrev pub scans : Step ℕ → Sat → ℕ → Sat → Type 0
scans st m n m' =
    let reader = st.word / section_stride + 1 in
    Gains m.0 (Scan reader n) m'.0 × (m'.1 ≡ m.1) × (m.0.next ≤ reader → moves_of reader m'.0.seen ≡ [])
