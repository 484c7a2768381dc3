-- What holders did to the tables, the newest first, and which of it is lawful (Linux RCU requirements, "Grace-Period
-- Guarantee": an element is filled anew only when each reader that might hold it has left its section).
use Rattle.std.specs.Prelude.{◌≡◌, ◌≢◌, ◌⊎◌, ℕ, zero, suc, ◌-◌, ◌*◌, ◌%◌, ◌^◌, ◌<◌, ◌≤◌, ◌==◌, min, List, [], ◌∷◌, if◌then◌else◌}
use Rattle.table_words.specs.declared.moves.Move.{Move}
use Rattle.table_words.specs.declared.moves.Move.TheVariants.{Open, Close, Learn, Load, Store, Put, Double, Scan}
use Rattle.table_words.specs.Layout.{Layout, IsCandidate, Names, tag_in}
use Rattle.table_words.specs.Scanned.{FoundGone}

-- what one holder did; the writer is number 0
abbrev pub moves_of : ℕ → List (ℕ × Move) → List Move
moves_of who [] = []
moves_of who (e ∷ es) = if e.0 == who then (e.1 ∷ moves_of who es) else moves_of who es

-- what the writer and one reader did
abbrev pub with_writer : ℕ → List (ℕ × Move) → List (ℕ × Move)
with_writer who [] = []
with_writer who (e ∷ es) =
    if e.0 == 0 then (e ∷ with_writer who es) else (if e.0 == who then (e ∷ with_writer who es) else with_writer who es)

-- 1 inside a section, and 0 outside
abbrev pub inside : List Move → ℕ
inside [] = 0
inside (Open ∷ ms) = 1
inside (Close ∷ ms) = 0
inside (_ ∷ ms) = inside ms

-- how many sections the reader opened
abbrev pub opened : List Move → ℕ
opened [] = 0
opened (Open ∷ ms) = suc (opened ms)
opened (_ ∷ ms) = opened ms

-- how many sections a section word counts
abbrev pub most_sections : ℕ
most_sections = 2 ^ 62

-- A reader's section word: twice the sections that it opened, less one inside the last. It is odd inside, and even outside.
-- The count stops at the most: from there on the word tells inside from outside, and no section from another.
abbrev pub section_word : List Move → ℕ
section_word ms = 2 * min (opened ms) most_sections - inside ms

-- the word of a way after the writer's moves: what he put there last, and 0 where he put none
abbrev pub word_in : ℕ → List Move → ℕ
word_in way [] = 0
word_in way (Put w x ∷ ms) = if w == way then x else word_in way ms
word_in way (Double from to x ∷ ms) = if to == way then x else word_in way ms
word_in way (_ ∷ ms) = word_in way ms

-- the word at a place of an element after a move, where it was the old one before
abbrev pub word_after : ℕ → ℕ → Move → ℕ → ℕ
word_after element place (Store e p x) old =
    if e == element then (if p == place then x else old) else old
word_after element place _ old = old

-- the word at a place of an element after all this: what was stored there last, by whomever, and 0 where nothing was
abbrev pub word_at : ℕ → ℕ → List (ℕ × Move) → ℕ
word_at element place [] = 0
word_at element place (e ∷ es) = word_after element place e.1 (word_at element place es)

-- so many words of an element, from a place on
abbrev pub words_from : ℕ → ℕ → ℕ → List (ℕ × Move) → List ℕ
words_from element place zero es = []
words_from element place (suc n) es = word_at element place es ∷ words_from element (suc place) n es

-- the key that an element has
abbrev pub key_of : Layout → ℕ → List (ℕ × Move) → List ℕ
key_of k element es = words_from element 0 (k.key_words (k.table_of element)) es

-- some way names the element, after the writer's moves
abbrev pub IsLinked : ℕ → List Move → Type 0
IsLinked element ms = (way : ℕ) × Names (word_in way ms) element

-- the element was found in a way, in the section that is open
abbrev pub Holds : ℕ → List Move → Type 0
Holds element [] = ⊥
Holds element (Open ∷ ms) = ⊥
Holds element (Close ∷ ms) = ⊥
Holds element (Learn way x ∷ ms) = Names x element ⊎ Holds element ms
Holds element (_ ∷ ms) = Holds element ms

-- since the element was unlinked last, the writer found this number in the reader's section word
abbrev pub FoundSince : ℕ → ℕ → ℕ → List Move → Type 0
FoundSince reader element word [] = ⊥
FoundSince reader element word (Put way x ∷ ms) =
    (Names (word_in way ms) element → ⊥) × FoundSince reader element word ms
FoundSince reader element word (Scan r x ∷ ms) =
    ((r ≡ reader) × (x ≡ word)) ⊎ FoundSince reader element word ms
FoundSince reader element word (_ ∷ ms) = FoundSince reader element word ms

-- A reader whose section word has this number now has left each section that it was in when the element was unlinked: the
-- number is even, or the writer found another one since.
abbrev pub HasLeft : ℕ → ℕ → ℕ → List Move → Type 0
HasLeft reader element word ms =
    (word % 2 ≡ 0) ⊎ ((other : ℕ) × (other ≢ word) × FoundSince reader element other ms)

-- The element was never unlinked; or, by what the writer found since it was unlinked last, the reader has left its section
-- since.
abbrev pub Cleared : ℕ → ℕ → List Move → Type 0
Cleared reader element [] = Unit {0}
Cleared reader element (Put way x ∷ ms) =
    (Names (word_in way ms) element → ⊥) × Cleared reader element ms
Cleared reader element (Scan r found ∷ ms) =
    ((r ≡ reader) × HasLeft reader element found ms) ⊎ Cleared reader element ms
Cleared reader element (_ ∷ ms) = Cleared reader element ms

-- no way names the element, and no reader can still hold it, by what the writer did
abbrev pub IsSpare : ℕ → ℕ → List Move → Type 0
IsSpare readers element ms =
    (IsLinked element ms → ⊥) × ((r : ℕ) → 0 < r → r ≤ readers → Cleared r element ms)

-- how often the element was linked
abbrev pub generation : ℕ → List Move → ℕ
generation element [] = 0
generation element (Put way x ∷ ms) = if x % 2 ^ 32 == suc element then suc (generation element ms) else generation element ms
generation element (_ ∷ ms) = generation element ms

-- the place is no other reader's
abbrev pub IsOpenTo : Layout → ℕ → ℕ → ℕ → Type 0
IsOpenTo k who element place =
    (k.owner (k.table_of element) place ≡ 0) ⊎ (k.owner (k.table_of element) place ≡ who)

abbrev pub IsReader : Layout → ℕ → Type 0
IsReader k who = (0 < who) × (who ≤ k.readers)

-- The writer wrote the word of a way in a second one, and has not put a word in any way since.
abbrev pub IsMoving : ℕ → ℕ → List Move → Type 0
IsMoving from to [] = ⊥
IsMoving from to (Put way x ∷ ms) = ⊥
IsMoving from to (Double f t x ∷ ms) = (f ≡ from) × (t ≡ to)
IsMoving from to (_ ∷ ms) = IsMoving from to ms

abbrev pub IsSettled : List Move → Type 0
IsSettled ms = (from to : ℕ) → IsMoving from to ms → ⊥

-- the ways are one, or those of a move
abbrev pub AreOneOrMoved : ℕ → ℕ → List Move → Type 0
AreOneOrMoved one other ms = (one ≡ other) ⊎ (IsMoving one other ms ⊎ IsMoving other one ms)

-- what the writer did since it wrote a word in a second way
abbrev pub since_double : List Move → List Move
since_double [] = []
since_double (Double from to x ∷ ms) = []
since_double (m ∷ ms) = m ∷ since_double ms

-- since the word was written in a second way each reader was found outside a section, or with two numbers
abbrev pub HavePassed : ℕ → List Move → Type 0
HavePassed readers ms = (r : ℕ) → 0 < r → r ≤ readers → FoundGone r (since_double ms)

-- While a word stands in two ways, the writer empties one of them before it puts anything: the second, or the first once
-- each reader has left the section that it was in when the word was written in the second.
abbrev pub Settles : ℕ → ℕ → ℕ → List Move → Type 0
Settles readers way word ms = (from to : ℕ) → IsMoving from to ms →
    (word ≡ 0) × ((way ≡ to) ⊎ ((way ≡ from) × HavePassed readers ms))

-- The word is that of a way, and names an element whose key may be linked in the other way as well. That is empty, and nothing is
-- being moved.
pub record MayDouble (k : Layout) (es : List (ℕ × Move)) (from to word : ℕ) : Type 0 where
  pub element : ℕ
  pub names : Names word element
  pub there : word_in from (moves_of 0 es) ≡ word
  pub empty : word_in to (moves_of 0 es) ≡ 0
  pub bucket : IsCandidate k (k.table_of element) (key_of k element es) to
  pub settled : IsSettled (moves_of 0 es)

-- The word names a spare element, which has a key that may be linked in this way, with the tag of that key.
pub record MayLink (k : Layout) (es : List (ℕ × Move)) (way word : ℕ) : Type 0 where
  pub element : ℕ
  pub names : Names word element
  pub within : element < k.elements
  pub spare : IsSpare k.readers element (moves_of 0 es)
  pub bucket : IsCandidate k (k.table_of element) (key_of k element es) way
  pub tag : tag_in word ≡ k.tag (k.table_of element) (key_of k element es)

-- What a holder may do after all this. A reader opens and closes its sections. Inside one it learns the words that ways
-- have. It loads the words of elements that it holds, and stores those behind their keys which are no other reader's. A
-- load finds the word that was stored last. The writer loads any word, and stores those of spare elements. He empties a
-- way, or puts a spare element there, also in place of another. He writes the word of a way in a second way, and then
-- empties one of both. He finds the section word that a reader has.
abbrev pub MayDo : Layout → List (ℕ × Move) → ℕ → Move → Type 0
MayDo k es who Open = IsReader k who
MayDo k es who Close = IsReader k who
MayDo k es who (Learn way x) =
    IsReader k who × (inside (moves_of who es) ≡ 1) × (x ≡ word_in way (moves_of 0 es))
MayDo k es who (Load element place x) =
    ((who ≡ 0) ⊎ Holds element (moves_of who es)) × (x ≡ word_at element place es)
MayDo k es who (Store element place x) =
    ((who ≡ 0) × IsSpare k.readers element (moves_of 0 es))
    ⊎ (Holds element (moves_of who es) × (k.key_words (k.table_of element) ≤ place) × IsOpenTo k who element place)
MayDo k es who (Put way x) =
    (who ≡ 0) × ((x ≡ 0) ⊎ MayLink k es way x) × Settles k.readers way x (moves_of 0 es)
MayDo k es who (Double from to x) = (who ≡ 0) × MayDouble k es from to x
MayDo k es who (Scan r x) = (who ≡ 0) × (x ≡ section_word (moves_of r es))

-- each step was one that its holder might do then
abbrev pub IsLawful : Layout → List (ℕ × Move) → Type 0
IsLawful k [] = Unit {0}
IsLawful k (e ∷ es) = MayDo k es e.0 e.1 × IsLawful k es
