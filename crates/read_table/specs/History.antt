-- What holders did to a table, the newest first, and which of it is lawful (Linux RCU requirements, "Grace-Period
-- Guarantee": a slot is used again only when each reader that might have learnt it was seen outside a section).
use Rattle.std.specs.Prelude.{◌≡◌, ◌≢◌, ◌⊎◌, ℕ, ◌+◌, ◌/◌, ◌%◌, ◌<◌, ◌≤◌, ◌==◌, List, [], ◌∷◌, if◌then◌else◌}
use Rattle.read_table.specs.declared.view.Move.{Move}
use Rattle.read_table.specs.declared.view.Move.TheVariants.{Open, Close, Learn, Load, Store, Header, Scan}
use Rattle.read_table.specs.declared.view.TableShape.{TableShape}

-- what one holder did
abbrev pub moves_of : ℕ → List (ℕ × Move) → List Move
moves_of who [] = []
moves_of who (e ∷ es) = if e.0 == who then (e.1 ∷ moves_of who es) else moves_of who es

-- 1 inside a section, and 0 outside
abbrev pub inside : List Move → ℕ
inside [] = 0
inside (Open ∷ ms) = 1
inside (Close ∷ ms) = 0
inside (_ ∷ ms) = inside ms

-- The slot's header after the writer's moves: how often it was changed. So it is odd while the slot is linked, and even
-- while it isn't.
abbrev pub header_in : ℕ → List Move → ℕ
header_in slot [] = 0
header_in slot (Header s w ∷ ms) = if s == slot then w else header_in slot ms
header_in slot (_ ∷ ms) = header_in slot ms

-- the word at a place of a slot after a move, where it was the old one before
abbrev pub word_after : ℕ → ℕ → Move → ℕ → ℕ
word_after slot place (Store s p x) old =
    if s == slot then (if p == place then x else old) else old
word_after slot place _ old = old

-- The word at a place of a slot after all this: what was stored there last, by whomever, and 0 where nothing was.
abbrev pub word_at_place : ℕ → ℕ → List (ℕ × Move) → ℕ
word_at_place slot place [] = 0
word_at_place slot place (e ∷ es) = word_after slot place e.1 (word_at_place slot place es)

-- how often a slot with this header was linked
abbrev pub generation : ℕ → ℕ
generation header = (header + 1) / 2

-- the slot was learnt with this header, linked, in the section that is open
abbrev pub Knows : ℕ → ℕ → List Move → Type 0
Knows slot header [] = ⊥
Knows slot header (Open ∷ ms) = ⊥
Knows slot header (Close ∷ ms) = ⊥
Knows slot header (Learn s h ∷ ms) =
    ((s ≡ slot) × (h ≡ header) × (h % 2 ≡ 1)) ⊎ Knows slot header ms
Knows slot header (_ ∷ ms) = Knows slot header ms

-- the slot was learnt, linked, in the section that is open
abbrev pub IsLearnt : ℕ → List Move → Type 0
IsLearnt slot ms = (header : ℕ) × Knows slot header ms

-- the writer saw the reader outside a section since it changed the slot's header last
abbrev pub Cleared : ℕ → ℕ → List Move → Type 0
Cleared reader slot [] = ⊥
Cleared reader slot (Header s w ∷ ms) = (s ≢ slot) × Cleared reader slot ms
Cleared reader slot (Scan r found ∷ ms) = ((r ≡ reader) × (found ≡ 0)) ⊎ Cleared reader slot ms
Cleared reader slot (_ ∷ ms) = Cleared reader slot ms

-- the slot was never linked, or each reader was seen outside a section since it was unlinked
abbrev pub MayLink : ℕ → ℕ → List Move → Type 0
MayLink readers slot ms =
    (header_in slot ms ≡ 0) ⊎ ((r : ℕ) → 0 < r → r ≤ readers → Cleared r slot ms)

-- the slot isn't linked, and no reader can still hold it, by what the writer did
abbrev pub IsSpare : ℕ → ℕ → List Move → Type 0
IsSpare readers slot ms = (header_in slot ms % 2 ≡ 0) × MayLink readers slot ms

abbrev pub IsReader : TableShape → ℕ → Type 0
IsReader k who = (0 < who) × (who ≤ k.readers)

-- What a holder may do after all this: a reader opens and closes its sections, learns the headers that there are while it
-- is inside one, loads the words of a slot that it has learnt in it, and stores those of its value. A load finds the word
-- that was stored last. The writer, number 0, loads any word, fills slots that are not linked and that nobody can hold, changes a header by
-- one, and links a slot again only where each reader was seen outside since.
abbrev pub MayDo : TableShape → List (ℕ × Move) → ℕ → Move → Type 0
MayDo k es who Open = IsReader k who
MayDo k es who Close = IsReader k who
MayDo k es who (Learn slot h) =
    IsReader k who × (inside (moves_of who es) ≡ 1) × (h ≡ header_in slot (moves_of 0 es))
MayDo k es who (Load slot place x) =
    ((who ≡ 0) ⊎ IsLearnt slot (moves_of who es)) × (x ≡ word_at_place slot place es)
MayDo k es who (Store slot place x) =
    ((who ≡ 0) × IsSpare k.readers slot (moves_of 0 es))
    ⊎ (IsLearnt slot (moves_of who es) × (k.key_words ≤ place))
MayDo k es who (Header slot w) =
    (who ≡ 0) × (w ≡ header_in slot (moves_of 0 es) + 1)
    × (w % 2 ≡ 1 → MayLink k.readers slot (moves_of 0 es))
MayDo k es who (Scan r x) = (who ≡ 0) × (x ≡ inside (moves_of r es))

-- each step was one that its holder might do then
abbrev pub IsLawful : TableShape → List (ℕ × Move) → Type 0
IsLawful k [] = Unit {0}
IsLawful k (e ∷ es) = MayDo k es e.0 e.1 × IsLawful k es
