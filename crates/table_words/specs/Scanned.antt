-- What a scan of the section words tells.
use Rattle.std.specs.Prelude.{◌≡◌, ◌≢◌, ◌⊎◌, ℕ, ◌-◌, ◌%◌, ◌<◌, ◌≤◌, List, [], ◌∷◌}
use Rattle.table_words.specs.declared.moves.Move.{Move}
use Rattle.table_words.specs.declared.moves.Move.TheVariants.{Learn, Scan}

-- each move is a scan of a reader behind the first number and up to the second
abbrev pub OnlyScans : ℕ → ℕ → List Move → Type 0
OnlyScans low high [] = Unit {0}
OnlyScans low high (Scan r x ∷ ms) = (low < r) × (r ≤ high) × OnlyScans low high ms
OnlyScans low high (_ ∷ ms) = ⊥

-- Each move is a scan of a reader behind the first number and up to the second, and none is looked at twice: the newest, which
-- stands first, is of the highest.
abbrev pub ScansInTurn : ℕ → ℕ → List Move → Type 0
ScansInTurn low high [] = Unit {0}
ScansInTurn low high (Scan r x ∷ ms) = (low < r) × (r ≤ high) × ScansInTurn low (r - 1) ms
ScansInTurn low high (_ ∷ ms) = ⊥

-- the reader was found outside a section
abbrev pub FoundOutside : ℕ → List Move → Type 0
FoundOutside reader [] = ⊥
FoundOutside reader (Scan r x ∷ ms) = ((r ≡ reader) × (x % 2 ≡ 0)) ⊎ FoundOutside reader ms
FoundOutside reader (_ ∷ ms) = FoundOutside reader ms

-- the reader was found inside a section
abbrev pub FoundInside : ℕ → List Move → Type 0
FoundInside reader [] = ⊥
FoundInside reader (Scan r x ∷ ms) = ((r ≡ reader) × (x % 2 ≡ 1)) ⊎ FoundInside reader ms
FoundInside reader (_ ∷ ms) = FoundInside reader ms

-- the reader was found with another number than this one
abbrev pub FoundOther : ℕ → ℕ → List Move → Type 0
FoundOther reader word [] = ⊥
FoundOther reader word (Scan r x ∷ ms) = ((r ≡ reader) × (x ≢ word)) ⊎ FoundOther reader word ms
FoundOther reader word (_ ∷ ms) = FoundOther reader word ms

-- the reader was found outside a section, or with two numbers
abbrev pub FoundGone : ℕ → List Move → Type 0
FoundGone reader [] = ⊥
FoundGone reader (Scan r x ∷ ms) =
    ((r ≡ reader) × ((x % 2 ≡ 0) ⊎ FoundOther reader x ms)) ⊎ FoundGone reader ms
FoundGone reader (_ ∷ ms) = FoundGone reader ms

-- each reader was found outside
abbrev pub AllOutside : ℕ → List Move → Type 0
AllOutside readers ms = (r : ℕ) → 0 < r → r ≤ readers → FoundOutside r ms

-- the way was learnt
abbrev pub LookedAt : ℕ → List Move → Type 0
LookedAt way [] = ⊥
LookedAt way (Learn w x ∷ ms) = (w ≡ way) ⊎ LookedAt way ms
LookedAt way (_ ∷ ms) = LookedAt way ms
