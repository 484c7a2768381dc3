-- What loads of an element's words found.
use Rattle.std.specs.Prelude.{◌≡◌, ℕ, zero, suc, ◌+◌, List, [], ◌∷◌, ◌++◌, slice_index}
use Rattle.table_words.specs.declared.moves.Move.{Move}
use Rattle.table_words.specs.declared.moves.Move.TheVariants.{Learn, Load}
use Rattle.table_words.specs.Layout.{Names}
use Rattle.map_table.specs.Held.{Holder, Goes}

-- no move but loads
abbrev pub OnlyLoads : List Move → Type 0
OnlyLoads [] = Unit {0}
OnlyLoads (Load element place x ∷ ms) = OnlyLoads ms
OnlyLoads (_ ∷ ms) = ⊥

-- The first n of these words were found in the element, from a place on: each was loaded once, the first one first.
abbrev pub Reads : ℕ → ℕ → List ℕ → ℕ → List Move → Type 0
Reads element from words zero ms = ms ≡ []
Reads element from words (suc n) ms =
    (rest : List Move) × (ms ≡ Load element (from + n) (slice_index words n) ∷ rest)
    × Reads element from words n rest

-- The holder learnt the way, whose word named the element, and then loaded the n words of its key: these.
abbrev pub ReadsWay : ℕ → ℕ → List ℕ → ℕ → Holder → Holder → Type 0
ReadsWay way element key n s t =
    (word : ℕ) × (loads : List Move) × Names word element × Reads element 0 key n loads
    × Goes s (loads ++ Learn way word ∷ []) t
