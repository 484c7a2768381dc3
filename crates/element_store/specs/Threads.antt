-- Lists that are threaded through slots by a link of each.
use Rattle.std.specs.Prelude.{◌≡◌, ℕ, zero, suc, List, [], ◌∷◌, Option, Some, None, length}
use Rattle.element_store.specs.State.{ArenaState, link_at}

-- from o the links lead through these slots, and end there
abbrev pub IsThread : (ℕ → Option ℕ) → Option ℕ → List ℕ → Type 0
IsThread next o [] = o ≡ None
IsThread next o (x ∷ xs) = (o ≡ Some x) × IsThread next (next x) xs

-- the slots that the links lead through, at most n
abbrev pub walk : ℕ → (ℕ → Option ℕ) → Option ℕ → List ℕ
walk zero next o = []
walk (suc n) next None = []
walk (suc n) next (Some i) = i ∷ walk n next (next i)

-- the slots of an arena that its links lead through from the first one
abbrev pub chain_of : ArenaState → Option ℕ → List ℕ
chain_of a first = walk (length a.slots) (link_at a.links) first

abbrev pub last_slot_of : List ℕ → Option ℕ
last_slot_of [] = None
last_slot_of (x ∷ []) = Some x
last_slot_of (x ∷ (y ∷ ys)) = last_slot_of (y ∷ ys)
