-- A step of a run makes no reference to an element that was never born.
use Rattle.bpf_model.proofs.Prelude.{◌≡◌, ℕ, ◌≤◌, List, sym, subst, arith, State, Environment, Outcome, entry, Element, returns}
use Rattle.model_laws.proofs.Prelude.{Insn, Value, Nothing, Number, Pointer, Reference, Ctx, Frame, MapRef, Elem, Cell, Unwritten, Byte, Part, IsBorn}
use Rattle.model_laws.proofs.Prelude.{IsBornValue, IsBornCell, Acts, HoldsState}
use Rattle.model_laws.proofs.Holding.{Closed, HoldsOutcome, holds-entry, holds-acts, holds-returns}

-- each register and each cell of a state
abbrev pub IsBornState : ℕ → State → Type 0
IsBornState births m = HoldsState (IsBorn births) m

abbrev pub IsBornOutcome : ℕ → Outcome → Type 0
IsBornOutcome births out = HoldsOutcome (IsBorn births) out

-- more births
pub more-reference : (a b : ℕ) (r : Reference) → a ≤ b → IsBorn a r → IsBorn b r
more-reference a b (Elem n o) l h = omega arith
more-reference a b (Ctx o) l h = tt
more-reference a b (Frame o) l h = tt
more-reference a b (MapRef m) l h = tt

pub more-value : (a b : ℕ) (v : Value) → a ≤ b → IsBornValue a v → IsBornValue b v
more-value a b Nothing l h = tt
more-value a b (Number n) l h = tt
more-value a b (Pointer r) l h = more-reference a b r l h

pub more-cell : (a b : ℕ) (c : Cell) → a ≤ b → IsBornCell a c → IsBornCell b c
more-cell a b Unwritten l h = tt
more-cell a b (Byte n) l h = tt
more-cell a b (Part i r) l h = more-reference a b r l h

born-closed : (births : ℕ) → Closed (IsBorn births)
born-closed births = record { context = λ o. tt; frame = λ o. tt; moved = λ n o p h. h }

module _ (births : ℕ) where
  pub born-entry : IsBornState births entry
  born-entry = holds-entry (IsBorn births) (born-closed births)

  pub born-acts : (i : Insn) (env : Environment) (es : List Element) (m : State) (out : Outcome) (new : List Element)
      → IsBornState births m → Acts i env es m out new → IsBornOutcome births out
  born-acts i env es m out new p h = holds-acts (IsBorn births) (born-closed births) i env es m out new (λ named n. tt) p h

  pub born-returns : (v : Value) (m : State) → IsBornValue births v → IsBornState births m → IsBornState births (returns v m)
  born-returns v m q p = holds-returns (IsBorn births) (born-closed births) v m q p

  pub born-returns_as : (ret v : Value) (m : State) → ret ≡ v → IsBornValue births v → IsBornState births m → IsBornState births (returns ret m)
  born-returns_as ret v m e q p = born-returns ret m (subst (IsBornValue births) (sym e) q) p
