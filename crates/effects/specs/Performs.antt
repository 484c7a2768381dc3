-- What an instruction does, in words of the laws.
use Rattle.std.specs.Prelude.{◌≡◌, ℕ, List, None, Result, IsOk}
use Rattle.bpf_model.specs.declared.limits.MapShape.{MapShape}
use Rattle.bpf_model.specs.declared.insn.Insn.{Insn}
use Rattle.scalar_domain.specs.declared.scalar.Scalar.{Scalar}
use Rattle.plan_laws.specs.Kinds.{Kind, Num, AbsState as Known}
use Rattle.plan_laws.specs.Effects.{with_kind}
use Rattle.plan_laws.specs.Planned.{AreAlike}
use Rattle.plan_laws.specs.Verified.{Transfers}
use Rattle.register_kinds.specs.declared.state.AbsState.{AbsState}
use Rattle.register_kinds.specs.States.{kind_at, state_of}
use Rattle.register_kinds.specs.declared.fault.InsnFault.{InsnFault}

-- From each run that the old state describes the instruction has a step, and each leads to one that
-- the new state describes.
abbrev pub Performs : Insn → ℕ → List MapShape → AbsState → AbsState → Type 0
Performs insn ctx_len shapes old new =
    Transfers insn shapes ctx_len (state_of old) (state_of new) None

-- what `Performs` says, whatever the shapes of the maps and the length of the context
abbrev pub PerformsAnywhere : Insn → AbsState → AbsState → Type 0
PerformsAnywhere insn old new =
    (shapes : List MapShape) (ctx_len : ℕ) → Performs insn ctx_len shapes old new

-- every register but this one holds what it held
abbrev pub KeepsOthers : ℕ → AbsState → AbsState → Type 0
KeepsOthers dst old new = (r : ℕ) → (r ≡ dst → ⊥) → kind_at new.regs r ≡ kind_at old.regs r

-- every register holds what it held
abbrev pub KeepsRegisters : AbsState → AbsState → Type 0
KeepsRegisters old new = (r : ℕ) → kind_at new.regs r ≡ kind_at old.regs r

-- The instruction is not refused, and the register becomes a number.
pub record SetsNumber {A : Type 0} (r : Result A InsnFault) (dst : ℕ) (a b : Known) : Type 0 where
  pub fine : IsOk r
  pub number : Scalar
  pub alike : AreAlike (with_kind dst (Num number) a) b

-- the kind is that of numbers of which this is known
abbrev pub IsNumbers : (Scalar → Type 0) → Kind → Type 0
IsNumbers P k = (s : Scalar) × (k ≡ Num s) × P s
