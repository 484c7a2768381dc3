-- Conditional jumps, in words of the laws.
use Rattle.std.specs.Prelude.{ℕ, List, Some, ℤ, pos, Bool, if◌then◌else◌}
use Rattle.bpf_model.specs.declared.limits.MapShape.{MapShape}
use Rattle.bpf_model.specs.declared.insn.Insn.TheVariants.{JumpIf}
use Rattle.bpf_model.specs.declared.insn.Operand.{Operand}
use Rattle.bpf_model.specs.declared.insn.Operand.TheVariants.{Immediate}
use Rattle.bpf_model.specs.declared.opcode.Condition.{Condition}
use Rattle.bpf_model.specs.declared.opcode.Condition.TheVariants.{Equal, NotEqual}
use Rattle.bpf_model.specs.declared.opcode.Size.{Size}
use Rattle.bpf_model.specs.declared.opcode.Size.TheVariants.{Word64}
use Rattle.plan_laws.specs.Verified.{Transfers}
use Rattle.register_kinds.specs.declared.state.AbsState.{AbsState}
use Rattle.register_kinds.specs.States.{state_of}
use Rattle.effects.specs.declared.forks.Taken.{Taken}
use Rattle.effects.specs.declared.forks.Taken.TheVariants.{Same, Apart}

-- the state where a conditional jump is taken, by that where control falls through
abbrev pub taken_from : AbsState → Taken → AbsState
taken_from next Same = next
taken_from next (Apart b) = b.value

-- From each run that the old state describes the conditional jump has a step where it has its
-- target, and each leads to one that the new state describes, or the other where it jumps.
abbrev pub Forks : Condition → Size → ℕ → Operand → AbsState → AbsState → AbsState → Type 0
Forks condition size dst src old new taken =
    (shapes : List MapShape) (ctx_len : ℕ) (offset : ℤ) →
    Transfers (JumpIf condition size dst src offset) shapes ctx_len (state_of old) (state_of new)
    (Some (state_of taken))

-- both edges of a comparison of 64 bits with the number 0
abbrev pub ForksOnNull : Bool → ℕ → AbsState → AbsState → AbsState → Type 0
ForksOnNull equal dst old new taken =
    Forks (if equal then Equal else NotEqual) Word64 dst (Immediate (pos 0)) old new taken
