-- All that is said of the step of one instruction.
use Rattle.std.specs.Prelude.{◌≡◌, ℕ, List, Option, Some, None, Result, IfOk, OnErr, IfSome, IsSome}
use Rattle.std.specs.Prelude.{ℤ, pos, option_map}
use Rattle.bpf_model.specs.declared.limits.MapShape.{MapShape}
use Rattle.bpf_model.specs.declared.insn.Insn.{Insn}
use Rattle.bpf_model.specs.declared.insn.Insn.TheVariants.{JumpIf}
use Rattle.bpf_model.specs.declared.insn.Operand.{Operand}
use Rattle.bpf_model.specs.declared.insn.Operand.TheVariants.{Immediate}
use Rattle.bpf_model.specs.declared.opcode.Condition.{Condition}
use Rattle.bpf_model.specs.declared.opcode.Condition.TheVariants.{Equal}
use Rattle.bpf_model.specs.declared.opcode.Size.{Size}
use Rattle.bpf_model.specs.declared.opcode.Size.TheVariants.{Word64}
use Rattle.bpf_model.specs.Step.{State}
use Rattle.plan_laws.specs.Kinds.{AbsState as Known}
use Rattle.plan_laws.specs.Describes.{Scene, Describes}
use Rattle.plan_laws.specs.Verified.{Transfers}
use Rattle.register_kinds.specs.declared.state.AbsState.{AbsState}
use Rattle.register_kinds.specs.Pairs.{AreBelow}
use Rattle.register_kinds.specs.declared.kind.RegKind.TheVariants as kinds
use Rattle.register_kinds.specs.States.{kind_in, state_of}
use Rattle.register_kinds.specs.declared.fault.InsnFault.{InsnFault}
use Rattle.effects.specs.Calls.{MayLookUp}
use Rattle.effects.specs.declared.region.Region.{Region}
use Rattle.state_steps.specs.declared.flow.Flow.{Flow}
use Rattle.state_steps.specs.Steps.{IsBranch, taken_state, base_of, IsInRegion, Compares}
use Rattle.state_steps.specs.Steps.{IsComparable, IsFine, LooksUp}
use Rattle.state_steps.specs.Facts.{IsReadyInsn, KeepsFacts}
use Rattle.state_steps.specs.Lookups.{IsReadyWithMaps, Serves}
use Rattle.state_steps.specs.Floor.{KeepsInsnFloor, KeepsNumbers}

-- the flow of an instruction that has no second state behind it
abbrev pub single_flow : Region → Flow
single_flow region = record { region = region; taken = None }

-- In each described state the sides of a comparison may be compared.
abbrev pub ComparesWell : Condition → Size → ℕ → Operand → Known → Type 0
ComparesWell condition size dst src a =
    (offset : ℤ) (r : ℕ) (c : Scene) (m : State) →
    Compares (JumpIf condition size dst src offset) r → Describes a c m →
    IsComparable (JumpIf condition size dst src offset) (m.regs r)

-- The comparison jumps where what a lookup gave, under this identity, is null.
pub record IsEqualToNull (condition : Condition) (size : Size) (dst : ℕ) (src : Operand)
    (map id : ℕ) (a : AbsState) : Type 0 where
  pub condition_is : condition ≡ Equal
  pub size_is : size ≡ Word64
  pub src_is : src ≡ Immediate (pos 0)
  pub kind : kind_in a.regs dst ≡ kinds.MaybeNull map id

-- What an instruction makes of a state: the state behind it, that where a conditional jump is
-- taken, and the region that it reaches.
pub record IsTransfer (i : Insn) (shapes : List MapShape) (ctx_len : ℕ) (old new : AbsState)
    (taken : Option AbsState) (region : Region) : Type 0 where
  pub sound : Transfers i shapes ctx_len (state_of old) (state_of new) (option_map state_of taken)
  pub branches : IsBranch i → IsSome taken
  pub reaches : (b : ℕ) (c : Scene) (m : State) → base_of i ≡ Some b →
      Describes (state_of old) c m → IsInRegion c region (m.regs b)
  pub compares : (r : ℕ) (c : Scene) (m : State) → Compares i r → Describes (state_of old) c m →
      IsComparable i (m.regs r)
  pub looks_up : LooksUp i → MayLookUp shapes (state_of old)
  pub keeps : IsReadyInsn i (state_of old) → KeepsFacts i (state_of old) (state_of new)
  pub keeps_taken : IsReadyInsn i (state_of old) →
      IfSome taken (λ t. KeepsFacts i (state_of old) (state_of t))
  pub serves : Serves shapes i (state_of old) (state_of new) (option_map state_of taken)
  pub floor : KeepsInsnFloor i (state_of old) (state_of new) (option_map state_of taken)
  pub others : KeepsNumbers i (state_of old) (state_of new)
  pub others_taken : IfSome taken (λ t. KeepsNumbers i (state_of old) (state_of t))

-- an instruction that is not refused
pub record IsDone (i : Insn) (shapes : List MapShape) (ctx_len top : ℕ) (old new : AbsState)
    (flow : Flow) : Type 0 where
  pub transfer : IsTransfer i shapes ctx_len old new (taken_state new flow) flow.region
  pub taken_below : IfSome (taken_state new flow) (AreBelow top)

-- The instruction is done, or refused.
pub record Stepped (i : Insn) (shapes : List MapShape) (ctx_len top : ℕ) (old new : AbsState)
    (result : Result Flow InsnFault) : Type 0 where
  pub done : IfOk result (IsDone i shapes ctx_len top old new)
  pub below : AreBelow top new
  pub unchanged : OnErr result (new ≡ old)
  pub accepts : IsReadyInsn i (state_of old) → IsFine result
  pub accepts_maps : IsReadyWithMaps shapes i (state_of old) → IsFine result
