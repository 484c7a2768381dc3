-- What the pass over a program asks of the step of an instruction.
use Rattle.std.specs.Prelude.{◌≡◌, ◌≢◌, ℕ, Option, Some, None, Result, true, ◌⊎◌, ℤ, pos}
use Rattle.std.specs.Prelude.{IsOkUnless}
use Rattle.std.specs.Prelude.{option_map}
use Rattle.bpf_model.specs.declared.value.Value.{Value}
use Rattle.bpf_model.specs.declared.value.Value.TheVariants.{Pointer}
use Rattle.bpf_model.specs.declared.value.Reference.TheVariants as references
use Rattle.bpf_model.specs.declared.insn.Insn.{Insn}
use Rattle.bpf_model.specs.declared.insn.CallKind.TheVariants.{Helper}
use Rattle.bpf_model.specs.declared.insn.Insn.TheVariants.{Call, JumpIf, Load, LoadSigned, Store}
use Rattle.bpf_model.specs.declared.call.Helper.TheVariants.{Lookup}
use Rattle.bpf_model.specs.declared.insn.Operand.TheVariants.{Immediate}
use Rattle.bpf_model.specs.declared.opcode.Condition.TheVariants.{Equal, NotEqual}
use Rattle.bpf_model.specs.declared.opcode.Size.TheVariants.{Word64}
use Rattle.bpf_model.specs.Call.{helper_of}
use Rattle.bpf_model.specs.Graph.{falls, distance}
use Rattle.model_laws.specs.Plain.{Names}
use Rattle.model_laws.specs.Replies.{IsNumber}
use Rattle.plan_laws.specs.Describes.{Scene, IsHeld}
use Rattle.register_kinds.specs.declared.state.AbsState.{AbsState}
use Rattle.register_kinds.specs.declared.fault.InsnFault.{InsnFault}
use Rattle.register_kinds.specs.declared.fault.InsnFault.TheVariants.{Memory}
use Rattle.effects.specs.Forks.{taken_from}
use Rattle.effects.specs.declared.region.Region.{Region}
use Rattle.effects.specs.declared.region.Region.TheVariants as regions
use Rattle.state_steps.specs.declared.flow.Flow.{Flow}

-- the instruction both falls through and jumps
abbrev pub IsBranch : Insn → Type 0
IsBranch i = (falls i ≡ true) × (distance i ≢ None)

-- the state where a conditional jump is taken, by that where control falls through
abbrev pub taken_state : AbsState → Flow → Option AbsState
taken_state next f = option_map (taken_from next) f.taken

-- the register through which a memory instruction reaches memory
abbrev pub base_of : Insn → Option ℕ
base_of (Load width dst src offset) = Some src
base_of (LoadSigned width dst src offset) = Some src
base_of (Store width dst offset src) = Some dst
base_of _ = None

-- a reference into the region: of a value, one to an element of the map that the run holds
abbrev pub IsInRegion : Scene → Region → Value → Type 0
IsInRegion c regions.None v = ⊥
IsInRegion c regions.Ctx v = (o : ℤ) × (v ≡ Pointer (references.Ctx o))
IsInRegion c regions.Frame v = (o : ℤ) × (v ≡ Pointer (references.Frame o))
IsInRegion c (regions.Value map) v =
    (n : ℕ) × (o : ℤ) × (v ≡ Pointer (references.Elem n o)) × IsHeld c map n

-- A conditional jump compares the register.
abbrev pub Compares : Insn → ℕ → Type 0
Compares (JumpIf condition size dst src offset) r = (r ≡ dst) ⊎ Names src r
Compares _ r = ⊥

-- a comparison of 64 bits with the number 0, for equality or its contrary
abbrev pub IsNullTest : Insn → Type 0
IsNullTest (JumpIf Equal Word64 dst (Immediate imm) offset) = imm ≡ pos 0
IsNullTest (JumpIf NotEqual Word64 dst (Immediate imm) offset) = imm ≡ pos 0
IsNullTest _ = ⊥

-- a number, or where the instruction tests for null a reference to an element
abbrev pub IsComparable : Insn → Value → Type 0
IsComparable i v =
    IsNumber v
    ⊎ (IsNullTest i × (n : ℕ) × (o : ℤ) × (v ≡ Pointer (references.Elem n o)))

-- the instruction calls the lookup
abbrev pub LooksUp : Insn → Type 0
LooksUp (Call Helper imm) = helper_of imm ≡ Some Lookup
LooksUp _ = ⊥

-- no refusal but for want of memory
abbrev pub IsFine : {A : Type 0} → Result A InsnFault → Type 0
IsFine r = IsOkUnless r Memory
