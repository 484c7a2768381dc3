-- What `verify` answers: what a verified program is, and what a refusal tells.
use Rattle.std.specs.Prelude.{◌≡◌, ◌≢◌, ℕ, ◌<◌, ◌≤◌, List, length, slice_get, Some, Result}
use Rattle.std.specs.Prelude.{IsOkUnless, ◌⊎◌, true}
use Rattle.bpf_model.specs.declared.insn.Insn.{Insn}
use Rattle.bpf_model.specs.declared.limits.TheConstants.{CTX_BYTES}
use Rattle.bpf_model.specs.declared.limits.MapShape.{MapShape}
use Rattle.bpf_model.specs.declared.value.Value.TheVariants.{Pointer}
use Rattle.bpf_model.specs.declared.value.Reference.TheVariants.{MapRef}
use Rattle.bpf_model.specs.Places.{StartsAt}
use Rattle.bpf_model.specs.Spelling.{IsProgram}
use Rattle.bpf_model.specs.Step.{State}
use Rattle.verifier.specs.GraphFlaws.{HasGraphFlaw, HasGoodGraph}
use Rattle.verifier.specs.Indexes.{HasTargets}
use Rattle.plan_laws.specs.Kinds as model
use Rattle.plan_laws.specs.Describes.{Scene}
use Rattle.plan_laws.specs.Effects.{is_array_in}
use Rattle.plan_laws.specs.Verified.{Plan, IsPlanned, IsClosed, IsVerified}
use Rattle.register_kinds.specs.declared.fault.InsnFault.{InsnFault}
use Rattle.register_kinds.specs.FaultNumbers.{insn_fault_number}
use Rattle.effects.specs.declared.region.Region.{Region}
use Rattle.state_steps.specs.declared.record.ResolvedInsn.{ResolvedInsn}
use Rattle.state_steps.specs.Resolved.{AreResolved}
use Rattle.state_steps.specs.Steps.{base_of, IsInRegion, Compares, IsComparable, LooksUp}
use Rattle.verifier.specs.declared.refusal.ProgramRefusal.{ProgramRefusal}
use Rattle.verifier.specs.declared.refusal.ProgramRefusal.TheVariants.{Graph, Instruction, Memory}
use Rattle.verifier.specs.Checked.{Checked}
use Rattle.verifier.specs.Peak.{IsPeak}

-- A lookup that is made here is made inside a section, or in an array of the list, to which r1
-- refers.
abbrev pub MayLookUpHere : List MapShape → Scene → State → Type 0
MayLookUpHere shapes scene m =
    (0 < scene.depth)
    ⊎ ((map : ℕ) × (m.regs 1 ≡ Pointer (MapRef map)) × (is_array_in shapes map ≡ true))

-- By the plan each run of the program is never stuck, and each of its steps leads further on; and
-- what the code has noted of an instruction is so wherever the plan describes a run before it.
pub record Justifies (c : Checked) (plan : Plan) : Type 0 where
  pub closed : IsClosed c.program c.shapes c.ctx_len plan
  -- the plan speaks of the program's instructions alone
  pub inside : (index : ℕ) (a : model.AbsState) → plan index ≡ Some a → index < length c.program
  -- a memory instruction reaches the region that is noted for it
  pub regions : (index : ℕ) (i : Insn) (b : ℕ) (region : Region) (scene : Scene) (m : State)
      → slice_get c.program index ≡ Some i → base_of i ≡ Some b →
      slice_get c.regions index ≡ Some region
      → IsPlanned c.program plan index scene m → IsInRegion scene region (m.regs b)
  -- a conditional jump compares numbers, or tests an element for null
  pub compared : (index : ℕ) (i : Insn) (r : ℕ) (scene : Scene) (m : State)
      → slice_get c.program index ≡ Some i → Compares i r
      → IsPlanned c.program plan index scene m → IsComparable i (m.regs r)
  -- a lookup is made inside a section, or in an array
  pub looked_up : (index : ℕ) (i : Insn) (scene : Scene) (m : State)
      → slice_get c.program index ≡ Some i → LooksUp i
      → IsPlanned c.program plan index scene m → MayLookUpHere c.shapes scene m

-- The program is verified, and what the code has noted of it is right, by one plan.
pub record IsJustified (c : Checked) : Type 0 where
  pub program : IsProgram c.program
  pub context : c.ctx_len ≤ CTX_BYTES
  pub regions : length c.regions ≡ length c.program
  pub jumps : length c.targets ≡ length c.program
  pub targets : HasTargets c.program c.targets
  pub some_states : 1 ≤ c.peak_states
  pub inside_program : c.peak_states ≤ length c.program
  pub peak : IsPeak c.targets c.peak_states
  pub plan : Plan
  pub justified : Justifies c plan

-- The program is justified, and each of its instructions has its record.
pub record IsRecorded (c : Checked) (records : List ResolvedInsn) : Type 0 where
  pub justified : IsJustified c
  pub resolved : AreResolved c.program c.targets c.regions records

-- a justified program is verified in the words of the laws
abbrev pub verified_of : (c : Checked) → IsJustified c → IsVerified c.program c.shapes c.ctx_len
verified_of c j = record { plan = j.plan; closed = j.justified.closed }

-- A fault is told at a slot where an instruction begins, and never by 13, the number of a want of
-- memory.
pub record IsFaultAt (program : List Insn) (fault : InsnFault) (slot : ℕ) : Type 0 where
  pub index : ℕ
  pub begins : StartsAt program index slot
  pub number : insn_fault_number fault ≢ 13

-- A refusal tells a flaw of the graph only where the graph has it, and a fault of an instruction
-- only where the graph has no flaw.
abbrev pub IsToldOf : List Insn → ProgramRefusal → Type 0
IsToldOf program (Graph flaw slot) = HasGraphFlaw program flaw slot
IsToldOf program (Instruction fault slot) = HasGoodGraph program × IsFaultAt program fault slot
IsToldOf program Memory = Unit {0}

-- no refusal but for want of memory
abbrev pub IsAccepted : {A : Type 0} → Result A ProgramRefusal → Type 0
IsAccepted r = IsOkUnless r Memory
