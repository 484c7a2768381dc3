-- Which facts are known before an instruction of a plain program: those that each path to it makes.
use Rattle.std.specs.Prelude.{◌≡◌, ◌≢◌, ℕ, ◌+◌, ◌<◌, ◌≤◌, ◌⊎◌, List, slice_get, Some, true, false}
use Rattle.std.specs.Prelude.{if◌then◌else◌}
use Rattle.bpf_model.specs.declared.insn.Insn.{Insn}
use Rattle.bpf_model.specs.declared.limits.MapShape.{MapShape}
use Rattle.model_laws.specs.Plain.{WithoutByte}
use Rattle.model_laws.specs.PlainMaps.{IsGuardedLookup, InSection, LacksRegister, LookupPart}
use Rattle.model_laws.specs.PlainMaps.{FrameCopy, ValueLoad, part_slot}
use Rattle.bpf_model.specs.Places.{StartsAt}
use Rattle.register_kinds.specs.declared.state.AbsState.{AbsState}
use Rattle.register_kinds.specs.States.{state_of}
use Rattle.state_steps.specs.Facts.{Fact, Register, FrameByte, FramePointer, Section, FactHolds}
use Rattle.state_steps.specs.Facts.{IsReadyInsn}
use Rattle.state_steps.specs.Lookups.{Expects, IsReadyWithMaps}
use Rattle.verifier.specs.declared.waiting.Waiting.TheVariants.{Differing}
use Rattle.verifier.specs.SecondPass.{Awaited, state_in}

-- the slot lies inside a guarded lookup, behind its first instruction
pub record IsInner (program : List Insn) (shapes : List MapShape) (slot : ℕ) : Type 0 where
  pub start : ℕ
  pub lookup : IsGuardedLookup program shapes start
  pub behind : start < slot
  pub inside : slot ≤ start + part_slot ValueLoad

-- a path leads to the slot on which nothing makes the fact hold; inside a guarded lookup nothing is
-- said of r0 to r5
abbrev pub WithoutFact : List Insn → List MapShape → Fact → ℕ → Type 0
WithoutFact program shapes (Register r) slot =
    LacksRegister program shapes r slot ⊎ ((r ≤ 5) × IsInner program shapes slot)
WithoutFact program shapes (FrameByte k) slot = WithoutByte program k slot
WithoutFact program shapes FramePointer slot = ⊥
WithoutFact program shapes (Section inside) slot =
    InSection program (if inside then false else true) slot

-- each fact holds before the instruction of this index, or some path doesn't make it
abbrev pub Knows : List Insn → List MapShape → ℕ → AbsState → Type 0
Knows program shapes index a =
    (fact : Fact)
    → FactHolds fact (state_of a)
    ⊎ ((slot : ℕ) → StartsAt program index slot → WithoutFact program shapes fact slot)

-- Before an instruction inside a guarded lookup it is known what it needs.
abbrev pub IsExpected : List Insn → List MapShape → ℕ → AbsState → Type 0
IsExpected program shapes index a =
    (start : ℕ) (l : IsGuardedLookup program shapes start) (p : LookupPart) → (p ≡ FrameCopy → ⊥) →
    StartsAt program index (start + part_slot p)
    → Expects l.lookup p (state_of a)

pub record IsKnown (program : List Insn) (shapes : List MapShape) (index : ℕ) (a : AbsState)
    : Type 0 where
  pub facts : Knows program shapes index a
  pub expected : IsExpected program shapes index a

-- what is known of what waits, in a plain program: no sections differ
pub record AreKnown (program : List Insn) (shapes : List MapShape) (k : ℕ) (at : Awaited)
    : Type 0 where
  pub paired : (m : ℕ) → k ≤ m → at m ≢ Differing
  pub knows : (m : ℕ) (a : AbsState) → k ≤ m → state_in (at m) ≡ Some a → IsKnown program shapes m a

-- what waits for an instruction is a state that is ready for it
pub record CanAccept (program : List Insn) (shapes : List MapShape) (k : ℕ) (at : Awaited)
    : Type 0 where
  pub paired : at k ≢ Differing
  pub ready : (i : Insn) (a : AbsState) → slice_get program k ≡ Some i → state_in (at k) ≡ Some a →
      IsReadyInsn i (state_of a) ⊎ IsReadyWithMaps shapes i (state_of a)
