-- What is known inside a guarded lookup, from one of its instructions to the next, and of calls
-- that begin or end a section.
use Rattle.std.specs.Prelude.{◌≡◌, ℕ, ◌+◌, ◌<◌, ◌≤◌, ◌⊎◌, List, Option, IfSome}
use Rattle.std.specs.Prelude.{pos, Bool, if◌then◌else◌}
use Rattle.bpf_model.specs.declared.limits.TheConstants.{FRAME_BYTES}
use Rattle.bpf_model.specs.declared.limits.MapShape.{MapShape}
use Rattle.bpf_model.specs.declared.insn.Insn.{Insn}
use Rattle.model_laws.specs.PlainMaps.{lock_call, unlock_call, GuardedLookup, LookupPart, FrameCopy}
use Rattle.model_laws.specs.PlainMaps.{KeyAddress, MapLoad, LookupCall, NullTest, ValueLoad}
use Rattle.model_laws.specs.PlainMaps.{part_insn, IsFitting}
use Rattle.scalar_domain.specs.declared.scalar.Scalar.{Scalar}
use Rattle.plan_laws.specs.Kinds.{FrameAt, MapAt, ValueAt, MaybeNull, AbsState as Known}
use Rattle.effects.specs.Accesses.{IsStart}
use Rattle.state_steps.specs.Facts.{Fact, Register, FrameByte, FramePointer, Section, FactHolds}
use Rattle.state_steps.specs.Facts.{depth_of}

abbrev pub IsKeyWritten : GuardedLookup → Known → Type 0
IsKeyWritten l a = (k : ℕ) → l.at ≤ k → k < l.at + l.shape.key_len → FactHolds (FrameByte k) a

-- what is known before each part of a guarded lookup, beside that a section is open
abbrev pub Expects : GuardedLookup → LookupPart → Known → Type 0
Expects l FrameCopy a = IsKeyWritten l a
Expects l KeyAddress a = IsKeyWritten l a × (a.regs 2 ≡ FrameAt (pos FRAME_BYTES))
Expects l MapLoad a = IsKeyWritten l a × (a.regs 2 ≡ FrameAt (pos l.at))
Expects l LookupCall a =
    IsKeyWritten l a × (a.regs 2 ≡ FrameAt (pos l.at)) × (a.regs 1 ≡ MapAt l.map)
Expects l NullTest a = (id : ℕ) × (a.regs 0 ≡ MaybeNull l.map id)
Expects l ValueLoad a = (s : Scalar) × (a.regs 0 ≡ ValueAt l.map s) × IsStart s

-- behind a part, where control falls through, what the next one expects
abbrev pub Prepares : GuardedLookup → LookupPart → Known → Type 0
Prepares l FrameCopy b = Expects l KeyAddress b
Prepares l KeyAddress b = Expects l MapLoad b
Prepares l MapLoad b = Expects l LookupCall b
Prepares l LookupCall b = Expects l NullTest b
Prepares l NullTest b = Expects l ValueLoad b
Prepares l ValueLoad b = Unit {0}

-- the facts that a call leaves as they are
abbrev pub IsSaved : Fact → Type 0
IsSaved (Register r) = 5 < r
IsSaved (FrameByte k) = Unit {0}
IsSaved FramePointer = Unit {0}
IsSaved (Section inside) = ⊥

abbrev pub KeepsSaved : Known → Known → Type 0
KeepsSaved a b = (fact : Fact) → IsSaved fact → FactHolds fact a → FactHolds fact b

-- a part of a guarded lookup, of which all is known that it needs
pub record IsReadyPart (shapes : List MapShape) (l : GuardedLookup) (p : LookupPart) (i : Insn)
    (a : Known) : Type 0 where
  pub insn : i ≡ part_insn l p
  pub fitting : IsFitting shapes l
  pub frame : FactHolds FramePointer a
  pub inside : 0 < a.depth
  pub expects : Expects l p a

-- what a part of a guarded lookup leaves
pub record LeavesPart (l : GuardedLookup) (p : LookupPart) (a b : Known) (taken : Option Known)
    : Type 0 where
  pub keeps : KeepsSaved a b
  pub depth : b.depth ≡ a.depth
  pub prepares : Prepares l p b
  pub keeps_taken : IfSome taken (λ t. KeepsSaved a t × (t.depth ≡ a.depth))

-- a call that begins a section, or one that ends it
abbrev pub section_call : Bool → Insn
section_call opens = if opens then lock_call else unlock_call

-- a lock outside every section, or an unlock inside one
pub record IsReadySection (opens : Bool) (i : Insn) (a : Known) : Type 0 where
  pub insn : i ≡ section_call opens
  pub before : a.depth ≡ (if opens then 0 else 1)

abbrev pub LeavesSection : Bool → Known → Known → Type 0
LeavesSection opens a b = KeepsSaved a b × (b.depth ≡ depth_of opens)

abbrev pub IsReadyWithMaps : List MapShape → Insn → Known → Type 0
IsReadyWithMaps shapes i a =
    ((l : GuardedLookup) × (p : LookupPart) × IsReadyPart shapes l p i a)
    ⊎ ((opens : Bool) × IsReadySection opens i a)

-- What a part of a guarded lookup leaves that is ready, and what a lock or an unlock does.
pub record Serves (shapes : List MapShape) (i : Insn) (a b : Known) (taken : Option Known)
    : Type 0 where
  pub part : (l : GuardedLookup) (p : LookupPart) → IsReadyPart shapes l p i a → LeavesPart l p a b taken
  pub section : (opens : Bool) → IsReadySection opens i a → LeavesSection opens a b
