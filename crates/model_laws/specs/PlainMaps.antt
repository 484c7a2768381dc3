-- Plain programs with sections and guarded lookups, which the verifier owes acceptance too. Paths
-- are those of the jump graph.
use Rattle.std.specs.Prelude.{◌≡◌, ℕ, ◌+◌, ◌<◌, ◌≤◌, Bool, true, false, List, Some}
use Rattle.std.specs.Prelude.{slice_get, ℤ, pos, ◌+ℤ◌, ◌⊎◌}
use Rattle.bpf_model.specs.declared.limits.TheConstants.{FRAME_BYTES}
use Rattle.bpf_model.specs.declared.limits.MapShape.{MapShape}
use Rattle.bpf_model.specs.declared.insn.Insn.{Insn}
use Rattle.bpf_model.specs.declared.insn.Insn.TheVariants.{Alu, LoadMap, JumpIf, Call, Exit, Load}
use Rattle.bpf_model.specs.declared.insn.Insn.TheVariants.{LoadSigned}
use Rattle.bpf_model.specs.declared.insn.AluOp.TheVariants.{Move, Add}
use Rattle.bpf_model.specs.declared.insn.CallKind.TheVariants.{Helper, Kernel}
use Rattle.bpf_model.specs.declared.insn.Operand.TheVariants.{Register, Immediate}
use Rattle.bpf_model.specs.declared.opcode.Size.TheVariants.{Word64}
use Rattle.bpf_model.specs.declared.opcode.Condition.TheVariants.{Equal}
use Rattle.bpf_model.specs.Access.{byte_count, unsigned_width, region_offset}
use Rattle.bpf_model.specs.Step.{insn_at}
use Rattle.bpf_model.specs.Graph.{JumpsTo, GoesTo, Reached, HasForwardGraph}
use Rattle.model_laws.specs.Plain.{ReadsRegister, WritesRegister, ReadsByte, IsSimple, WithoutByte}

-- bpf_map_lookup_elem, bpf_rcu_read_lock and bpf_rcu_read_unlock
abbrev pub lookup_call : Insn
lookup_call = Call Helper (pos 1)

abbrev pub lock_call : Insn
lock_call = Call Kernel (pos 1)

abbrev pub unlock_call : Insn
unlock_call = Call Kernel (pos 2)

-- an aligned load of the value whose reference r0 has, into one of r6 to r9
abbrev pub IsValueLoad : MapShape → Insn → Type 0
IsValueLoad shape (Load width dst src offset) = (src ≡ 0) × (6 ≤ dst) × (dst ≤ 9) × (at : ℕ)
    × (region_offset shape.value_len (byte_count width) offset ≡ Some at)
IsValueLoad shape (LoadSigned width dst src offset) = (src ≡ 0) × (6 ≤ dst) × (dst ≤ 9) × (at : ℕ)
    × (region_offset shape.value_len (byte_count (unsigned_width width)) offset ≡ Some at)
IsValueLoad shape i = ⊥

-- A guarded lookup: the map's index and shape, the key's first byte in the frame and how far it is
-- from r10, and the load from the value.
pub record GuardedLookup : Type 0 where
  pub map : ℕ
  pub shape : MapShape
  pub at : ℕ
  pub offset : ℤ
  pub load : Insn

-- Its six instructions: r2 becomes the key's address in the frame, r1 the map; then the call, a
-- test for null that skips the load, and the load.
pub data LookupPart : Type 0 where
  FrameCopy : LookupPart
  KeyAddress : LookupPart
  MapLoad : LookupPart
  LookupCall : LookupPart
  NullTest : LookupPart
  ValueLoad : LookupPart

abbrev pub part_insn : GuardedLookup → LookupPart → Insn
part_insn l FrameCopy = Alu Move Word64 2 (Register 10)
part_insn l KeyAddress = Alu Add Word64 2 (Immediate l.offset)
part_insn l MapLoad = LoadMap 1 (pos l.map)
part_insn l LookupCall = lookup_call
part_insn l NullTest = JumpIf Equal Word64 0 (Immediate (pos 0)) (pos 1)
part_insn l ValueLoad = l.load

-- how many slots behind the first each of them begins
abbrev pub part_slot : LookupPart → ℕ
part_slot FrameCopy = 0
part_slot KeyAddress = 1
part_slot MapLoad = 2
part_slot LookupCall = 4
part_slot NullTest = 5
part_slot ValueLoad = 6

-- the map is one of the list, the key lies in the frame, and the load in the value
pub record IsFitting (shapes : List MapShape) (l : GuardedLookup) : Type 0 where
  pub in_list : slice_get shapes l.map ≡ Some l.shape
  pub in_frame : (pos FRAME_BYTES +ℤ l.offset ≡ pos l.at) × (l.at < FRAME_BYTES)
      × (l.at + l.shape.key_len ≤ FRAME_BYTES)
  pub in_value : IsValueLoad l.shape l.load

-- From this slot on stands a guarded lookup, and no jump leads into its middle.
pub record IsGuardedLookup (program : List Insn) (shapes : List MapShape) (start : ℕ) : Type 0 where
  pub lookup : GuardedLookup
  pub parts : (p : LookupPart) → insn_at program (start + part_slot p) ≡ Some (part_insn lookup p)
  pub fitting : IsFitting shapes lookup
  pub entered : (place target : ℕ) (i : Insn) → insn_at program place ≡ Some i →
      JumpsTo i place target
      → start < target → target ≤ start + part_slot ValueLoad → ⊥

-- the instruction at the slot is part of a guarded lookup
abbrev pub IsLookupPart : List Insn → List MapShape → ℕ → Type 0
IsLookupPart program shapes place =
    (start : ℕ) × IsGuardedLookup program shapes start × (start ≤ place)
    × (place ≤ start + part_slot ValueLoad)

-- what stands at a slot: a part of a guarded lookup, a lock, an unlock, or an instruction without
-- call and map that accesses no memory but the frame
abbrev pub HasForm : List Insn → List MapShape → ℕ → Insn → Type 0
HasForm program shapes place i =
    IsLookupPart program shapes place ⊎ ((i ≡ lock_call) ⊎ ((i ≡ unlock_call) ⊎ IsSimple i))

-- the instruction is no lock and no unlock
abbrev pub KeepsSection : Insn → Type 0
KeepsSection i = ((i ≡ lock_call) → ⊥) × ((i ≡ unlock_call) → ⊥)

-- A path leads to the slot, at whose end a section is open, or none.
pub data InSection (program : List Insn) : Bool → ℕ → Type 0 where
  section_entry : InSection program false 0
  section_lock : (open_before : Bool) (place target : ℕ) → InSection program open_before place
      → insn_at program place ≡ Some lock_call → GoesTo lock_call place target →
      InSection program true target
  section_unlock : (open_before : Bool) (place target : ℕ) → InSection program open_before place
      → insn_at program place ≡ Some unlock_call → GoesTo unlock_call place target →
      InSection program false target
  section_next : (open_before : Bool) (place target : ℕ) (i : Insn) →
      InSection program open_before place
      → insn_at program place ≡ Some i → KeepsSection i → GoesTo i place target →
      InSection program open_before target

-- A path leads to the slot on which the register isn't written since the entry or the last call,
-- which leaves r0 to r5 unwritten. The writes of a guarded lookup don't count.
pub data LacksRegister (program : List Insn) (shapes : List MapShape) (r : ℕ) : ℕ → Type 0 where
  lacks_entry : LacksRegister program shapes r 0
  lacks_call : (place target : ℕ) (i : Insn) → Reached program place →
      insn_at program place ≡ Some i
      → (i ≡ lock_call) ⊎ ((i ≡ unlock_call) ⊎ (i ≡ lookup_call)) → r ≤ 5 → GoesTo i place target
      → LacksRegister program shapes r target
  lacks_next : (place target : ℕ) (i : Insn) → LacksRegister program shapes r place
      → insn_at program place ≡ Some i → (WritesRegister i r → IsLookupPart program shapes place) →
      GoesTo i place target
      → LacksRegister program shapes r target

pub record IsPlainWithMaps (program : List Insn) (shapes : List MapShape) : Type 0 where
  pub graph : HasForwardGraph program
  pub forms : (place : ℕ) (i : Insn) → insn_at program place ≡ Some i →
      HasForm program shapes place i
  -- each instruction lies inside a section on every path or outside on every path
  pub settled : (place : ℕ) → InSection program true place → InSection program false place → ⊥
  pub lock_outside : (place : ℕ) → insn_at program place ≡ Some lock_call →
      InSection program true place → ⊥
  pub unlock_inside : (place : ℕ) → insn_at program place ≡ Some unlock_call →
      InSection program false place → ⊥
  pub exit_outside : (place : ℕ) → insn_at program place ≡ Some Exit →
      InSection program true place → ⊥
  pub lookup_inside : (place : ℕ) → IsLookupPart program shapes place →
      InSection program false place → ⊥
  -- r10 isn't written, and only the accesses to the frame and the guarded lookups read it
  pub frame_pointer : (place : ℕ) (i : Insn) → insn_at program place ≡ Some i
      → (IsLookupPart program shapes place → ⊥) →
      (WritesRegister i 10 → ⊥) × (ReadsRegister i 10 → ⊥)
  -- each register and each byte of the frame is written before it is read
  pub registers : (place : ℕ) (i : Insn) (r : ℕ) → insn_at program place ≡ Some i
      → (IsLookupPart program shapes place → ⊥) → ReadsRegister i r →
      LacksRegister program shapes r place → ⊥
  pub bytes : (place : ℕ) (i : Insn) (k : ℕ) → insn_at program place ≡ Some i
      → (IsLookupPart program shapes place → ⊥) → ReadsByte i k → WithoutByte program k place → ⊥
  pub keys : (start k : ℕ) (guarded : IsGuardedLookup program shapes start) → guarded.lookup.at ≤ k
      → k < guarded.lookup.at + guarded.lookup.shape.key_len → WithoutByte program k start → ⊥
