-- What an abstract state says of a run among the elements.
use Rattle.std.specs.Prelude.{◌≡◌, ℕ, ◌/◌, ◌%◌, ◌^◌, ◌<◌, ◌≤◌, List, Option, Some, None, slice_get}
use Rattle.std.specs.Prelude.{ℤ, pos, ◌+ℤ◌, ◌⊎◌, map}
use Rattle.bpf_model.specs.declared.limits.MapKind.{MapKind}
use Rattle.bpf_model.specs.declared.limits.MapKind.TheVariants.{Array}
use Rattle.bpf_model.specs.declared.value.Value.{Value}
use Rattle.bpf_model.specs.declared.value.Value.TheVariants.{Nothing, Number, Pointer}
use Rattle.bpf_model.specs.declared.value.Reference.TheVariants.{Ctx, Frame, MapRef, Elem}
use Rattle.bpf_model.specs.declared.value.Cell.{Cell}
use Rattle.bpf_model.specs.declared.value.Cell.TheVariants.{Unwritten, Byte, Part}
use Rattle.bpf_model.specs.Step.{State}
use Rattle.bpf_model.specs.Section.{Section, Has}
use Rattle.bpf_model.specs.Element.{Element, Life, Linked, Unlinked, Reclaimed}
use Rattle.bpf_model.specs.MapState.{MapState, Store}
use Rattle.bpf_model.specs.Machine.{Run, section_of}
use Rattle.bpf_model.specs.Request.{found_value}
use Rattle.model_laws.specs.Near.{IsNear, IsNearCell}
use Rattle.scalar_domain.specs.Scalar.{Holds}
use Rattle.scalar_domain.specs.declared.scalar.Scalar.{Scalar}
use Rattle.plan_laws.specs.Kinds.{Kind, Blank, Mixed, Ended, Num, CtxAt, FrameAt, MapAt, ValueAt}
use Rattle.plan_laws.specs.Kinds.{MaybeNull, CellKind, BlankCell, MixedCell, EndedCell, ByteCell}
use Rattle.plan_laws.specs.Kinds.{PartCell, AbsState}

-- All that a description reads beside the run's registers and frame: the elements, the kinds of
-- the maps by their numbers, the numbers of the maps that the program's list names, how many of the
-- run's locks are open, and its section.
pub record Scene : Type 0 where
  pub elements : List Element
  pub kinds : List MapKind
  pub maps : List ℕ
  pub depth : ℕ
  pub section : Section

abbrev pub kinds_of : List MapState → List MapKind
kinds_of states = map (λ (state : MapState). state.shape.kind) states

abbrev pub scene_of : Store → Run → Scene
scene_of s run = record {
  elements = s.elements;
  kinds = kinds_of s.maps;
  maps = run.program.maps;
  depth = run.depth;
  section = section_of run;
}

-- A section guards an element that is linked, or that was unlinked while the section was open.
abbrev pub IsGuarded : Life → Section → Type 0
IsGuarded Linked s = Unit {0}
IsGuarded (Unlinked since) s = Has since s
IsGuarded Reclaimed s = ⊥

-- the run is inside a section, which guards an element of this life
abbrev pub IsGuardedInside : Scene → Life → Type 0
IsGuardedInside c life = (0 < c.depth) × IsGuarded life c.section

-- the map at this index of the program's list is an array
pub record IsArrayMap (c : Scene) (index : ℕ) : Type 0 where
  pub number : ℕ
  pub listed : slice_get c.maps index ≡ Some number
  pub array : slice_get c.kinds number ≡ Some Array

-- The run may access element n, one of the map at this index of its program's list: the run is
-- inside a section, which guards the element, or the map is an array, whose elements stay.
pub record IsHeld (c : Scene) (map n : ℕ) : Type 0 where
  pub element : Element
  pub born : slice_get c.elements n ≡ Some element
  pub in_map : slice_get c.maps map ≡ Some element.map
  pub allowed : IsGuardedInside c element.life ⊎ IsArrayMap c map

-- what each identity stands for: null, or an element
abbrev pub Naming : Type 0
Naming = ℕ → Option ℕ

abbrev pub IsNullOrHeld : Scene → ℕ → Option ℕ → Type 0
IsNullOrHeld c map None = Unit {0}
IsNullOrHeld c map (Some n) = IsHeld c map n

-- the offset is one that the scalar has, which keeps offsets 2^29 higher
pub record HasOffset (s : Scalar) (o : ℤ) : Type 0 where
  pub raised : ℕ
  pub is : pos raised ≡ o +ℤ pos (2 ^ 29)
  pub limit : raised ≤ 2 ^ 30
  pub holds : Holds s raised

-- a reference to the context, at an offset that the scalar has
pub record IsContextAt (s : Scalar) (v : Value) : Type 0 where
  pub offset : ℤ
  pub is : v ≡ Pointer (Ctx offset)
  pub there : HasOffset s offset

-- a reference to an element of this map that the run may access, at one of these offsets
pub record IsElementOf (c : Scene) (map : ℕ) (s : Scalar) (v : Value) : Type 0 where
  pub n : ℕ
  pub offset : ℤ
  pub is : v ≡ Pointer (Elem n offset)
  pub there : HasOffset s offset
  pub held : IsHeld c map n

-- a value of the kind
abbrev pub IsOf : Scene → Naming → Kind → Value → Type 0
IsOf c ρ Blank v = Unit {0}
IsOf c ρ Mixed v = Unit {0}
IsOf c ρ Ended v = Unit {0}
IsOf c ρ (Num s) v = (n : ℕ) × (v ≡ Number n) × (n < 2 ^ 64) × Holds s n
IsOf c ρ (CtxAt s) v = IsContextAt s v
IsOf c ρ (FrameAt o) v = v ≡ Pointer (Frame o)
IsOf c ρ (MapAt map) v = v ≡ Pointer (MapRef map)
IsOf c ρ (ValueAt map s) v = IsElementOf c map s v
IsOf c ρ (MaybeNull map id) v = (v ≡ found_value (ρ id)) × IsNullOrHeld c map (ρ id)

-- what a cell holds of a value that was stored by a width of 8
abbrev pub part_of : ℕ → Value → Cell
part_of i Nothing = Unwritten
part_of i (Number n) = Byte (n / 256 ^ i % 256)
part_of i (Pointer r) = Part i r

-- what was stored last at each group of eight cells
abbrev pub Stored : Type 0
Stored = ℕ → Value

abbrev pub IsOfCell : Scene → Naming → Stored → ℕ → CellKind → Cell → Type 0
IsOfCell c ρ σ k BlankCell x = Unit {0}
IsOfCell c ρ σ k MixedCell x = Unit {0}
IsOfCell c ρ σ k EndedCell x = Unit {0}
IsOfCell c ρ σ k ByteCell x = (b : ℕ) × (x ≡ Byte b) × (b < 256)
IsOfCell c ρ σ k (PartCell kind) x = (x ≡ part_of (k % 8) (σ (k / 8))) × IsOf c ρ kind (σ (k / 8))

-- All references are near, in registers and as parts in cells: those that may be of no known kind
-- too.
pub record AreNear (regs : ℕ → Value) (frame : ℕ → Cell) : Type 0 where
  pub regs_near : (r : ℕ) → IsNear (regs r)
  pub cells_near : (k : ℕ) → IsNearCell (frame k)

-- What is known is so of the run: some naming of identities fits all its registers and cells.
pub record Describes (a : AbsState) (c : Scene) (m : State) : Type 0 where
  pub naming : Naming
  pub stored : Stored
  pub depth : c.depth ≡ a.depth
  pub near : AreNear m.regs m.frame
  pub regs : (r : ℕ) → IsOf c naming (a.regs r) (m.regs r)
  pub cells : (k : ℕ) → IsOfCell c naming stored k (a.cells k) (m.frame k)
