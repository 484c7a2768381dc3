-- What is so in each state that the machine reaches.
use Rattle.std.specs.Prelude.{◌≡◌, ◌≢◌, ℕ, ◌<◌, ◌≤◌, List, Some, None, slice_get, length}
use Rattle.bpf_model.specs.declared.limits.TheConstants.{MAX_DEPTH}
use Rattle.bpf_model.specs.declared.value.Value.{Value}
use Rattle.bpf_model.specs.declared.value.Cell.{Cell}
use Rattle.bpf_model.specs.declared.value.Reference.{Reference}
use Rattle.bpf_model.specs.declared.value.Reference.TheVariants.{Ctx, Frame, MapRef, Elem}
use Rattle.model_laws.specs.Holds.{HoldsValue, HoldsCell}
use Rattle.bpf_model.specs.declared.limits.MapKind.TheVariants.{Array}
use Rattle.bpf_model.specs.Section.{Section, Has}
use Rattle.bpf_model.specs.Element.{Element, Linked, Unlinked, IsLinkedAt}
use Rattle.bpf_model.specs.MapState.{MapState}
use Rattle.bpf_model.specs.Machine.{Run, Machine, run_at}

-- the reference is to an element that was born, or to no element
abbrev pub IsBorn : ℕ → Reference → Type 0
IsBorn births (Elem n o) = n < births
IsBorn births (Ctx o) = Unit {0}
IsBorn births (Frame o) = Unit {0}
IsBorn births (MapRef m) = Unit {0}

abbrev pub IsBornValue : ℕ → Value → Type 0
IsBornValue births v = HoldsValue (IsBorn births) v

abbrev pub IsBornCell : ℕ → Cell → Type 0
IsBornCell births c = HoldsCell (IsBorn births) c

-- the element is of a map, with a key and a value of that map's lengths
abbrev pub HasLengths : List MapState → Element → Type 0
HasLengths maps e = (state : MapState) × (slice_get maps e.map ≡ Some state)
    × (length e.key ≡ state.shape.key_len) × (length e.value ≡ state.shape.value_len)

-- an element of an array is linked: none is ever deleted or replaced
abbrev pub StaysLinked : List MapState → Element → Type 0
StaysLinked maps e = (state : MapState) → slice_get maps e.map ≡ Some state →
    state.shape.kind ≡ Array → e.life ≡ Linked

-- a key has at most one linked element
abbrev pub IsSingle : List Element → Type 0
IsSingle es = (map : ℕ) (key : List ℕ) (a b : ℕ) → IsLinkedAt es map key a →
    IsLinkedAt es map key b → a ≡ b

-- A section has begun: its run was started, and where that run still stands in a run slot, it has
-- opened so many sections.
pub record HasBegun (m : Machine) (s : Section) : Type 0 where
  pub started : s.run < m.started
  pub opened : (r : ℕ) (run : Run) → run_at m.runs r ≡ Some run → run.name ≡ s.run →
      s.number ≤ run.sections

abbrev pub AllBegun : Machine → List Section → Type 0
AllBegun m sections = (s : Section) → Has sections s → HasBegun m s

pub record IsConsistent (m : Machine) : Type 0 where
  pub single : IsSingle m.store.elements
  pub lengths : (n : ℕ) (e : Element) → slice_get m.store.elements n ≡ Some e →
      HasLengths m.store.maps e
  pub arrays : (n : ℕ) (e : Element) → slice_get m.store.elements n ≡ Some e →
      StaysLinked m.store.maps e
  -- a run's name is the number of a start that has been, and no two runs have one name
  pub named : (r : ℕ) (run : Run) → run_at m.runs r ≡ Some run → run.name < m.started
  pub apart : (q r : ℕ) (a b : Run) → run_at m.runs q ≡ Some a → run_at m.runs r ≡ Some b →
      a.name ≡ b.name → q ≡ r
  -- each section that an unlinked element keeps began before, so that no later lock opens it again
  pub begun : (n : ℕ) (e : Element) (since : List Section) →
      slice_get m.store.elements n ≡ Some e
      → e.life ≡ Unlinked since → AllBegun m since
  pub deep : (r : ℕ) (run : Run) → run_at m.runs r ≡ Some run → run.depth ≤ MAX_DEPTH
  -- a run that has ended is outside every section
  pub ended : (r : ℕ) (run : Run) → run_at m.runs r ≡ Some run → run.exit ≢ None → run.depth ≡ 0
  pub registers : (r : ℕ) (run : Run) (i : ℕ) → run_at m.runs r ≡ Some run
      → IsBornValue (length m.store.elements) (run.state.regs i)
  pub cells : (r : ℕ) (run : Run) (k : ℕ) → run_at m.runs r ≡ Some run →
      IsBornCell (length m.store.elements) (run.state.frame k)
