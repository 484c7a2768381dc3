-- Runs that have no reference to a map or to an element of one.
use Rattle.bpf_model.specs.declared.value.Reference.{Reference}
use Rattle.bpf_model.specs.declared.value.Reference.TheVariants.{Ctx, Frame, MapRef, Elem}
use Rattle.model_laws.specs.Holds.{HoldsState}
use Rattle.bpf_model.specs.Exit.{HasNoMaps}
use Rattle.bpf_model.specs.Machine.{Run}

-- A reference to the run's own context or frame.
abbrev pub IsOwn : Reference → Type 0
IsOwn (Ctx o) = Unit {0}
IsOwn (Frame o) = Unit {0}
IsOwn (MapRef m) = ⊥
IsOwn (Elem n o) = ⊥

-- The program loads no reference to a map, and each reference that the run holds is to its own
-- context or frame.
pub record SharesNothing (run : Run) : Type 0 where
  pub code : HasNoMaps run.program.code
  pub state : HoldsState IsOwn run.state
