-- What is so of each state that a machine of verified programs reaches.
use Rattle.std.specs.Prelude.{◌≡◌, ℕ, ◌<◌, ◌≤◌, List, length, map, Some, None, slice_get}
use Rattle.bpf_model.specs.declared.limits.MapShape.{MapShape}
use Rattle.bpf_model.specs.MapState.{MapState, Store, new_map}
use Rattle.bpf_model.specs.Machine.{Loaded, Run, Machine, run_at}
use Rattle.model_laws.specs.Consistent.{IsConsistent}
use Rattle.bpf_model.specs.Real.{AreBytes, AllBytes}
use Rattle.plan_laws.specs.Describes.{scene_of}
use Rattle.plan_laws.specs.Verified.{IsPlanned, AreMapsBound, IsVerified}

-- the program was verified, against the shapes of the maps that it is bound to
pub record IsVerifiedFor (states : List MapState) (program : Loaded) : Type 0 where
  pub shapes : List MapShape
  pub bound : AreMapsBound shapes program.maps states
  pub verified : IsVerified program.code shapes program.context_len

-- each program was verified for new maps of these shapes
abbrev pub AreVerified : List MapShape → List Loaded → Type 0
AreVerified shapes programs = (p : ℕ) (program : Loaded) → slice_get programs p ≡ Some program
    → IsVerifiedFor (map new_map shapes) program

-- A run of a verified program, described by each plan that verifies the program against the shapes
-- of its maps. The index of the instruction where it stands grows by each step.
pub record IsTyped (s : Store) (run : Run) : Type 0 where
  pub safe : IsVerifiedFor s.maps run.program
  pub long : length run.context ≡ run.program.context_len
  pub context : AreBytes run.context
  pub index : ℕ
  pub planned : (v : IsVerified run.program.code safe.shapes run.program.context_len) →
      IsPlanned run.program.code v.plan index (scene_of s run) run.state
  pub moved : run.moved ≤ index

-- What is so in each state that is reached with verified programs.
pub record IsWell (m : Machine) : Type 0 where
  pub consistent : IsConsistent m
  pub bytes : AllBytes m.store.elements
  pub programs : (p : ℕ) (program : Loaded) → slice_get m.programs p ≡ Some program →
      IsVerifiedFor m.store.maps program
  pub runs : (r : ℕ) (run : Run) → run_at m.runs r ≡ Some run → run.exit ≡ None →
      IsTyped m.store run
  -- no run has moved as often as its program has instructions, no ended one either
  pub moved : (r : ℕ) (run : Run) → run_at m.runs r ≡ Some run → run.moved < length run.program.code
