-- A world's own step for each event but the step of a run that goes on, as a function of its view:
-- the answer, and the view after it.
use Rattle.std.specs.Prelude.{ℕ, suc, ◌+◌, ◌-◌, nat_lt, Bool, true, false, List, [], ◌∷◌, Option}
use Rattle.std.specs.Prelude.{Some, None, slice_get, slice_set, length, map, replicate}
use Rattle.bpf_model.specs.declared.limits.MapShape.{MapShape}
use Rattle.bpf_model.specs.declared.limits.TheConstants.{FRAME_BYTES}
use Rattle.bpf_model.specs.declared.event.Event.{Event}
use Rattle.bpf_model.specs.declared.event.Event.TheVariants as events
use Rattle.bpf_model.specs.declared.event.Answer.{Answer}
use Rattle.bpf_model.specs.declared.event.Answer.TheVariants.{Started, Ret, Found, Done, Reaped}
use Rattle.bpf_model.specs.declared.event.Answer.TheVariants.{Refused}
use Rattle.bpf_model.specs.declared.event.EventRefusal.{EventRefusal}
use Rattle.bpf_model.specs.declared.event.EventRefusal.TheVariants.{NoRun, NoMap, RunsFull}
use Rattle.bpf_model.specs.Event.{start_refusal, if_ended, if_running, key_refusal, update_refusal}
use Rattle.bpf_model.specs.Schedule.{is_any, still_open}
use Rattle.bpf_model.specs.Word.{ctx_base, frame_base}
use Rattle.bpf_model.specs.View.{MapView, RunView, WorldView, key_in}
use Rattle.bpf_model.specs.Machine.{lowest_free, run_at}
use Rattle.bpf_model.specs.declared.event.ReapedElement.{ReapedElement}
use Rattle.model_laws.specs.Views.{value_read, deleted, updated, turned_view, given_at, reaped_view}

-- Map k has another view.
abbrev pub with_map : ℕ → MapView → WorldView → WorldView
with_map k v w = record w { maps = slice_set w.maps k v }

abbrev pub shape_shown : Option MapView → Option MapShape
shape_shown None = None
shape_shown (Some v) = Some v.shape

-- A refused event changes nothing. (After the tests of an event the map, or the run slot, is
-- there.)
abbrev pub refused_as : EventRefusal → WorldView → Answer × WorldView
refused_as refusal w = (Refused refusal, w)

-- Delete: refused by the map or the key's length, else as the map deletes.
abbrev pub delete_at : Option EventRefusal → Option MapView → WorldView → ℕ → List ℕ →
    Answer × WorldView
delete_at (Some refusal) o w k key = refused_as refusal w
delete_at None None w k key = refused_as NoMap w
delete_at None (Some v) w k key = (Ret (deleted v key).0, with_map k (deleted v key).1 w)

abbrev pub delete_reaction : WorldView → ℕ → List ℕ → Answer × WorldView
delete_reaction w k key =
    delete_at (key_refusal (shape_shown (slice_get w.maps k)) (length key))
    (slice_get w.maps k) w k key

-- Update: refused by the map or a length, else as the map updates.
abbrev pub update_at : Option EventRefusal → Option MapView → WorldView → ℕ → List ℕ → List ℕ → ℕ →
    Answer × WorldView
update_at (Some refusal) o w k key value flags = refused_as refusal w
update_at None None w k key value flags = refused_as NoMap w
update_at None (Some v) w k key value flags =
    (Ret (updated v key value flags).0, with_map k (updated v key value flags).1 w)

abbrev pub update_reaction : WorldView → ℕ → List ℕ → List ℕ → ℕ → Answer × WorldView
update_reaction w k key value flags =
    update_at (update_refusal (shape_shown (slice_get w.maps k)) (length key) (length value))
    (slice_get w.maps k) w k key value flags

-- A read changes nothing.
abbrev pub read_at : Option EventRefusal → Option MapView → WorldView → List ℕ → Answer × WorldView
read_at (Some refusal) o w key = refused_as refusal w
read_at None None w key = refused_as NoMap w
read_at None (Some v) w key = (Found (value_read v key), w)

abbrev pub read_reaction : WorldView → ℕ → List ℕ → Answer × WorldView
read_reaction w k key =
    read_at (key_refusal (shape_shown (slice_get w.maps k)) (length key)) (slice_get w.maps k) w key

-- An advance does something only where no run is awaited: a grace period ends in each map, and the
-- next waits for the runs that are open.
abbrev pub advanced_by : Bool → WorldView → WorldView
advanced_by true w = w
advanced_by false w =
    record w { maps = map turned_view w.maps; awaited = w.opened }

abbrev pub advance_reaction : WorldView → Answer × WorldView
advance_reaction w = (Done, advanced_by (is_any w.awaited) w)

-- what a reap takes: a map's number and view, and one of its map slots
pub record Pick : Type 0 where
  pub map : ℕ
  pub view : MapView
  pub slot : ℕ

-- the first of the ready map slots of map k, or where there is none a later pick
abbrev pub or_pick : List ℕ → ℕ → MapView → Option Pick → Option Pick
or_pick [] k v later = later
or_pick (i ∷ rest) k v later = Some (record { map = k; view = v; slot = i })

-- A reap takes the first ready map slot of the lowest map that has one. (The first view is that of
-- map k.)
abbrev pub first_pick : ℕ → List MapView → Option Pick
first_pick k [] = None
first_pick k (v ∷ vs) = or_pick v.ready k v (first_pick (suc k) vs)

abbrev pub with_reaped : Pick → WorldView → WorldView
with_reaped p w = record w {
  maps = slice_set w.maps p.map (reaped_view p.view p.slot);
  given = w.given + 1;
}

-- the element of a pick, as a reap tells it
abbrev pub picked_element : Pick → ReapedElement
picked_element p = record {
  map = p.map;
  key = record { items = key_in (slice_get p.view.slots p.slot) };
  given = given_at p.view p.slot;
}

abbrev pub reap_by : Option Pick → WorldView → Answer × WorldView
reap_by None w = (Reaped None, w)
reap_by (Some p) w = (Reaped (Some (picked_element p)), with_reaped p w)

abbrev pub reap_reaction : WorldView → Answer × WorldView
reap_reaction w = reap_by (first_pick 0 w.maps) w

-- the run that a run slot shows is inside a section
abbrev pub is_open_view : Option RunView → Bool
is_open_view None = false
is_open_view (Some v) = nat_lt 0 v.depth

-- A run slot changes: its flag tells whether its run is inside a section, and it is awaited no more
-- where it isn't.
abbrev pub with_run : ℕ → Option RunView → WorldView → WorldView
with_run r v w = record w {
  runs = slice_set w.runs r v;
  opened = slice_set w.opened r (is_open_view v);
  awaited = still_open w.awaited (slice_set w.opened r (is_open_view v));
}

-- A run goes through a lock or an unlock. Its words stay: r0 to r5 hold nothing after a call
-- without a result, for which any word stands.
abbrev pub locked_view : RunView → RunView
locked_view v = record v { place = v.place + 1; depth = v.depth + 1; moved = v.moved + 1 }

abbrev pub unlocked_view : RunView → RunView
unlocked_view v = record v { place = v.place + 1; depth = v.depth - 1; moved = v.moved + 1 }

-- a run before its first instruction, as a world shows it
abbrev pub fresh_view : ℕ → List ℕ → RunView
fresh_view prog context = record {
  program = prog;
  context = context;
  registers = 0 ∷ ctx_base ∷ 0 ∷ 0 ∷ 0 ∷ 0 ∷ 0 ∷ 0 ∷ 0 ∷ 0 ∷ (frame_base + FRAME_BYTES) ∷ [];
  frame = replicate FRAME_BYTES 0;
  place = 0;
  depth = 0;
  moved = 0;
  exit = None;
}

-- A start takes the lowest free run slot.
abbrev pub start_by : Option EventRefusal → Option ℕ → WorldView → ℕ → List ℕ → Answer × WorldView
start_by (Some refusal) o w prog context = refused_as refusal w
start_by None None w prog context = refused_as RunsFull w
start_by None (Some r) w prog context = (Started r, with_run r (Some (fresh_view prog context)) w)

abbrev pub start_reaction : WorldView → ℕ → List ℕ → Answer × WorldView
start_reaction w prog context =
    start_by (start_refusal (slice_get w.programs prog) (length context) (lowest_free w.runs))
    (lowest_free w.runs) w prog context

-- A step or a drop is refused by what the run slot shows.
abbrev pub step_refused : Option RunView → Option EventRefusal
step_refused None = Some NoRun
step_refused (Some v) = if_ended v.exit

abbrev pub drop_refused : Option RunView → Option EventRefusal
drop_refused None = Some NoRun
drop_refused (Some v) = if_running v.exit

abbrev pub drop_by : Option EventRefusal → WorldView → ℕ → Answer × WorldView
drop_by (Some refusal) w r = refused_as refusal w
drop_by None w r = (Done, with_run r None w)

abbrev pub drop_reaction : WorldView → ℕ → Answer × WorldView
drop_reaction w r = drop_by (drop_refused (run_at w.runs r)) w r

-- a step that is refused; one that is not, its instruction decides
abbrev pub step_by : Option EventRefusal → WorldView → Option (Answer × WorldView)
step_by (Some refusal) w = Some (refused_as refusal w)
step_by None w = None

-- The reaction to an event; None: a run makes a step, which its instruction decides.
abbrev pub reaction : WorldView → Event → Option (Answer × WorldView)
reaction w (events.Start prog ctx) = Some (start_reaction w prog ctx.items)
reaction w (events.Step run) = step_by (step_refused (run_at w.runs run)) w
reaction w (events.Update map key value flags) =
    Some (update_reaction w map key.items value.items flags)
reaction w (events.Delete map key) = Some (delete_reaction w map key.items)
reaction w (events.Read map key) = Some (read_reaction w map key.items)
reaction w events.Advance = Some (advance_reaction w)
reaction w events.Reap = Some (reap_reaction w)
reaction w (events.Drop run) = Some (drop_reaction w run)
