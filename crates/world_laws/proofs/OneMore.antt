-- What a world tracks, and what is so of it, with one program more.
use Rattle.bpf_model.proofs.Prelude.{◌≡◌, ℕ, ◌<◌, List, [], ◌∷◌, ◌++◌, length, Option, Some, None, inl, inr, ap, subst, arith, map, slice_get, length-append}
use Rattle.bpf_model.proofs.Prelude.{Element, Loaded, Run, Machine, new_map, RunSlotRefines, RefinesSchedule, TracksSchedule, Tracks, Schedule, RunView}
use Rattle.bpf_model.proofs.Prelude.{WorldView, shapes_of, get-append, get-append_cases}
use Rattle.model_laws.proofs.Prelude.{MapShape, MAX_PROGRAMS}
use Rattle.plan_laws.proofs.Prelude.{IsVerified, IsVerifiedFor}
use Rattle.world_laws.proofs.Prelude.{IsBoundTo, IsWorld, IsRealProgram, loads, schedule_loads, with_program}
use Rattle.world_laws.proofs.BindingOf.{bound_is_verified}
use Rattle.world_laws.proofs.Histories.{reached_with_one_more}

-- what holds of each program of a list and of one more holds of each of the longer list
each-more : (P : Loaded → Type 0) (programs : List Loaded) (p : Loaded) →
    ((k : ℕ) (program : Loaded) → slice_get programs k ≡ Some program → P program) → P p →
    (k : ℕ) (program : Loaded) → slice_get (programs ++ p ∷ []) k ≡ Some program → P program
each-more P programs p each last k program at = elim (get-append_cases programs p k program at) [
  | inl h ↦ each k program h
  | inr h ↦ subst P h.1 last
]

module _ (p : Loaded) where
  slot-more : (slots : List ℕ) (es : List Element) (programs : List Loaded) (v : Option (Option RunView)) (o : Option (Option Run)) →
      RunSlotRefines slots es programs v o → RunSlotRefines slots es (programs ++ p ∷ []) v o
  slot-more slots es programs None None h = tt
  slot-more slots es programs (Some None) (Some None) h = tt
  slot-more slots es programs (Some (Some v)) (Some (Some run)) h = record {
    program = get-append programs (p ∷ []) v.program run.program h.program;
    words = h.words;
  }
  slot-more slots es programs v o h = absurd h

  pub refines_with_one_more : (w : WorldView) (s : Schedule) → RefinesSchedule w s → RefinesSchedule (with_program p w) (schedule_loads p s)
  refines_with_one_more w s h = record {
    slots = h.slots;
    named = h.named;
    maps = h.maps;
    map = h.map;
    runs = λ r. slot-more h.slots s.machine.store.elements s.machine.programs (slice_get w.runs r) (slice_get s.machine.runs r) (h.runs r);
    opened = h.opened;
    awaited = h.awaited;
    flags = h.flags;
    programs = ap (λ l. l ++ p ∷ []) h.programs;
    given = h.given;
  }

  pub tracked_with_one_more : (w : WorldView) (s : Schedule) → length w.programs < MAX_PROGRAMS → TracksSchedule w s →
      TracksSchedule (with_program p w) (schedule_loads p s)
  tracked_with_one_more w s room h = record {
    refines = refines_with_one_more w s h.refines;
    reached = reached_with_one_more p (shapes_of w) w.programs s room h.reached;
  }

  pub machine_with_one_more : (w : WorldView) (m : Machine) → length w.programs < MAX_PROGRAMS → Tracks w m →
      Tracks (with_program p w) (loads p m)
  machine_with_one_more w m room h = (schedule_loads p h.0, ap (loads p) h.1, tracked_with_one_more w h.0 room h.2)

  pub loaded_is_world : (asked : List MapShape) (w : WorldView) → IsWorld w → length w.programs < MAX_PROGRAMS →
      IsBoundTo (shapes_of w) asked p.maps → IsVerified p.code asked p.context_len → IsRealProgram p → IsWorld (with_program p w)
  loaded_is_world asked w is room bound verified real =
      let count = length-append w.programs (p ∷ []) in
      record {
        schedule = schedule_loads p is.schedule;
        tracks = tracked_with_one_more w is.schedule room is.tracks;
        ready = record {
          verified = each-more (IsVerifiedFor (map new_map (shapes_of w))) w.programs p is.ready.verified
              (bound_is_verified (shapes_of w) asked p bound verified);
          programs = each-more IsRealProgram w.programs p is.ready.programs real;
          maps = is.ready.maps;
        };
        bounded = record { maps = is.bounded.maps; programs = omega arith; given = is.bounded.given };
      }
