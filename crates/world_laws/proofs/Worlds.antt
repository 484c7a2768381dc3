-- The main theorem over views: one event, and a list of events.
use Rattle.bpf_model.proofs.Prelude.{◌≡◌, ◌∙◌, ℕ, zero, suc, ◌≤◌, List, [], ◌∷◌, map, length, refl, sym, ap, subst, arith, length-map, none-some, same_Some}
use Rattle.bpf_model.proofs.Prelude.{AnswersAsScheduled, AreScheduledAnswers, IsReal, AreReal, AnswersAsMachine, AreMachineAnswers, AreNeverStuck}
use Rattle.bpf_model.proofs.Prelude.{AllExitInTime, AreReclaimedLate, Loaded, Schedule, DoesScheduled, WorldView, new_map_view, start_view, shapes_of}
use Rattle.bpf_model.proofs.Prelude.{TracksSchedule, Tracks}
use Rattle.model_laws.proofs.Prelude.{MAX_MAPS, MAX_PROGRAMS, Event, MapShape, AreSteps}
use Rattle.plan_laws.proofs.Prelude.{AreVerified}
use Rattle.world_laws.proofs.Prelude.{full_reaction, full_reactions, AreRealPrograms, IsReadyWorld, IsSound}
use Rattle.bpf_model.specs.View.{shape_of_view as shape}
use Rattle.bpf_model.specs.Refines.{IsBounded}
use Rattle.model_laws.proofs.Bounded.{given_bounded}
use Rattle.model_laws.proofs.Joining.{steps_make_scheduled}
use Rattle.model_laws.proofs.Worlds.{scheduled_is_machine, scheduled_is_machine_once, tracked_reclaimed_late}
use Rattle.model_laws.proofs.Starting.{shapes-start}
use Rattle.plan_laws.proofs.Reaching.{reached_is_well, real-rest, tracked_never_stuck}
use Rattle.plan_laws.proofs.Timing.{tracked_exits_in_time}
use Rattle.model_laws.proofs.Reacting.{tracked_matches}
use Rattle.model_laws.proofs.Tracking.{simulates_tracks}
use Rattle.world_laws.proofs.Listed.{reached_is_listed}
use Rattle.world_laws.proofs.Stepping.{full_simulates}
use Rattle.world_laws.proofs.Keeping.{full_keeps}

pub tracked_is_sound : (w : WorldView) (s : Schedule) → TracksSchedule w s → IsReadyWorld w → IsSound w s
tracked_is_sound w s t ready = record {
  well = reached_is_well (shapes_of w) w.programs s ready.verified t.reached;
  listed = reached_is_listed (shapes_of w) w.programs s t.reached;
  limits = t.reached.limits;
  maps = ready.maps;
  programs = ready.programs;
}

pub simulates : (w : WorldView) (s : Schedule) (event : Event) → TracksSchedule w s → IsReadyWorld w → IsReal event →
    (next : Schedule) × DoesScheduled s event (full_reaction w event).0 next ×
    TracksSchedule (full_reaction w event).1 next
simulates w s event t ready real =
    let k = full_keeps w event in
    let d = simulates_tracks w (full_reaction w event).1 s event (full_reaction w event).0 t real k.0 k.1
    (full_simulates w s (tracked_matches w s t) (tracked_is_sound w s t ready) event) in
    (d.0, d.1, d.2)

-- what a world is asked for stays
same-count : (w new : WorldView) → shapes_of new ≡ shapes_of w → length new.maps ≡ length w.maps
same-count w new e = sym (length-map new.maps shape) ∙ (ap length e ∙ length-map w.maps shape)

pub ready_stays : (w : WorldView) (event : Event) → IsReadyWorld w → IsReadyWorld (full_reaction w event).1
ready_stays w event ready =
    let k = full_keeps w event in
    let new = (full_reaction w event).1 in
    let count : length new.maps ≡ length w.maps = same-count w new k.0 in
    let few : length w.maps ≤ MAX_MAPS = ready.maps in
    record {
      verified = subst (λ shapes. AreVerified shapes new.programs) (sym k.0) (subst (AreVerified (shapes_of w)) (sym k.1) ready.verified);
      programs = subst AreRealPrograms (sym k.1) ready.programs;
      maps = omega (arith, count, few);
    }

pub bounded_stays : (w : WorldView) (s : Schedule) (event : Event) → TracksSchedule w s → IsReadyWorld w →
    IsReal event → IsBounded w → IsBounded (full_reaction w event).1
bounded_stays w s event t ready real b =
    let k = full_keeps w event in
    let new = (full_reaction w event).1 in
    let next = simulates w s event t ready real in
    record {
      maps = (ready_stays w event ready).maps;
      programs = subst (λ (ps : List Loaded). length ps ≤ MAX_PROGRAMS) (sym k.1) b.programs;
      given = given_bounded new next.0 next.2;
    }

-- one event
pub answers_as_scheduled : (w : WorldView) (event : Event) → IsReadyWorld w → IsReal event →
    AnswersAsScheduled TracksSchedule w event (full_reaction w event).0 (full_reaction w event).1
answers_as_scheduled w event ready real s t = simulates w s event t ready real

pub answers_as_machine : (w : WorldView) (event : Event) → IsReadyWorld w → IsReal event →
    AnswersAsMachine Tracks w event (full_reaction w event).0 (full_reaction w event).1
answers_as_machine w event ready real = scheduled_is_machine_once w (full_reaction w event).1 event
    (full_reaction w event).0 (answers_as_scheduled w event ready real)

one-real : (event : Event) → IsReal event → AreReal (event ∷ [])
one-real event real zero e at = subst IsReal (same_Some event e at) real
one-real event real (suc k) e at = absurd (none-some e at)

pub never_stuck_once : (w : WorldView) (event : Event) → IsReadyWorld w → IsReal event → AreNeverStuck Tracks w (event ∷ []) ((full_reaction w event).0 ∷ [])
never_stuck_once w event ready real = tracked_never_stuck w (event ∷ []) ((full_reaction w event).0 ∷ []) ready.verified (one-real event real)

pub exits_once : (w : WorldView) (event : Event) → IsReadyWorld w → IsReal event → AllExitInTime Tracks w (event ∷ []) ((full_reaction w event).0 ∷ [])
exits_once w event ready real = tracked_exits_in_time w (event ∷ []) ((full_reaction w event).0 ∷ []) ready.verified (one-real event real)

pub reclaimed_once : (w : WorldView) (event : Event) → AreReclaimedLate Tracks w (event ∷ []) ((full_reaction w event).0 ∷ [])
reclaimed_once w event = tracked_reclaimed_late w (event ∷ []) ((full_reaction w event).0 ∷ [])

-- a list of events
pub are_steps : (w : WorldView) (events : List Event) → IsReadyWorld w → AreReal events →
    AreSteps TracksSchedule w events (full_reactions w events).0 (full_reactions w events).1
are_steps w [] ready real = refl
are_steps w (event ∷ events) ready real =
    let first = full_reaction w event in
    (first.1, answers_as_scheduled w event ready (real 0 event refl), are_steps first.1 events (ready_stays w event ready) (real-rest event events real))

pub answers_scheduled : (w : WorldView) (events : List Event) → IsReadyWorld w → AreReal events →
    AreScheduledAnswers TracksSchedule w events (full_reactions w events).0 (full_reactions w events).1
answers_scheduled w events ready real = steps_make_scheduled w (full_reactions w events).1 events (full_reactions w events).0 (are_steps w events ready real)

pub answers_machine : (w : WorldView) (events : List Event) → IsReadyWorld w → AreReal events →
    AreMachineAnswers Tracks w events (full_reactions w events).0 (full_reactions w events).1
answers_machine w events ready real = scheduled_is_machine w (full_reactions w events).1 events
    (full_reactions w events).0 (answers_scheduled w events ready real)

pub never_stuck : (w : WorldView) (events : List Event) → IsReadyWorld w → AreReal events → AreNeverStuck Tracks w events (full_reactions w events).0
never_stuck w events ready real = tracked_never_stuck w events (full_reactions w events).0 ready.verified real

pub exit_in_time : (w : WorldView) (events : List Event) → IsReadyWorld w → AreReal events → AllExitInTime Tracks w events (full_reactions w events).0
exit_in_time w events ready real = tracked_exits_in_time w events (full_reactions w events).0 ready.verified real

pub reclaimed_late : (w : WorldView) (events : List Event) → AreReclaimedLate Tracks w events (full_reactions w events).0
reclaimed_late w events = tracked_reclaimed_late w events (full_reactions w events).0

pub ready_after : (w : WorldView) (events : List Event) → IsReadyWorld w → IsReadyWorld (full_reactions w events).1
ready_after w [] ready = ready
ready_after w (event ∷ events) ready = ready_after (full_reaction w event).1 events (ready_stays w event ready)

pub bounded_after : (w : WorldView) (s : Schedule) (events : List Event) → TracksSchedule w s → IsReadyWorld w →
    AreReal events → IsBounded w → IsBounded (full_reactions w events).1
bounded_after w s [] t ready real b = b
bounded_after w s (event ∷ events) t ready real b =
    let first = simulates w s event t ready (real 0 event refl) in
    bounded_after (full_reaction w event).1 first.0 events first.2 (ready_stays w event ready)
    (real-rest event events real) (bounded_stays w s event t ready (real 0 event refl) b)

-- at the start
pub starts_ready : (names : List (List ℕ)) (shapes : List MapShape) (programs : List Loaded) →
    length shapes ≤ MAX_MAPS → AreVerified shapes programs → AreRealPrograms programs →
    IsReadyWorld (start_view names shapes programs)
starts_ready names shapes programs few verified real =
    let count : length (map new_map_view shapes) ≡ length shapes = length-map shapes new_map_view in
    record {
      verified = subst (λ l. AreVerified l programs) (sym (shapes-start shapes)) verified;
      programs = real;
      maps = omega (arith, count, few);
    }
