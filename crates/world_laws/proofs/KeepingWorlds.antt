-- A world at the start, and after its reactions.
use Rattle.bpf_model.proofs.Prelude.{◌≡◌, ◌≤◌, ℕ, List, [], ◌∷◌, map, length, arith, refl, length-map, IsReal, AreReal, Loaded, AreShapes, start_schedule}
use Rattle.bpf_model.proofs.Prelude.{WorldView, new_map_view, start_view}
use Rattle.model_laws.proofs.Prelude.{Event, MapShape, MAX_MAPS, MAX_PROGRAMS}
use Rattle.plan_laws.proofs.Prelude.{AreVerified}
use Rattle.world_laws.proofs.Prelude.{full_reaction, full_reactions, AreRealPrograms, IsWorld}
use Rattle.model_laws.proofs.Starting.{start_tracked}
use Rattle.plan_laws.proofs.Reaching.{real-rest}
use Rattle.model_laws.proofs.Reacting.{tracked_matches}
use Rattle.world_laws.specs.Typed.{IsMatched}
use Rattle.world_laws.proofs.Worlds.{starts_ready, ready_stays, bounded_stays, simulates, tracked_is_sound}

pub start_is_world : (names : List (List ℕ)) (shapes : List MapShape) (programs : List Loaded) → AreShapes shapes →
    length shapes ≤ MAX_MAPS → length programs ≤ MAX_PROGRAMS → AreVerified shapes programs → AreRealPrograms programs
    → IsWorld (start_view names shapes programs)
start_is_world names shapes programs right few few_programs verified real =
    let count : length (map new_map_view shapes) ≡ length shapes = length-map shapes new_map_view in
    record {
      schedule = start_schedule shapes programs;
      tracks = start_tracked names shapes programs right;
      ready = starts_ready names shapes programs few verified real;
      bounded = record { maps = omega (arith, count, few); programs = few_programs; given = omega arith };
    }

pub reaction_is_world : (w : WorldView) (event : Event) → IsWorld w → IsReal event → IsWorld (full_reaction w event).1
reaction_is_world w event is real =
    let next = simulates w is.schedule event is.tracks is.ready real in
    record {
      schedule = next.0;
      tracks = next.2;
      ready = ready_stays w event is.ready;
      bounded = bounded_stays w is.schedule event is.tracks is.ready real is.bounded;
    }

pub reactions_make_world : (w : WorldView) (events : List Event) → IsWorld w → AreReal events → IsWorld (full_reactions w events).1
reactions_make_world w [] is real = is
reactions_make_world w (event ∷ events) is real =
    reactions_make_world (full_reaction w event).1 events (reaction_is_world w event is (real 0 event refl)) (real-rest event events real)

pub world_is_matched : (w : WorldView) → IsWorld w → IsMatched w
world_is_matched w is = record {
  schedule = is.schedule;
  matches = tracked_matches w is.schedule is.tracks;
  sound = tracked_is_sound w is.schedule is.tracks is.ready;
}
