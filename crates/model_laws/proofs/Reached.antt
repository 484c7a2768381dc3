-- The states that are reached from the start have what the laws of the runtime's choices need.
use Rattle.bpf_model.proofs.Prelude.{List, [], ◌∷◌, subst, Loaded, Schedule, IsScheduledHistory, start_schedule, WorldView, shapes_of, IsReachedSchedule}
use Rattle.bpf_model.proofs.Prelude.{TracksSchedule, last_of}
use Rattle.model_laws.proofs.Prelude.{MapShape, Event, Answer, IsScheduled}
use Rattle.model_laws.proofs.Scheduling.{starts_scheduled, stays_scheduled}

pub scheduled-last : (s : Schedule) (events : List Event) (answers : List Answer) (states : List Schedule) →
    IsScheduled s → IsScheduledHistory s events answers states → IsScheduled (last_of s states)
scheduled-last s [] [] [] w h = w
scheduled-last s (event ∷ events) (answer ∷ answers) (next ∷ states) w h =
    scheduled-last next events answers states (stays_scheduled s next event answer w h.0) h.1
scheduled-last s events answers states w h = absurd h

pub reached_is_scheduled : (shapes : List MapShape) (programs : List Loaded) (s : Schedule) → IsReachedSchedule shapes programs s → IsScheduled s
reached_is_scheduled shapes programs s r = subst IsScheduled r.last
    (scheduled-last (start_schedule shapes programs) r.events r.answers r.states
    (starts_scheduled shapes programs r.limits) r.history)

pub tracked_is_scheduled : (w : WorldView) (s : Schedule) → TracksSchedule w s → IsScheduled s
tracked_is_scheduled w s t = reached_is_scheduled (shapes_of w) w.programs s t.reached
