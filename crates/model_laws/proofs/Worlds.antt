-- What the schedules that a world tracks say of the machines that it tracks.
use Rattle.bpf_model.proofs.Prelude.{◌≡◌, List, [], ◌∷◌, refl, ap, ◌∙◌, subst, DoesEvent, IsHistory, last_of, AnswersAsMachine, AreMachineAnswers}
use Rattle.bpf_model.proofs.Prelude.{AreReclaimedLate, Schedule, IsScheduledHistory, AnswersAsScheduled, AreScheduledAnswers, machines, WorldView}
use Rattle.bpf_model.proofs.Prelude.{TracksSchedule, Tracks}
use Rattle.model_laws.proofs.Prelude.{Event, Answer, IsConsistent}
use Rattle.model_laws.proofs.Late.{reclaimed_late}
use Rattle.model_laws.proofs.Reached.{tracked_is_scheduled}

pub tracked_reclaimed_late : (w : WorldView) (events : List Event) (answers : List Answer) → AreReclaimedLate Tracks w events answers
tracked_reclaimed_late w events answers m t states h =
    reclaimed_late m events answers states (subst IsConsistent t.1 (tracked_is_scheduled w t.0 t.2).consistent) h

-- the machine's part of a history
machine-history : (s : Schedule) (events : List Event) (answers : List Answer) (states : List Schedule) →
    IsScheduledHistory s events answers states → IsHistory s.machine events answers (machines states)
machine-history s [] [] [] h = tt
machine-history s (event ∷ events) (answer ∷ answers) (next ∷ states) h = (h.0.step, machine-history next events answers states h.1)
machine-history s events answers states h = absurd h

machine-last : (s : Schedule) (states : List Schedule) → (last_of s states).machine ≡ last_of s.machine (machines states)
machine-last s [] = refl
machine-last s (next ∷ states) = machine-last next states

pub scheduled_is_machine : (old new : WorldView) (events : List Event) (answers : List Answer) →
    AreScheduledAnswers TracksSchedule old events answers new → AreMachineAnswers Tracks old events answers new
scheduled_is_machine old new events answers h m t =
    let r = h t.0 t.2 in
    let history : IsHistory m events answers (machines r.0) =
    subst (λ x. IsHistory x events answers (machines r.0)) t.1 (machine-history t.0 events answers r.0 r.1) in
    (machines r.0, history, (last_of t.0 r.0, machine-last t.0 r.0 ∙ ap (λ x. last_of x (machines r.0)) t.1, r.3))

pub scheduled_is_machine_once : (old new : WorldView) (event : Event) (answer : Answer) →
    AnswersAsScheduled TracksSchedule old event answer new → AnswersAsMachine Tracks old event answer new
scheduled_is_machine_once old new event answer h m t =
    let r = h t.0 t.2 in
    (r.0.machine, subst (λ x. DoesEvent x event answer r.0.machine) t.1 r.1.step, (r.0, refl, r.2))
