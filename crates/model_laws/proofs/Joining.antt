-- Steps with the runtime's choices, one after another, make a history.
use Rattle.bpf_model.proofs.Prelude.{◌≡◌, List, [], ◌∷◌, ◌++◌, refl, sym, subst, Loaded, Schedule, IsScheduledHistory, start_schedule, AnswersAsScheduled}
use Rattle.bpf_model.proofs.Prelude.{AreScheduledAnswers, WorldView, TracksSchedule, last_of}
use Rattle.model_laws.proofs.Prelude.{Event, Answer, MapShape, AreSteps}
use Rattle.model_laws.proofs.Draining.{drains_from}
use Rattle.model_laws.proofs.Reached.{tracked_is_scheduled}

module _ {World : Type 0} (Tracks : World → Schedule → Type 0) where
  -- the history of the steps, at whose end the last world tracks the last state
  steps_make_history : (old new : World) (events : List Event) (answers : List Answer) → AreSteps Tracks old events answers new →
      (s : Schedule) → Tracks old s → (states : List Schedule) × IsScheduledHistory s events answers states × Tracks new (last_of s states)
  steps_make_history old new [] [] h s t = ([], tt, subst (λ w. Tracks w s) (sym h) t)
  steps_make_history old new (event ∷ events) (answer ∷ answers) h s t =
      let first = h.1 s t in
      let rest = steps_make_history h.0 new events answers h.2 first.0 first.2 in
      (first.0 ∷ rest.0, (first.1, rest.1), rest.2)
  steps_make_history old new events answers h s t = absurd h

pub steps_make_scheduled : (old new : WorldView) (events : List Event) (answers : List Answer) →
    AreSteps TracksSchedule old events answers new → AreScheduledAnswers TracksSchedule old events answers new
steps_make_scheduled old new events answers h s t =
    let r = steps_make_history TracksSchedule old new events answers h s t in
    (r.0, r.1, drains_from s events answers r.0 (tracked_is_scheduled old s t) r.1, r.2)

-- two histories that meet
pub history-join : (s : Schedule) (es fs : List Event) (xs ys : List Answer) (states more : List Schedule) →
    IsScheduledHistory s es xs states → IsScheduledHistory (last_of s states) fs ys more →
    IsScheduledHistory s (es ++ fs) (xs ++ ys) (states ++ more)
history-join s [] fs [] ys [] more h g = g
history-join s (e ∷ es) fs (x ∷ xs) ys (t ∷ states) more h g = (h.0, history-join t es fs xs ys states more h.1 g)
history-join s es fs xs ys states more h g = absurd h

pub last-join : (s : Schedule) (states more : List Schedule) → last_of s (states ++ more) ≡ last_of (last_of s states) more
last-join s [] more = refl
last-join s (t ∷ states) more = last-join t states more

pub scheduled_join : (old mid new : WorldView) (es fs : List Event) (xs ys : List Answer) →
    AreScheduledAnswers TracksSchedule old es xs mid → AreScheduledAnswers TracksSchedule mid fs ys new →
    AreScheduledAnswers TracksSchedule old (es ++ fs) (xs ++ ys) new
scheduled_join old mid new es fs xs ys h g s t =
    let r = h s t in
    let n = g (last_of s r.0) r.3 in
    let history = history-join s es fs xs ys r.0 n.0 r.1 n.1 in (
      r.0 ++ n.0,
      history,
      drains_from s (es ++ fs) (xs ++ ys) (r.0 ++ n.0) (tracked_is_scheduled old s t) history,
      subst (TracksSchedule new) (sym (last-join s r.0 n.0)) n.3,
    )

-- one more step
pub scheduled_grow : (old mid new : WorldView) (events : List Event) (answers : List Answer) (event : Event)
    (answer : Answer) → AreScheduledAnswers TracksSchedule old events answers mid →
    AnswersAsScheduled TracksSchedule mid event answer new → AreScheduledAnswers TracksSchedule old (events ++ event ∷ []) (answers ++ answer ∷ []) new
scheduled_grow old mid new events answers event answer h step s t =
    let r = h s t in
    let n = step (last_of s r.0) r.3 in
    let history = history-join s events (event ∷ []) answers (answer ∷ []) r.0 (n.0 ∷ []) r.1 (n.1, tt) in (
      r.0 ++ n.0 ∷ [],
      history,
      drains_from s (events ++ event ∷ []) (answers ++ answer ∷ []) (r.0 ++ n.0 ∷ [])
          (tracked_is_scheduled old s t) history,
      subst (TracksSchedule new) (sym (last-join s r.0 (n.0 ∷ []))) n.2,
    )

pub scheduled_from_start : (shapes : List MapShape) (programs : List Loaded) (old new : WorldView)
    (events : List Event) (answers : List Answer) → TracksSchedule old (start_schedule shapes programs) →
    AreScheduledAnswers TracksSchedule old events answers new →
    (states : List Schedule) × IsScheduledHistory (start_schedule shapes programs) events answers states ×
    TracksSchedule new (last_of (start_schedule shapes programs) states)
scheduled_from_start shapes programs old new events answers t h =
    let r = h (start_schedule shapes programs) t in
    (r.0, r.1, r.3)
