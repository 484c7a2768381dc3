-- What a world answers is its reaction, to one event and to a list of events: the clauses of the laws at these values.
use Rattle.bpf_model.proofs.Prelude.{◌≡◌, ◌∙◌, List, [], ◌∷◌, sym, ap, subst, AnswersAsScheduled, AreScheduledAnswers, IsReal, AreReal, AnswersAsMachine}
use Rattle.bpf_model.proofs.Prelude.{AreMachineAnswers, AreNeverStuck, AllExitInTime, AreReclaimedLate, TracksSchedule, Tracks, WorldView}
use Rattle.model_laws.proofs.Prelude.{Event, Answer}
use Rattle.world_laws.proofs.Prelude.{full_reaction, full_reactions, IsWorld}
use Rattle.world_laws.proofs.Worlds as laws
use Rattle.world_laws.proofs.KeepingWorlds.{reaction_is_world}

-- one event
pub record Reacts (w : WorldView) (event : Event) (answer : Answer) (new : WorldView) : Type 0 where
  pub is : IsWorld w
  pub real : IsReal event
  pub answer_is : answer ≡ (full_reaction w event).0
  pub new_is : new ≡ (full_reaction w event).1

pub reacts-at : {v w : WorldView} {event : Event} {answer : Answer} {new : WorldView} → v ≡ w → Reacts v event answer new → Reacts w event answer new
reacts-at {event = event} {answer = answer} {new = new} e r = subst (λ (w : WorldView). Reacts w event answer new) e r

pub reacts : {v w new : WorldView} {event : Event} {answer : Answer} → v ≡ w → IsWorld v → IsReal event → answer ≡ (full_reaction v event).0
    → new ≡ (full_reaction v event).1 → Reacts w event answer new
reacts e is real h g = reacts-at e (record { is = is; real = real; answer_is = h; new_is = g })

pub stays_world : {w new : WorldView} {event : Event} {answer : Answer} → Reacts w event answer new → IsWorld new
stays_world {w} {event = event} r = subst IsWorld (sym r.new_is) (reaction_is_world w event r.is r.real)

pub schedule_of : {w new : WorldView} {event : Event} {answer : Answer} → Reacts w event answer new → AnswersAsScheduled TracksSchedule w event answer new
schedule_of {w} {new} {event} {answer} r =
    let law = laws.answers_as_scheduled w event r.is.ready r.real in
    let there = subst (λ (x : Answer). AnswersAsScheduled TracksSchedule w event x (full_reaction w event).1) (sym r.answer_is) law in
    subst (λ (v : WorldView). AnswersAsScheduled TracksSchedule w event answer v) (sym r.new_is) there

pub machine_of : {w new : WorldView} {event : Event} {answer : Answer} → Reacts w event answer new → AnswersAsMachine Tracks w event answer new
machine_of {w} {new} {event} {answer} r =
    let law = laws.answers_as_machine w event r.is.ready r.real in
    let there = subst (λ (x : Answer). AnswersAsMachine Tracks w event x (full_reaction w event).1) (sym r.answer_is) law in
    subst (λ (v : WorldView). AnswersAsMachine Tracks w event answer v) (sym r.new_is) there

pub never_stuck_of : {w new : WorldView} {event : Event} {answer : Answer} → Reacts w event answer new → AreNeverStuck Tracks w (event ∷ []) (answer ∷ [])
never_stuck_of {w} {new} {event} {answer} r =
    subst (λ (x : Answer). AreNeverStuck Tracks w (event ∷ []) (x ∷ [])) (sym r.answer_is) (laws.never_stuck_once w event r.is.ready r.real)

pub exits_of : {w new : WorldView} {event : Event} {answer : Answer} → Reacts w event answer new → AllExitInTime Tracks w (event ∷ []) (answer ∷ [])
exits_of {w} {new} {event} {answer} r =
    subst (λ (x : Answer). AllExitInTime Tracks w (event ∷ []) (x ∷ [])) (sym r.answer_is) (laws.exits_once w event r.is.ready r.real)

pub reclaimed_of : {w new : WorldView} {event : Event} {answer : Answer} → Reacts w event answer new → AreReclaimedLate Tracks w (event ∷ []) (answer ∷ [])
reclaimed_of {w} {new} {event} {answer} r =
    subst (λ (x : Answer). AreReclaimedLate Tracks w (event ∷ []) (x ∷ [])) (sym r.answer_is) (laws.reclaimed_once w event)

-- a list of events
pub record AllReact (w : WorldView) (events : List Event) (answers : List Answer) (new : WorldView) : Type 0 where
  pub is : IsWorld w
  pub real : AreReal events
  pub answers_are : answers ≡ (full_reactions w events).0
  pub new_is : new ≡ (full_reactions w events).1

-- of a list all of which was taken
pub all_react : {w new : WorldView} {taken events : List Event} {answers : List Answer} → IsWorld w → AreReal events →
    answers ≡ (full_reactions w taken).0 → new ≡ (full_reactions w taken).1 → taken ≡ events → AllReact w events answers new
all_react {w} is real h g whole = record {
  is = is;
  real = real;
  answers_are = h ∙ ap (λ (xs : List Event). (full_reactions w xs).0) whole;
  new_is = g ∙ ap (λ (xs : List Event). (full_reactions w xs).1) whole;
}

pub all_scheduled : {w new : WorldView} {events : List Event} {answers : List Answer} → AllReact w events answers new
    → AreScheduledAnswers TracksSchedule w events answers new
all_scheduled {w} {new} {events} {answers} r =
    let law = laws.answers_scheduled w events r.is.ready r.real in
    let there = subst (λ (x : List Answer). AreScheduledAnswers TracksSchedule w events x (full_reactions w events).1) (sym r.answers_are) law in
    subst (λ (v : WorldView). AreScheduledAnswers TracksSchedule w events answers v) (sym r.new_is) there

pub all_machine : {w new : WorldView} {events : List Event} {answers : List Answer} → AllReact w events answers new →
    AreMachineAnswers Tracks w events answers new
all_machine {w} {new} {events} {answers} r =
    let law = laws.answers_machine w events r.is.ready r.real in
    let there = subst (λ (x : List Answer). AreMachineAnswers Tracks w events x (full_reactions w events).1) (sym r.answers_are) law in
    subst (λ (v : WorldView). AreMachineAnswers Tracks w events answers v) (sym r.new_is) there

pub all_never_stuck : {w new : WorldView} {events : List Event} {answers : List Answer} → AllReact w events answers new → AreNeverStuck Tracks w events answers
all_never_stuck {w} {new} {events} {answers} r =
    subst (λ (x : List Answer). AreNeverStuck Tracks w events x) (sym r.answers_are) (laws.never_stuck w events r.is.ready r.real)

pub all_exit : {w new : WorldView} {events : List Event} {answers : List Answer} → AllReact w events answers new → AllExitInTime Tracks w events answers
all_exit {w} {new} {events} {answers} r =
    subst (λ (x : List Answer). AllExitInTime Tracks w events x) (sym r.answers_are) (laws.exit_in_time w events r.is.ready r.real)

pub all_reclaimed : {w new : WorldView} {events : List Event} {answers : List Answer} → AllReact w events answers new → AreReclaimedLate Tracks w events answers
all_reclaimed {w} {new} {events} {answers} r =
    subst (λ (x : List Answer). AreReclaimedLate Tracks w events x) (sym r.answers_are) (laws.reclaimed_late w events)
