-- What a world is asked by a script, and what is replied.
use Rattle.std.specs.Prelude.{◌≡◌, ℕ, ◌+◌, ◌<◌, ◌⊎◌, max, List, [], ◌∷◌, ◌++◌, replicate}
use Rattle.std.specs.Prelude.{Option, Some, None, slice_get}
use Rattle.bpf_model.specs.declared.event.Event.{Event}
use Rattle.bpf_model.specs.declared.event.Event.TheVariants as events
use Rattle.bpf_model.specs.declared.event.Answer.{Answer}
use Rattle.bpf_model.specs.declared.event.Answer.TheVariants as answers
use Rattle.bpf_model.specs.declared.event.EventRefusal.{EventRefusal}
use Rattle.bpf_model.specs.declared.event.EventRefusal.TheVariants.{NoProgram, BadContext}
use Rattle.bpf_model.specs.EventNumbers.{event_refusal_number}
use Rattle.bpf_model.specs.Machine.{Loaded}
use Rattle.bpf_model.specs.View.{MapView, WorldView}
use Rattle.world_laws.specs.Reacting.{full_reaction, full_reactions}
use Rattle.world.specs.Asking.{stat_of, IsFound, HasNone}
use Rattle.script_lines.specs.declared.reply.Reply.{Reply}
use Rattle.script_lines.specs.declared.reply.Reply.TheVariants as replies
use Rattle.control.specs.declared.asked.Asked.{Asked}
use Rattle.control.specs.declared.asked.Asked.TheVariants as asked
use Rattle.control.specs.AnswerReplies.{refused, reply_to}

-- a context that is longer than any has another length than each program's
abbrev pub overlong_refusal : Option Loaded → EventRefusal
overlong_refusal None = NoProgram
overlong_refusal (Some program) = BadContext

-- Steps of a run, at least one: each but the last is answered Moved. They end after so many, or
-- with one that is answered otherwise.
pub record MakesSteps (w : WorldView) (run count : ℕ) (steps : List Event) (answer : Answer)
    (new : WorldView) : Type 0 where
  pub moves : ℕ
  pub steps_are : steps ≡ replicate (moves + 1) (events.Step run)
  pub answers_are : (full_reactions w steps).0 ≡ replicate moves answers.Moved ++ answer ∷ []
  pub new_is : new ≡ (full_reactions w steps).1
  pub few : moves < max count 1
  pub stops : (moves + 1 ≡ max count 1) ⊎ (answer ≡ answers.Moved → ⊥)

-- These are the elements of the map with keys above the bound, in byte order: each has the least
-- key above that of the one before, and no key is above that of the last.
abbrev pub AreElements : Option MapView → Option (List ℕ) → List Reply → Type 0
AreElements v bound [] = HasNone v bound
AreElements v bound (replies.Element key value ∷ rest) =
    IsFound v bound key.items value.items × AreElements v (Some key.items) rest
AreElements v bound (_ ∷ rest) = ⊥

-- the number by which a map or a program is refused once there is a world
abbrev pub too_late_number : ℕ
too_late_number = 56

-- What is replied, with the events that happen.
abbrev pub Replies : WorldView → Asked → List Event → List Reply → WorldView → Type 0
Replies w asked.TooLate es rs new =
    (es ≡ []) × (rs ≡ refused too_late_number ∷ []) × (new ≡ w)
Replies w (asked.Refused refusal) es rs new =
    (es ≡ []) × (rs ≡ refused (event_refusal_number refusal) ∷ []) × (new ≡ w)
Replies w (asked.Event event) es rs new =
    (es ≡ event ∷ []) × (rs ≡ reply_to w.names (full_reaction w event).0 ∷ [])
    × (new ≡ (full_reaction w event).1)
Replies w (asked.Overlong prog) es rs new =
    (es ≡ [])
    × (rs ≡ refused (event_refusal_number (overlong_refusal (slice_get w.programs prog))) ∷ [])
    × (new ≡ w)
Replies w (asked.Steps run count) es rs new =
    (answer : Answer) × MakesSteps w run count es answer new × (rs ≡ reply_to w.names answer ∷ [])
Replies w asked.Counts es rs new =
    (es ≡ []) × (rs ≡ replies.Stat (stat_of w) ∷ []) × (new ≡ w)
Replies w (asked.Elements map) es rs new =
    (elements : List Reply) × AreElements (slice_get w.maps map) None elements
    × (es ≡ []) × (rs ≡ elements ++ replies.End ∷ []) × (new ≡ w)
