-- Answers that are steps one after another.
use Rattle.std.specs.Prelude.{◌≡◌, List, [], ◌∷◌}
use Rattle.bpf_model.specs.declared.event.Event.{Event}
use Rattle.bpf_model.specs.declared.event.Answer.{Answer}
use Rattle.bpf_model.specs.Schedule.{Schedule}
use Rattle.bpf_model.specs.Drain.{AnswersAsScheduled}

module _ {World : Type 0} where
  -- Each answer is a step with the runtime's choices, from the world after the answer before it;
  -- the first world is old and the last is new.
  abbrev pub AreSteps : (World → Schedule → Type 0) → World → List Event → List Answer → World →
      Type 0
  AreSteps Tracks old [] [] new = new ≡ old
  AreSteps Tracks old (event ∷ events) (answer ∷ answers) new = (next : World)
      × AnswersAsScheduled Tracks old event answer next × AreSteps Tracks next events answers new
  AreSteps Tracks old events answers new = ⊥
