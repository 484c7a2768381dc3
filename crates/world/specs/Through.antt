-- Whole runs.
use Rattle.std.specs.Prelude.{◌≡◌, ℕ, List}
use Rattle.bpf_model.specs.declared.event.Answer.TheVariants as answers
use Rattle.bpf_model.specs.declared.event.Event.TheVariants as events
use Rattle.bpf_model.specs.View.{WorldView}
use Rattle.world.specs.Stretches.{MakesMoves}
use Rattle.world_laws.specs.Reacting.{full_reaction}

-- From its start to its exit and its drop a run made all steps between, and nothing else happened.
pub record RunsThrough (old : WorldView) (prog : ℕ) (context : List ℕ) (value : ℕ) (new : WorldView)
    : Type 0 where
  pub run : ℕ
  pub started : (full_reaction old (events.Start prog (record { items = context }))).0 ≡ answers.Started run
  pub moved : ℕ
  pub mid : WorldView
  pub moves : MakesMoves run (full_reaction old (events.Start prog (record { items = context }))).1 moved mid
  pub exits : (full_reaction mid (events.Step run)).0 ≡ answers.Exited value
  pub left : new ≡ (full_reaction (full_reaction mid (events.Step run)).1 (events.Drop run)).1
