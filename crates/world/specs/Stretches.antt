-- Steps of one run, one after another.
use Rattle.std.specs.Prelude.{◌≡◌, ℕ, ◌+◌, List, Option, Some, slice_get, slice_set}
use Rattle.bpf_model.specs.declared.event.Event.TheVariants.{Step}
use Rattle.bpf_model.specs.declared.event.Answer.TheVariants.{Moved, Exited, Refused}
use Rattle.bpf_model.specs.declared.event.EventRefusal.{EventRefusal}
use Rattle.bpf_model.specs.View.{WorldView}
use Rattle.world_laws.specs.Reacting.{full_reaction}
use Rattle.verifier.specs.Verdict.{IsJustified}
use Rattle.machine.specs.declared.outcome.Walk.{Walk}
use Rattle.machine.specs.declared.walk.WalkEnd.{WalkEnd}
use Rattle.machine.specs.declared.walk.WalkEnd.TheVariants.{Enough, Asks, Exits}
use Rattle.machine.specs.RunWords.{RunWords, IsAt}
use Rattle.machine.specs.Standing.{IsValidRun}
use Rattle.machine.specs.Walks.{IsBefore, WalksOn}
use Rattle.world.specs.declared.kept.loaded.Loaded.{Loaded}

-- what the next step of the run would be answered: with a move, with an exit, or refused
abbrev pub WouldMove : WorldView → ℕ → Type 0
WouldMove w run = (full_reaction w (Step run)).0 ≡ Moved

abbrev pub WouldExit : WorldView → ℕ → Type 0
WouldExit w run = (n : ℕ) × ((full_reaction w (Step run)).0 ≡ Exited n)

abbrev pub WouldBeRefused : WorldView → ℕ → Type 0
WouldBeRefused w run =
    (refusal : EventRefusal) × ((full_reaction w (Step run)).0 ≡ Refused refusal)

-- what the next step is where a walk of the run has ended so
abbrev pub IsAhead : WalkEnd → WorldView → ℕ → Type 0
IsAhead Enough w run = Unit {0}
IsAhead Asks w run = WouldMove w run
IsAhead Exits w run = WouldExit w run

-- So many steps of the run, each answered with a move, lead from the first world to this one.
pub data MakesMoves (run : ℕ) (first : WorldView) : ℕ → WorldView → Type 0 where
  not_yet : MakesMoves run first 0 first
  once_more : (count : ℕ) (mid : WorldView) → MakesMoves run first count mid → WouldMove mid run →
      MakesMoves run first (count + 1) (full_reaction mid (Step run)).1

-- The run slot has a run of a program, which stands for a run of it where the program is justified.
pub record IsStanding (runs : List (Option RunWords)) (programs : List Loaded) (r : ℕ) : Type 0 where
  pub run : RunWords
  pub there : slice_get runs r ≡ Some (Some run)
  pub loaded : Loaded
  pub of : slice_get programs run.view.program ≡ Some loaded
  pub stands : IsJustified loaded.verified → IsValidRun loaded.verified run

-- The run in run slot r has walked, and no other run slot has changed.
pub record HasWalked (runs runs_after : List (Option RunWords)) (programs : List Loaded) (r : ℕ) (walk : Walk WalkEnd)
    : Type 0 where
  pub run : RunWords
  pub there : slice_get runs r ≡ Some (Some run)
  pub loaded : Loaded
  pub of : slice_get programs run.view.program ≡ Some loaded
  pub new : RunWords
  pub runs_are : runs_after ≡ slice_set runs r (Some new)
  pub moves : WalksOn loaded.verified run.view walk.moved new.view
  pub before : IsBefore walk.end loaded.verified new.view
  pub stands : IsAt loaded.verified.program new
