-- How far a script has come.
use Rattle.std.specs.Prelude.{◌≡◌, ℕ, ◌⊎◌, List, ◌++◌, length}
use Rattle.std.specs.Io.Iter.{u64_saturate}
use Rattle.script_stream.specs.declared.fault.ScriptFault.{ScriptFault}
use Rattle.script_stream.specs.declared.fault.ScriptFault.TheVariants.{Write, Memory}
use Rattle.script_stream.specs.declared.progress.Progress.{Progress}
use Rattle.script_stream.specs.Lines.{ended, HasNoFeed, HaveNoFeed}
use Rattle.script_stream.specs.Answered.{Answered}

-- a fault of writing
abbrev pub IsOutputFault : ScriptFault → Type 0
IsOutputFault fault = (fault ≡ Write) ⊎ (fault ≡ Memory)

module _ {S : Type 0} (answers : S → List ℕ → List ℕ → S → Type 0) where
  -- Whole lines of what was read are answered: with what was written and what waits to be written.
  pub record IsProgressAt (old : S) (read written : List ℕ) (p : Progress) (now : S) : Type 0 where
    pub lines : List (List ℕ)
    pub read_is : read ≡ ended lines ++ p.rest.items
    pub whole : HaveNoFeed lines
    pub open_line : HasNoFeed p.rest.items
    pub count : p.answered ≡ u64_saturate (length lines)
    pub answered : Answered answers old lines (written ++ p.out.items) now
