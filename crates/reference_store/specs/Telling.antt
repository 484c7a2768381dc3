-- What a result or a fault says of the machine's step.
use Rattle.std.specs.Prelude.{Result, Ok, Err}
use Rattle.reference_store.specs.declared.fault.ModelFault.{ModelFault}
use Rattle.reference_store.specs.declared.fault.ModelFault.TheVariants.{Stuck, Memory, OutOfRange}
use Rattle.reference_store.specs.declared.fault.ModelFault.TheVariants.{Early}

-- A result tells what was done. Of the faults, "stuck" tells that nothing could be; the others tell
-- nothing.
abbrev pub TellsResult : {A : Type 0} → (A → Type 0) → Type 0 → Result A ModelFault → Type 0
TellsResult Done Nothing (Ok a) = Done a
TellsResult Done Nothing (Err Stuck) = Nothing
TellsResult Done Nothing (Err Memory) = Unit {0}
TellsResult Done Nothing (Err OutOfRange) = Unit {0}
TellsResult Done Nothing (Err Early) = Unit {0}
