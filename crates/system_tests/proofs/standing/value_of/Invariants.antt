use Rattle.machine.proofs.Prelude.{IsValidRun}
use Rattle.system_tests.proofs.standing.value_of.Given as goal

-- the run stands
abbrev pub invariant-loop : goal.invariant-loop
invariant-loop l = IsValidRun l.verified l.run
