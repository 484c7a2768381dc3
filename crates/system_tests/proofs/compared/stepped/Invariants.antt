use Rattle.shared_runs.specs.Lone.{IsLone}
use Rattle.system_tests.proofs.compared.stepped.Given as goal

abbrev pub invariant-loop-moves : goal.invariant-loop-moves
invariant-loop-moves l = IsLone l.verified l.run
