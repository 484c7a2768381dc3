use Rattle.bpf_model.proofs.Prelude.{Machine, Tracks}
use Rattle.run_once.specs.Going.{IsGoing}
use Rattle.run_once.proofs.Walking.{Walked}
use Rattle.run_once.proofs.once.run_to_exit.Given as goal

abbrev pub invariant-loop-at : goal.invariant-loop-at
invariant-loop-at l = (m : Machine) → Tracks l.fn.world m → IsGoing m l.count 0 → Walked m l.count l.at l.tells l.text.items l.world
