use Rattle.bpf_model.proofs.Prelude.{◌≡◌, ◌++◌, drop, still_open}
use Rattle.reference_model.proofs.grace.still_open.Given as goal

abbrev pub invariant-loop-r : goal.invariant-loop-r
invariant-loop-r l = still_open l.awaited l.opened ≡ l.flags.items ++ still_open (drop l.r l.awaited) (drop l.r l.opened)
