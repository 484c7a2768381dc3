use Rattle.bpf_model.proofs.Prelude.{◌≡◌, ◌++◌, replicate}
use Rattle.reference_store.proofs.map_state.put_unused.Given as goal

abbrev pub invariant-loop : goal.invariant-loop
invariant-loop l = l.bag.items ≡ l.initial.bag.items ++ replicate l.counter 0
