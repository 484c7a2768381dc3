use Rattle.bpf_model.proofs.Prelude.{◌≡◌, ◌≤◌, length, vec_capacity}
use Rattle.verifier.proofs.Prelude.{awaited, states_in, StartsFrom}
use Rattle.verifier.proofs.pending.Pending.start.Given as goal

abbrev pub invariant-loop : goal.invariant-loop
invariant-loop l = record {
  long : length l.by_index.items ≡ l.counter;
  room : l.len ≤ vec_capacity l.by_index;
  entry : StartsFrom (awaited (record { by_index = l.by_index.items; peak = 1 }));
  count : 1 ≡ states_in l.by_index.items;
}
