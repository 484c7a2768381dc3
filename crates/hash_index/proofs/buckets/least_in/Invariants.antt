use Rattle.bpf_model.proofs.Prelude.{◌<◌, length, drop, IfSome, option_copied}
use Rattle.hash_index.proofs.Least.{IsGathered}
use Rattle.hash_index.proofs.buckets.least_in.Given as goal

abbrev pub invariant-loop-head : goal.invariant-loop-head
invariant-loop-head l = record {
  gathered : IsGathered l.arena (option_copied l.bound) l.heads (drop l.head-index l.heads) l.least;
  inside : IfSome l.least (λ i. i < length l.arena.slots);
}
