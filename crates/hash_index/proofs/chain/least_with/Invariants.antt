use Rattle.bpf_model.proofs.Prelude.{◌<◌, length, IfSome, option_copied}
use Rattle.element_store.proofs.Prelude.{chain_of}
use Rattle.hash_index.specs.Chains.{IsChain}
use Rattle.hash_index.proofs.Least.{IsScanned}
use Rattle.hash_index.proofs.chain.least_with.Given as goal

abbrev pub invariant-loop-at : goal.invariant-loop-at
invariant-loop-at l = record {
  chain : IsChain l.arena l.at;
  scan : IsScanned l.arena (option_copied l.bound) l.fn.first l.fn.before l.at l.least;
  inside : IfSome l.least (λ i. i < length l.arena.slots);
}

abbrev pub decreases-loop-at : goal.decreases-loop-at
decreases-loop-at l = length (chain_of l.arena l.at)
