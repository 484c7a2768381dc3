use Rattle.bpf_model.proofs.Prelude.{◌≡◌, ◌++◌, length}
use Rattle.element_store.proofs.Prelude.{chain_of}
use Rattle.hash_index.specs.Chains.{IsChain}
use Rattle.hash_index.proofs.chain.add_chain.Given as goal

-- the slots so far, which those from here on complete
abbrev pub invariant-loop-at : goal.invariant-loop-at
invariant-loop-at l = record {
  chain : IsChain l.arena l.at;
  all : l.slots.items ++ chain_of l.arena l.at ≡ l.fn.slots.items ++ chain_of l.arena l.fn.first;
}

abbrev pub decreases-loop-at : goal.decreases-loop-at
decreases-loop-at l = length (chain_of l.arena l.at)
