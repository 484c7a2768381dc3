use Rattle.bpf_model.proofs.Prelude.{◌≡◌, length}
use Rattle.element_store.proofs.Prelude.{key_at, slot_of, chain_of}
use Rattle.hash_index.specs.Chains.{IsChain}
use Rattle.hash_index.proofs.Steps.{IsWalked}
use Rattle.hash_index.proofs.chain.search.Given as goal

abbrev pub invariant-loop-at : goal.invariant-loop-at
invariant-loop-at g l = record {
  chain : IsChain l.arena l.at;
  same : slot_of (key_at l.arena.slots) (chain_of l.arena l.fn.first) l.key ≡ slot_of (key_at l.arena.slots) (chain_of l.arena l.at) l.key;
  walked : IsWalked (chain_of l.arena l.fn.first) l.last (chain_of l.arena l.at);
}

abbrev pub decreases-loop-at : goal.decreases-loop-at
decreases-loop-at g l = length (chain_of l.arena l.at)
