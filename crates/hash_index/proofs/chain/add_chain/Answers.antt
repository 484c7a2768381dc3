use Rattle.bpf_model.proofs.Prelude.{◌≡◌, ◌∙◌, ◌∷◌, ◌++◌, [], ℕ, List, length, sym, ap, subst, append_assoc}
use Rattle.element_store.proofs.Prelude.{link_at, chain_of}
use Rattle.std.proofs.Common.{append-nil}
use Rattle.hash_index.specs.Chains.{IsChain}
use Rattle.hash_index.proofs.Steps.{chain_step, chain_at, rest_at, shorter, walk_none}
use Rattle.hash_index.proofs.chain.add_chain.Goals as goal

pub next_of-at-requires : goal.next_of-at-requires
next_of-at-requires c = (chain_step c.args.arena.now c.in-Some.slot
    (chain_at c.args.arena.now c.loop-at.at c.in-Some.slot c.loop-at.invariant.chain c.in-Some.is)).2

pub loop-at-smaller : goal.loop-at-smaller
loop-at-smaller c = shorter c.args.arena.now c.loop-at.at c.next_of-at.result c.in-Some.slot c.loop-at.invariant.chain c.in-Some.is c.next_of-at.ensures

pub loop-at-preserved : goal.loop-at-preserved
loop-at-preserved c =
    let a = c.args.arena.now in
    let rest = rest_at a c.loop-at.at c.next_of-at.result c.in-Some.slot c.loop-at.invariant.chain c.in-Some.is c.next_of-at.ensures in
    record {
      chain = subst (IsChain a) (sym c.next_of-at.ensures)
          (chain_step a c.in-Some.slot (chain_at a c.loop-at.at c.in-Some.slot c.loop-at.invariant.chain c.in-Some.is)).1;
      all = ap (λ (l : List ℕ). l ++ chain_of a c.next_of-at.result) c.in_ok-push.ensures.items
          ∙ (append_assoc c.loop-at.slots.items (c.in-Some.slot ∷ []) (chain_of a c.next_of-at.result)
          ∙ (ap (λ (l : List ℕ). c.loop-at.slots.items ++ l) (sym rest) ∙ c.loop-at.invariant.all));
    }

pub returns : goal.returns
returns c =
    let a = c.args.arena.now in
    let end : chain_of a c.loop-at.at ≡ [] = ap (chain_of a) c.in_default.is ∙ walk_none (length a.slots) (link_at a.links) in
    sym (append-nil c.loop-at.slots.items) ∙ (ap (λ (l : List ℕ). c.loop-at.slots.items ++ l) (sym end) ∙ c.loop-at.invariant.all)
