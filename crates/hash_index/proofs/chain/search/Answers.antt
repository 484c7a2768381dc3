use Rattle.bpf_model.proofs.Prelude.{◌∙◌, refl, sym, same_key-false}
use Rattle.element_store.proofs.Prelude.{key_at}
use Rattle.hash_index.proofs.Steps.{chain_step, chain_at, rest_at, searched, shorter, walked_found, walked_on}
use Rattle.hash_index.proofs.chain.search.Goals as goal

pub is_at-requires-clause-slot : goal.is_at-requires-clause-slot
is_at-requires-clause-slot g c = (chain_step c.args.arena.now c.in-Some.slot
    (chain_at c.args.arena.now c.loop-at.at c.in-Some.slot c.loop-at.invariant.chain c.in-Some.is)).2.inside

pub next_of-at-requires : goal.next_of-at-requires
next_of-at-requires g c = (chain_step c.args.arena.now c.in-Some.slot
    (chain_at c.args.arena.now c.loop-at.at c.in-Some.slot c.loop-at.invariant.chain c.in-Some.is)).2

pub loop-at-smaller : goal.loop-at-smaller
loop-at-smaller g c = shorter c.args.arena.now c.loop-at.at c.next_of-at.result c.in-Some.slot c.loop-at.invariant.chain c.in-Some.is c.next_of-at.ensures

pub loop-at-preserved : goal.loop-at-preserved
loop-at-preserved g c =
    let s = searched c.args.arena.now c.args.first c.loop-at.at c.next_of-at.result c.in-Some.slot c.args.key.now
    c.loop-at.invariant.chain c.in-Some.is c.next_of-at.ensures
    (λ e. same_key-false c.args.key.now (key_at c.args.arena.now.slots c.in-Some.slot)
    (sym c.is_at.ensures ∙ c.if-is_at.false) (sym e)) c.loop-at.invariant.same in
    record {
      chain = s.0;
      same = s.1;
      walked = walked_on _ c.loop-at.last c.in-Some.slot _ _
          (rest_at c.args.arena.now c.loop-at.at c.next_of-at.result c.in-Some.slot c.loop-at.invariant.chain
          c.in-Some.is c.next_of-at.ensures) c.loop-at.invariant.walked;
    }

pub returns-then-is_at-clause-behind : goal.returns-then-is_at-clause-behind
returns-then-is_at-clause-behind g c = walked_found _ c.loop-at.last c.in-Some.slot _ _
    (rest_at c.args.arena.now c.loop-at.at _ c.in-Some.slot c.loop-at.invariant.chain c.in-Some.is refl)
    c.loop-at.invariant.walked
