use Rattle.bpf_model.proofs.Prelude.{subst}
use Rattle.element_store.proofs.Prelude.{chain_of}
use Rattle.hash_index.specs.Chains.{StandsBehind}
use Rattle.hash_index.proofs.Steps.{before_in, cut_after, cut_first, stands_in}
use Rattle.hash_index.proofs.chain.cut.Goals as goal

pub next_of-rest-requires : goal.next_of-rest-requires
next_of-rest-requires c = c.requires.chain.taken c.args.slot (stands_in _ c.args.last c.args.slot c.requires.behind)

pub set_next-requires : goal.set_next-requires
set_next-requires c = c.requires.chain.taken c.in-Some.last
    (before_in _ c.in-Some.last c.args.slot (subst (λ o.
    StandsBehind (chain_of c.args.arena.now c.args.first) o c.args.slot) c.in-Some.is c.requires.behind)).0

pub returns-in-None : goal.returns-in-None
returns-in-None c = cut_first c.args.arena.now c.args.first c.args.slot c.next_of-rest.result c.requires.chain
    (subst (λ o. StandsBehind (chain_of c.args.arena.now c.args.first) o c.args.slot) c.in-None.is c.requires.behind)
    c.next_of-rest.ensures

pub returns-in-Some : goal.returns-in-Some
returns-in-Some c = cut_after c.args.arena.now c.set_next.new.self c.args.first c.in-Some.last c.args.slot
    c.next_of-rest.result c.requires.chain c.requires.once
    (subst (λ o. StandsBehind (chain_of c.args.arena.now c.args.first) o c.args.slot) c.in-Some.is c.requires.behind)
    c.next_of-rest.ensures c.set_next.ensures.new c.set_next.ensures.linked
