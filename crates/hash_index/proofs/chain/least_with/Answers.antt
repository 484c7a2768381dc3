use Rattle.bpf_model.proofs.Prelude.{sym, subst, option_copied}
use Rattle.hash_index.specs.Chains.{IsChain}
use Rattle.hash_index.proofs.Steps.{chain_step, chain_at, shorter}
use Rattle.hash_index.proofs.Least.{scan_step, scan_end}
use Rattle.hash_index.proofs.chain.least_with.Goals as goal

pub better-least-requires-clause-slot : goal.better-least-requires-clause-slot
better-least-requires-clause-slot c = (chain_step c.args.arena.now c.in-Some.slot
    (chain_at c.args.arena.now c.loop-at.at c.in-Some.slot c.loop-at.invariant.chain c.in-Some.is)).2.inside

pub next_of-at-requires : goal.next_of-at-requires
next_of-at-requires c = (chain_step c.args.arena.now c.in-Some.slot
    (chain_at c.args.arena.now c.loop-at.at c.in-Some.slot c.loop-at.invariant.chain c.in-Some.is)).2

pub loop-at-smaller : goal.loop-at-smaller
loop-at-smaller c = shorter c.args.arena.now c.loop-at.at c.next_of-at.result c.in-Some.slot c.loop-at.invariant.chain c.in-Some.is c.next_of-at.ensures

pub loop-at-preserved : goal.loop-at-preserved
loop-at-preserved c = record {
  chain = subst (IsChain c.args.arena.now) (sym c.next_of-at.ensures)
      (chain_step c.args.arena.now c.in-Some.slot (chain_at c.args.arena.now c.loop-at.at c.in-Some.slot
      c.loop-at.invariant.chain c.in-Some.is)).1;
  scan = scan_step c.args.arena.now (option_copied c.args.bound) c.args.first c.args.before c.loop-at.at
      c.next_of-at.result c.loop-at.least c.better-least.result c.in-Some.slot c.loop-at.invariant.chain c.in-Some.is
      c.next_of-at.ensures c.loop-at.invariant.scan c.better-least.ensures.least;
  inside = c.better-least.ensures.inside;
}

pub returns-clause-least : goal.returns-clause-least
returns-clause-least c xs f = scan_end c.args.arena.now (option_copied c.args.bound) c.args.first c.args.before
    c.loop-at.at c.loop-at.least c.in_default.is c.loop-at.invariant.scan xs f
