use Rattle.bpf_model.proofs.Prelude.{◌<◌, ◌≤◌, Some, None, arith, sym, subst, IfSome, IfNone, index_key, index_below}
use Rattle.model_laws.proofs.Prelude.{MAX_ENTRIES}
use Rattle.hash_index.specs.Order.{IsNextOf, NoneAbove}
use Rattle.model_laws.proofs.Indices.{index-got}
use Rattle.map_kinds.proofs.InOrder.{IsBegun, all-found, begun, fewer-left, goes-on, index-next}
use Rattle.map_kinds.proofs.index_key.indices_in_order.Goals as goal

pub loop-next-init : goal.loop-next-init
loop-next-init c = subst (λ l. IsBegun (index_below c.args.limit) index_key l c.next_index-next.result) (sym c.in_ok-indices.ensures.items)
    (begun (index_below c.args.limit) index_key c.next_index-next.result
    (index-next c.args.limit None c.next_index-next.result c.requires c.next_index-next.ensures.some
    c.next_index-next.ensures.above c.next_index-next.ensures.least) c.next_index-next.ensures.none)

pub index_key-requires : goal.index_key-requires
index_key-requires c =
    let next = subst (λ o. IfSome o (IsNextOf (index_below c.args.limit) index_key c.loop-next.invariant.bound)) c.in-Some.is c.loop-next.invariant.more in
    let less : c.in-Some.index < c.args.limit = (index-got c.args.limit (index_key c.in-Some.index) c.in-Some.index next.linked).0 in
    let few : c.args.limit ≤ MAX_ENTRIES = c.requires in
    omega arith

pub loop-next-preserved : goal.loop-next-preserved
loop-next-preserved c =
    let i = c.in-Some.index in
    let after = c.next_index-next-in-Some.result in
    let found = index-next c.args.limit (Some c.index_key.result) after c.requires c.next_index-next-in-Some.ensures.some
    c.next_index-next-in-Some.ensures.above c.next_index-next-in-Some.ensures.least in
    subst (λ l. IsBegun (index_below c.args.limit) index_key l after) (sym c.in_ok-push.ensures.items)
    (goes-on (index_below c.args.limit) index_key c.loop-next.indices.items c.loop-next.next after i c.in-Some.is c.loop-next.invariant
    (subst (λ k. IfSome after (IsNextOf (index_below c.args.limit) index_key (Some k))) c.index_key.ensures found)
    (subst (λ k. IfNone after (NoneAbove (index_below c.args.limit) (Some k))) c.index_key.ensures c.next_index-next-in-Some.ensures.none))

pub loop-next-smaller : goal.loop-next-smaller
loop-next-smaller c =
    let after = c.next_index-next-in-Some.result in
    let found = index-next c.args.limit (Some c.index_key.result) after c.requires c.next_index-next-in-Some.ensures.some
    c.next_index-next-in-Some.ensures.above c.next_index-next-in-Some.ensures.least in
    fewer-left (index_below c.args.limit) index_key c.loop-next.next after c.in-Some.index c.in-Some.is
    (subst (λ k. IfSome after (IsNextOf (index_below c.args.limit) index_key (Some k))) c.index_key.ensures found)

pub returns : goal.returns
returns c = all-found (index_below c.args.limit) index_key c.loop-next.indices.items c.loop-next.next c.in_default.is c.loop-next.invariant
