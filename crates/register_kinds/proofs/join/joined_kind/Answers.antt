use Rattle.register_kinds.proofs.Prelude.{IsHull}
use Rattle.register_kinds.proofs.Pairs.{maybe_joined, numbers_joined, contexts_joined, values_joined}
use Rattle.register_kinds.proofs.join.joined_kind.Goals as goal

pub returns-in-Num-Num-clause-joins : goal.returns-in-Num-Num-clause-joins
returns-in-Num-Num-clause-joins c =
    let h = c.in-Num-Num in
    let e = c.join.ensures in
    let hull : IsHull h.s h.t c.join.result = record { least = e.least; greatest = e.greatest; zeros = e.zeros; ones = e.ones } in
    numbers_joined c.args.top c.args.pairs.now.items c.args.a c.args.b h.s h.t c.join.result e.left e.right hull h.is-0 h.is-1

pub returns-in-Ctx-Ctx-clause-joins : goal.returns-in-Ctx-Ctx-clause-joins
returns-in-Ctx-Ctx-clause-joins c =
    let h = c.in-Ctx-Ctx in
    let e = c.join-in-Ctx-Ctx.ensures in
    let hull : IsHull h.s h.t c.join-in-Ctx-Ctx.result = record { least = e.least; greatest = e.greatest; zeros = e.zeros; ones = e.ones } in
    contexts_joined c.args.top c.args.pairs.now.items c.args.a c.args.b h.s h.t c.join-in-Ctx-Ctx.result e.left e.right hull h.is-0 h.is-1

pub returns-in-Value-Value-clause-joins : goal.returns-in-Value-Value-clause-joins
returns-in-Value-Value-clause-joins c =
    let h = c.in-Value-Value in
    let e = c.join-in-Value-Value.ensures in
    let hull : IsHull h.s h.t c.join-in-Value-Value.result = record { least = e.least; greatest = e.greatest; zeros = e.zeros; ones = e.ones } in
    values_joined c.args.top c.args.pairs.now.items c.args.a c.args.b h.s h.t c.join-in-Value-Value.result e.left
    e.right hull h.m h.n h.is-0 h.is-1 c.if-m-n-2.true

pub returns-in-MaybeNull-MaybeNull-clause-joins : goal.returns-in-MaybeNull-MaybeNull-clause-joins
returns-in-MaybeNull-MaybeNull-clause-joins c =
    let h = c.in-MaybeNull-MaybeNull in
    maybe_joined c.args.top c.join_identities.new.pairs.items c.args.a c.args.b h.m h.n h.x h.y
    c.join_identities.result h.is-0 h.is-1 c.if-m-n-3.true c.join_identities.ensures.joins
