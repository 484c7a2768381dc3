use Rattle.bpf_model.proofs.Prelude.{rules, subst}
use Rattle.register_kinds.proofs.Prelude.{IsHull, JoinsKind, kind_of}
use Rattle.register_kinds.specs.declared.kind.RegKind.{RegKind}
use Rattle.register_kinds.proofs.Pairs.{joins_same, numbers_joined}
use Rattle.register_kinds.proofs.join.join_into.Goals as goal

pub returns-then-is_same-clause-joins : goal.returns-then-is_same-clause-joins
returns-then-is_same-clause-joins c =
    let kind = c.args.kind.now in
    subst (λ (k : RegKind). JoinsKind c.args.top c.args.pairs.now.items (kind_of kind) (kind_of k) (kind_of kind))
    (c.is_same.ensures.same (search rules))
    (joins_same c.args.top c.args.pairs.now.items (kind_of kind) c.requires.below.0)

pub returns-in-Num-Num-clause-joins : goal.returns-in-Num-Num-clause-joins
returns-in-Num-Num-clause-joins c =
    let h = c.in-Num-Num in
    let e = c.join.ensures in
    let hull : IsHull h.s h.t c.join.result = record { least = e.least; greatest = e.greatest; zeros = e.zeros; ones = e.ones } in
    numbers_joined c.args.top c.args.pairs.now.items c.args.kind.now c.args.other.now h.s h.t c.join.result e.left e.right hull h.is-0 h.is-1
