use Rattle.bpf_model.proofs.Prelude.{subst, ◌∙◌, arith, slice_index_or, get_or_default, get_or_read}
use Rattle.register_kinds.proofs.Prelude.{kind_of, kind_at, JoinsKind}
use Rattle.register_kinds.specs.declared.kind.RegKind.{RegKind}
use Rattle.register_kinds.specs.declared.kind.RegKind.TheVariants.{Unwritten}
use Rattle.register_kinds.proofs.Pairs.{kinds_more, kinds_all}
use Rattle.register_kinds.proofs.Changes.{mapped_kept}
use Rattle.register_kinds.proofs.join.join_kinds.Goals as goal

pub loop-i-preserved : goal.loop-i-preserved
loop-i-preserved c =
    let i = c.loop-i.i in
    let was = c.loop-i.invariant in
    let k = c.index-kinds-i.result in
    let new = c.join_into.new.kind in
    let pairs = c.join_into.new.pairs.items in
    let e = get_or_default c.loop-i.kinds i k Unwritten (omega arith) ∙ was.rest i (omega arith) in
    let f = get_or_read c.args.others.now i c.index-others-i.result (omega arith) c.index-others-i.is Unwritten in
    record {
      done = kinds_more c.args.top i c.loop-i.pairs.items pairs c.loop-i.kinds
          c.args.kinds.now c.args.others.now new (omega arith) c.join_into.ensures.grows was.done
          (subst (λ (k : RegKind). JoinsKind c.args.top pairs (kind_of k) (kind_at c.args.others.now i) (kind_of new)) e
          (subst (λ (x : RegKind). JoinsKind c.args.top pairs (kind_of (slice_index_or c.loop-i.kinds i k))
          (kind_of x) (kind_of new)) f c.join_into.ensures.joins));
      rest = mapped_kept RegKind Unwritten i c.loop-i.kinds c.args.kinds.now new was.rest;
      table = c.join_into.ensures.table;
      grows = λ k p at. c.join_into.ensures.grows k p (was.grows k p at);
      few = omega (arith, c.join_into.ensures.few, was.few);
    }

pub returns-clause-joins : goal.returns-clause-joins
returns-clause-joins c = kinds_all c.args.top c.loop-i.pairs.items c.args.kinds.now c.args.others.now c.loop-i.kinds
    (omega arith) c.requires.long (λ r h. c.loop-i.invariant.done r (omega arith))

pub returns-clause-few : goal.returns-clause-few
returns-clause-few c = omega (arith, c.loop-i.invariant.few)
