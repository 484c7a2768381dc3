use Rattle.bpf_model.proofs.Prelude.{◌≡◌, ℕ, ap, subst, sym, ◌∙◌, arith, get_or_read, get_or_past}
use Rattle.register_kinds.proofs.Prelude.{kind_of, kind_at, learnt_kind, IsBelow}
use Rattle.register_kinds.specs.declared.kind.RegKind.{RegKind}
use Rattle.register_kinds.specs.declared.kind.RegKind.TheVariants.{Unwritten}
use Rattle.register_kinds.proofs.Changes.{mapped_more, mapped_kept, mapped_all, learnt_unwritten}
use Rattle.register_kinds.proofs.learn.learn_kinds.Goals as goal

pub loop-i-preserved : goal.loop-i-preserved
loop-i-preserved c =
    let i = c.loop-i.i in
    let e = get_or_read c.loop-i.kinds i c.index-kinds-i.result (omega arith) c.index-kinds-i.is Unwritten ∙ c.loop-i.invariant.rest i (omega arith) in
    record {
      done = mapped_more RegKind Unwritten i c.loop-i.kinds c.learn_kind.result
          (λ r k. kind_of k ≡ learnt_kind c.args.lesson (kind_at c.args.kinds.now r)) (omega arith)
          c.loop-i.invariant.done
          (c.learn_kind.ensures.kind ∙ ap (λ k. learnt_kind c.args.lesson (kind_of k)) e);
      below = mapped_more RegKind Unwritten i c.loop-i.kinds c.learn_kind.result
          (λ r k. (top : ℕ) → IsBelow top (kind_at c.args.kinds.now r) → IsBelow top (kind_of k)) (omega arith)
          c.loop-i.invariant.below
          (λ top b. c.learn_kind.ensures.below top (subst (λ k. IsBelow top (kind_of k)) (sym e) b));
      rest = mapped_kept RegKind Unwritten i c.loop-i.kinds c.args.kinds.now c.learn_kind.result c.loop-i.invariant.rest;
    }

pub returns-clause-kinds : goal.returns-clause-kinds
returns-clause-kinds c = mapped_all RegKind Unwritten c.loop-i.i c.loop-i.kinds
    (λ r k. kind_of k ≡ learnt_kind c.args.lesson (kind_at c.args.kinds.now r)) (omega arith) c.loop-i.invariant.done
    (λ k h. learnt_unwritten c.args.lesson ∙ sym (ap (λ k. learnt_kind c.args.lesson (kind_of k)) (get_or_past c.args.kinds.now k Unwritten (omega arith))))
