use Rattle.bpf_model.proofs.Prelude.{◌≡◌, ◌<◌, ◌^◌, inl, inr, sym, ◌∙◌, ap, subst, arith, IfSome, IfSome_then, compares}
use Rattle.scalar_domain.proofs.Prelude.{Counts, LeavesSome, relation_on}
use Rattle.scalar_domain.proofs.Edges.{narrow_compares}
use Rattle.scalar_domain.proofs.Pairs.{left_narrow}
use Rattle.scalar_domain.proofs.refine.refine_words.Goals as goal

pub returns-then-b-lt4294967296-clause-sound : goal.returns-then-b-lt4294967296-clause-sound
returns-then-b-lt4294967296-clause-sound c = λ x y p q h k e.
    let l : x < 2 ^ 32 = omega (arith, h.greatest, c.if-a-lt4294967296.true) in
    let m : y < 2 ^ 32 = omega (arith, k.greatest, c.if-b-lt4294967296.true) in
    c.refine_narrow.ensures.sound x y l m h k
    (sym (narrow_compares c.args.condition x y l m) ∙ sym (ap (λ s. compares s c.args.condition x y) c.in-Word32.is) ∙ e)

pub returns-in-Word64-clause-apart : goal.returns-in-Word64-clause-apart
returns-in-Word64-clause-apart c = λ k x s. c.refine_wide.ensures.apart k x

pub returns-in-Word64-clause-remains : goal.returns-in-Word64-clause-remains
returns-in-Word64-clause-remains c = λ f g. subst (λ s.
    IfSome c.refine_wide.result (LeavesSome (λ x y. compares s c.args.condition x y ≡ c.args.taken)
    (Counts (relation_on c.args.condition c.args.taken)) c.args.a c.args.b))
    (sym c.in-Word64.is) c.refine_wide.ensures.remains

pub returns-then-b-lt4294967296-clause-remains : goal.returns-then-b-lt4294967296-clause-remains
returns-then-b-lt4294967296-clause-remains c = λ f g.
    subst (λ s. IfSome c.refine_narrow.result (LeavesSome (λ x y. compares s c.args.condition x y ≡ c.args.taken)
    (Counts (relation_on c.args.condition c.args.taken)) c.args.a c.args.b)) (sym c.in-Word32.is)
    (IfSome_then c.refine_narrow.result c.refine_narrow.ensures.remains (λ p f h k. elim (f h k) [
      | inl e ↦ inl e
      | inr g ↦ inr (left_narrow c.args.condition c.args.taken c.args.a c.args.b c.if-a-lt4294967296.true
          c.if-b-lt4294967296.true g)
    ]))
