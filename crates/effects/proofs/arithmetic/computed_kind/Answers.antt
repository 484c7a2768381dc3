use Rattle.bpf_model.proofs.Prelude.{sym, ap, subst, ◌∙◌, inl, inr, IfOk-weaker}
use Rattle.effects.proofs.Prelude.{IsNumbers}
use Rattle.model_laws.proofs.Prelude.{AluOp}
use Rattle.plan_laws.proofs.Prelude.{Num}
use Rattle.register_kinds.proofs.Prelude.{kind_of, state_of}
use Rattle.scalar_domain.proofs.Prelude.{KeepsFloor}
use Rattle.register_kinds.proofs.KindLaws.{kind_is}
use Rattle.register_kinds.proofs.Results.{same_Ok}
use Rattle.effects.proofs.Combining.{moves_compute, others_compute}
use Rattle.effects.proofs.arithmetic.computed_kind.Goals as goal

pub returns-in_ok-operand-in-Move-clause-sound : goal.returns-in_ok-operand-in-Move-clause-sound
returns-in_ok-operand-in-Move-clause-sound c = IfOk-weaker c.copied.result _ _
    (λ k f. moves_compute c.args.size c.args.op c.args.dst c.args.src.now (state_of c.args.state.now)
    (kind_of c.in_ok-operand-in-Move.field-0) (kind_of k) c.in-Move.is c.in_ok-operand-in-Move.ensures.value f)
    c.copied.ensures.sound

pub returns-in_ok-operand-in-Move-clause-below : goal.returns-in_ok-operand-in-Move-clause-below
returns-in_ok-operand-in-Move-clause-below c = IfOk-weaker c.copied.result _ _
    (λ k f top b. f top (c.in_ok-operand-in-Move.ensures.below top b)) c.copied.ensures.below

pub returns-in_ok-y-in_default : goal.returns-in_ok-y-in_default
returns-in_ok-y-in_default c = record {
  sound = IfOk-weaker c.combined.result _ _
      (λ k f. others_compute c.args.size c.args.op c.args.dst c.args.src.now c.args.state.now c.in_ok-x-in_default.x
      (kind_of c.in_ok-y-in_default.y) (kind_of k) c.in_ok-x-in_default.ensures.value
      c.in_ok-y-in_default.ensures.value f) c.combined.ensures.sound;
  floor = IfOk-weaker c.combined.result _ _
      (λ k f a b reads e. elim reads [
        | inl move ↦ absurd (c.in_default.not-Move move)
        | inr x ↦ f a b (ap kind_of (sym c.in_ok-x-in_default.ensures.value) ∙ x) (sym c.in_ok-y-in_default.ensures.kind ∙ e)
      ]) c.combined.ensures.floor;
  below = IfOk-weaker c.combined.result _ _ (λ k f top b. f top) c.combined.ensures.below;
  numbers = λ reads src. elim reads [
    | inl e ↦ absurd (c.in_default.not-Move e)
    | inr p ↦
        let y = c.in_ok-y-in_default.ensures.numbers src in
        c.combined.ensures.numbers p.0 y.0 (sym c.in_ok-x-in_default.ensures.value ∙ kind_is _ (Num p.0) p.1) (same_Ok _ _ y.1)
  ];
  copies = λ s op size src w. absurd (c.in_default.not-Move op);
  frame = λ m at imm op size src x l h s.
      let y = c.in_ok-y-in_default.ensures.operand.number imm src in
      c.combined.ensures.frame m at imm y.0 size op (sym c.in_ok-x-in_default.ensures.value ∙ x) (same_Ok _ _ y.1) y.2 l h s;
}

pub returns-in_ok-operand-in-Move-clause-numbers : goal.returns-in_ok-operand-in-Move-clause-numbers
returns-in_ok-operand-in-Move-clause-numbers c = λ reads src.
    let y = c.in_ok-operand-in-Move.ensures.numbers src in
    c.copied.ensures.numbers y.0 (same_Ok _ _ y.1)

pub returns-in_ok-operand-in-Move-clause-floor : goal.returns-in_ok-operand-in-Move-clause-floor
returns-in_ok-operand-in-Move-clause-floor c = IfOk-weaker c.copied.result _ _
    (λ k f a b reads e. subst (λ (op : AluOp). IsNumbers (KeepsFloor c.args.size op a b) (kind_of k))
    (sym c.in-Move.is) (f a b (sym c.in_ok-operand-in-Move.ensures.kind ∙ e))) c.copied.ensures.floor
