use Rattle.bpf_model.proofs.Prelude.{sym, ◌∙◌, ap, subst, arith, w64, operate}
use Rattle.scalar_domain.proofs.Prelude.{Holds, unsigned_form}
use Rattle.scalar_domain.proofs.Forms.{wide_same}
use Rattle.scalar_domain.proofs.apply.apply_wide.Goals as goal

pub returns-then-b : goal.returns-then-b
returns-then-b c =
    let r = c.apply_unsigned.ensures in
    let w = c.without_sign.ensures in
    record {
      sound = λ x y p q h k.
          subst (Holds c.apply_unsigned.result)
          (ap (λ o. operate w64 o x y) w ∙ sym (wide_same c.args.op x y (omega (arith, h.greatest, c.if-a.true)) (omega (arith, k.greatest, c.if-b.true))))
          (r.sound x y p q h k);
      floor = record {
        sum = λ e. r.floor.sum (w ∙ ap unsigned_form e);
        difference = λ e. r.floor.difference (w ∙ ap unsigned_form e);
        mask = λ k e. r.floor.mask k (w ∙ ap unsigned_form e);
        shift_left = λ k e. r.floor.shift_left k (w ∙ ap unsigned_form e);
        shift_right = λ k e. r.floor.shift_right k (w ∙ ap unsigned_form e);
        remainder = λ k e. r.floor.remainder k (w ∙ ap unsigned_form e);
        move = λ e. r.floor.move (w ∙ ap unsigned_form e);
      };
    }
