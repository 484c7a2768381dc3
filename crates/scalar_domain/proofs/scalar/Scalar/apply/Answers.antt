use Rattle.bpf_model.proofs.Prelude.{◌≡◌, ℕ, ◌+◌, ◌-◌, ◌*◌, ◌%◌, ◌^◌, sym, ◌∙◌, ap, ap₂, subst, arith, rules, bit_and, mod-eq_of_lt, alu}
use Rattle.scalar_domain.proofs.Prelude.{IsConstant, Masks}
use Rattle.std.proofs.lemmas.Grind.{common_steps}
use Rattle.bpf_model.specs.declared.opcode.Size.TheVariants.{Word32}
use Rattle.scalar_domain.proofs.Words.{narrow_lt}
use Rattle.scalar_domain.proofs.Forms.{word_difference}
use Rattle.scalar_domain.proofs.Constants.{sum_of_constants, difference_of_constants, mask_of_constants, shl_of_constants, move_of_constants}
use Rattle.scalar_domain.proofs.scalar.Scalar.apply.Goals as goal

pub returns-in-Some-Some-clause-floor : goal.returns-in-Some-Some-clause-floor
returns-in-Some-Some-clause-floor c =
    let u = c.in-Some-Some.x in
    let v = c.in-Some-Some.y in
    record {
      constant = λ x y h k. search rules;
      narrow = λ s.
          let e : c.alu.result ≡ alu Word32 c.args.op u v = c.alu.ensures ∙ ap (λ z. alu z c.args.op u v) s in
          omega (arith, c.constant.ensures.exact.greatest, e, narrow_lt c.args.op u v);
      wide = λ s. record {
        sum = λ o.
            let e : c.alu.result ≡ (u + v) % 2 ^ 64 = c.alu.ensures ∙ ap₂ (λ z op. alu z op u v) s o in
            sum_of_constants c.args.a c.args.b c.constant.result u v c.in-Some-Some.ensures c.in-Some-Some.ensures'
            (subst (IsConstant c.constant.result) e c.constant.ensures.exact) (c.constant.ensures.zeros ∙ e) (c.constant.ensures.ones ∙ e);
        difference = λ o.
            let e : c.alu.result ≡ (u + (2 ^ 64 - v)) % 2 ^ 64 = c.alu.ensures ∙ ap₂ (λ z op. alu z op u v) s o ∙ word_difference u v (omega arith) in
            difference_of_constants c.args.a c.args.b c.constant.result u v
            (omega (arith, c.in-Some-Some.ensures.least)) (omega arith) c.in-Some-Some.ensures
            c.in-Some-Some.ensures'
            (subst (IsConstant c.constant.result) e c.constant.ensures.exact) (c.constant.ensures.zeros ∙ e) (c.constant.ensures.ones ∙ e);
        mask = λ k o i.
            let e : c.alu.result ≡ bit_and u v = c.alu.ensures ∙ ap₂ (λ z op. alu z op u v) s o in
            let f : v ≡ k = sym c.in-Some-Some.ensures'.least ∙ i.least in
            subst (λ n. Masks n c.constant.result) f (mask_of_constants c.constant.result u v
            (subst (IsConstant c.constant.result) e c.constant.ensures.exact) (c.constant.ensures.zeros ∙ e));
        shift_left = λ k o i l.
            let f : v ≡ k = sym c.in-Some-Some.ensures'.least ∙ i.least in
            let g : v % 64 ≡ k = ap (λ n. n % 64) f ∙ mod-eq_of_lt l in
            let e : c.alu.result ≡ (u * 2 ^ k) % 2 ^ 64 = c.alu.ensures ∙ ap₂ (λ z op. alu z op u v) s o ∙ ap (λ (n : ℕ). (u * 2 ^ n) % 2 ^ 64) g in
            shl_of_constants c.args.a c.constant.result u k l c.in-Some-Some.ensures
            (subst (IsConstant c.constant.result) e c.constant.ensures.exact) (c.constant.ensures.zeros ∙ e);
        shift_right = λ k o i l. grind (arith, common_steps);
        remainder = λ k o i p. grind (arith, common_steps);
        move = λ o.
            let e : c.alu.result ≡ v = c.alu.ensures ∙ ap₂ (λ z op. alu z op u v) s o in
            move_of_constants c.args.b c.constant.result v c.in-Some-Some.ensures'
            (subst (IsConstant c.constant.result) e c.constant.ensures.exact) (c.constant.ensures.zeros ∙ e) (c.constant.ensures.ones ∙ e);
      };
    }

pub returns-in_default-clause-floor : goal.returns-in_default-clause-floor
returns-in_default-clause-floor c =
    let r = c.apply_sets.ensures in
    record {
      constant = λ x y h k. grind (arith, common_steps);
      narrow = r.narrow;
      wide = rw (c.copied.ensures, c.copied-in_default.ensures) at r.wide;
    }
