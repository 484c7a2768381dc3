use Rattle.bpf_model.proofs.Prelude.{◌≡◌, ℕ, ◌*◌, ◌%◌, ◌^◌, sym, ◌∙◌, ap, subst, arith, mod_below, pow_pos, mod-eq_of_lt}
use Rattle.scalar_domain.proofs.Prelude.{Holds, ShiftsLeft}
use Rattle.scalar_domain.proofs.scalar.Scalar.shift_left_by.Goals as goal

pub returns-in-Some-clause-precise : goal.returns-in-Some-clause-precise
returns-in-Some-clause-precise c = λ k i l.
    let e : c.in-Some.k ≡ k = sym c.in-Some.ensures.least ∙ i.least in
    let f : c.in-Some.k % c.args.size ≡ k = ap (λ n. n % c.args.size) e ∙ mod-eq_of_lt l in
    subst (λ n. ShiftsLeft n c.args.self c.shift_left.result) f c.shift_left.ensures.precise

pub returns-in-None-clause-sound : goal.returns-in-None-clause-sound
returns-in-None-clause-sound c = λ x y p h k. c.unknown.ensures.sound _ (mod_below (x * 2 ^ (y % c.args.size)) (2 ^ 64) (pow_pos 64))

pub returns-in-Some-clause-sound : goal.returns-in-Some-clause-sound
returns-in-Some-clause-sound c = λ x y p h k.
    let e : c.in-Some.k ≡ y = omega (arith, c.in-Some.ensures.least, c.in-Some.ensures.greatest, k.least, k.greatest) in
    subst (λ (n : ℕ). Holds c.shift_left.result ((x * 2 ^ (n % c.args.size)) % 2 ^ 64)) e (c.shift_left.ensures.sound x p h)
