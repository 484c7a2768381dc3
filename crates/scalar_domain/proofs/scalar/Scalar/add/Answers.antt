use Rattle.bpf_model.proofs.Prelude.{◌≡◌, ℕ, ◌+◌, ◌%◌, ◌^◌, sym, ◌∙◌, subst, arith}
use Rattle.scalar_domain.proofs.Prelude.{Holds}
use Rattle.scalar_domain.proofs.Multiples.{low_zero}
use Rattle.scalar_domain.proofs.Carries.{zero_sum}
use Rattle.scalar_domain.proofs.scalar.Scalar.add.Goals as goal

plain : (x y : ℕ) → x + y + 0 ≡ x + y
plain x y = omega arith

pub returns-clause-sound : goal.returns-clause-sound
returns-clause-sound c = λ x y p q h k. subst (λ n. Holds c.sum.result (n % 2 ^ 64)) (plain x y) (c.sum.ensures.sound x y h k)

pub returns-clause-precise : goal.returns-clause-precise
returns-clause-precise c =
    let a = c.args.self in
    let b = c.args.other in
    record {
      least = λ l. omega (arith, (c.sum.ensures.inside (omega (arith, l))).0);
      greatest = λ l. omega (arith, (c.sum.ensures.inside (omega (arith, l))).1);
      zeros = λ t l e f.
          let p = low_zero a.must a.may t a.consistent e in
          let q = low_zero b.must b.may t b.consistent f in
          zero_sum a.must b.must c.sum.result.must c.sum.result.may t l p q c.sum.ensures.ones
          (c.sum.ensures.low t l (e ∙ sym p) (f ∙ sym q));
      low = c.sum.ensures.low;
    }
