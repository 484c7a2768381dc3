use Rattle.bpf_model.proofs.Prelude.{ℕ, ◌%◌, ◌^◌, ◌≤◌, ◌<◌, ap, sym, ◌∙◌, subst, arith, trailing_zeros, w64, bit_at-trailing_zeros}
use Rattle.scalar_domain.proofs.Prelude.{Within}
use Rattle.std.proofs.lemmas.Nat.Bits.{ones_shl}
use Rattle.scalar_domain.proofs.Multiples.{lowest_zero, most_zero, from_low_zero, only_zero}
use Rattle.scalar_domain.proofs.sums.ones_from.Goals as goal

pub returns-then-mask-eq0-clause-multiples : goal.returns-then-mask-eq0-clause-multiples
returns-then-mask-eq0-clause-multiples c = λ n l h. only_zero n l (h 64 (omega arith) (ap (λ x. x % 2 ^ 64) c.if-mask-eq0.true))

module _ (n : ℕ) (p : 0 < n) (l : n < 2 ^ 64) where
  within : trailing_zeros w64 n ≤ 64
  within = omega (arith, (bit_at-trailing_zeros w64 n p l).0)

pub returns-else-mask-eq0-clause-multiples : goal.returns-else-mask-eq0-clause-multiples
returns-else-mask-eq0-clause-multiples c = λ x k h.
    let n = c.args.mask in
    let p : 0 < n = omega arith in
    let l : n < 2 ^ 64 = omega arith in
    let t = trailing_zeros w64 n in
    subst (Within x) (sym (ones_shl 64 t (within n p l))) (from_low_zero x t (within n p l) k (h t (within n p l) (lowest_zero n p l)))

pub returns-else-mask-eq0-clause-zeros : goal.returns-else-mask-eq0-clause-zeros
returns-else-mask-eq0-clause-zeros c = λ t h e.
    let n = c.args.mask in
    let p : 0 < n = omega arith in
    let l : n < 2 ^ 64 = omega arith in
    ap (λ x. x % 2 ^ t) (ones_shl 64 (trailing_zeros w64 n) (within n p l)) ∙ most_zero n t p l e
