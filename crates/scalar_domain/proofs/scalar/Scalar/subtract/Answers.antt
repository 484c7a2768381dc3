use Rattle.bpf_model.proofs.Prelude.{◌≡◌, ℕ, ◌+◌, ◌-◌, ◌%◌, ◌^◌, ◌<◌, subst, arith}
use Rattle.scalar_domain.proofs.Prelude.{Holds}
use Rattle.scalar_domain.proofs.scalar.Scalar.subtract.Goals as goal

turned : (x y : ℕ) → y < 2 ^ 64 → x + (2 ^ 64 - 1 - y) + 1 ≡ x + (2 ^ 64 - y)
turned x y p = omega arith

pub returns-clause-sound : goal.returns-clause-sound
returns-clause-sound c = λ x y p q h k.
    subst (λ n. Holds c.sum.result (n % 2 ^ 64)) (turned x y q) (c.sum.ensures.sound x (2 ^ 64 - 1 - y) h (c.complement.ensures.sound y q k))
