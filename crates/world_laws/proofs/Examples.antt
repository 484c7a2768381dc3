-- A world with a program that looks a key up is ready.
use Rattle.bpf_model.proofs.Prelude.{ℕ, zero, suc, ◌^◌, ◌<◌, arith, [], ◌∷◌, subst, AllByRecursion, none-some, same_Some, FitsInsn}
use Rattle.model_laws.proofs.Prelude.{lookup_and_load, lookup_program, example_shape}
use Rattle.scalar_domain.proofs.Prelude.{Holds}
use Rattle.world_laws.proofs.Prelude.{IsRealProgram, AreRealPrograms, IsReadyWorld, example_world}
use Rattle.std.proofs.Math.Facts.{sfits_lit}
use Rattle.scalar_domain.specs.declared.scalar.Scalar.{Scalar}
use Rattle.plan_laws.proofs.Example.{safe-one}
use Rattle.world_laws.proofs.Codes.{all-get}
use Rattle.world_laws.proofs.Worlds.{starts_ready}

code-real : AllByRecursion FitsInsn lookup_and_load
code-real = (
  (omega arith, sfits_lit tt),
  (
    sfits_lit tt,
    (
      (omega arith, sfits_lit tt, sfits_lit tt),
      (
        (omega arith, omega arith),
        (
          (omega arith, sfits_lit tt),
          (
            (omega arith, sfits_lit tt),
            (
              sfits_lit tt,
              (
                (omega arith, sfits_lit tt, sfits_lit tt),
                ((omega arith, omega arith, sfits_lit tt), (sfits_lit tt, ((omega arith, omega arith), (tt, tt)))),
              ),
            ),
          ),
        ),
      ),
    ),
  ),
)

one-program : AreRealPrograms (lookup_program ∷ [])
one-program zero program e = subst IsRealProgram (same_Some lookup_program program e)
    (record { code = all-get FitsInsn lookup_and_load code-real; maps = omega arith })
one-program (suc p) program e = absurd (none-some program e)

module _ (any : Scalar) (all : (n : ℕ) → n < 2 ^ 64 → Holds any n) where
  pub example_ready : IsReadyWorld example_world
  example_ready = starts_ready ((109 ∷ []) ∷ []) (example_shape ∷ []) (lookup_program ∷ []) (omega arith) (safe-one any all) one-program
