use Rattle.bpf_model.proofs.Prelude.{◌≡◌, ◌≤◌, ℕ, zero, suc, sym, subst, refl, [], ◌∷◌, arith, slice_get, Some, none-some, same_Some}
use Rattle.machine.proofs.Prelude.{AreHashMaps}
use Rattle.bpf_model.specs.declared.limits.MapKind.TheVariants.{Hash}
use Rattle.bpf_model.specs.declared.limits.MapShape.{MapShape}
use Rattle.system_tests.proofs.standing.verified_of.Goals as goal

-- a list of one map, which is a hash map that has room
one-hash : (shape : MapShape) → (shape.kind ≡ Hash) × (1 ≤ shape.entries) → AreHashMaps (shape ∷ [])
one-hash shape h zero x is = subst (λ (s : MapShape). (s.kind ≡ Hash) × (1 ≤ s.entries)) (same_Some shape x is) h
one-hash shape h (suc k) x is = absurd (none-some x is)

pub returns-clause-hash : goal.returns-clause-hash
returns-clause-hash c = subst AreHashMaps (sym c.in_ok-verified.ensures.shapes) (one-hash _ (refl, omega arith))
