-- No run slot is occupied exactly where none is counted.
use Rattle.bpf_model.proofs.Prelude.{◌≡◌, zero, suc, List, [], ◌∷◌, Option, Some, None, refl, sym, arith, is_some, count_by, none-some, RunView}
use Rattle.bpf_model.specs.Replay.{AreFree}
use Rattle.model_laws.proofs.Tallies.{count-cons}

pub free-where-none : (runs : List (Option RunView)) → count_by is_some runs ≡ 0 → AreFree runs
free-where-none [] e r = refl
free-where-none (None ∷ runs) e zero = refl
free-where-none (None ∷ runs) e (suc r) = let c = count-cons is_some None runs in free-where-none runs (omega (arith, c, e)) r
free-where-none (Some v ∷ runs) e r = let c = count-cons is_some (Some v) runs in absurd (let z : ⊥ = omega (arith, c, e) in z)

pub none-where-free : (runs : List (Option RunView)) → AreFree runs → count_by is_some runs ≡ 0
none-where-free [] free = refl
none-where-free (None ∷ runs) free = let c = count-cons is_some None runs in let rest = none-where-free runs (λ r. free (suc r)) in omega (arith, c, rest)
none-where-free (Some v ∷ runs) free = absurd (none-some v (sym (free 0)))
