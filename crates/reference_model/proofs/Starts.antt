-- Empty lists for each map, and run slots without a run, as a machine starts.
use Rattle.bpf_model.proofs.Prelude.{◌≡◌, ℕ, zero, suc, List, [], ◌∷◌, None, refl, ap, length, map, replicate, no_queues}
use Rattle.model_laws.proofs.Prelude.{MapShape}
use Rattle.reference_model.specs.declared.run.Loaded.{Loaded}
use Rattle.reference_model.specs.RunState.{runs_of}

pub same-for-each : (shapes : List MapShape) → replicate (length shapes) no_queues ≡ map (λ _. no_queues) shapes
same-for-each [] = refl
same-for-each (s ∷ shapes) = ap (λ l. no_queues ∷ l) (same-for-each shapes)

pub no-runs : (programs : List Loaded) (n : ℕ) → runs_of programs (replicate n None) ≡ replicate n None
no-runs programs zero = refl
no-runs programs (suc n) = ap (λ l. None ∷ l) (no-runs programs n)
