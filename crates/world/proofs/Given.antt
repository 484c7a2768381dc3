-- A program that is handed out is bound to the maps, as all are.
use Rattle.bpf_model.proofs.Prelude.{◌≡◌, ℕ, List, Option, Some, None, Bor, sym, slice_get, option_copied, IfSome}
use Rattle.model_laws.proofs.Prelude.{MapShape}
use Rattle.world.proofs.Prelude.{AreProgramsBound, IsBound}
use Rattle.world.specs.declared.kept.loaded.Loaded.{Loaded}

pub program-bound : (shapes : List MapShape) (programs : List Loaded) → AreProgramsBound shapes programs →
    (p : ℕ) (o : Option (Bor Loaded)) → option_copied o ≡ slice_get programs p → IfSome o (λ l. IsBound shapes l.now)
program-bound shapes programs bound p None e = tt
program-bound shapes programs bound p (Some l) e = bound p l.now (sym e)
