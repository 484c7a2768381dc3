-- What a result or a fault says of the machine's step.
use Rattle.bpf_model.proofs.Prelude.{Ok, Err, Result}
use Rattle.reference_store.specs.declared.fault.ModelFault.{ModelFault}
use Rattle.reference_store.specs.declared.fault.ModelFault.TheVariants as faults
use Rattle.reference_store.specs.Telling.{TellsResult}

pub tells-map : {A : Type 0} (P Q : A → Type 0) (S T : Type 0) (r : Result A ModelFault) → ((a : A) → P a → Q a) →
    (S → T) → TellsResult P S r → TellsResult Q T r
tells-map P Q S T (Ok a) f g h = f a h
tells-map P Q S T (Err faults.Stuck) f g h = g h
tells-map P Q S T (Err faults.Memory) f g h = tt
tells-map P Q S T (Err faults.OutOfRange) f g h = tt
tells-map P Q S T (Err faults.Early) f g h = tt
