use Rattle.bpf_model.proofs.Prelude.{subst}
use Rattle.effects.proofs.Prelude.{IsReadByLoad}
use Rattle.effects.specs.declared.reads.Reads.{Reads}
use Rattle.effects.proofs.reads.Reads.region.Goals as goal

pub returns-in-Context : goal.returns-in-Context
returns-in-Context c = λ a width from ctx_len shapes h.
    let x = subst (λ (r : Reads). IsReadByLoad r a width from ctx_len shapes) c.in-Context.is h in
    (x.offsets, x.base)

pub returns-in-Value : goal.returns-in-Value
returns-in-Value c = λ a width from ctx_len shapes h.
    let x = subst (λ (r : Reads). IsReadByLoad r a width from ctx_len shapes) c.in-Value.is h in
    (x.offsets, x.base)
