use Rattle.bpf_model.proofs.Prelude.{◌∙◌, take-replicate}
use Rattle.bpf_model.specs.declared.limits.TheConstants.{VALUE_BYTES}
use Rattle.reference_store.proofs.array_elements.zeros.Goals as goal

pub returns-clause-value : goal.returns-clause-value
returns-clause-value c = c.array_of.ensures ∙ take-replicate c.args.len VALUE_BYTES 0 c.if-len-gt-VALUE_BYTES.false
