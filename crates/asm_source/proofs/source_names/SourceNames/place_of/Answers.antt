use Rattle.bpf_model.proofs.Prelude.{◌∙◌}
use Rattle.asm_source.proofs.source_names.SourceNames.place_of.Goals as goal

pub returns : goal.returns
returns c = rw (← c.self.view_is) (c.copied.ensures ∙ c.get.ensures.value ∙ c.self.invariant c.args.name.now)
