use Rattle.bpf_model.proofs.Prelude.{◌∙◌, ap, true, slice_set}
use Rattle.element_store.proofs.RunWords.{flags-set}
use Rattle.element_store.proofs.run_set.RunSet.insert.Goals as goal

pub returns : goal.returns
returns c = flags-set c.self.inside.words c.args.run c.self.told c.requires ∙ ap (λ fs. slice_set fs c.args.run true) c.self.view_is
