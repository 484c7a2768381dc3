use Rattle.bpf_model.proofs.Prelude.{◌∙◌, ap, false, slice_set}
use Rattle.element_store.proofs.RunWords.{flags-clear}
use Rattle.element_store.proofs.run_set.RunSet.remove.Goals as goal

pub returns : goal.returns
returns c = flags-clear c.self.inside.words c.args.run c.self.told c.requires ∙ ap (λ fs. slice_set fs c.args.run false) c.self.view_is
