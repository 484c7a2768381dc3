use Rattle.bpf_model.proofs.Prelude.{◌∙◌, refl, Decides-eqb, slice_eq-Decides}
use Rattle.element_store.proofs.RunWords.{any-of}
use Rattle.element_store.proofs.run_set.is_any_bit.Goals as goal

pub returns : goal.returns
returns c = c.ne.ensures ∙ any-of c.args.words.now _ c.told-words c.fits-words (slice_eq-Decides Decides-eqb c.args.words.now _ _ refl)
