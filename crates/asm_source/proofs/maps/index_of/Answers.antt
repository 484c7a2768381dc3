use Rattle.bpf_model.proofs.Prelude.{sym, ◌∙◌}
use Rattle.asm_source.proofs.MapLaws.{position_of_texts}
use Rattle.asm_source.proofs.maps.index_of.Goals as goal

pub returns : goal.returns
returns c = c.place_of.ensures ∙ sym (position_of_texts c.args.names.now c.args.name.now)
