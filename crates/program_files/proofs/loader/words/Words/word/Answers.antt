use Rattle.bpf_model.proofs.Prelude.{◌∙◌, ap}
use Rattle.program_files.specs.Stages.{words_left}
use Rattle.program_files.proofs.Cuts.{word_cut}
use Rattle.program_files.proofs.loader.words.Words.word.Goals as goal

pub returns-clause-some : goal.returns-clause-some
returns-clause-some c =
    let w = word_cut c.in_ok-rest.rest.now c.cut.result.0.now c.cut.result.1 c.cut.ensures.front c.cut.ensures.parts in ap words_left c.in_ok-rest.was ∙ w
