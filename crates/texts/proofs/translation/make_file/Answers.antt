use Rattle.bpf_model.proofs.Prelude.{rules}
use Rattle.texts.proofs.translation.make_file.Goals as goal

pub returns-clause-file : goal.returns-clause-file
returns-clause-file c =
    record {
      filter = c.in_ok-filter.filter.items;
      listed = search rules;
      classic = c.in-Ok.program.instructions;
      insns_of = search rules;
      well_formed = search rules;
      program = c.in-Ok-translate.translation;
      translation = search rules;
      file_of = search rules;
    }
