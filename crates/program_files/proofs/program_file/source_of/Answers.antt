use Rattle.program_files.specs.Loaded.{loaded_content}
use Rattle.program_files.proofs.NewMaps.{says_new}
use Rattle.program_files.proofs.program_file.source_of.Goals as goal

pub returns-clause-maps : goal.returns-clause-maps
returns-clause-maps c = says_new c.args.bytes.now (loaded_content c.in_ok-file.file) c.in_ok-file.ensures.found
