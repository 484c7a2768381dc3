use Rattle.bpf_model.proofs.Prelude.{rules}
use Rattle.program_files.proofs.Texts.{only_content}
use Rattle.program_files.proofs.loader.program_file.load.Goals as goal

pub returns-in-Some-clause-only : goal.returns-in-Some-clause-only
returns-in-Some-clause-only c content = only_content c.args.bytes.now content c.load_text.result (search rules) (search rules)
