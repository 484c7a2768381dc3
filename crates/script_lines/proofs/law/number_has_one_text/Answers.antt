use Rattle.script_lines.proofs.Again.{number_once}
use Rattle.script_lines.proofs.law.number_has_one_text.Goals as goal

pub returns : goal.returns
returns c n h = number_once c.args.word.now n h
