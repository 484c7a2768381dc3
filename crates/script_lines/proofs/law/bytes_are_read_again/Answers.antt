use Rattle.script_lines.proofs.Again.{bytes_again}
use Rattle.script_lines.proofs.law.bytes_are_read_again.Goals as goal

pub returns : goal.returns
returns c = bytes_again c.args.bytes.now (λ i. (c.type_inv.bytes i).fits)
