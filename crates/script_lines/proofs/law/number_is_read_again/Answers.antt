use Rattle.script_lines.proofs.Again.{number_again}
use Rattle.script_lines.proofs.law.number_is_read_again.Goals as goal

pub returns : goal.returns
returns c = number_again c.args.number c.ranges.number.fits
