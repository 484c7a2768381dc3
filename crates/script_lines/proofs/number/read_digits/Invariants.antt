use Rattle.script_lines.proofs.number.read_digits.Given as goal
use Rattle.script_lines.proofs.NumberLaws.{IsReadSoFar}

abbrev pub invariant-loop-digit : goal.invariant-loop-digit
invariant-loop-digit l = IsReadSoFar l.digits l.digit-index l.value
