use Rattle.bpf_model.proofs.Prelude.{take}
use Rattle.asm.proofs.numeral.read_digits.Given as goal
use Rattle.asm.proofs.Numerals.{IsReadSoFar}

abbrev pub invariant-loop-digit : goal.invariant-loop-digit
invariant-loop-digit l = IsReadSoFar (take l.digit-index l.digits) l.digit-index l.value
