use Rattle.bpf_model.proofs.Prelude.{◌≡◌, drop, Some}
use Rattle.asm_source.specs.Numbers.{digits_in, with_digits}
use Rattle.asm_source.proofs.numbers.read_digits.Given as goal

abbrev pub invariant-loop-digit : goal.invariant-loop-digit
invariant-loop-digit l = with_digits l.base (Some l.value) (drop l.digit-index l.digits) ≡ digits_in l.base l.digits
