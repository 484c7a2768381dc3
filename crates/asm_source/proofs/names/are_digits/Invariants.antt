use Rattle.bpf_model.proofs.Prelude.{◌≡◌, drop, all_ascii_digits}
use Rattle.asm_source.proofs.names.are_digits.Given as goal

abbrev pub invariant-loop-digit : goal.invariant-loop-digit
invariant-loop-digit l = all_ascii_digits (drop l.digit-index l.digits) ≡ all_ascii_digits l.digits
