use Rattle.bpf_model.proofs.Prelude.{sym, arith}
use Rattle.script_lines.proofs.NumberLaws.{all_read, too_large}
use Rattle.script_lines.proofs.number.read_digits.Goals as goal

pub returns-in-None : goal.returns-in-None
returns-in-None c = sym (too_large c.args.digits.now c.loop-digit.digit-index c.loop-digit.value
    c.loop-digit-test.true c.loop-digit.invariant c.if-not-is_ascii_digit.ensures.cases c.in-None.ensures.none)

pub returns : goal.returns
returns c = sym (all_read c.args.digits.now c.loop-digit.digit-index c.loop-digit.value (omega arith) c.loop-digit.invariant)
