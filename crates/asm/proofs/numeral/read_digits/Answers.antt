use Rattle.bpf_model.proofs.Prelude.{rules}
use Rattle.asm.proofs.Numerals.{read_more}
use Rattle.asm.proofs.numeral.read_digits.Goals as goal

pub loop-digit-preserved : goal.loop-digit-preserved
loop-digit-preserved c =
    read_more c.args.digits.now c.loop-digit.digit-index c.loop-digit.value c.push_digit-value.result
    c.loop-digit.invariant c.loop-digit-test.true (search rules) c.requires.first c.push_digit-value.ensures.value
    c.push_digit-value.ensures.limit
