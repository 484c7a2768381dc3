use Rattle.bpf_model.proofs.Prelude.{arith, ◌∙◌, ap, get_or, length}
use Rattle.asm.proofs.Numerals.{numeral_zero_only, numeral_not_long, digits_only}
use Rattle.asm.proofs.numeral.read_numeral.Goals as goal

pub returns-in-48-clause-only : goal.returns-in-48-clause-only
returns-in-48-clause-only c = numeral_zero_only c.args.text.now (let v = ap (λ t. get_or t 0 0) c.as_bytes.ensures.value in omega arith)

pub returns-in-48-2-clause-only : goal.returns-in-48-2-clause-only
returns-in-48-2-clause-only c n e = absurd (numeral_not_long c.args.text.now n
    (let v = ap (λ t. get_or t 0 0) c.as_bytes.ensures.value in omega arith)
    (let v = ap length c.as_bytes.ensures.value in omega arith) e)

pub returns-in_default-clause-only : goal.returns-in_default-clause-only
returns-in_default-clause-only c n e = digits_only c.as_bytes.result.now c.read_digits.result
    c.read_digits.ensures.found c.read_digits.ensures.none n (c.as_bytes.ensures.value ∙ e)
