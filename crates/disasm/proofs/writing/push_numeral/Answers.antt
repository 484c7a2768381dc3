use Rattle.bpf_model.proofs.Prelude.{rules, arith}
use Rattle.disasm.proofs.Numerals.{decimal_is_numeral}
use Rattle.disasm.proofs.writing.push_numeral.Goals as goal

pub returns : goal.returns
returns c = search (rules, decimal_is_numeral c.args.number (omega arith))
