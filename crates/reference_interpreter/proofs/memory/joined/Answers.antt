use Rattle.bpf_model.proofs.Prelude.{arith}
use Rattle.reference_interpreter.proofs.Numbers.{pow_step, pow_top}
use Rattle.reference_interpreter.proofs.memory.joined.Goals as goal

pub overflow_mul-result : goal.overflow_mul-result
overflow_mul-result c = omega (arith, pow_step c.args.width (omega arith), pow_top c.args.width (omega arith))

pub overflow_add-result : goal.overflow_add-result
overflow_add-result c = omega (arith, pow_step c.args.width (omega arith), pow_top c.args.width (omega arith))

pub returns-clause-bound : goal.returns-clause-bound
returns-clause-bound c = omega (arith, pow_step c.args.width (omega arith))
