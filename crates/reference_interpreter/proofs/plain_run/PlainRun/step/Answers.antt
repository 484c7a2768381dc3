use Rattle.bpf_model.proofs.Prelude.{arith}
use Rattle.reference_interpreter.proofs.Laws.{inside}
use Rattle.reference_interpreter.proofs.plain_run.PlainRun.step.Goals as goal

pub perform-requires-clause-place : goal.perform-requires-clause-place
perform-requires-clause-place c = omega (arith, inside c.args.program.now c.args.self.now.place _ c.in-Some.ensures c.requires.program)
