use Rattle.bpf_model.proofs.Prelude.{◌≡◌, subst, arith, environment_of}
use Rattle.reference_interpreter.specs.Plain.{TellsStep, plain_state_of}
use Rattle.reference_interpreter.specs.Runs.{Walks, walks_none}
use Rattle.reference_interpreter.proofs.Walking.{walked_on}
use Rattle.reference_interpreter.proofs.plain_run.PlainRun.run.Goals as goal

pub loop-done-init : goal.loop-done-init
loop-done-init c = walks_none

pub returns-in-Exited : goal.returns-in-Exited
returns-in-Exited c =
    let env = environment_of c.args.context.now c.args.maps in
    let s = subst (λ a. TellsStep c.args.program.now env c.loop-done.self a c.step.new.self) c.in-Exited.is c.step.ensures in
    (c.loop-done.done, plain_state_of c.loop-done.self, c.loop-done-test.true, c.loop-done.invariant, s.0)

pub loop-done-preserved : goal.loop-done-preserved
loop-done-preserved c =
    let env = environment_of c.args.context.now c.args.maps in
    let s = subst (λ a. TellsStep c.args.program.now env c.loop-done.self a c.step.new.self) c.in-Moved.is c.step.ensures in
    walked_on c.args.program.now env (plain_state_of c.args.self.now) c.loop-done.done
    (plain_state_of c.loop-done.self) (plain_state_of c.step.new.self) c.loop-done.invariant s

pub returns : goal.returns
returns c =
    let e : c.loop-done.done ≡ c.args.limit = omega arith in (
      plain_state_of c.loop-done.self,
      subst (λ k. Walks c.args.program.now
          (environment_of c.args.context.now c.args.maps) (plain_state_of c.args.self.now) k
          (plain_state_of c.loop-done.self)) e c.loop-done.invariant,
    )
