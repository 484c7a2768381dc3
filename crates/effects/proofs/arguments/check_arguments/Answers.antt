use Rattle.bpf_model.proofs.Prelude.{ℕ, get_or, subst}
use Rattle.effects.proofs.Prelude.{IsArgument}
use Rattle.model_laws.proofs.Prelude.{MapOfProgram}
use Rattle.register_kinds.proofs.Prelude.{state_of}
use Rattle.effects.proofs.ArgumentLaws.{from_next, to_next}
use Rattle.effects.proofs.arguments.check_arguments.Goals as goal

pub loop-index-preserved : goal.loop-index-preserved
loop-index-preserved c =
    let shapes = c.args.shapes.now in
    let a = state_of c.args.state.now in
    let shape = c.in_ok-map.shape in
    let kinds = c.arguments-kind-items.result.now in
    let i = c.loop-index.index in
    let x = subst (λ (r : ℕ). IsArgument shapes a shape (get_or kinds i MapOfProgram) r) c.argument_register.ensures
    c.in_ok-check_argument.ensures.argument in (
      c.loop-index.invariant.0,
      λ left. c.loop-index.invariant.1 (from_next shapes a shape kinds i MapOfProgram c.loop-index-test.true x left),
      λ all. (to_next shapes a shape kinds i MapOfProgram c.loop-index-test.true (c.loop-index.invariant.2 all)).1,
    )
