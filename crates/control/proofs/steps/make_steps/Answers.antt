use Rattle.bpf_model.proofs.Prelude.{◌≡◌, ◌≢◌, ◌+◌, ◌<◌, ◌≤◌, ◌⊎◌, replicate, arith, rules, max}
use Rattle.model_laws.proofs.Prelude.{Step, Moved}
use Rattle.control.proofs.ManySteps.{last_step, made_moves, no_move_ahead}
use Rattle.control.proofs.steps.make_steps.Goals as goal

pub returns : goal.returns
returns c =
    let moved = c.run_for.result.moved in
    let top : c.max-before_last.result ≡ max c.args.count 1 = search rules in
    let some : 1 ≤ max c.args.count 1 = omega arith in
    let few : moved < max c.args.count 1 = omega (arith, top, some, c.run_for.ensures.most) in
    let ahead : (moved + 1 ≡ max c.args.count 1) ⊎ (c.apply_into.new.answer ≢ Moved) =
    no_move_ahead c.run_for.new.self c.args.run c.run_for.result.end c.apply_into.new.answer _ c.apply_into.ensures.answer
    (λ e. omega (arith, top, some, c.run_for.ensures.enough e)) c.run_for.ensures.exits c.run_for.ensures.refused in (
      replicate (moved + 1) (Step c.args.run),
      last_step c.args.world.now c.run_for.new.self c.apply_into.new.self
          c.args.run c.args.count moved c.apply_into.new.answer
          (made_moves c.args.world.now c.args.run c.run_for.new.self moved c.run_for.ensures.moves)
          c.apply_into.ensures.answer c.apply_into.ensures.new few ahead,
    )
