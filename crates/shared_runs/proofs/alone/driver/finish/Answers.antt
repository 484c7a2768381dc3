use Rattle.bpf_model.proofs.Prelude.{◌<◌, ◌+◌, ◌-◌, arith, inl, inr, length, sym, subst}
use Rattle.machine.proofs.Prelude.{IsMove}
use Rattle.plan_laws.proofs.Exits.{one_exit}
use Rattle.shared_runs.specs.Lone.{loaded_alone}
use Rattle.shared_runs.proofs.LoopingAlone.{halts_below, halts_exited, halts_limit, halts_room, halts_shared, loop_can_go_on, stands_first}
use Rattle.shared_runs.proofs.Starting.{starts-alone}
use Rattle.shared_runs.proofs.alone.driver.finish.Goals as goal

pub steps-init : goal.steps-init
steps-init c =
    let v = c.args.verified.now in
    let first = starts-alone v c.program-program.ensures.justified c.args.context.now c.requires.context
    c.are_bytes.ensures c.args.workspace.now.frame c.requires.cells c.requires.maps in
    stands_first v c.args.context.now c.args.workspace.now c.requires.fresh first

pub go_on-halt-requires-clause-can : goal.go_on-halt-requires-clause-can
go_on-halt-requires-clause-can c = loop_can_go_on c.args.verified.now c.args.context.now c.steps.index
    c.steps.moved c.steps.workspace c.steps.invariant

pub unreachable-requires : goal.unreachable-requires
unreachable-requires c = elim c.in-On.is [
  | inl e ↦ c.go_on-halt.ensures.ended (subst IsMove (sym e) tt)
  | inr x ↦ c.go_on-halt.ensures.ended (subst IsMove (sym x.1) tt)
]

pub overflow_add-moved : goal.overflow_add-moved
overflow_add-moved c =
    let below = halts_limit c.args.verified.now c.args.context.now c.steps.index c.steps.moved
    c.steps.workspace c.steps.invariant c.go_on-halt.result c.go_on-halt.new.self c.go_on-halt.ensures
    c.program-program.ensures.justified in
    omega (arith, below)

pub overflow_add-moved-in-Shared : goal.overflow_add-moved-in-Shared
overflow_add-moved-in-Shared c =
    let below = halts_limit c.args.verified.now c.args.context.now c.steps.index c.steps.moved
    c.steps.workspace c.steps.invariant c.go_on-halt.result c.go_on-halt.new.self c.go_on-halt.ensures
    c.program-program.ensures.justified in
    omega (arith, below)

pub overflow_add-result : goal.overflow_add-result
overflow_add-result c =
    let below = halts_limit c.args.verified.now c.args.context.now c.steps.index c.steps.moved
    c.steps.workspace c.steps.invariant c.go_on-halt.result c.go_on-halt.new.self c.go_on-halt.ensures
    c.program-program.ensures.justified in
    omega (arith, below)

pub overflow_add-result-in-Exit : goal.overflow_add-result-in-Exit
overflow_add-result-in-Exit c =
    let below = halts_limit c.args.verified.now c.args.context.now c.steps.index c.steps.moved
    c.steps.workspace c.steps.invariant c.go_on-halt.result c.go_on-halt.new.self c.go_on-halt.ensures
    c.program-program.ensures.justified in
    omega (arith, below)

pub returns-in-Exit-clause-limit : goal.returns-in-Exit-clause-limit
returns-in-Exit-clause-limit c =
    let below = halts_limit c.args.verified.now c.args.context.now c.steps.index c.steps.moved
    c.steps.workspace c.steps.invariant c.go_on-halt.result c.go_on-halt.new.self c.go_on-halt.ensures
    c.program-program.ensures.justified in
    omega (arith, below)

pub overflow_add-index : goal.overflow_add-index
overflow_add-index c =
    let below = halts_room c.args.verified.now c.args.context.now c.steps.index c.steps.moved
    c.steps.workspace c.steps.invariant c.go_on-halt.result c.go_on-halt.new.self c.go_on-halt.ensures
    c.program-program.ensures.justified in
    omega (arith, below)

pub steps-smaller : goal.steps-smaller
steps-smaller c =
    let below : c.steps.moved + c.go_on-halt.result.moved < length c.args.verified.now.program =
    halts_below c.args.verified.now c.args.context.now c.steps.index c.steps.moved
    c.steps.workspace c.steps.invariant c.go_on-halt.result c.go_on-halt.new.self c.go_on-halt.ensures in
    let less : length c.args.verified.now.program - (c.steps.moved + (c.go_on-halt.result.moved + 1)) <
    length c.args.verified.now.program - c.steps.moved = omega (arith, below) in
    less

pub steps-preserved : goal.steps-preserved
steps-preserved c = halts_shared c.args.verified.now c.args.context.now c.steps.index c.steps.moved
    c.steps.workspace c.steps.invariant c.go_on-halt.result c.go_on-halt.new.self c.go_on-halt.ensures _
    c.in-Shared.is

pub returns-in-Exit-clause-exits : goal.returns-in-Exit-clause-exits
returns-in-Exit-clause-exits c =
    halts_exited c.args.verified.now c.args.context.now c.steps.index c.steps.moved
    c.steps.workspace c.steps.invariant c.go_on-halt.result c.go_on-halt.new.self c.go_on-halt.ensures
    c.in-Exit.value c.in-Exit.is

pub returns-in-Exit-clause-only : goal.returns-in-Exit-clause-only
returns-in-Exit-clause-only c = λ shapes steps value may.
    let exits = halts_exited c.args.verified.now c.args.context.now c.steps.index c.steps.moved
    c.steps.workspace c.steps.invariant c.go_on-halt.result c.go_on-halt.new.self c.go_on-halt.ensures
    c.in-Exit.value c.in-Exit.is in
    one_exit shapes (loaded_alone c.args.verified.now) c.args.context.now
    (c.steps.moved + c.go_on-halt.result.moved + 1) steps c.in-Exit.value value exits may

pub returns-in-Exit-clause-bounded : goal.returns-in-Exit-clause-bounded
returns-in-Exit-clause-bounded c =
    let below : c.steps.moved + c.go_on-halt.result.moved < length c.args.verified.now.program =
    halts_below c.args.verified.now c.args.context.now c.steps.index c.steps.moved
    c.steps.workspace c.steps.invariant c.go_on-halt.result c.go_on-halt.new.self c.go_on-halt.ensures in
    omega (arith, below)
