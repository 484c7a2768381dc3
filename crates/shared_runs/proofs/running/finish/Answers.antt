use Rattle.shared_runs.proofs.Looping.{answered, at-now, exited, has-started, moved-on, resumed-on, section, servable, stands}
use Rattle.shared_runs.proofs.running.finish.Goals as goal

pub steps-init : goal.steps-init
steps-init g c =
    has-started c.is_table.ensures.table c.is_table.ensures.steps c.args.verified.now c.args.context.now c.requires.at c.start-course.result
    c.args.workspace.now c.requires.small c.program-program.ensures.justified c.requires.maps c.requires.whole c.requires.context c.are_bytes.ensures
    c.start-course.ensures.on c.requires.fresh c.requires.cells (c.start-course.ensures.view c.args.context.now)

pub step-requires-clause-on : goal.step-requires-clause-on
step-requires-clause-on g c = c.steps.invariant.0

pub step-requires-clause-stands : goal.step-requires-clause-stands
step-requires-clause-stands g c =
    stands c.is_table.ensures.table c.is_table.ensures.steps c.args.verified.now c.args.context.now c.requires.at c.steps.seat c.steps.course
    c.steps.workspace c.requires.outside c.steps.invariant

pub steps-smaller-in-Moved : goal.steps-smaller-in-Moved
steps-smaller-in-Moved g c =
    (moved-on c.is_table.ensures.table c.is_table.ensures.steps c.args.verified.now c.args.context.now c.requires.at c.steps.seat c.steps.course
    c.steps.workspace c.requires.outside c.steps.invariant c.step.new.self c.step.new.workspace c.step.ensures.on c.in-Moved.ensures.step).1

pub steps-preserved-in-Moved : goal.steps-preserved-in-Moved
steps-preserved-in-Moved g c =
    (moved-on c.is_table.ensures.table c.is_table.ensures.steps c.args.verified.now c.args.context.now c.requires.at c.steps.seat c.steps.course
    c.steps.workspace c.requires.outside c.steps.invariant c.step.new.self c.step.new.workspace c.step.ensures.on c.in-Moved.ensures.step).0

pub serve-word-requires-clause-at : goal.serve-word-requires-clause-at
serve-word-requires-clause-at g c =
    at-now c.is_table.ensures.table c.is_table.ensures.steps c.args.verified.now c.args.context.now c.requires.at c.steps.seat c.steps.course
    c.steps.workspace c.requires.outside c.steps.invariant

pub serve-word-requires-clause-section : goal.serve-word-requires-clause-section
serve-word-requires-clause-section g c =
    section c.is_table.ensures.table c.is_table.ensures.steps c.args.verified.now c.args.context.now c.requires.at c.steps.seat c.steps.course
    c.steps.workspace c.requires.outside c.steps.invariant c.step.new.self c.step.new.workspace c.step.ensures.on c.in-Shared.request
    c.in-Shared.ensures.step c.depth.result c.depth.ensures

pub serve-word-requires-clause-can : goal.serve-word-requires-clause-can
serve-word-requires-clause-can g c =
    servable c.is_table.ensures.table c.is_table.ensures.steps c.args.verified.now c.args.context.now c.requires.at c.steps.seat c.steps.course
    c.steps.workspace c.requires.outside c.steps.invariant c.step.new.self c.step.new.workspace c.step.ensures.on c.in-Shared.request
    c.in-Shared.ensures.step c.depth.result c.depth.ensures

pub resume-requires-clause-on : goal.resume-requires-clause-on
resume-requires-clause-on g c = c.step.ensures.on

pub resume-requires-clause-answered : goal.resume-requires-clause-answered
resume-requires-clause-answered g c =
    answered c.is_table.ensures.table c.is_table.ensures.steps c.args.verified.now c.args.context.now c.requires.at c.steps.seat c.steps.course
    c.steps.workspace c.requires.outside c.steps.invariant c.step.new.self c.step.new.workspace c.step.ensures.on c.in-Shared.request
    c.in-Shared.ensures.step c.depth.result c.depth.ensures c.serve-word.ensures.0 c.serve-word.result c.serve-word.ensures.2
    c.in-Shared.ensures.stands

pub steps-smaller : goal.steps-smaller
steps-smaller g c =
    (resumed-on c.is_table.ensures.table c.is_table.ensures.steps c.args.verified.now c.args.context.now c.requires.at c.steps.seat c.steps.course
    c.steps.workspace c.requires.outside c.steps.invariant c.step.new.self c.step.new.workspace c.step.ensures.on c.in-Shared.request
    c.in-Shared.ensures.step c.depth.result c.depth.ensures c.serve-word.ensures.0 c.serve-word.result c.serve-word.ensures.2 c.serve-word.new.seat
    c.resume.new.self c.resume.new.workspace c.serve-word.ensures.1 c.resume.ensures.on c.resume.ensures.view).1

pub steps-preserved : goal.steps-preserved
steps-preserved g c =
    (resumed-on c.is_table.ensures.table c.is_table.ensures.steps c.args.verified.now c.args.context.now c.requires.at c.steps.seat c.steps.course
    c.steps.workspace c.requires.outside c.steps.invariant c.step.new.self c.step.new.workspace c.step.ensures.on c.in-Shared.request
    c.in-Shared.ensures.step c.depth.result c.depth.ensures c.serve-word.ensures.0 c.serve-word.result c.serve-word.ensures.2 c.serve-word.new.seat
    c.resume.new.self c.resume.new.workspace c.serve-word.ensures.1 c.resume.ensures.on c.resume.ensures.view).0

pub returns-in-Exit-clause-runs : goal.returns-in-Exit-clause-runs
returns-in-Exit-clause-runs g c =
    (exited c.is_table.ensures.table c.is_table.ensures.steps c.args.verified.now c.args.context.now c.requires.at c.steps.seat c.steps.course
    c.steps.workspace c.requires.outside c.steps.invariant c.step.new.self c.step.new.workspace c.step.ensures.on c.in-Exit.value
    c.in-Exit.ensures.step c.in-Exit.ensures.stands).0

pub returns-in-Exit-clause-outside : goal.returns-in-Exit-clause-outside
returns-in-Exit-clause-outside g c =
    (exited c.is_table.ensures.table c.is_table.ensures.steps c.args.verified.now c.args.context.now c.requires.at c.steps.seat c.steps.course
    c.steps.workspace c.requires.outside c.steps.invariant c.step.new.self c.step.new.workspace c.step.ensures.on c.in-Exit.value
    c.in-Exit.ensures.step c.in-Exit.ensures.stands).1
