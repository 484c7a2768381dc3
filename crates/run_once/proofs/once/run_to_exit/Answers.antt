use Rattle.bpf_model.proofs.Prelude.{rules, ◌≡◌, List, ℕ, ◌+◌, arith, subst, sym, last_of}
use Rattle.run_once.specs.Once.{Ended, RunsToExit}
use Rattle.run_once.proofs.Nexts.{next_of}
use Rattle.run_once.proofs.Walking.{Walked, begins, exited, walked}
use Rattle.run_once.proofs.once.run_to_exit.Goals as goal

pub loop-at-init : goal.loop-at-init
loop-at-init c = λ m tracks g. begins m c.args.count c.args.tells c.args.text.now.items c.args.world.now c.requires.empty tracks g

pub next_step-requires : goal.next_step-requires
next_step-requires c =
    let b = c.requires.begins in
    let k = c.loop-at.invariant b.0 b.1 b.2 in
    record { next = (k.going.run.state.place, k.going.insn, next_of c.loop-at.world (last_of b.0 k.states) c.args.count c.loop-at.at k.going k.tracked) }

pub returns-in-Exited-clause-runs : goal.returns-in-Exited-clause-runs
returns-in-Exited-clause-runs c = λ m tracks g.
    let e = c.in_ok-answer.ensures in
    let (late, is, shown) = e.told in
    let end : Ended = record { value = c.in-Exited.value; steps = c.loop-at.at + 1 } in
    subst (λ (text : List ℕ). RunsToExit m end c.args.tells text c.next_step.new.world) (sym is)
    (exited m c.args.count c.loop-at.at c.args.tells c.loop-at.text.items late c.loop-at.world c.next_step.new.world c.in_ok-answer.answer
    (c.loop-at.invariant m tracks g) e.machine e.never_stuck e.exits shown c.in-Exited.value c.in-Exited.is)

pub loop-at-preserved : goal.loop-at-preserved
loop-at-preserved c = λ m tracks g.
    let e = c.in_ok-answer.ensures in
    let (late, is, shown) = e.told in
    subst (λ (text : List ℕ). Walked m c.args.count (c.loop-at.at + 1) c.args.tells text c.next_step.new.world) (sym is)
    (walked m c.args.count c.loop-at.at c.args.tells c.loop-at.text.items late c.loop-at.world c.next_step.new.world c.in_ok-answer.answer
    (c.loop-at.invariant m tracks g) e.machine e.never_stuck e.exits shown c.in_default.not-Exited)

pub unreachable-requires : goal.unreachable-requires
unreachable-requires c =
    let b = c.requires.begins in
    let k = c.loop-at.invariant b.0 b.1 b.2 in
    let less = k.going.in_time in
    let end : c.loop-at.at ≡ c.args.count = search rules in
    omega (arith, less, end)
