use Rattle.bpf_model.proofs.Prelude.{◌≡◌, ℕ, ◌<◌, ◌-◌, length, arith, ap, rules, length-starts_from, slice_index_or, EndsWithExit}
use Rattle.verifier.proofs.Prelude.{IsFirstUnreached, IsInsnReached}
use Rattle.verifier.proofs.Verdicts.{some_insn, bad_end, unreachable_at, good_graph}
use Rattle.verifier.specs.declared.graph_flaw.GraphFlaw.TheVariants.{Unreachable}
use Rattle.verifier.proofs.Flaws.{good_has_none}
use Rattle.verifier.proofs.graph.judge.Goals as goal

pub overflow_sub-result : goal.overflow_sub-result
overflow_sub-result c = omega (
  arith,
  ap length c.requires.starts,
  length-starts_from 0 c.args.instructions.now,
  some_insn c.args.instructions.now c.requires.program,
)

pub bounds-starts-starts : goal.bounds-starts-starts
bounds-starts-starts c = omega (
  arith,
  ap length c.requires.starts,
  length-starts_from 0 c.args.instructions.now,
  some_insn c.args.instructions.now c.requires.program,
)

pub returns-then-not-ends_with_exit-clause-told : goal.returns-then-not-ends_with_exit-clause-told
returns-then-not-ends_with_exit-clause-told c =
    let long : length c.args.starts.now - 1 ≡ length c.args.instructions.now - 1 =
    omega (arith, ap length c.requires.starts, length-starts_from 0 c.args.instructions.now) in
    let not_exit : EndsWithExit c.args.instructions.now → ⊥ = search rules in
    bad_end c.args.instructions.now c.args.starts.now (length c.args.starts.now - 1) c.requires.program
    c.requires.starts long c.in_ok-targets.ensures.jumps not_exit

pub bounds-starts-index : goal.bounds-starts-index
bounds-starts-index c =
    let first : IsFirstUnreached c.args.instructions.now c.in-Some.index = rw c.in-Some.is at c.in_ok-index.ensures in
    omega (arith, ap length c.requires.starts, length-starts_from 0 c.args.instructions.now, first.inside)

pub returns-in-Some-clause-told : goal.returns-in-Some-clause-told
returns-in-Some-clause-told c =
    let first : IsFirstUnreached c.args.instructions.now c.in-Some.index = rw c.in-Some.is at c.in_ok-index.ensures in
    let last : EndsWithExit c.args.instructions.now = search rules in
    unreachable_at c.args.instructions.now c.args.starts.now c.in-Some.index c.requires.starts c.in_ok-targets.ensures.jumps last first

pub returns-clause-good : goal.returns-clause-good
returns-clause-good c =
    let all : (k : ℕ) → k < length c.args.instructions.now → IsInsnReached c.args.instructions.now k = rw c.in-None.is at c.in_ok-index.ensures in
    let last : EndsWithExit c.args.instructions.now = search rules in
    good_graph c.args.instructions.now c.in_ok-targets.ensures.jumps last all

pub returns-in-Some-clause-accepts : goal.returns-in-Some-clause-accepts
returns-in-Some-clause-accepts c = λ good.
    let first : IsFirstUnreached c.args.instructions.now c.in-Some.index = rw c.in-Some.is at c.in_ok-index.ensures in
    let last : EndsWithExit c.args.instructions.now = good.last in
    absurd (good_has_none c.args.instructions.now Unreachable (slice_index_or c.args.starts.now c.in-Some.index 0)
    good (unreachable_at c.args.instructions.now c.args.starts.now c.in-Some.index c.requires.starts
    c.in_ok-targets.ensures.jumps last first))
