use Rattle.bpf_model.proofs.Prelude.{sym, ◌∙◌, subst, arith}
use Rattle.classic_program.proofs.Prelude.{IsSkip}
use Rattle.classic_program.specs.declared.paths.Skips.{Skips}
use Rattle.classic_program.proofs.Marking.{to-skip}
use Rattle.classic_program.proofs.checking.flaw_at.Goals as goal

pub returns-in-None-clause-none : goal.returns-in-None-clause-none
returns-in-None-clause-none c = record {
  divisor = sym c.divides_by_zero.ensures ∙ c.if-divides_by_zero.false;
  shift = sym c.shifts_too_far.ensures ∙ c.if-shifts_too_far.false;
  known = sym c.is_of.ensures ∙ c.if-not-is_of.false;
  remainder = sym c.is_policy_remainder.ensures ∙ c.if-is_policy_remainder.false;
  inside = λ s m.
      let l = c.in-None.ensures.none s (subst (λ (k : Skips). IsSkip k s) (sym c.targets.ensures) (to-skip c.args.instruction.now s m)) in omega (arith, l);
}
