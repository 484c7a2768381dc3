use Rattle.bpf_model.proofs.Prelude.{subst}
use Rattle.effects.proofs.Prelude.{AbsState}
use Rattle.plan_laws.proofs.Prelude.{Num, with_kind, AreAlike}
use Rattle.register_kinds.proofs.Prelude.{state_of}
use Rattle.effects.proofs.Branches.{narrowed_one, narrowed_both, sides_one, sides_both}
use Rattle.effects.proofs.forks.narrow.Goals.{in-Register, in-Immediate}
use Rattle.effects.proofs.forks.narrow.Goals as goal

pub returns-clause-narrowed : goal.returns-clause-narrowed
returns-clause-narrowed c = elim c.match-src.branch [
  | in-Register w ↦ narrowed_both c.args.dst w.in-Register.r c.args.src.now c.args.x c.args.y c.args.state.now
      w.set.new.self c.set-2.new.self w.in-Register.is w.set.ensures.alike
      (subst (λ (a : AbsState). AreAlike (with_kind c.args.dst (Num c.args.x) (state_of a)) (state_of c.set-2.new.self)) w.state-is c.set-2.ensures.alike)
  | in-Immediate w ↦ narrowed_one c.args.dst c.args.src.now w.in-Immediate.field-0 c.args.x c.args.state.now c.set-2.new.self w.in-Immediate.is
      (subst (λ (a : AbsState). AreAlike (with_kind c.args.dst (Num c.args.x) (state_of a)) (state_of c.set-2.new.self)) w.state-is c.set-2.ensures.alike)
]

pub returns-clause-sides : goal.returns-clause-sides
returns-clause-sides c = elim c.match-src.branch [
  | in-Register w ↦ sides_both c.args.dst w.in-Register.r c.args.src.now c.args.x c.args.y c.args.state.now
      w.set.new.self c.set-2.new.self w.in-Register.is w.set.ensures.alike
      (subst (λ (a : AbsState). AreAlike (with_kind c.args.dst (Num c.args.x) (state_of a)) (state_of c.set-2.new.self)) w.state-is c.set-2.ensures.alike)
  | in-Immediate w ↦ sides_one c.args.dst c.args.src.now w.in-Immediate.field-0 c.args.x c.args.y c.args.state.now c.set-2.new.self w.in-Immediate.is
      (subst (λ (a : AbsState). AreAlike (with_kind c.args.dst (Num c.args.x) (state_of a)) (state_of c.set-2.new.self)) w.state-is c.set-2.ensures.alike)
]
