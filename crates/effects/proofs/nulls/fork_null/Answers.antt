use Rattle.bpf_model.proofs.Prelude.{◌≡◌, subst, ◌∙◌}
use Rattle.effects.proofs.Prelude.{IsNull, IsThere, AbsState}
use Rattle.plan_laws.proofs.Prelude.{AreAlike}
use Rattle.register_kinds.proofs.Prelude.{state_of, learnt}
use Rattle.effects.proofs.CallLaws.{null_jumps, null_falls_through}
use Rattle.effects.proofs.nulls.fork_null.Goals as goal
use Rattle.effects.proofs.nulls.fork_null.Goals.{then-equal, else-equal}

pub returns-clause-sound : goal.returns-clause-sound
returns-clause-sound c = λ dst map e.
    elim c.if-equal.branch [
      | then-equal w ↦
          let same : w.deref_mut.result.now ≡ c.args.state.now = w.deref_mut.ensures.value ∙ c.in_ok-taken.ensures in
          let taken : AreAlike (learnt (IsNull c.args.id) (state_of c.args.state.now)) (state_of w.learn.new.self) =
          subst (λ (a : AbsState). AreAlike (learnt (IsNull c.args.id) (state_of a)) (state_of w.learn.new.self))
          same w.learn.ensures.alike in
          rw w.state-is (rw w.taken-is (rw w.if-equal.true
          (null_jumps c.args.state.now w.learn-then-equal.new.self w.learn.new.self c.args.id dst map
          w.learn-then-equal.ensures.alike taken e)))
      | else-equal w ↦
          let same : w.deref_mut-else-equal.result.now ≡ c.args.state.now = w.deref_mut-else-equal.ensures.value ∙ c.in_ok-taken.ensures in
          let taken : AreAlike (learnt (IsThere c.args.id) (state_of c.args.state.now))
          (state_of w.learn-else-equal.new.self) =
          subst (λ (a : AbsState). AreAlike (learnt (IsThere c.args.id) (state_of a))
          (state_of w.learn-else-equal.new.self)) same w.learn-else-equal.ensures.alike in
          rw w.state-is (rw w.taken-is (rw w.if-equal.false
          (null_falls_through c.args.state.now w.learn-else-equal-2.new.self w.learn-else-equal.new.self c.args.id
          dst map w.learn-else-equal-2.ensures.alike taken e)))
    ]
