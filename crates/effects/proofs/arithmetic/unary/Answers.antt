use Rattle.bpf_model.proofs.Prelude.{◌≡◌, refl, sym, ap, subst, ◌∙◌}
use Rattle.plan_laws.proofs.Prelude.{Num}
use Rattle.register_kinds.proofs.Prelude.{kind_of, kind_in, state_of}
use Rattle.effects.proofs.Combining.{unary_sound}
use Rattle.effects.proofs.arithmetic.unary.Goals as goal
use Rattle.register_kinds.proofs.Setting.{set-there, set-elsewhere}
use Rattle.scalar_domain.specs.declared.scalar.Scalar.{Scalar}
use Rattle.scalar_domain.specs.Floor.{KeepsUnaryFloor}
use Rattle.effects.proofs.Known.{same_num}

pub returns-clause-sound : goal.returns-clause-sound
returns-clause-sound c = unary_sound c.args.op.now c.args.dst c.source.result c.in_ok-n.n c.unary.result
    c.in_ok-kind.kind c.args.state.now c.set.new.self c.source.ensures c.in_ok-kind.ensures.value
    c.in_ok-n.ensures.value c.unary.ensures.sound c.in_ok-check_writable.ensures.value c.set.ensures.alike

pub returns-clause-floor : goal.returns-clause-floor
returns-clause-floor c = λ a e.
    let there = set-there c.args.dst c.args.dst (Num c.unary.result) (state_of c.args.state.now) (state_of c.set.new.self) c.set.ensures.alike refl in
    let read : kind_of (kind_in c.args.state.now.regs c.source.result) ≡ Num c.in_ok-n.n = ap kind_of (c.in_ok-kind.ensures.value ∙ c.in_ok-n.ensures.value) in
    let same = same_num c.in_ok-n.n a (sym read ∙ (ap (λ r. kind_of (kind_in c.args.state.now.regs r)) c.source.ensures ∙ e)) in
    (c.unary.result, there, subst (λ (a : Scalar). KeepsUnaryFloor c.args.op.now a c.unary.result) same c.unary.ensures.floor)

pub returns-clause-others : goal.returns-clause-others
returns-clause-others c = λ r ne. set-elsewhere c.args.dst r (Num c.unary.result) (state_of c.args.state.now) (state_of c.set.new.self) c.set.ensures.alike ne
