use Rattle.bpf_model.proofs.Prelude.{refl, sym, subst}
use Rattle.effects.proofs.Prelude.{RegKind, operand_kind}
use Rattle.plan_laws.proofs.Prelude.{with_kind, AreAlike, Kind}
use Rattle.register_kinds.proofs.Prelude.{kind_of, state_of, kind_in}
use Rattle.register_kinds.proofs.Results.{same_Ok}
use Rattle.effects.proofs.Combining.{alu_sound}
use Rattle.effects.proofs.arithmetic.alu.Goals as goal
use Rattle.register_kinds.proofs.Setting.{set-there, set-elsewhere}
use Rattle.effects.specs.Floor.{LeavesKnown}

pub returns-clause-sound : goal.returns-clause-sound
returns-clause-sound c = alu_sound c.args.op c.args.size c.args.dst c.args.src.now c.args.state.now c.set.new.self
    (kind_of c.in_ok-kind.kind) c.in_ok-kind.ensures.sound c.in_ok-check_writable.ensures.value c.set.ensures.alike

pub returns-clause-numbers : goal.returns-clause-numbers
returns-clause-numbers c = λ ne reads src.
    let k = c.in_ok-kind.ensures.numbers reads src in record {
      fine = refl;
      number = k.0;
      alike = subst (λ (k : RegKind). AreAlike (with_kind c.args.dst (kind_of k) (state_of c.args.state.now))
          (state_of c.set.new.self)) (same_Ok _ _ k.1) c.set.ensures.alike;
    }

pub returns-clause-floor : goal.returns-clause-floor
returns-clause-floor c =
    let there = set-there c.args.dst c.args.dst (kind_of c.in_ok-kind.kind) (state_of c.args.state.now) (state_of c.set.new.self) c.set.ensures.alike refl in
    subst (λ (k : Kind). LeavesKnown c.args.size c.args.op (kind_of (kind_in c.args.state.now.regs c.args.dst))
    (operand_kind c.args.src.now (state_of c.args.state.now)) k) (sym there) c.in_ok-kind.ensures.floor

pub returns-clause-others : goal.returns-clause-others
returns-clause-others c = λ r ne. set-elsewhere c.args.dst r (kind_of c.in_ok-kind.kind) (state_of c.args.state.now)
    (state_of c.set.new.self) c.set.ensures.alike ne
