use Rattle.bpf_model.proofs.Prelude.{refl, sym, subst, ap, ◌∙◌}
use Rattle.effects.proofs.Prelude.{read_kind, LoadsKnown}
use Rattle.model_laws.proofs.Prelude.{Load}
use Rattle.plan_laws.proofs.Prelude.{Kind, with_kind, AreAlike}
use Rattle.register_kinds.proofs.Prelude.{state_of, kind_of}
use Rattle.register_kinds.proofs.Results.{same_Ok}
use Rattle.effects.proofs.Reading.{read_transfers, load_known}
use Rattle.effects.proofs.loads.load.Goals as goal
use Rattle.plan_laws.proofs.Planning.{to_alike}
use Rattle.register_kinds.proofs.Setting.{set-there, set-elsewhere}

pub returns-clause-sound : goal.returns-clause-sound
returns-clause-sound c =
    let a = state_of c.args.state.now in
    let kind = read_kind c.in_ok-reads.reads c.loaded.result in
    to_alike (Load c.args.width c.args.dst c.args.from.base c.args.from.offset) c.args.shape.now.shapes.now
    c.args.shape.now.ctx_len a (with_kind c.args.dst kind a) (state_of c.set.new.self)
    (subst (λ (k : Kind). AreAlike (with_kind c.args.dst k a) (state_of c.set.new.self)) c.kind.ensures c.set.ensures.alike)
    (read_transfers c.args.dst c.args.from c.args.shape.now.ctx_len c.args.shape.now.shapes.now a c.loaded.result
    c.in_ok-check_writable.ensures.value c.in_ok-reads.reads c.args.width c.loaded.ensures.sound
    c.in_ok-reads.ensures.reads)

pub returns-clause-bytes : goal.returns-clause-bytes
returns-clause-bytes c = λ ne b. record {
  fine = refl;
  number = c.loaded.result;
  alike = subst (λ (k : Kind). AreAlike (with_kind c.args.dst k (state_of c.args.state.now)) (state_of c.set.new.self))
      (c.kind.ensures ∙ ap (λ x. read_kind x c.loaded.result) (same_Ok _ _ (c.in_ok-reads.ensures.bytes b))) c.set.ensures.alike;
}

pub returns-clause-value : goal.returns-clause-value
returns-clause-value c = λ map ne b. record {
  fine = refl;
  number = c.loaded.result;
  alike = subst (λ (k : Kind). AreAlike (with_kind c.args.dst k (state_of c.args.state.now)) (state_of c.set.new.self))
      (c.kind.ensures ∙ ap (λ x. read_kind x c.loaded.result) (same_Ok _ _ (c.in_ok-reads.ensures.value map b))) c.set.ensures.alike;
}

pub returns-in_err-reads-clause-value : goal.returns-in_err-reads-clause-value
returns-in_err-reads-clause-value c = λ map ne b. (let no = c.in_err-reads.ensures.value map b in absurd cc)

pub returns-clause-floor : goal.returns-clause-floor
returns-clause-floor c =
    let a = state_of c.args.state.now in
    let there = set-there c.args.dst c.args.dst (kind_of c.kind.result) a (state_of c.set.new.self) c.set.ensures.alike refl in
    subst (λ (k : Kind). LoadsKnown c.args.width k) (sym (there ∙ c.kind.ensures))
    (load_known c.in_ok-reads.reads c.loaded.result c.args.width a c.args.from c.args.shape.now.ctx_len
    c.args.shape.now.shapes.now c.in_ok-reads.ensures.reads c.loaded.ensures.floor)

pub returns-clause-others : goal.returns-clause-others
returns-clause-others c = λ r ne. set-elsewhere c.args.dst r (kind_of c.kind.result) (state_of c.args.state.now)
    (state_of c.set.new.self) c.set.ensures.alike ne
