use Rattle.bpf_model.proofs.Prelude.{refl, subst, sym, ap, ◌∙◌, byte_count}
use Rattle.effects.proofs.Prelude.{ReadsBytes, ReadsValue, read_kind, IsReadByLoad}
use Rattle.model_laws.proofs.Prelude.{LoadSigned, Width}
use Rattle.plan_laws.proofs.Prelude.{Kind, with_kind, AreAlike}
use Rattle.register_kinds.proofs.Prelude.{kind_of, state_of}
use Rattle.register_kinds.proofs.Results.{same_Ok}
use Rattle.effects.proofs.Reading.{read_signed_transfers, number_loaded}
use Rattle.scalar_domain.proofs.Words.{loaded_signed_lt}
use Rattle.effects.proofs.loads.load_signed.Goals as goal
use Rattle.plan_laws.proofs.Planning.{to_alike}
use Rattle.register_kinds.proofs.Setting.{set-there, set-elsewhere}

pub returns-clause-sound : goal.returns-clause-sound
returns-clause-sound c =
    let a = state_of c.args.state.now in
    let kind = read_kind c.in_ok-reads.reads c.load_signed.result in
    to_alike (LoadSigned c.args.width c.args.dst c.args.from.base c.args.from.offset) c.args.shape.now.shapes.now
    c.args.shape.now.ctx_len a (with_kind c.args.dst kind a) (state_of c.set.new.self)
    (subst (λ (k : Kind). AreAlike (with_kind c.args.dst k a) (state_of c.set.new.self)) c.kind.ensures c.set.ensures.alike)
    (read_signed_transfers c.args.dst c.args.from c.args.shape.now.ctx_len c.args.shape.now.shapes.now a
    c.load_signed.result c.in_ok-check_writable.ensures.value c.in_ok-reads.reads c.args.width
    (λ n. (loaded_signed_lt c.args.width n, c.load_signed.ensures.sound n))
    (subst (λ (w : Width). IsReadByLoad c.in_ok-reads.reads a (byte_count w) c.args.from c.args.shape.now.ctx_len
    c.args.shape.now.shapes.now) c.width.ensures c.in_ok-reads.ensures.reads))

pub returns-clause-bytes : goal.returns-clause-bytes
returns-clause-bytes c = λ ne b.
    let read = subst (λ (w : Width). ReadsBytes (state_of c.args.state.now) c.args.from.base (byte_count w)
    c.args.from.offset) (sym c.width.ensures) b in record {
      fine = refl;
      number = c.load_signed.result;
      alike = subst (λ (k : Kind). AreAlike (with_kind c.args.dst k (state_of c.args.state.now)) (state_of c.set.new.self))
          (c.kind.ensures ∙ ap (λ x. read_kind x c.load_signed.result) (same_Ok _ _ (c.in_ok-reads.ensures.bytes read))) c.set.ensures.alike;
    }

pub returns-clause-value : goal.returns-clause-value
returns-clause-value c = λ map ne b.
    let read = subst (λ (w : Width). ReadsValue c.args.shape.now.shapes.now c.args.state.now c.args.from.base map
    (byte_count w) c.args.from.offset) (sym c.width.ensures) b in record {
      fine = refl;
      number = c.load_signed.result;
      alike = subst (λ (k : Kind). AreAlike (with_kind c.args.dst k (state_of c.args.state.now)) (state_of c.set.new.self))
          (c.kind.ensures ∙ ap (λ x. read_kind x c.load_signed.result) (same_Ok _ _ (c.in_ok-reads.ensures.value map read))) c.set.ensures.alike;
    }

pub returns-in_err-reads-clause-value : goal.returns-in_err-reads-clause-value
returns-in_err-reads-clause-value c = λ map ne b.
    let read = subst (λ (w : Width). ReadsValue c.args.shape.now.shapes.now c.args.state.now c.args.from.base map
    (byte_count w) c.args.from.offset) (sym c.width.ensures) b in
    let no = c.in_err-reads.ensures.value map read in
    absurd cc

pub returns-clause-floor : goal.returns-clause-floor
returns-clause-floor c =
    let a = state_of c.args.state.now in
    let there = set-there c.args.dst c.args.dst (kind_of c.kind.result) a (state_of c.set.new.self) c.set.ensures.alike refl in
    let n = number_loaded c.in_ok-reads.reads c.load_signed.result c.args.width a c.args.from c.args.shape.now.ctx_len c.args.shape.now.shapes.now
    (subst (λ (w : Width). IsReadByLoad c.in_ok-reads.reads a (byte_count w) c.args.from c.args.shape.now.ctx_len
    c.args.shape.now.shapes.now) c.width.ensures c.in_ok-reads.ensures.reads) in
    (n.0, there ∙ (c.kind.ensures ∙ n.1))

pub returns-clause-others : goal.returns-clause-others
returns-clause-others c = λ r ne. set-elsewhere c.args.dst r (kind_of c.kind.result) (state_of c.args.state.now)
    (state_of c.set.new.self) c.set.ensures.alike ne
