use Rattle.bpf_model.proofs.Prelude.{refl, ◌≡◌, ◌∙◌, ap, sym, subst, ℕ, w16, to_z-of_z, SFits, byte_count, unsigned_width, loaded_signed, sets, load_from}
use Rattle.bpf_model.proofs.Prelude.{◌>>=◌, number, environment_of}
use Rattle.bpf_model.specs.declared.value.Value.{Value}
use Rattle.bpf_model.specs.declared.value.Value.TheVariants.{Number}
use Rattle.reference_interpreter.specs.Plain.{Comes, plain_state_of}
use Rattle.reference_interpreter.proofs.Laws.{bind_comes, bind_none}
use Rattle.reference_interpreter.proofs.plain_run.PlainRun.load_signed.Goals as goal
use Rattle.reference_interpreter.proofs.plain_run.PlainRun.load_signed.Goals.{After-load_from}

found : (c : After-load_from) (maps : ℕ) → load_from (environment_of c.args.context.now maps)
    (plain_state_of c.args.self.now) (byte_count (unsigned_width c.args.width)) c.args.offset
    ((plain_state_of c.args.self.now).regs c.args.src) ≡ c.load_from.result
found c maps =
    let g : SFits w16 c.args.offset = c.ranges.offset in
    let e = simp to_z-of_z at c.load_from.ensures in
    ap (λ w. load_from (environment_of c.args.context.now maps) (plain_state_of c.args.self.now) (byte_count w)
    c.args.offset ((plain_state_of c.args.self.now).regs c.args.src)) (sym c.width.ensures)
    ∙ ap (λ b. load_from (environment_of c.args.context.now maps) (plain_state_of c.args.self.now)
    (byte_count c.width.result) c.args.offset b) (sym c.register.ensures) ∙ sym (e maps)

pub returns-in-Some-number : goal.returns-in-Some-number
returns-in-Some-number c = λ maps.
    let m = plain_state_of c.args.self.now in
    let f : Value → _ = λ v. number v >>= λ n. sets 1 c.args.dst (Number (loaded_signed c.args.width n)) m in
    record {
      comes = bind_comes (load_from (environment_of c.args.context.now maps) m
          (byte_count (unsigned_width c.args.width)) c.args.offset (m.regs c.args.src)) f c.in-Some.v c.set.result
          c.args.self.now c.set.new.self
          (found (goal.at.returns-in-Some-number c).After-load_from maps ∙ c.in-Some.is)
          (bind_comes (number c.in-Some.v) (λ n. sets 1 c.args.dst (Number (loaded_signed c.args.width n)) m)
          c.in-Some-number.n c.set.result c.args.self.now c.set.new.self
          (sym c.number.ensures ∙ c.in-Some-number.is)
          (subst (λ n. Comes (sets 1 c.args.dst (Number n) m) c.set.result c.args.self.now c.set.new.self) c.load_signed.ensures c.set.ensures));
    }

pub returns-in-None-number : goal.returns-in-None-number
returns-in-None-number c = λ maps.
    let m = plain_state_of c.args.self.now in
    let f : Value → _ = λ v. number v >>= λ n. sets 1 c.args.dst (Number (loaded_signed c.args.width n)) m in
    record {
      comes = (
        ap (λ o. o >>= f) (found (goal.at.returns-in-None-number c).After-load_from maps ∙ c.in-Some.is)
            ∙ bind_none (number c.in-Some.v) (λ n. sets 1 c.args.dst (Number (loaded_signed c.args.width n)) m)
            (sym c.number.ensures ∙ c.in-None-number.is),
        refl,
      );
    }

pub returns-in-None : goal.returns-in-None
returns-in-None c = λ maps.
    let m = plain_state_of c.args.self.now in
    record {
      comes = (
        bind_none (load_from (environment_of c.args.context.now maps) m (byte_count (unsigned_width c.args.width))
            c.args.offset (m.regs c.args.src)) (λ v. number v >>= λ n.
            sets 1 c.args.dst (Number (loaded_signed c.args.width n)) m)
            (found (goal.at.returns-in-None c).After-load_from maps ∙ c.in-None.is),
        refl,
      );
    }
