use Rattle.bpf_model.proofs.Prelude.{refl, ◌≡◌, ◌∙◌, ap, sym, ℕ, w16, to_z-of_z, SFits, byte_count, sets, load_from, environment_of}
use Rattle.reference_interpreter.specs.Plain.{plain_state_of}
use Rattle.reference_interpreter.proofs.Laws.{bind_comes, bind_none}
use Rattle.reference_interpreter.proofs.plain_run.PlainRun.load.Goals as goal
use Rattle.reference_interpreter.proofs.plain_run.PlainRun.load.Goals.{After-load_from}

found : (c : After-load_from) (maps : ℕ) → load_from (environment_of c.args.context.now maps)
    (plain_state_of c.args.self.now) (byte_count c.args.width) c.args.offset
    ((plain_state_of c.args.self.now).regs c.args.src) ≡ c.load_from.result
found c maps =
    let g : SFits w16 c.args.offset = c.ranges.offset in
    let e = simp to_z-of_z at c.load_from.ensures in
    ap (λ b. load_from (environment_of c.args.context.now maps) (plain_state_of c.args.self.now)
    (byte_count c.args.width) c.args.offset b) (sym c.register.ensures) ∙ sym (e maps)

pub returns-in-Some : goal.returns-in-Some
returns-in-Some c = λ maps.
    let m = plain_state_of c.args.self.now in
    record {
      comes = bind_comes (load_from (environment_of c.args.context.now maps) m (byte_count c.args.width) c.args.offset
          (m.regs c.args.src)) (λ v. sets 1 c.args.dst v m) c.in-Some.v c.set.result c.args.self.now c.set.new.self
          (found (goal.at.returns-in-Some c).After-load_from maps ∙ c.in-Some.is) c.set.ensures;
    }

pub returns-in-None : goal.returns-in-None
returns-in-None c = λ maps.
    let m = plain_state_of c.args.self.now in
    record {
      comes = (
        bind_none (load_from (environment_of c.args.context.now maps) m (byte_count c.args.width)
            c.args.offset (m.regs c.args.src)) (λ v. sets 1 c.args.dst v m)
            (found (goal.at.returns-in-None c).After-load_from maps ∙ c.in-None.is),
        refl,
      );
    }
