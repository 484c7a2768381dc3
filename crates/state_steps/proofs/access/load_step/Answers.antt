use Rattle.bpf_model.proofs.Prelude.{rules, refl, ◌∙◌, byte_count}
use Rattle.model_laws.proofs.Prelude.{Load}
use Rattle.register_kinds.proofs.Prelude.{state_of}
use Rattle.state_steps.proofs.Serving.{load_serves, load_ready_maps, load_no_other, no_section_call}
use Rattle.state_steps.proofs.Stepping.{access_step}
use Rattle.state_steps.proofs.Keeping.{set_keeps, load_ready}
use Rattle.state_steps.proofs.access.load_step.Goals as goal

pub returns-in_err-region : goal.returns-in_err-region
returns-in_err-region c = λ top below. record {
  done = search rules;
  below = c.load.ensures.below top below;
  unchanged = search rules;
  accepts = λ ready. let fine = (c.in_err-region.ensures.bytes ready.keeps_frame
      (load_ready c.args.width c.args.dst c.args.from.base c.args.from.offset (state_of c.args.state.now)
      ready)).fine in absurd cc;
  accepts_maps = λ ready.
      let r = load_ready_maps (Load c.args.width c.args.dst c.args.from.base c.args.from.offset) c.args.dst
      c.args.from.base (byte_count c.args.width) c.args.from.offset c.args.shape.now.shapes.now c.args.state.now
      (λ shape v. v) (load_no_other c.args.width c.args.dst c.args.from.base c.args.from.offset)
      (λ opens. no_section_call (Load c.args.width c.args.dst c.args.from.base c.args.from.offset) opens refl)
      ready in
      let fine = (c.in_err-region.ensures.value r.1.0 r.0 r.1.1).fine in
      absurd cc;
}

pub returns : goal.returns
returns c = λ top below.
    let a = c.args.state.now in
    let b = c.load.new.state in
    access_step (Load c.args.width c.args.dst c.args.from.base c.args.from.offset) c.args.shape.now.shapes.now
    c.args.shape.now.ctx_len top a b c.single.result c.in_ok-region.region c.args.from.base c.single.ensures
    (record { base_is = refl; no_test = λ r x. x; no_branch = λ x. x.1 refl })
    c.in_ok-region.ensures.region c.in_ok-region.ensures.sound (c.load.ensures.below top below)
    (λ ready.
    let n = c.in_ok-region.ensures.bytes ready.keeps_frame (load_ready c.args.width c.args.dst c.args.from.base c.args.from.offset (state_of a) ready) in
    set_keeps (Load c.args.width c.args.dst c.args.from.base c.args.from.offset) c.args.dst n.number (state_of a)
    (state_of b) (record { writes = λ r w. w; no_bytes = λ k w. w }) ready.keeps_frame n.alike)
    (load_serves (Load c.args.width c.args.dst c.args.from.base c.args.from.offset) c.args.dst c.args.from.base
    (byte_count c.args.width) c.args.from.offset c.args.shape.now.shapes.now a (λ shape v. v)
    (load_no_other c.args.width c.args.dst c.args.from.base c.args.from.offset)
    (λ opens. no_section_call (Load c.args.width c.args.dst c.args.from.base c.args.from.offset) opens refl)
    (state_of b) (λ map ne reads. let n = c.in_ok-region.ensures.value map ne reads in (n.number, n.alike)))
    c.in_ok-region.ensures.floor
    (λ r s n e. c.in_ok-region.ensures.others r n ∙ e)
