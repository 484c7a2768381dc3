use Rattle.bpf_model.proofs.Prelude.{rules, refl, None, ◌∙◌, byte_count}
use Rattle.model_laws.proofs.Prelude.{Store}
use Rattle.register_kinds.proofs.Prelude.{state_of}
use Rattle.state_steps.proofs.Serving.{serves_none, never_ready}
use Rattle.state_steps.proofs.Stepping.{access_step}
use Rattle.state_steps.proofs.Keeping.{store_keeps, store_reaches, store_number, taken_within}
use Rattle.state_steps.proofs.access.store_step.Goals as goal

pub returns-in_err-region : goal.returns-in_err-region
returns-in_err-region c = λ top below. record {
  done = search rules;
  below = c.store.ensures.below top below;
  unchanged = search rules;
  accepts = λ ready. let fine = (c.in_err-region.ensures.bytes ready.simple.1
      (store_number c.args.width c.args.to.base c.args.to.offset c.args.src.now (state_of c.args.state.now) ready)
      (store_reaches c.args.width c.args.to.base c.args.to.offset c.args.src.now (state_of c.args.state.now)
      ready)).fine in absurd cc;
  accepts_maps = λ ready. absurd (never_ready c.args.shape.now.shapes.now
      (Store c.args.width c.args.to.base c.args.to.offset c.args.src.now) refl (state_of c.args.state.now) ready);
}

pub returns : goal.returns
returns c = λ top below.
    let a = c.args.state.now in
    let b = c.store.new.state in
    access_step (Store c.args.width c.args.to.base c.args.to.offset c.args.src.now) c.args.shape.now.shapes.now
    c.args.shape.now.ctx_len top a b c.single.result c.in_ok-region.region c.args.to.base c.single.ensures
    (record { base_is = refl; no_test = λ r x. x; no_branch = λ x. x.1 refl })
    c.in_ok-region.ensures.region (c.in_ok-region.ensures.sound c.args.shape.now.ctx_len) (c.store.ensures.below top below)
    (λ ready.
    let n = c.in_ok-region.ensures.bytes ready.simple.1
    (store_number c.args.width c.args.to.base c.args.to.offset c.args.src.now (state_of c.args.state.now) ready)
    (store_reaches c.args.width c.args.to.base c.args.to.offset c.args.src.now (state_of c.args.state.now)
    ready) in
    store_keeps (Store c.args.width c.args.to.base c.args.to.offset c.args.src.now) ready.simple.1
    (byte_count c.args.width) (state_of a) (state_of b) (λ r w. w)
    (λ k t. taken_within c.args.width c.args.to.offset ready.simple.1 k ready.simple.2 t) n.alike)
    (serves_none c.args.shape.now.shapes.now (Store c.args.width c.args.to.base c.args.to.offset c.args.src.now) refl (state_of a) (state_of b) None)
    tt
    (λ r s n e. c.in_ok-region.ensures.others r ∙ e)
