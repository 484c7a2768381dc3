use Rattle.bpf_model.proofs.Prelude.{subst}
use Rattle.read_table.proofs.Prelude.{Fills}
use Rattle.read_table.specs.declared.view.TableShape.{TableShape}
use Rattle.read_table.proofs.Going.{went_then}
use Rattle.read_table.proofs.Keeping.{fills_quiet, quiet_free}
use Rattle.read_table.proofs.writing.write_slot.Goals as goal

pub returns-clause-steps : goal.returns-clause-steps
returns-clause-steps c =
    let ks = c.fill.ensures.steps in
    let vs = c.fill-2.ensures.steps in
    let is = c.shape-shape.ensures.shape in (
      ks.0,
      vs.0,
      subst (λ (k : TableShape). Fills c.args.slot 0 c.args.key.now k.key_words ks.0) is ks.1,
      subst (λ (k : TableShape). Fills c.args.slot k.key_words c.args.value.now k.value_words vs.0) is vs.1,
      went_then c.args.seat.now.me.0 c.fill.new.seat.me.0 c.fill-2.new.seat.me.0 ks.0 vs.0 ks.2 vs.2,
    )

pub fill-requires-2-clause-free : goal.fill-requires-2-clause-free
fill-requires-2-clause-free c =
    let ks = c.fill.ensures.steps in
    quiet_free c.args.seat.now.me.0 c.fill.new.seat.me.0 ks.0
    (fills_quiet c.args.slot 0 c.shape-shape.result.key_words c.args.key.now ks.0 ks.1) ks.2 c.args.slot
    c.requires.free
