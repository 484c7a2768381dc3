use Rattle.bpf_model.proofs.Prelude.{◌+◌, ◌∷◌, [], sym, ◌∙◌, subst, refl, add-one}
use Rattle.read_table.proofs.Prelude.{Fills}
use Rattle.read_table.specs.declared.view.Move.TheVariants.{Store}
use Rattle.read_table.proofs.Going.{went_then}
use Rattle.read_table.proofs.Keeping.{fills_quiet, quiet_free}
use Rattle.read_table.proofs.writing.fill.Goals as goal

pub loop-place-preserved : goal.loop-place-preserved
loop-place-preserved c =
    let i = c.loop-place.invariant in
    let m = Store c.args.slot (c.args.from + c.loop-place.place) c.word_of.result in (
      c.write.ensures.table ∙ i.0,
      c.write.ensures.held ∙ i.1,
      (
        m ∷ i.2.0,
        subst (λ z. Fills c.args.slot c.args.from c.args.bytes.now z (m ∷ i.2.0)) (sym (add-one c.loop-place.place))
            (c.word_of.result, i.2.0, refl, c.word_of.ensures, i.2.1),
        went_then c.args.seat.now.me.0 c.loop-place.seat.me.0 c.write.new.seat.me.0 i.2.0 (m ∷ []) i.2.2 c.write.ensures.step,
      ),
    )

pub write-requires-clause-free : goal.write-requires-clause-free
write-requires-clause-free c =
    let i = c.loop-place.invariant in
    quiet_free c.args.seat.now.me.0 c.loop-place.seat.me.0 i.2.0
    (fills_quiet c.args.slot c.args.from c.loop-place.place c.args.bytes.now i.2.0 i.2.1) i.2.2 c.args.slot
    c.requires.free
