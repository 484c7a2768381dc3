use Rattle.table_words.proofs.Prelude.{◌+◌, ◌∷◌, [], sym, ◌∙◌, subst, refl, add-one, slice_index}
use Rattle.map_table.proofs.Prelude.{Store, Fills}
use Rattle.map_table.proofs.Going.{went_then}
use Rattle.map_table.proofs.Filling.{filled_more}
use Rattle.map_table.proofs.writing.fill.Goals as goal

pub loop-place-preserved : goal.loop-place-preserved
loop-place-preserved c =
    let i = c.loop-place.invariant in
    let x = slice_index c.args.words.now c.loop-place.place in
    let m = Store c.args.element (c.args.from + c.loop-place.place) x in
    let more = filled_more c.args.table.now.shape c.args.seat.now.me.0 c.loop-place.seat.me.0 c.write.new.seat.me.0 c.args.element c.args.from
    c.loop-place.place x c.args.words.now i.2.0 c.requires.table.1 c.requires.writer i.2.2 (i.3, i.4, i.5) refl c.write.ensures.step in (
      c.write.ensures.table ∙ i.0,
      c.write.ensures.held ∙ i.1,
      (
        m ∷ i.2.0,
        subst (λ z. Fills c.args.element c.args.from c.args.words.now z (m ∷ i.2.0)) (sym (add-one c.loop-place.place))
            (i.2.0, refl, i.2.1),
        went_then c.args.seat.now.me.0 c.loop-place.seat.me.0 c.write.new.seat.me.0 i.2.0 (m ∷ []) i.2.2 c.write.ensures.step,
      ),
      more.0,
      more.1,
      more.2,
    )
