use Rattle.table_words.proofs.Prelude.{◌<◌, sym, subst}
use Rattle.map_table.proofs.Prelude.{TableShape, stored_of, Fills}
use Rattle.map_table.proofs.Going.{went_then}
use Rattle.map_table.proofs.Filling.{filled_key}
use Rattle.map_table.proofs.writing.fill_element.Goals as goal

pub returns-clause-steps : goal.returns-clause-steps
returns-clause-steps c =
    let ks = c.fill.ensures.steps in
    let vs = c.fill-2.ensures.steps in
    let is = c.shape-shape.ensures.shape in (
      ks.0,
      vs.0,
      subst (λ n. Fills c.args.element 0 c.args.key.now n ks.0) c.requires.key ks.1,
      subst (λ n. Fills c.args.element n c.args.value.now (stored_of c.args.table.now.shape) vs.0)
          (λ i. (is i).key_words) (subst (λ n. Fills c.args.element c.shape-shape.result.key_words c.args.value.now n vs.0) c.requires.value vs.1),
      went_then c.args.seat.now.me.0 c.fill.new.seat.me.0 c.fill-2.new.seat.me.0 ks.0 vs.0 ks.2 vs.2,
    )

pub returns-clause-key : goal.returns-clause-key
returns-clause-key c = filled_key c.args.table.now.shape c.args.element c.args.key.now c.fill.new.seat.me.0.seen c.fill-2.new.seat.me.0.seen
    c.requires.key c.fill.ensures.words
    (λ p l. c.fill-2.ensures.others p (subst (λ (k : TableShape). p < k.key_words) (sym c.shape-shape.ensures.shape) l))
