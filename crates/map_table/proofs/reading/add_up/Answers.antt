use Rattle.table_words.proofs.Prelude.{◌+◌, ◌*◌, ◌%◌, ◌^◌, ◌∷◌, [], refl, sym, ◌∙◌, subst, add-one}
use Rattle.map_table.proofs.Prelude.{Load, TableShape, AddsUp, Went}
use Rattle.map_table.proofs.Going.{went_none, went_then}
use Rattle.map_table.proofs.reading.add_up.Goals as goal

pub loop-copy-init : goal.loop-copy-init
loop-copy-init c = (refl, refl, ([], (refl, refl), went_none c.args.seat.now.me.0 c.requires.known))

pub loop-copy-preserved : goal.loop-copy-preserved
loop-copy-preserved c =
    let i = c.loop-copy.invariant in
    let s = i.2 in
    let k = c.args.table.now.shape in
    let at = c.loop-copy.copy in
    let u = c.args.seat.now.me.0 in
    let v = c.loop-copy.seat.me.0 in
    let w = c.peek-word.new.seat.me.0 in
    let is = c.shape-shape.ensures.shape in
    let word = c.peek-word.result in
    let m = Load c.args.element (k.key_words + c.args.place + at * k.value_words) word in
    let found = c.peek-word.ensures.step in
    let step = subst (λ (q : TableShape). Went v (Load c.args.element (q.key_words + c.args.place + at * q.value_words) word ∷ v.mine) w) is found in (
      c.peek-word.ensures.table ∙ i.0,
      c.peek-word.ensures.held ∙ i.1,
      (
        m ∷ s.0,
        subst (λ z. AddsUp c.args.element (k.key_words + c.args.place) k.value_words z (m ∷ s.0) ((c.loop-copy.total + word) % 2 ^ 64)) (sym (add-one at))
            (s.0, c.loop-copy.total, word, refl, s.1, refl),
        went_then u v w s.0 (m ∷ []) s.2 step,
      ),
    )
