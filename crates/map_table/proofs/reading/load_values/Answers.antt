use Rattle.table_words.proofs.Prelude.{rules, ◌≡◌, ◌+◌, ◌<◌, ◌≤◌, ◌∷◌, [], refl, length, ap, ◌∙◌, subst, arith}
use Rattle.map_table.proofs.Prelude.{Load, TableShape, Reads, stored_of}
use Rattle.std.proofs.lemmas.List.{length-set}
use Rattle.map_table.proofs.Going.{went_none, went_then}
use Rattle.map_table.proofs.Loading.{reads_more}
use Rattle.map_table.proofs.reading.load_values.Goals as goal

pub loop-place-init : goal.loop-place-init
loop-place-init c = (refl, refl, ([], tt, refl, went_none c.args.seat.now.me.0 c.requires.known), refl)

pub loop-place-preserved : goal.loop-place-preserved
loop-place-preserved c =
    let i = c.loop-place.invariant in
    let s = i.2 in
    let k = c.args.table.now.shape in
    let at = c.loop-place.place in
    let x = c.peek.result in
    let place = c.shape-shape.result.key_words + at in
    let here : place ≡ k.key_words + at = ap (λ (q : TableShape). q.key_words + at) c.shape-shape.ensures.shape in
    let within : at < length c.loop-place.words = search rules in
    let m = Load c.args.element place x in (
      c.peek.ensures.table ∙ i.0,
      c.peek.ensures.held ∙ i.1,
      (
        m ∷ s.0,
        s.1,
        reads_more c.args.element k.key_words c.loop-place.words at place x s.0 here within s.2,
        went_then c.args.seat.now.me.0 c.loop-place.seat.me.0 c.peek.new.seat.me.0 s.0 (m ∷ []) s.3 c.peek.ensures.step,
      ),
      length-set c.loop-place.words at x ∙ i.3,
    )

pub returns-clause-steps : goal.returns-clause-steps
returns-clause-steps c =
    let s = c.loop-place.invariant.2 in
    let k = c.args.table.now.shape in
    let all : stored_of k ≤ c.loop-place.place = search rules in
    let no_more : c.loop-place.place ≤ stored_of k = search rules in
    let at : c.loop-place.place ≡ stored_of k = omega (arith, all, no_more) in
    (s.0, s.1, subst (λ n. Reads c.args.element k.key_words c.loop-place.words n s.0) at s.2, s.3)
