use Rattle.table_words.proofs.Prelude.{rules, ◌≡◌, ◌<◌, ◌≤◌, ◌∷◌, [], refl, set, length, sym, ◌∙◌, subst, arith, get_or-set_other, get_or-set_same}
use Rattle.table_words.proofs.Prelude.{slice_index, dite, ℕ_discrete, word_at}
use Rattle.map_table.proofs.Prelude.{Load, layout_of}
use Rattle.std.proofs.lemmas.List.{length-set}
use Rattle.table_words.proofs.Steps.{key_is}
use Rattle.map_table.proofs.Going.{went_known, went_none, went_then}
use Rattle.map_table.proofs.Filling.{went_me, went_shape}
use Rattle.map_table.proofs.Peeking.{word_kept}
use Rattle.map_table.proofs.reading.load_key.Goals as goal

pub loop-place-init : goal.loop-place-init
loop-place-init c = (refl, refl, ([], tt, went_none c.args.seat.now.me.0 c.requires.known), refl, λ p l. absurd (omega (arith, l)))

pub loop-place-preserved : goal.loop-place-preserved
loop-place-preserved c =
    let i = c.loop-place.invariant in
    let k = c.args.table.now.shape in
    let u = c.args.seat.now.me.0 in
    let v = c.loop-place.seat.me.0 in
    let w = c.peek.new.seat.me.0 in
    let s = i.2 in
    let at = c.loop-place.place in
    let x = c.peek.result in
    let place : at < k.key_words = search rules in
    let m = Load c.args.element at x in
    let within : at < length c.loop-place.key = search rules in
    let kept = word_kept k v w (m ∷ []) (went_shape u v _ s.2 ∙ c.requires.table.1) (went_me u v _ s.2 ∙ c.requires.writer)
    (went_known u v _ s.2) (place, tt) c.peek.ensures.step in (
      c.peek.ensures.table ∙ i.0,
      c.peek.ensures.held ∙ i.1,
      (m ∷ s.0, (place, s.1), went_then u v w s.0 (m ∷ []) s.2 c.peek.ensures.step),
      length-set c.loop-place.key at x ∙ i.3,
      λ p l. dite (ℕ_discrete p at)
          (λ e. subst (λ z. slice_index (set c.loop-place.key at x) z ≡ word_at c.args.element z w.seen) (sym e)
          (get_or-set_same c.loop-place.key at x 0 within ∙ c.peek.ensures.found))
          (λ ne. let low : p < at = omega (arith, l, ne) in
          get_or-set_other c.loop-place.key at p x 0 ne ∙ (i.4 p low ∙ sym (kept c.args.element p (omega (arith, low, place))))),
    )

pub returns-clause-key : goal.returns-clause-key
returns-clause-key c =
    let i = c.loop-place.invariant in
    let k = c.args.table.now.shape in
    let all : k.key_words ≤ c.loop-place.place = search rules in
    key_is (layout_of k) c.args.element c.loop-place.key c.loop-place.seat.me.0.seen (i.3 ∙ c.requires.key)
    (λ p low. i.4 p (omega (arith, low, all)))
