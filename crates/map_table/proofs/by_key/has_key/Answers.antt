use Rattle.table_words.proofs.Prelude.{rules, ◌≡◌, ◌≢◌, ◌<◌, ◌≤◌, ◌∷◌, [], refl, sym, ap, ◌∙◌, subst, arith, slice_index, dite, ℕ_discrete, word_at}
use Rattle.map_table.proofs.Prelude.{Load, layout_of}
use Rattle.table_words.proofs.Steps.{key_word, key_is}
use Rattle.map_table.proofs.Going.{went_known, went_none, went_then}
use Rattle.map_table.proofs.Filling.{went_me, went_shape}
use Rattle.map_table.proofs.Peeking.{word_kept, false_true}
use Rattle.map_table.proofs.by_key.has_key.Goals as goal

pub loop-place-init : goal.loop-place-init
loop-place-init c = (refl, refl, ([], tt, went_none c.args.seat.now.me.0 c.requires.known), λ p l. absurd (omega (arith, l)))

pub loop-place-preserved : goal.loop-place-preserved
loop-place-preserved c =
    let i = c.loop-place.invariant in
    let k = c.args.table.now.shape in
    let u = c.args.seat.now.me.0 in
    let v = c.loop-place.seat.me.0 in
    let w = c.peek.new.seat.me.0 in
    let s = i.2 in
    let at = c.loop-place.place in
    let place : at < k.key_words = search rules in
    let m = Load c.args.element at c.peek.result in
    let same : c.peek.result ≡ slice_index c.args.key.now at = search rules in
    let kept = word_kept k v w (m ∷ []) (went_shape u v _ s.2 ∙ c.requires.table.1) (went_me u v _ s.2 ∙ c.requires.writer)
    (went_known u v _ s.2) (place, tt) c.peek.ensures.step in (
      c.peek.ensures.table ∙ i.0,
      c.peek.ensures.held ∙ i.1,
      (m ∷ s.0, (place, s.1), went_then u v w s.0 (m ∷ []) s.2 c.peek.ensures.step),
      λ p l. dite (ℕ_discrete p at)
          (λ e. subst (λ z. slice_index c.args.key.now z ≡ word_at c.args.element z w.seen) (sym e) (sym same ∙ c.peek.ensures.found))
          (λ ne. let low : p < at = omega (arith, l, ne) in
          i.3 p low ∙ sym (kept c.args.element p (omega (arith, low, place)))),
    )

pub returns-then-peek-key-clause-steps : goal.returns-then-peek-key-clause-steps
returns-then-peek-key-clause-steps c =
    let s = c.loop-place.invariant.2 in
    let place : c.loop-place.place < c.args.table.now.shape.key_words = search rules in
    let m = Load c.args.element c.loop-place.place c.peek.result in
    (m ∷ s.0, (place, s.1), went_then c.args.seat.now.me.0 c.loop-place.seat.me.0 c.peek.new.seat.me.0 s.0 (m ∷ []) s.2 c.peek.ensures.step)

pub returns-then-peek-key-clause-key : goal.returns-then-peek-key-clause-key
returns-then-peek-key-clause-key c =
    let at = c.loop-place.place in
    let place : at < c.args.table.now.shape.key_words = search rules in
    let ne : c.peek.result ≢ slice_index c.args.key.now at = search rules in (
      λ t. absurd (false_true t),
      λ is. absurd (ne (c.peek.ensures.found ∙ (sym (key_word (layout_of c.args.table.now.shape) c.args.element at c.peek.new.seat.me.0.seen place)
          ∙ ap (λ z. slice_index z at) is))),
    )

pub returns-clause-key : goal.returns-clause-key
returns-clause-key c =
    let i = c.loop-place.invariant in
    let k = c.args.table.now.shape in
    let all : k.key_words ≤ c.loop-place.place = search rules in (
      λ _. key_is (layout_of k) c.args.element c.args.key.now c.loop-place.seat.me.0.seen c.requires.key
          (λ p low. i.3 p (omega (arith, low, all))),
      λ _. refl,
    )
