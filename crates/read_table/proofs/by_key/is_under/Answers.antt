use Rattle.bpf_model.proofs.Prelude.{rules, ◌≡◌, ◌≢◌, ◌<◌, ◌≤◌, ◌∷◌, [], refl, sym, ap, ◌∙◌, subst, arith, Some, true, false, dite, ℕ_discrete}
use Rattle.read_table.proofs.Prelude.{word_at_place, key_word}
use Rattle.read_table.specs.declared.view.Move.TheVariants.{Load}
use Rattle.read_table.proofs.Going.{went_known, went_none, went_then}
use Rattle.read_table.proofs.Keeping.{quiet_linked, went_me, went_shape}
use Rattle.read_table.proofs.Lookups.{same_number}
use Rattle.read_table.proofs.Peeking.{odd-now, searches-quiet, within-now, word-kept}
use Rattle.read_table.proofs.by_key.is_under.Goals as goal

false-true : false ≡ true → ⊥
false-true t = absurd (cc)

pub loop-place-init : goal.loop-place-init
loop-place-init c = (refl, refl, ([], tt, went_none c.args.seat.now.me.0 c.requires.known), λ p l. absurd (omega (arith, l)))

pub loop-place-preserved : goal.loop-place-preserved
loop-place-preserved c =
    let i = c.loop-place.invariant in
    let k = c.args.table.now.shape in
    let u = c.args.seat.now.me.0 in
    let v = c.loop-place.seat.me.0 in
    let w = c.peek.new.seat.me.0 in
    let s = i.2 in
    let place : c.loop-place.place < k.key_words = search rules in
    let m = Load c.args.slot c.loop-place.place c.peek.result in
    let same : c.word_of.result ≡ c.peek.result = search rules in
    let linked = quiet_linked u v s.0 (searches-quiet k s.0 s.1) s.2 c.args.slot c.requires.linked in
    let kept = word-kept k v w (m ∷ []) (went_shape u v _ s.2 ∙ c.requires.table.1) (went_me u v _ s.2 ∙ c.requires.writer)
    (went_known u v _ s.2) (place, tt) c.peek.ensures.step c.args.slot linked in (
      c.peek.ensures.table ∙ i.0,
      c.peek.ensures.held ∙ i.1,
      (m ∷ s.0, (place, s.1), went_then u v w s.0 (m ∷ []) s.2 c.peek.ensures.step),
      λ p l. dite (ℕ_discrete p c.loop-place.place)
          (λ e. subst (λ z. key_word c.args.key.now z ≡ Some (word_at_place c.args.slot z w.seen)) (sym e)
          (c.word_of.ensures ∙ ap Some (same ∙ c.peek.ensures.found)))
          (λ ne. let low : p < c.loop-place.place = omega (arith, l, ne) in
          i.3 p low ∙ ap Some (sym (kept p (omega (arith, low, place))))),
    )

pub returns-then-peek-word_of-clause-steps : goal.returns-then-peek-word_of-clause-steps
returns-then-peek-word_of-clause-steps c =
    let s = c.loop-place.invariant.2 in
    let place : c.loop-place.place < c.args.table.now.shape.key_words = search rules in
    let m = Load c.args.slot c.loop-place.place c.peek.result in
    (m ∷ s.0, (place, s.1), went_then c.args.seat.now.me.0 c.loop-place.seat.me.0 c.peek.new.seat.me.0 s.0 (m ∷ []) s.2 c.peek.ensures.step)

pub returns-then-peek-word_of-clause-under : goal.returns-then-peek-word_of-clause-under
returns-then-peek-word_of-clause-under c =
    let place : c.loop-place.place < c.args.table.now.shape.key_words = search rules in
    let ne : c.peek.result ≢ c.word_of.result = search rules in
    let found = c.peek.ensures.found in
    let word = c.word_of.ensures in (
      λ t. absurd (false-true t),
      λ u. absurd (ne (found ∙ same_number (word_at_place c.args.slot c.loop-place.place c.peek.new.seat.me.0.seen) c.word_of.result
          (sym (u.words c.loop-place.place place) ∙ word))),
    )

pub returns-clause-under : goal.returns-clause-under
returns-clause-under c =
    let i = c.loop-place.invariant in
    let s = i.2 in
    let k = c.args.table.now.shape in
    let u = c.args.seat.now.me.0 in
    let v = c.loop-place.seat.me.0 in
    let all : k.key_words ≤ c.loop-place.place = search rules in (
      λ _. record {
        within = within-now k u v s.0 c.requires.table.1 c.requires.writer c.requires.known s.1 s.2 c.args.slot c.requires.linked;
        linked = odd-now k u v s.0 c.requires.table.1 c.requires.writer c.requires.known s.1 s.2 c.args.slot c.requires.linked;
        words = λ place low. i.3 place (omega (arith, low, all));
      },
      λ _. refl,
    )
