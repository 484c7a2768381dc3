use Rattle.table_words.proofs.Prelude.{◌+◌, ◌++◌, [], refl, sym, ◌∙◌, subst, arith, dite, ℕ_discrete, IsLinkedUnder}
use Rattle.map_table.proofs.Prelude.{layout_of}
use Rattle.map_table.proofs.Going.{went_known, went_none, went_then}
use Rattle.map_table.proofs.Filling.{went_me, went_shape}
use Rattle.map_table.proofs.Keeping.{searches_quiet, same_word}
use Rattle.map_table.proofs.Lookups.{only_append}
use Rattle.map_table.proofs.Peeking.{under_before, false_true}
use Rattle.map_table.proofs.by_key.find_in.Goals as goal

pub loop-at-init : goal.loop-at-init
loop-at-init c = (refl, refl, ([], tt, went_none c.args.seat.now.me.0 c.requires.known), λ way l m. absurd (omega (arith, l, m)))

pub is_under-requires-clause-word : goal.is_under-requires-clause-word
is_under-requires-clause-word c =
    let k = c.args.table.now.shape in
    let s = c.loop-at.invariant.2 in
    let first = c.requires.first in
    let below = c.loop-at-test.true in
    let way = c.args.first + c.loop-at.at in
    c.requires.words way (omega (arith, first, below)) ∙
    sym (same_word c.args.seat.now.me.0 c.loop-at.seat.me.0 s.0 (searches_quiet (layout_of k) 0 s.0 s.1) s.2 way)

pub returns-then-is_under-clause-steps : goal.returns-then-is_under-clause-steps
returns-then-is_under-clause-steps c =
    let s = c.loop-at.invariant.2 in
    let o = c.is_under.ensures.steps in
    let k = c.args.table.now.shape in
    (o.0 ++ s.0, only_append k o.0 s.0 o.1 s.1, went_then c.args.seat.now.me.0 c.loop-at.seat.me.0 c.is_under.new.seat.me.0 s.0 o.0 s.2 o.2)

pub loop-at-preserved : goal.loop-at-preserved
loop-at-preserved c =
    let i = c.loop-at.invariant in
    let s = i.2 in
    let o = c.is_under.ensures.steps in
    let k = c.args.table.now.shape in
    let u = c.args.seat.now.me.0 in
    let v = c.loop-at.seat.me.0 in
    let w = c.is_under.new.seat.me.0 in
    let key = c.args.key.now in
    let here = c.args.first + c.loop-at.at in (
      c.is_under.ensures.table ∙ i.0,
      c.is_under.ensures.held ∙ i.1,
      (o.0 ++ s.0, only_append k o.0 s.0 o.1 s.1, went_then u v w s.0 o.0 s.2 o.2),
      λ way l m under. dite (ℕ_discrete here way)
          (λ e. false_true (sym c.if-is_under.false ∙ c.is_under.ensures.under.1 (subst (λ z. IsLinkedUnder (layout_of k) 0 key z w.seen) (sym e) under)))
          (λ ne. i.3 way l (omega (arith, m, ne))
          (under_before k v w o.0 (went_shape u v _ s.2 ∙ c.requires.table.1) (went_me u v _ s.2 ∙ c.requires.writer) (went_known u v _ s.2)
          o.1 o.2 key way under)),
    )

pub returns-clause-none : goal.returns-clause-none
returns-clause-none c = λ none way l m.
    let all = c.loop-at-test.false in
    c.loop-at.invariant.3 way l (omega (arith, m, all))
