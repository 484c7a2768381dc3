use Rattle.bpf_model.proofs.Prelude.{rules, ◌≡◌, ◌<◌, ◌++◌, sym, ◌∙◌, subst, arith, length, get_or, true, false, dite, ℕ_discrete, get_or_default}
use Rattle.read_table.proofs.Prelude.{IsLinkedUnder}
use Rattle.read_table.proofs.Going.{went_known, went_then}
use Rattle.read_table.proofs.Keeping.{quiet_linked, went_me, went_shape}
use Rattle.read_table.proofs.Lookups.{only_append}
use Rattle.read_table.proofs.Peeking.{searches-quiet, under-before}
use Rattle.read_table.proofs.by_key.find_in.Goals as goal

not-under : false ≡ true → ⊥
not-under t = absurd (cc)

pub is_under-requires-clause-linked : goal.is_under-requires-clause-linked
is_under-requires-clause-linked c =
    let s = c.loop-at.invariant.2 in
    let k = c.args.table.now.shape in
    let low : c.loop-at.at < length c.args.slots.now = search rules in
    quiet_linked c.args.seat.now.me.0 c.loop-at.seat.me.0 s.0 (searches-quiet k s.0 s.1) s.2
    (get_or c.args.slots.now c.loop-at.at 0) (c.requires.linked c.loop-at.at 0 low)

pub returns-then-is_under-clause-steps : goal.returns-then-is_under-clause-steps
returns-then-is_under-clause-steps c =
    let s = c.loop-at.invariant.2 in
    let o = c.is_under.ensures.steps in
    let k = c.args.table.now.shape in
    (o.0 ++ s.0, only_append k o.0 s.0 o.1 s.1, went_then c.args.seat.now.me.0 c.loop-at.seat.me.0 c.is_under.new.seat.me.0 s.0 o.0 s.2 o.2)

pub loop-at-preserved : goal.loop-at-preserved
loop-at-preserved c =
    let i = c.loop-at.invariant in
    let s = i.2 in
    let o = c.is_under.ensures.steps in
    let k = c.args.table.now.shape in
    let u = c.args.seat.now.me.0 in
    let v = c.loop-at.seat.me.0 in
    let w = c.is_under.new.seat.me.0 in
    let key = c.args.key.now in
    let slots = c.args.slots.now in
    let low : c.loop-at.at < length slots = search rules in (
      c.is_under.ensures.table ∙ i.0,
      c.is_under.ensures.held ∙ i.1,
      (o.0 ++ s.0, only_append k o.0 s.0 o.1 s.1, went_then u v w s.0 o.0 s.2 o.2),
      λ j d l under. dite (ℕ_discrete j c.loop-at.at)
          (λ e. let here : get_or slots j d ≡ get_or slots c.loop-at.at 0 =
          subst (λ z. get_or slots z d ≡ get_or slots c.loop-at.at 0) (sym e) (get_or_default slots c.loop-at.at d 0 low) in
          not-under (c.if-is_under.ensures.under.1 (subst (λ z. IsLinkedUnder k key z w.seen) here under)))
          (λ ne. let before : j < c.loop-at.at = omega (arith, l, ne) in
          let within : j < length slots = omega (arith, before, low) in
          i.3 j d before
          (under-before k v w o.0 (went_shape u v _ s.2 ∙ c.requires.table.1) (went_me u v _ s.2 ∙ c.requires.writer)
          (went_known u v _ s.2) o.1 o.2 (get_or slots j d)
          (quiet_linked u v s.0 (searches-quiet k s.0 s.1) s.2 (get_or slots j d) (c.requires.linked j d within)) key under)),
    )
