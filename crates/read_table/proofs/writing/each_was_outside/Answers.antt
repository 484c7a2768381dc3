use Rattle.bpf_model.proofs.Prelude.{rules, ◌≡◌, ◌+◌, ◌≤◌, ◌++◌, sym, ap, ◌∙◌, subst, arith, append_assoc, Bool, MatchBool, ◌&&◌}
use Rattle.read_table.proofs.Prelude.{Cleared, FoundInside, ScansInTurn, Tells}
use Rattle.read_table.proofs.Going.{went_mine, went_then}
use Rattle.read_table.proofs.Seen.{scans_append, tells_more}
use Rattle.read_table.proofs.writing.each_was_outside.Goals as goal
use Rattle.read_table.proofs.writing.each_was_outside.Goals.{then-each, else-each}

pub loop-reader-preserved : goal.loop-reader-preserved
loop-reader-preserved c =
    let i = c.loop-reader.invariant in
    let s = i.3 in
    let o = c.was_outside-outside.ensures.steps in
    let at = c.loop-reader.reader in
    let slot = c.args.slot in
    let before = c.args.seat.now.me.0.mine in
    let outside = c.was_outside-outside.result in
    let old = c.loop-reader.each in
    let told = subst (λ z. MatchBool outside (Cleared (at + 1) slot (o.0 ++ z)) (FoundInside (at + 1) o.0 × (Cleared (at + 1) slot (o.0 ++ z) → ⊥)))
    (went_mine c.args.seat.now.me.0 c.loop-reader.seat.me.0 (s.0 ++ before) s.1) o.3 in
    let is : (old && outside) ≡ c.if-each.each = elim c.if-each.branch [
      | then-each w ↦ ap (λ b. b && outside) w.if-each.true ∙ sym w.each-is
      | else-each w ↦ ap (λ b. b && outside) w.if-each.false ∙ (sym w.if-each.false ∙ sym w.each-is)
    ] in (
      c.was_outside-outside.ensures.table ∙ i.0,
      c.was_outside-outside.ensures.held ∙ i.1,
      c.was_outside-outside.ensures.seen,
      (
        o.0 ++ s.0,
        went_then c.args.seat.now.me.0 c.loop-reader.seat.me.0 c.was_outside-outside.new.seat.me.0 s.0 o.0 s.1 o.1,
        scans_append 0 at (at + 1) o.0 s.0 (omega arith) (omega arith) o.2 s.2,
        subst (λ (b : Bool). Tells (at + 1) slot (o.0 ++ s.0) ((o.0 ++ s.0) ++ before) b) is
            (subst (λ z. Tells (at + 1) slot (o.0 ++ s.0) z (old && outside)) (sym (append_assoc o.0 s.0 before))
            (tells_more at slot o.0 s.0 before old outside o.2 s.3 told)),
      ),
    )

pub returns-clause-steps : goal.returns-clause-steps
returns-clause-steps c =
    let s = c.loop-reader.invariant.3 in
    let all : c.args.table.now.shape.readers ≤ c.loop-reader.reader = search rules in
    let no_more : c.loop-reader.reader ≤ c.args.table.now.shape.readers = search rules in
    let same : c.loop-reader.reader ≡ c.args.table.now.shape.readers = omega (arith, all, no_more) in
    let before = c.args.seat.now.me.0.mine in (
      s.0,
      s.1,
      subst (λ z. ScansInTurn 0 z s.0) same s.2,
      subst (λ z. Tells z c.args.slot s.0 (s.0 ++ before) c.loop-reader.each) same s.3,
    )
