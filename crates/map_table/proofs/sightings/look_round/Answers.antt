use Rattle.table_words.proofs.Prelude.{rules, ◌≡◌, ◌+◌, ◌≤◌, ◌++◌, ◌∙◌, subst, arith, length, ScansInTurn}
use Rattle.map_table.proofs.Going.{went_then}
use Rattle.map_table.proofs.Seen.{Looked, looked_more, scans_append}
use Rattle.map_table.proofs.sightings.look_round.Goals as goal

pub loop-reader-preserved : goal.loop-reader-preserved
loop-reader-preserved c =
    let i = c.loop-reader.invariant in
    let s = i.3 in
    let l = c.look.ensures in
    let o = l.steps in
    let at = c.loop-reader.reader in (
      l.table ∙ i.0,
      l.held ∙ i.1,
      l.seen,
      (
        o.0 ++ s.0,
        went_then c.args.seat.now.me.0 c.loop-reader.seat.me.0 c.look.new.seat.me.0 s.0 o.0 s.1 o.1,
        scans_append 0 at (at + 1) o.0 s.0 (omega arith) (omega arith) o.2 s.2,
        looked_more at (length c.args.unlinked.now) c.loop-reader.seen.items c.look.new.seen.items o.0 s.0 s.3 l.others o.3,
      ),
    )

pub returns-clause-steps : goal.returns-clause-steps
returns-clause-steps c =
    let s = c.loop-reader.invariant.3 in
    let all : c.args.table.now.shape.readers ≤ c.loop-reader.reader = search rules in
    let no_more : c.loop-reader.reader ≤ c.args.table.now.shape.readers = search rules in
    let same : c.loop-reader.reader ≡ c.args.table.now.shape.readers = omega (arith, all, no_more) in (
      s.0,
      s.1,
      subst (λ z. ScansInTurn 0 z s.0) same s.2,
      subst (λ z. Looked z (length c.args.unlinked.now) c.loop-reader.seen.items s.0) same s.3,
    )
