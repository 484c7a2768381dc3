use Rattle.table_words.proofs.Prelude.{◌+◌, ◌++◌, [], arith}
use Rattle.map_table.proofs.Going.{goes_none, goes_then}
use Rattle.map_table.proofs.Lookups.{searched_inside, only_append, some_found, last_steps, more_refuted, more_steps, upper_steps}
use Rattle.map_table.proofs.table.MapTable.search.Goals as goal

pub loop-at-init : goal.loop-at-init
loop-at-init c = ([], goes_none _ c.requires.known, tt, (λ w l m. absurd (omega (arith, l, m))), omega arith)

pub match_way-requires-clause-inside : goal.match_way-requires-clause-inside
match_way-requires-clause-inside c =
    let i = c.loop-at.invariant in
    searched_inside c.args.self.now.shape c.args.seat.now c.loop-at.seat i.0 i.1 i.2 c.requires.inside

pub returns-in-Some : goal.returns-in-Some
returns-in-Some c =
    let i = c.loop-at.invariant in
    let below = c.loop-at-test.true in
    let h = c.in-Some.ensures in (
      h.0 ++ i.0,
      goes_then c.args.seat.now c.loop-at.seat c.match_way.new.seat i.0 h.0 i.1 h.1,
      only_append c.args.self.now.shape h.0 i.0 h.2 i.2,
      some_found c.args.self.now.shape c.args.key.now (c.args.first + c.loop-at.at) (c.args.first + c.loop-at.at + 1)
          c.args.first (c.args.first + 8) c.in-Some.element h.0 i.0 (omega arith) (omega (arith, below)) h.3,
      last_steps c.loop-at.at 8 (1 + c.args.self.now.shape.key_words) h.0 i.0 below i.4 h.4,
    )

pub loop-at-preserved : goal.loop-at-preserved
loop-at-preserved c =
    let i = c.loop-at.invariant in
    let h = c.in_default.ensures in (
      h.0 ++ i.0,
      goes_then c.args.seat.now c.loop-at.seat c.match_way.new.seat i.0 h.0 i.1 h.1,
      only_append c.args.self.now.shape h.0 i.0 h.2 i.2,
      more_refuted c.args.self.now.shape c.args.key.now c.args.first c.loop-at.at h.0 i.0 i.3 h.3,
      more_steps c.loop-at.at (1 + c.args.self.now.shape.key_words) h.0 i.0 i.4 h.4,
    )

pub returns : goal.returns
returns c =
    let i = c.loop-at.invariant in
    let all = c.loop-at-test.false in
    let at = c.loop-at.auto.at-end in (
      i.0,
      i.1,
      i.2,
      (λ way l m. i.3 way l (omega (arith, m, all))),
      upper_steps c.loop-at.at 8 (1 + c.args.self.now.shape.key_words) i.0 at i.4,
    )
