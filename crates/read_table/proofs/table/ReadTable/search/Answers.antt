use Rattle.bpf_model.proofs.Prelude.{rules, ◌+◌, ◌<◌, ◌≤◌, ◌++◌, [], arith}
use Rattle.read_table.proofs.Going.{goes_none, goes_then}
use Rattle.read_table.proofs.Lookups.{searched_inside, only_append, found_front, last_steps, more_refuted, more_steps, upper_steps}
use Rattle.read_table.proofs.table.ReadTable.search.Goals as goal

pub loop-slot-init : goal.loop-slot-init
loop-slot-init c = ([], goes_none _ c.requires.known, tt, (λ s l m. absurd (omega arith)), omega arith)

pub loop-slot-preserved : goal.loop-slot-preserved
loop-slot-preserved c =
    let i = c.loop-slot.invariant in
    let h = c.if-has.ensures in (
      h.0 ++ i.0,
      goes_then c.args.seat.now c.loop-slot.seat c.has.new.seat i.0 h.0 i.1 h.1,
      only_append c.args.self.now.shape h.0 i.0 h.2 i.2,
      more_refuted c.args.self.now.shape c.args.key.now c.args.low c.loop-slot.slot h.0 i.0 i.3 h.3,
      more_steps c.args.low c.loop-slot.slot (1 + c.args.self.now.shape.key_words) h.0 i.0 i.4 h.4,
    )

pub returns-then-has : goal.returns-then-has
returns-then-has c =
    let i = c.loop-slot.invariant in
    let below : c.loop-slot.slot < c.args.high = search rules in
    let h = c.if-has.ensures in (
      h.0 ++ i.0,
      goes_then c.args.seat.now c.loop-slot.seat c.has.new.seat i.0 h.0 i.1 h.1,
      only_append c.args.self.now.shape h.0 i.0 h.2 i.2,
      found_front c.args.self.now.shape c.args.key.now c.loop-slot.slot h.0 i.0 h.3,
      last_steps c.args.low c.loop-slot.slot c.args.high (1 + c.args.self.now.shape.key_words) h.0 i.0 below i.4 h.4,
    )

pub returns : goal.returns
returns c =
    let i = c.loop-slot.invariant in
    let at_most : c.loop-slot.slot ≤ c.args.high = search rules in (
      i.0,
      i.1,
      i.2,
      (λ slot l m. i.3 slot l (omega arith)),
      upper_steps c.args.low c.loop-slot.slot c.args.high (1 + c.args.self.now.shape.key_words) i.0 at_most i.4,
    )

pub has-requires-clause-inside : goal.has-requires-clause-inside
has-requires-clause-inside c =
    let i = c.loop-slot.invariant in
    searched_inside c.args.self.now.shape c.args.seat.now c.loop-slot.seat i.0 i.1 i.2 c.requires.inside
