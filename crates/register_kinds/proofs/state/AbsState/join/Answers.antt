use Rattle.bpf_model.proofs.Prelude.{◌+◌, refl, ap}
use Rattle.register_kinds.proofs.Prelude.{state_of, pair_of}
use Rattle.plan_laws.proofs.Planning.{join_left, join_right}
use Rattle.register_kinds.specs.declared.state.AbsState.{AbsState}
use Rattle.register_kinds.proofs.Pairs.{table_pairs}
use Rattle.register_kinds.proofs.Cells.{states_join, states_below}
use Rattle.register_kinds.proofs.state.AbsState.join.Goals as goal

pub returns-clause-joins : goal.returns-clause-joins
returns-clause-joins c =
    let top = c.args.ids.now.next in
    let pairs = c.join.new.pairs.items in
    let new : AbsState = record { regs = c.join_kinds.new.kinds; frame = c.join.new.self; depth = c.args.self.now.depth } in (
      pair_of top pairs,
      table_pairs top (top + c.len.result) pairs (ap (λ k. top + k) c.len.ensures.value) c.join.ensures.table,
      states_join top c.join_kinds.new.pairs.items pairs c.args.self.now c.args.other.now new c.join.ensures.grows
          c.join_kinds.ensures.joins c.join.ensures.joins c.requires.section refl,
    )

pub returns-clause-left : goal.returns-clause-left
returns-clause-left c =
    let x = returns-clause-joins c in
    join_left x.0 (state_of c.args.self.now) (state_of c.args.other.now)
    (state_of (record { regs = c.join_kinds.new.kinds; frame = c.join.new.self; depth = c.args.self.now.depth }))
    x.2

pub returns-clause-right : goal.returns-clause-right
returns-clause-right c =
    let x = returns-clause-joins c in
    join_right x.0 (state_of c.args.self.now) (state_of c.args.other.now)
    (state_of (record { regs = c.join_kinds.new.kinds; frame = c.join.new.self; depth = c.args.self.now.depth }))
    x.2

pub returns-clause-below : goal.returns-clause-below
returns-clause-below c =
    let top = c.args.ids.now.next in
    let new : AbsState = record { regs = c.join_kinds.new.kinds; frame = c.join.new.self; depth = c.args.self.now.depth } in
    states_below top c.join_kinds.new.pairs.items c.join.new.pairs.items c.args.self.now c.args.other.now new
    c.join.ensures.grows c.join_kinds.ensures.joins c.join.ensures.joins
    (top + c.len.result) (ap (λ k. top + k) c.len.ensures.value) c.join.ensures.spills
