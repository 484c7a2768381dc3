use Rattle.bpf_model.proofs.Prelude.{◌≡◌, ◌∙◌, ◌+◌, ◌≤◌, sym, ap, subst, length, arith, length-replicate, Queues, no_queues, unused_slot, KeyMap}
use Rattle.element_store.proofs.Prelude.{ArenaState, deferred_lists}
use Rattle.std.specs.FinMap as map
use Rattle.map_kinds.specs.Parted.{PartsView, IsParted}
use Rattle.map_kinds.proofs.Fresh.{parted-fresh}
use Rattle.map_kinds.proofs.parts.Parts.new.Goals as goal

pub invariant_of-result : goal.invariant_of-result
invariant_of-result g c =
    let slots = c.args.shape.entries + c.args.shape.spare in
    let e1 : length c.in_ok-arena.arena.slots ≡ slots =
    ap (λ (a : ArenaState). length a.slots) c.in_ok-arena.ensures.new ∙ length-replicate slots unused_slot in
    let room : length c.in_ok-arena.arena.slots ≤ slots = omega arith in
    let fi = c.in_ok-index.ensures.fits c.in_ok-arena.arena room in
    let fd = c.new-3.ensures.fits c.in_ok-arena.arena in
    let v = ap (λ (z : KeyMap). let r : PartsView = record {
      index = z;
      lists =
          deferred_lists c.new-3.result c.in_ok-arena.arena;
      arena = c.in_ok-arena.arena;
    } in r)
    (c.in_ok-index.ensures.empty c.in_ok-arena.arena room)
    ∙ (ap (λ (q : Queues). let r : PartsView = record {
      index = map.empty;
      lists = q;
      arena =
          c.in_ok-arena.arena;
    } in r) (c.new-3.ensures.lists c.in_ok-arena.arena)
    ∙ ap (λ (a : ArenaState). let r : PartsView = record { index = map.empty; lists = no_queues; arena = a } in r) c.in_ok-arena.ensures.new) in
    ((fi, fd), subst IsParted (sym v) (parted-fresh slots c.args.shape.key_len c.args.shape.value_len c.args.shape.reuse_limit))
