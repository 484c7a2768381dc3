use Rattle.bpf_model.proofs.Prelude.{◌≡◌, ◌∙◌, ◌*◌, ◌<◌, ◌^◌, List, sym, ap, subst, length, length-map-range_with_len}
use Rattle.element_store.proofs.Prelude.{fresh_cell, fresh_cells, AreCellsKept, arena_state_of}
use Rattle.element_store.specs.declared.cell.SlotCell.{SlotCell}
use Rattle.element_store.proofs.Keeps.{kept_from}
use Rattle.element_store.proofs.Fresh.{threaded-fresh, state-fresh, last-checked, last_below}
use Rattle.element_store.proofs.arena.Arena.new.Goals as goal

pub invariant_of-result : goal.invariant_of-result
invariant_of-result c =
    let small : c.args.limit < 2 ^ 32 = c.ranges.limit.fits in
    let k0 = kept_from _ _ _ c.args.limit _ (threaded-fresh c.args.slots c.args.limit c.requires.limit small) in
    let k1 = subst (λ o. AreCellsKept (fresh_cells c.args.slots c.args.slots) o (last_below c.args.slots) c.args.limit) (sym c.below.ensures) k0 in
    let k2 = subst (λ o. AreCellsKept (fresh_cells c.args.slots c.args.slots) c.below.result o c.args.limit)
    (sym (last-checked c.args.slots c.checked_sub.result c.checked_sub.ensures)) k1 in
    let k3 = subst (λ (cs : List SlotCell). AreCellsKept cs c.below.result c.checked_sub.result c.args.limit) (sym c.in_ok-cells.ensures) k2 in
    let long : length c.in_ok-cells.cells.items ≡ c.args.slots =
    ap (λ (cs : List SlotCell). length cs) c.in_ok-cells.ensures ∙
    length-map-range_with_len (fresh_cell c.args.slots) 0 c.args.slots in (
      k3,
      record {
        key_room = c.in_ok-keys.ensures.long ∙ ap (λ n. n * c.args.key_len) (sym long);
        value_room = c.in_ok-values.ensures.long ∙ ap (λ n. n * c.args.value_len) (sym long);
        key_bound = c.requires.key_len;
        value_bound = c.requires.value_len;
      },
    )

pub returns : goal.returns
returns c =
    let small : c.args.limit < 2 ^ 32 = c.ranges.limit.fits in
    record {
      new =
          ap (λ (cs : List SlotCell). arena_state_of cs c.below.result c.in_ok-keys.keys.items
          c.in_ok-values.values.items c.args.key_len c.args.value_len c.args.limit) c.in_ok-cells.ensures
          ∙ (ap (λ o. arena_state_of (fresh_cells c.args.slots c.args.slots) o c.in_ok-keys.keys.items
          c.in_ok-values.values.items c.args.key_len c.args.value_len c.args.limit) c.below.ensures
          ∙ state-fresh c.args.slots c.args.key_len c.args.value_len c.args.limit c.in_ok-keys.keys.items c.in_ok-values.values.items c.requires.limit small);
    }
