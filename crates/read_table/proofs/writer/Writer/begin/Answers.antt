use Rattle.bpf_model.proofs.Prelude.{rules, ◌≡◌, ◌∙◌, ◌*◌, ℕ, length, sym, ap, subst, range_with_len}
use Rattle.read_table.proofs.Prelude.{IsWriter, most_readers, most_table_slots}
use Rattle.atomic_table.specs.Table.{Me}
use Rattle.read_table.specs.declared.view.View.{View}
use Rattle.read_table.proofs.Seen.{sightings_first}
use Rattle.read_table.proofs.Slots.{begins_writer, begins_slots, at_most}
use Rattle.read_table.proofs.writer.Writer.begin.Goals as goal

pub invariant_of-result : goal.invariant_of-result
invariant_of-result c =
    let w = c.requires.writer in
    let view = ap (λ (m : Me ℕ View). m.0) w.2 in
    let slots : c.args.seat.me.0.shape.slots ≡ c.args.slots = ap (λ (v : View). v.shape.slots) view ∙ w.3 in
    let headers = c.in_ok-headers.ensures in
    let room : length c.in_ok-seen.seen.items ≡ most_readers * most_table_slots = search rules in
    let len : length c.in_ok-headers.headers.items ≡ w.1.slots = search rules in (
      subst (λ v. IsWriter v c.in_ok-headers.headers.items) (sym view) (begins_writer w.0 w.1 _ len headers.zeros),
      begins_slots _ w.0 w.1 _ _ _ view (c.in_ok-free.ensures.numbers ∙ ap (range_with_len 0) (sym w.3))
          c.in_ok-linked.ensures.items c.in_ok-unlinked.ensures.items,
      ap (λ (m : Me ℕ View). m.1) w.2,
      at_most _ _ _ slots c.in_ok-free.ensures.capacity,
      at_most _ _ _ slots c.in_ok-linked.ensures.capacity,
      at_most _ _ _ slots c.in_ok-unlinked.ensures.capacity,
      sightings_first _ w.0 w.1 _ view c.requires.sized room c.in_ok-seen.ensures.none,
    )
