use Rattle.bpf_model.proofs.Prelude.{ℕ, arith, List, refl, sym, ◌∙◌, subst}
use Rattle.read_table.proofs.Prelude.{IsLinked, IsWriter, AreSlots}
use Rattle.read_table.proofs.Seen.{sightings_changed}
use Rattle.read_table.proofs.Slots.{at_leaves}
use Rattle.read_table.proofs.Keeping.{changed_writer, unlinked_slots, fits, went_shape}
use Rattle.read_table.proofs.writer.Writer.unlink.Goals as goal

pub forget-requires : goal.forget-requires
forget-requires c =
    let i = c.self.invariant in
    let f = at_leaves (IsLinked c.self.inside.seat.me.0) c.args.slot _ _ c.take_out.ensures.leaves i.1.are_linked in
    let within = f.within in
    let few = i.6.slots in
    (omega (arith, within, few), i.6.room)

pub invariant_of-self : goal.invariant_of-self
invariant_of-self c =
    let i = c.self.invariant in
    let f = at_leaves (IsLinked c.self.inside.seat.me.0) c.args.slot _ _ c.take_out.ensures.leaves i.1.are_linked in
    let g = c.change.ensures.step in
    let same = went_shape c.self.inside.seat.me.0 c.change.new.seat.me.0 _ g in (
      subst (IsWriter c.change.new.seat.me.0) (sym c.change.ensures.headers)
          (changed_writer c.self.inside.seat.me.0 c.change.new.seat.me.0 c.args.slot g _ f.within i.0),
      subst (λ (z : List ℕ). AreSlots c.change.new.seat.me.0 c.self.inside.free.items c.take_out.new.list.items z)
          (sym c.push_reserved.ensures.items) (unlinked_slots c.self.inside.seat.me.0 c.change.new.seat.me.0
          c.args.slot g _ _ _ _ c.take_out.ensures.leaves i.1),
      c.change.ensures.held ∙ i.2,
      fits c.self.inside.seat.me.0 c.change.new.seat.me.0 _ _ same refl i.3,
      fits c.self.inside.seat.me.0 c.change.new.seat.me.0 _ _ same c.take_out.ensures.capacity i.4,
      fits c.self.inside.seat.me.0 c.change.new.seat.me.0 _ _ same c.push_reserved.ensures.capacity i.5,
      sightings_changed c.self.inside.seat.me.0 c.change.new.seat.me.0 c.args.slot _ c.self.inside.seen.items c.forget.new.seen.items g
          c.forget.ensures.room c.forget.ensures.forgotten c.forget.ensures.others i.6,
    )
