use Rattle.bpf_model.proofs.Prelude.{ℕ, ◌+◌, ◌%◌, ◌<◌, arith, List, [], ◌∷◌, ◌++◌, refl, sym, ap, ◌∙◌, subst}
use Rattle.read_table.proofs.Prelude.{header_in, MayLink, TableView, Went, WriterView, Fills, IsFree, IsWriter, AreSlots}
use Rattle.read_table.specs.declared.view.TableShape.{TableShape}
use Rattle.read_table.specs.declared.view.Move.{Move}
use Rattle.read_table.specs.declared.view.Move.TheVariants.{Header}
use Rattle.read_table.specs.Slots.{as_holder}
use Rattle.read_table.proofs.Going.{went_then}
use Rattle.read_table.proofs.Seen.{sightings_changed, sightings_filled}
use Rattle.read_table.proofs.Linking.{linked-under}
use Rattle.read_table.proofs.Slots.{at_leaves}
use Rattle.read_table.proofs.Keeping.{filled, changed_writer, linked_slots, fits, works, went_shape}
use Rattle.read_table.proofs.writer.Writer.link.Goals as goal

pub write_slot-requires-clause-slot : goal.write_slot-requires-clause-slot
write_slot-requires-clause-slot c =
    let i = c.self.invariant in
    let shape = ap (λ (z : WriterView). z.table.shape) c.self.view_is ∙ ap (λ (z : TableView). z.shape) c.requires.table in
    let f = at_leaves (IsFree c.self.inside.seat.me.0) c.take_nearest-slot.result _ _ c.take_nearest-slot.ensures.leaves i.1.are_free in
    subst (λ (k : TableShape). c.take_nearest-slot.result < k.slots) shape f.within

pub write_slot-requires-clause-free : goal.write_slot-requires-clause-free
write_slot-requires-clause-free c =
    let i = c.self.invariant in
    at_leaves (IsFree c.self.inside.seat.me.0) c.take_nearest-slot.result _ _ c.take_nearest-slot.ensures.leaves i.1.are_free

pub change-requires-clause-slot : goal.change-requires-clause-slot
change-requires-clause-slot c =
    let i = c.self.invariant in
    let shape = ap (λ (z : WriterView). z.table.shape) c.self.view_is ∙ ap (λ (z : TableView). z.shape) c.requires.table in
    let f = at_leaves (IsFree c.self.inside.seat.me.0) c.take_nearest-slot.result _ _ c.take_nearest-slot.ensures.leaves i.1.are_free in
    subst (λ (k : TableShape). c.take_nearest-slot.result < k.slots) shape f.within

pub change-requires-clause-noted : goal.change-requires-clause-noted
change-requires-clause-noted c =
    let i = c.self.invariant in
    let s = c.write_slot.ensures.steps in
    let f = filled _ c.write_slot.new.seat.me.0 _ _ _ _ _ c.take_nearest-slot.result c.args.table.now.shape
    c.args.key.now c.args.value.now i.0 i.1 c.take_nearest-slot.ensures.leaves s.0 s.1 s.2 s.3 s.4 in
    f.writer.are_headers c.take_nearest-slot.result f.now.within

pub change-requires-clause-bounded : goal.change-requires-clause-bounded
change-requires-clause-bounded c =
    let i = c.self.invariant in
    let s = c.write_slot.ensures.steps in
    let f = filled _ c.write_slot.new.seat.me.0 _ _ _ _ _ c.take_nearest-slot.result c.args.table.now.shape
    c.args.key.now c.args.value.now i.0 i.1 c.take_nearest-slot.ensures.leaves s.0 s.1 s.2 s.3 s.4 in
    f.now.bounded

pub change-requires-clause-reuse : goal.change-requires-clause-reuse
change-requires-clause-reuse c =
    λ _.
    let i = c.self.invariant in
    let s = c.write_slot.ensures.steps in
    let shape = ap (λ (z : WriterView). z.table.shape) c.self.view_is ∙ ap (λ (z : TableView). z.shape) c.requires.table in
    let f = filled _ c.write_slot.new.seat.me.0 _ _ _ _ _ c.take_nearest-slot.result c.args.table.now.shape
    c.args.key.now c.args.value.now i.0 i.1 c.take_nearest-slot.ensures.leaves s.0 s.1 s.2 s.3 s.4 in
    subst (λ (k : TableShape). MayLink k.readers c.take_nearest-slot.result c.write_slot.new.seat.me.0.mine) (f.shape ∙ shape) f.now.may

pub forget-requires : goal.forget-requires
forget-requires c =
    let i = c.self.invariant in
    let f = at_leaves (IsFree c.self.inside.seat.me.0) c.take_nearest-slot.result _ _ c.take_nearest-slot.ensures.leaves i.1.are_free in
    let within = f.within in
    let few = i.6.slots in
    (omega (arith, within, few), i.6.room)

pub invariant_of-self : goal.invariant_of-self
invariant_of-self c =
    let i = c.self.invariant in
    let s = c.write_slot.ensures.steps in
    let f = filled _ c.write_slot.new.seat.me.0 _ _ _ _ _ c.take_nearest-slot.result c.args.table.now.shape
    c.args.key.now c.args.value.now i.0 i.1 c.take_nearest-slot.ensures.leaves s.0 s.1 s.2 s.3 s.4 in
    let g = c.change.ensures.step in
    let same = went_shape c.write_slot.new.seat.me.0 c.change.new.seat.me.0 _ g ∙ f.shape in (
      subst (IsWriter c.change.new.seat.me.0) (sym c.change.ensures.headers)
          (changed_writer c.write_slot.new.seat.me.0 c.change.new.seat.me.0 c.take_nearest-slot.result g _
          f.now.within f.writer),
      subst (λ (z : List ℕ). AreSlots c.change.new.seat.me.0 c.take_nearest-slot.new.free.items z
          c.self.inside.unlinked.items) (sym c.push_reserved.ensures.items)
          (linked_slots c.write_slot.new.seat.me.0 c.change.new.seat.me.0 c.take_nearest-slot.result g _ _ _ _
          c.take_nearest-slot.ensures.leaves f.slots),
      c.change.ensures.held ∙ (c.write_slot.ensures.held ∙ i.2),
      fits c.self.inside.seat.me.0 c.change.new.seat.me.0 _ _ same c.take_nearest-slot.ensures.capacity i.3,
      fits c.self.inside.seat.me.0 c.change.new.seat.me.0 _ _ same c.push_reserved.ensures.capacity i.4,
      fits c.self.inside.seat.me.0 c.change.new.seat.me.0 _ _ same refl i.5,
      sightings_changed c.write_slot.new.seat.me.0 c.change.new.seat.me.0 c.take_nearest-slot.result _ c.self.inside.seen.items c.forget.new.seen.items g
          c.forget.ensures.room c.forget.ensures.forgotten c.forget.ensures.others
          (sightings_filled c.self.inside.seat.me.0 c.write_slot.new.seat.me.0 c.take_nearest-slot.result 0 _ _ _ _ _ s.0 s.1
          c.self.inside.seen.items s.2 s.3 s.4 i.6),
    )

pub returns-clause-slot : goal.returns-clause-slot
returns-clause-slot c =
    let i = c.self.invariant in
    let shape = ap (λ (z : WriterView). z.table.shape) c.self.view_is ∙ ap (λ (z : TableView). z.shape) c.requires.table in
    let f = at_leaves (IsFree c.self.inside.seat.me.0) c.take_nearest-slot.result _ _ c.take_nearest-slot.ensures.leaves i.1.are_free in
    subst (λ (k : TableShape). c.take_nearest-slot.result < k.slots) shape f.within

pub returns-clause-reuse : goal.returns-clause-reuse
returns-clause-reuse c =
    let i = c.self.invariant in
    let shape = ap (λ (z : WriterView). z.table.shape) c.self.view_is ∙ ap (λ (z : TableView). z.shape) c.requires.table in
    let f = at_leaves (IsFree c.self.inside.seat.me.0) c.take_nearest-slot.result _ _ c.take_nearest-slot.ensures.leaves i.1.are_free in
    subst (λ (z : TableShape × List Move). MayLink z.0.readers c.take_nearest-slot.result z.1)
    (λ a. (shape a, ap (λ (z : WriterView). z.view.mine) c.self.view_is a)) f.may

pub returns-clause-steps : goal.returns-clause-steps
returns-clause-steps c =
    let i = c.self.invariant in
    let s = c.write_slot.ensures.steps in
    let f = filled _ c.write_slot.new.seat.me.0 _ _ _ _ _ c.take_nearest-slot.result c.args.table.now.shape
    c.args.key.now c.args.value.now i.0 i.1 c.take_nearest-slot.ensures.leaves s.0 s.1 s.2 s.3 s.4 in
    let was = ap (λ (z : WriterView). header_in c.take_nearest-slot.result z.view.mine) c.self.view_is in
    let all = went_then c.self.inside.seat.me.0 c.write_slot.new.seat.me.0 c.change.new.seat.me.0 (s.1 ++ s.0)
    (Header c.take_nearest-slot.result (header_in c.take_nearest-slot.result c.write_slot.new.seat.me.0.mine + 1)
    ∷ []) s.4 c.change.ensures.step in (
      s.0,
      s.1,
      subst (λ (z : TableView). Fills c.take_nearest-slot.result 0 c.args.key.now z.shape.key_words s.0) (sym c.requires.table) s.2,
      subst (λ (z : TableView). Fills c.take_nearest-slot.result z.shape.key_words c.args.value.now z.shape.value_words s.1) (sym c.requires.table) s.3,
      sym (ap (λ z. z % 2) was) ∙ f.before.even,
      works c.self.inside.seat.table_id c.change.new.seat.table_id c.self.inside.seat.me.0 c.change.new.seat.me.0 _ _
          (ap as_holder c.self.view_is) (c.change.ensures.table ∙ c.write_slot.ensures.table)
          (subst (λ z. Went c.self.inside.seat.me.0 ((Header c.take_nearest-slot.result (z + 1) ∷ (s.1 ++ s.0)) ++
          c.self.inside.seat.me.0.mine) c.change.new.seat.me.0) (f.same ∙ was) all),
    )

pub returns-clause-under : goal.returns-clause-under
returns-clause-under c =
    let i = c.self.invariant in
    let s = c.write_slot.ensures.steps in
    let v = c.self.inside.seat.me.0 in
    let k = c.args.table.now.shape in
    let slot = c.take_nearest-slot.result in
    let shape = ap (λ (z : WriterView). z.table.shape) c.self.view_is ∙ ap (λ (z : TableView). z.shape) c.requires.table in
    let f = filled v c.write_slot.new.seat.me.0 _ _ _ _ _ slot k
    c.args.key.now c.args.value.now i.0 i.1 c.take_nearest-slot.ensures.leaves s.0 s.1 s.2 s.3 s.4 in
    let even = f.now.even in
    let all = went_then v c.write_slot.new.seat.me.0 c.change.new.seat.me.0 (s.1 ++ s.0)
    (Header slot (header_in slot c.write_slot.new.seat.me.0.mine + 1) ∷ []) s.4 c.change.ensures.step in
    linked-under k v c.change.new.seat.me.0 slot (header_in slot c.write_slot.new.seat.me.0.mine + 1) c.args.key.now c.args.value.now s.0 s.1 shape i.0.me
    (subst (λ (z : TableShape). slot < z.slots) shape f.before.within) (omega (arith, even)) s.2 s.3 all
