use Rattle.bpf_model.proofs.Prelude.{rules, ◌≡◌, ℕ, ◌^◌, ◌<◌, ◌++◌, List, length, get_or, inr, refl, sym, ap, ◌∙◌, subst, arith, Contains}
use Rattle.read_table.proofs.Prelude.{MayLink, TableView, WriterView, IsUnlinked, AreSlots}
use Rattle.std.proofs.lemmas.Grind.{get_or_default_zero}
use Rattle.read_table.specs.declared.view.TableShape.{TableShape}
use Rattle.read_table.specs.Sightings.{AreCleared}
use Rattle.read_table.proofs.Going.{went_mine}
use Rattle.read_table.proofs.Keeping.{quiet_writer, quiet_slots, quiet_same, reclaimed_slots, fits, went_shape}
use Rattle.read_table.proofs.Seen.{only_scans_quiet}
use Rattle.read_table.proofs.Slots.{at_contained, at_leaves}
use Rattle.read_table.proofs.writer.Writer.try_reclaim.Goals as goal

pub each_was_outside-requires-clause-slot : goal.each_was_outside-requires-clause-slot
each_was_outside-requires-clause-slot c =
    let i = c.self.invariant in
    let shape = ap (λ (z : WriterView). z.table.shape) c.self.view_is ∙ ap (λ (z : TableView). z.shape) c.requires.table in
    let there = subst (λ (z : WriterView). Contains z.unlinked c.args.slot) (sym c.self.view_is) c.requires.unlinked in
    let f = at_contained (IsUnlinked c.self.inside.seat.me.0) c.args.slot c.self.inside.unlinked.items there i.1.are_unlinked in
    subst (λ (k : TableShape). c.args.slot < k.slots) shape f.within

pub invariant_of-self : goal.invariant_of-self
invariant_of-self c =
    let i = c.self.invariant in
    let n : ℕ = c.args.table.now.shape.readers in
    let s = c.if-not-each_was_outside.ensures.steps in
    let q = only_scans_quiet 0 n s.0 s.2 in
    let same = went_shape c.self.inside.seat.me.0 c.each_was_outside.new.seat.me.0 _ s.1 in (
      quiet_writer c.self.inside.seat.me.0 c.each_was_outside.new.seat.me.0 s.0 q s.1 _ i.0,
      quiet_slots c.self.inside.seat.me.0 c.each_was_outside.new.seat.me.0 s.0 q s.1 _ _ _ i.1,
      c.each_was_outside.ensures.held ∙ i.2,
      fits c.self.inside.seat.me.0 c.each_was_outside.new.seat.me.0 _ _ same refl i.3,
      fits c.self.inside.seat.me.0 c.each_was_outside.new.seat.me.0 _ _ same refl i.4,
      fits c.self.inside.seat.me.0 c.each_was_outside.new.seat.me.0 _ _ same refl i.5,
      c.each_was_outside.ensures.seen,
    )

header_is : (headers : List ℕ) (slot x n : ℕ) → x ≡ get_or headers slot x → length headers ≡ n → slot < n → x ≡ get_or headers slot 0
header_is headers slot x n e len l = e ∙ get_or_default_zero headers slot x (omega arith)

pub invariant_of-self-2 : goal.invariant_of-self-2
invariant_of-self-2 c =
    let i = c.self.invariant in
    let n : ℕ = c.args.table.now.shape.readers in
    let s = c.if-not-each_was_outside.ensures.steps in
    let g = s.1 in
    let q = only_scans_quiet 0 n s.0 s.2 in
    let f = at_leaves (IsUnlinked c.self.inside.seat.me.0) c.args.slot _ _ c.take_out.ensures.leaves i.1.are_unlinked in
    let is = header_is c.self.inside.headers.items c.args.slot c.index.result.now _ c.index.ensures i.0.count f.within ∙ i.0.are_headers c.args.slot f.within in
    let low : c.index.result.now < 2 ^ 63 = search rules in
    let shape = ap (λ (z : WriterView). z.table.shape) c.self.view_is ∙ ap (λ (z : TableView). z.shape) c.requires.table in
    let same = went_shape c.self.inside.seat.me.0 c.each_was_outside.new.seat.me.0 _ g in
    let bounded = subst (λ z. z < 2 ^ 63) (is ∙ sym (quiet_same c.self.inside.seat.me.0 c.each_was_outside.new.seat.me.0 s.0 q g c.args.slot)) low in
    let mine = went_mine c.self.inside.seat.me.0 c.each_was_outside.new.seat.me.0 _ g in
    let all : AreCleared n c.args.slot (s.0 ++ c.self.inside.seat.me.0.mine) = s.3 in
    let may : MayLink n c.args.slot c.each_was_outside.new.seat.me.0.mine = subst (MayLink n c.args.slot) (sym mine) (inr all) in
    let may_now = subst (λ (k : TableShape). MayLink k.readers c.args.slot c.each_was_outside.new.seat.me.0.mine) (sym (same ∙ shape)) may in
    let slots = quiet_slots c.self.inside.seat.me.0 c.each_was_outside.new.seat.me.0 s.0 q g _ _ _ i.1 in (
      quiet_writer c.self.inside.seat.me.0 c.each_was_outside.new.seat.me.0 s.0 q g _ i.0,
      subst (λ (z : List ℕ). AreSlots c.each_was_outside.new.seat.me.0 z c.self.inside.linked.items
          c.take_out.new.list.items) (sym c.push_reserved.ensures.items)
          (reclaimed_slots c.each_was_outside.new.seat.me.0 c.args.slot _ _ _ _ c.take_out.ensures.leaves bounded may_now
          slots),
      c.each_was_outside.ensures.held ∙ i.2,
      fits c.self.inside.seat.me.0 c.each_was_outside.new.seat.me.0 _ _ same c.push_reserved.ensures.capacity i.3,
      fits c.self.inside.seat.me.0 c.each_was_outside.new.seat.me.0 _ _ same refl i.4,
      fits c.self.inside.seat.me.0 c.each_was_outside.new.seat.me.0 _ _ same c.take_out.ensures.capacity i.5,
      c.each_was_outside.ensures.seen,
    )
