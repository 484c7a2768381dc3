use Rattle.bpf_model.proofs.Prelude.{◌≡◌, ℕ, ◌<◌, ◌%◌, List, refl, sym, ap, ◌∙◌, subst, All}
use Rattle.read_table.proofs.Prelude.{moves_of, header_in, IsLinkedUnder, TableView, WriterView}
use Rattle.read_table.specs.declared.view.TableShape.{TableShape}
use Rattle.read_table.proofs.Going.{went_known}
use Rattle.read_table.proofs.Keeping.{fits, quiet_slots, quiet_writer, went_me, went_shape}
use Rattle.read_table.proofs.Peeking.{odd-linked, searches-miss, searches-quiet}
use Rattle.read_table.proofs.Seen.{sightings_stay}
use Rattle.read_table.proofs.Slots.{at_contained}
use Rattle.read_table.proofs.writer.Writer.find.Goals as goal

pub invariant_of-self : goal.invariant_of-self
invariant_of-self c =
    let i = c.self.invariant in
    let k = c.args.table.now.shape in
    let s = c.find_in.ensures.steps in
    let v = c.self.inside.seat.me.0 in
    let w = c.find_in.new.seat.me.0 in
    let q = searches-quiet k s.0 s.1 in
    let same = went_shape v w _ s.2 in (
      quiet_writer v w s.0 q s.2 _ i.0,
      quiet_slots v w s.0 q s.2 _ _ _ i.1,
      c.find_in.ensures.held ∙ i.2,
      fits v w _ _ same refl i.3,
      fits v w _ _ same refl i.4,
      fits v w _ _ same refl i.5,
      sightings_stay v w s.0 c.self.inside.seen.items q (λ r t qs cleared. searches-miss k r t s.0 qs s.1 cleared) s.2 i.6,
    )

pub returns-clause-none : goal.returns-clause-none
returns-clause-none c =
    λ none slot under.
    let i = c.self.invariant in
    let k = c.args.table.now.shape in
    let s = c.find_in.ensures.steps in
    let v = c.self.inside.seat.me.0 in
    let w = c.find_in.new.seat.me.0 in
    let q = searches-quiet k s.0 s.1 in
    let shape = went_shape v w _ s.2 ∙ (ap (λ (z : WriterView). z.table.shape) c.self.view_is ∙ ap (λ (z : TableView). z.shape) c.requires.table) in
    let within = subst (λ (z : TableShape). slot < z.slots) (sym shape) under.within in
    let own : moves_of 0 w.seen ≡ w.mine = ap (λ z. moves_of z w.seen) (sym (went_me v w _ s.2 ∙ i.0.me)) ∙ (went_known v w _ s.2).1 in
    let odd = subst (λ ms. header_in slot ms % 2 ≡ 1) own under.linked in
    let there = odd-linked w _ c.self.inside.linked.items _ slot (quiet_slots v w s.0 q s.2 _ _ _ i.1) within odd in
    let all = subst (λ (xs : List ℕ). All (λ (z : ℕ). IsLinkedUnder k c.args.key.now z w.seen → ⊥) xs) c.as_slice.ensures.value
    (c.find_in.ensures.none none) in
    at_contained (λ (z : ℕ). IsLinkedUnder k c.args.key.now z w.seen → ⊥) slot c.self.inside.linked.items there all under
