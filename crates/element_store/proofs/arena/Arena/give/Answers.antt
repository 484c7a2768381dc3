use Rattle.bpf_model.proofs.Prelude.{◌≡◌, ◌∙◌, ◌<◌, ℕ, List, Option, Some, sym, ap, subst, rules, length, refl, true, false, slice_get, slice_set, IfSome}
use Rattle.bpf_model.proofs.Prelude.{slice_get_read, eq-eqb, eqb-true, false_from_ne_true}
use Rattle.element_store.proofs.Prelude.{AreCellsKept, IsLaidOut, arena_state_of, linked_behind, given_cell}
use Rattle.element_store.specs.declared.cell.SlotCell.{SlotCell}
use Rattle.element_store.specs.declared.cell.Standing.TheVariants.{Free}
use Rattle.element_store.proofs.Gives.{held, countable, told, worn-kept, worn-state, last-inside, freed-kept, freed-state}
use Rattle.element_store.proofs.arena.Arena.give.Goals.{After-index-old}
use Rattle.element_store.proofs.arena.Arena.give.Goals as goal

-- the cell of the slot
old_at : (c : After-index-old) → slice_get c.self.inside.cells.items c.args.slot ≡ Some c.index-old.result.now
old_at c =
    let s = c.self.inside in
    let h = held s.key_len s.value_len s.limit s.cells.items s.first s.last s.keys.items s.values.items c.args.slot
    c.args.self.now c.self.view_is c.self.invariant c.requires in
    slice_get_read s.cells.items (length s.cells.items) c.args.slot c.index-old.result.now refl h.inside c.index-old.ensures

pub index-old-requires : goal.index-old-requires
index-old-requires c =
    let s = c.self.inside in
    let w : c.args.slot < length s.cells.items = (held s.key_len s.value_len s.limit s.cells.items s.first s.last
    s.keys.items s.values.items c.args.slot c.args.self.now c.self.view_is c.self.invariant c.requires).inside in
    search rules

pub index_mut-requires : goal.index_mut-requires
index_mut-requires c =
    let s = c.self.inside in
    let w : c.args.slot < length s.cells.items = (held s.key_len s.value_len s.limit s.cells.items s.first s.last
    s.keys.items s.values.items c.args.slot c.args.self.now c.self.view_is c.self.invariant c.requires).inside in
    search rules

pub index_mut-requires-2 : goal.index_mut-requires-2
index_mut-requires-2 c =
    let s = c.self.inside in
    let w : c.args.slot < length s.cells.items = (held s.key_len s.value_len s.limit s.cells.items s.first s.last
    s.keys.items s.values.items c.args.slot c.args.self.now c.self.view_is c.self.invariant c.requires).inside in
    search rules

pub given_cell-requires : goal.given_cell-requires
given_cell-requires c =
    let s = c.self.inside in
    let at = old_at (goal.at.given_cell-requires c).After-index-old in
    countable s.key_len s.value_len s.limit s.cells.items s.first s.last s.keys.items s.values.items c.args.slot
    c.args.self.now c.self.view_is c.self.invariant c.requires c.index-old.result.now at

pub given_cell-requires-2 : goal.given_cell-requires-2
given_cell-requires-2 c =
    let s = c.self.inside in
    let at = old_at (goal.at.given_cell-requires-2 c).After-index-old in
    countable s.key_len s.value_len s.limit s.cells.items s.first s.last s.keys.items s.values.items c.args.slot
    c.args.self.now c.self.view_is c.self.invariant c.requires c.index-old.result.now at

pub invariant_of-self : goal.invariant_of-self
invariant_of-self c =
    let s = c.self.inside in
    let at = old_at (goal.at.invariant_of-self c).After-index-old in
    subst (λ (d : SlotCell). AreCellsKept (slice_set s.cells.items c.args.slot d) s.first s.last s.limit ×
    IsLaidOut (slice_set s.cells.items c.args.slot d) s.keys.items s.values.items s.key_len s.value_len)
    (sym c.given_cell.ensures) (worn-kept s.key_len s.value_len s.limit s.cells.items s.first s.last s.keys.items
    s.values.items c.args.slot c.args.self.now c.self.view_is c.self.invariant c.requires c.index-old.result.now
    at)

pub returns-then-old-self-clause-given : goal.returns-then-old-self-clause-given
returns-then-old-self-clause-given c =
    let s = c.self.inside in
    let at = old_at (goal.at.returns-then-old-self-clause-given c).After-index-old in
    told s.key_len s.value_len s.limit s.cells.items s.first s.last s.keys.items s.values.items c.args.slot
    c.args.self.now c.self.view_is c.self.invariant c.requires c.index-old.result.now at true
    (eq-eqb _ _ c.if-old-self.true)

pub returns-then-old-self-clause-new : goal.returns-then-old-self-clause-new
returns-then-old-self-clause-new c =
    let s = c.self.inside in
    let at = old_at (goal.at.returns-then-old-self-clause-new c).After-index-old in
    ap (λ (d : SlotCell). arena_state_of (slice_set s.cells.items c.args.slot d) s.first s.keys.items s.values.items
    s.key_len s.value_len s.limit) c.given_cell.ensures
    ∙ worn-state s.key_len s.value_len s.limit s.cells.items s.first s.last s.keys.items s.values.items c.args.slot
    c.args.self.now c.self.view_is c.self.invariant c.requires c.index-old.result.now at
    (eq-eqb _ _ c.if-old-self.true)

pub append-self-inside-requires : goal.append-self-inside-requires
append-self-inside-requires c =
    let s = c.self.inside in
    let at = old_at (goal.at.append-self-inside-requires c).After-index-old in
    subst (λ (d : SlotCell). IfSome s.last (λ l. l < length (slice_set s.cells.items c.args.slot d)))
    (sym c.given_cell-2.ensures) (last-inside s.key_len s.value_len s.limit s.cells.items s.first s.last
    s.keys.items s.values.items c.args.slot c.args.self.now c.self.view_is c.self.invariant c.requires
    c.index-old.result.now at)

pub invariant_of-self-2 : goal.invariant_of-self-2
invariant_of-self-2 c =
    let s = c.self.inside in
    let at = old_at (goal.at.invariant_of-self-2 c).After-index-old in
    let cells = c.append-self-inside.ensures.cells ∙ ap
    (λ (d : SlotCell). linked_behind (slice_set s.cells.items c.args.slot d) s.last c.args.slot)
    c.given_cell-2.ensures in
    subst (λ (cs : List SlotCell). AreCellsKept cs c.append-self-inside.result (Some c.args.slot) s.limit ×
    IsLaidOut cs s.keys.items s.values.items s.key_len s.value_len) (sym cells)
    (subst (λ (o : Option ℕ). AreCellsKept (linked_behind
    (slice_set s.cells.items c.args.slot (given_cell c.index-old.result.now Free)) s.last c.args.slot) o
    (Some c.args.slot) s.limit × IsLaidOut (linked_behind
    (slice_set s.cells.items c.args.slot (given_cell c.index-old.result.now Free)) s.last c.args.slot)
    s.keys.items s.values.items s.key_len s.value_len)
    (sym c.append-self-inside.ensures.first) (freed-kept s.key_len s.value_len s.limit s.cells.items s.first s.last
    s.keys.items s.values.items c.args.slot c.args.self.now c.self.view_is c.self.invariant c.requires
    c.index-old.result.now at c.if-old-self.false))

pub returns-clause-given : goal.returns-clause-given
returns-clause-given c =
    let s = c.self.inside in
    let at = old_at (goal.at.returns-clause-given c).After-index-old in
    told s.key_len s.value_len s.limit s.cells.items s.first s.last s.keys.items s.values.items c.args.slot
    c.args.self.now c.self.view_is c.self.invariant c.requires c.index-old.result.now at false
    (false_from_ne_true _ (λ y. c.if-old-self.false (eqb-true _ _ y)))

pub returns-clause-new : goal.returns-clause-new
returns-clause-new c =
    let s = c.self.inside in
    let at = old_at (goal.at.returns-clause-new c).After-index-old in
    let cells = c.append-self-inside.ensures.cells ∙ ap
    (λ (d : SlotCell). linked_behind (slice_set s.cells.items c.args.slot d) s.last c.args.slot)
    c.given_cell-2.ensures in
    ap (λ (cs : List SlotCell). arena_state_of cs c.append-self-inside.result s.keys.items s.values.items s.key_len s.value_len s.limit) cells
    ∙ (ap (λ (o : Option ℕ). arena_state_of (linked_behind
    (slice_set s.cells.items c.args.slot (given_cell c.index-old.result.now Free)) s.last c.args.slot) o
    s.keys.items s.values.items s.key_len s.value_len s.limit) c.append-self-inside.ensures.first
    ∙ freed-state s.key_len s.value_len s.limit s.cells.items s.first s.last s.keys.items s.values.items c.args.slot
    c.args.self.now c.self.view_is c.self.invariant c.requires c.index-old.result.now at c.if-old-self.false)
