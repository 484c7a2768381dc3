use Rattle.bpf_model.proofs.Prelude.{◌≡◌, ◌∙◌, ◌+◌, ◌<◌, ◌≤◌, ◌^◌, ◌∷◌, ℕ, List, Option, Some, None, sym, ap, subst, arith, rules, length, refl, slice_get}
use Rattle.bpf_model.proofs.Prelude.{slice_set, slice_get_read, same_Some, length-set}
use Rattle.element_store.proofs.Prelude.{taken, ArenaState, with_block, IsThreaded, free_of, last_left, state_with, slots_shown, free_count}
use Rattle.element_store.specs.declared.cell.SlotCell.{SlotCell}
use Rattle.element_store.specs.declared.cell.Standing.TheVariants.{Free, Taken}
use Rattle.element_store.proofs.BlockLaws.{length-with_block}
use Rattle.element_store.proofs.Keeps.{kept_from, free-is, first_free, took}
use Rattle.element_store.proofs.Slots.{state-is, shown-taken, inside-bytes, laid-out}
use Rattle.element_store.proofs.Views.{take_view}
use Rattle.element_store.proofs.arena.Arena.take.Goals.{In-Some, After-index-old, After-last_after-self-inside}
use Rattle.element_store.proofs.arena.Arena.take.Goals as goal

-- the slot has a cell
within : (c : In-Some) → c.in-Some.slot < length c.self.inside.cells.items
within c =
    let s = c.self.inside in
    (first_free s.cells.items s.first s.last s.limit c.in-Some.slot c.self.invariant.0 c.in-Some.is).5

old_at : (c : After-index-old) → slice_get c.self.inside.cells.items c.in-Some.slot ≡ Some c.index-old.result.now
old_at c =
    let s = c.self.inside in
    slice_get_read s.cells.items (length s.cells.items) c.in-Some.slot c.index-old.result.now refl
    (within (goal.at.After-index-old c).In-Some) c.index-old.ensures

-- the slots that stay free, and the cells once the slot has left them
abbrev taken_cell : SlotCell → SlotCell
taken_cell d = record { uses = d.uses + 1; generation = d.generation; standing = Taken; link = None }

taken_out : (c : After-index-old) → (ys : List ℕ) × (free_of c.self.inside.cells.items c.self.inside.first ≡ c.in-Some.slot ∷ ys)
    × IsThreaded (slice_set c.self.inside.cells.items c.in-Some.slot (taken_cell c.index-old.result.now)) c.index-old.result.now.link
    (last_left c.index-old.result.now.link c.self.inside.last) c.self.inside.limit ys
taken_out c =
    let s = c.self.inside in
    took s.cells.items s.first s.last s.limit c.in-Some.slot c.index-old.result.now (taken_cell c.index-old.result.now)
    c.self.invariant.0 c.in-Some.is (old_at c) refl refl refl

threaded : (c : After-last_after-self-inside) → IsThreaded (slice_set c.self.inside.cells.items c.in-Some.slot
    (taken_cell c.index-old.result.now)) c.index-old.result.now.link c.last_after-self-inside.result c.self.inside.limit
    (taken_out (goal.at.After-last_after-self-inside c).After-index-old).0
threaded c =
    let tk = taken_out (goal.at.After-last_after-self-inside c).After-index-old in
    subst (λ (o : Option ℕ). IsThreaded (slice_set c.self.inside.cells.items c.in-Some.slot (taken_cell c.index-old.result.now))
    c.index-old.result.now.link o c.self.inside.limit tk.0) (sym c.last_after-self-inside.ensures) tk.2

pub index-old-requires : goal.index-old-requires
index-old-requires c =
    let w = within (goal.at.index-old-requires c).In-Some in
    search rules

pub index_mut-requires : goal.index_mut-requires
index_mut-requires c =
    let w = within (goal.at.index_mut-requires c).In-Some in
    search rules

pub overflow_add-old : goal.overflow_add-old
overflow_add-old c =
    let s = c.self.inside in
    let f = first_free s.cells.items s.first s.last s.limit c.in-Some.slot c.self.invariant.0 c.in-Some.is in
    let at = old_at (goal.at.overflow_add-old c).After-index-old in
    let u : c.index-old.result.now.uses + free_count c.index-old.result.now.standing ≤ s.limit =
    c.self.invariant.0.used c.in-Some.slot c.index-old.result.now at in
    let st : free_count c.index-old.result.now.standing ≡ 1 = ap free_count (ap (λ (z : SlotCell). z.standing) (same_Some _ _ (sym at ∙ f.3)) ∙ f.4) in
    let b : s.limit < 2 ^ 32 = c.self.invariant.0.small in
    let l : c.index-old.result.now.uses + 1 < 2 ^ 32 = omega arith in
    search rules

pub write_block-requires : goal.write_block-requires
write_block-requires c =
    let s = c.self.inside in
    let w = within (goal.at.write_block-requires c).In-Some in
    let ek : length c.args.key.now ≡ s.key_len = c.requires.key ∙ ap (λ (a : ArenaState). a.key_len) (sym c.self.view_is) in
    inside-bytes s.key_len c.in-Some.slot (length s.cells.items) s.keys.items c.args.key.now w c.self.invariant.1.key_room ek

pub write_block-requires-in-Some : goal.write_block-requires-in-Some
write_block-requires-in-Some c =
    let s = c.self.inside in
    let w = within (goal.at.write_block-requires-in-Some c).In-Some in
    let ev : length c.args.value.now ≡ s.value_len = c.requires.value ∙ ap (λ (a : ArenaState). a.value_len) (sym c.self.view_is) in
    inside-bytes s.value_len c.in-Some.slot (length s.cells.items) s.values.items c.args.value.now w c.self.invariant.1.value_room ev

pub invariant_of-self : goal.invariant_of-self
invariant_of-self c =
    let s = c.self.inside in
    let w = within (goal.at.invariant_of-self c).In-Some in
    let at = old_at (goal.at.invariant_of-self c).After-index-old in
    let tk = taken_out (goal.at.invariant_of-self c).After-index-old in
    let tt' = threaded (goal.at.invariant_of-self c).After-last_after-self-inside in
    let ek : length c.args.key.now ≡ s.key_len = c.requires.key ∙ ap (λ (a : ArenaState). a.key_len) (sym c.self.view_is) in
    let ev : length c.args.value.now ≡ s.value_len = c.requires.value ∙ ap (λ (a : ArenaState). a.value_len) (sym c.self.view_is) in
    let rk = inside-bytes s.key_len c.in-Some.slot (length s.cells.items) s.keys.items c.args.key.now w c.self.invariant.1.key_room ek in
    let rv = inside-bytes s.value_len c.in-Some.slot (length s.cells.items) s.values.items c.args.value.now w c.self.invariant.1.value_room ev in
    let lk = ap (λ (l : List ℕ). length l) c.write_block.ensures ∙ length-with_block c.args.key.now s.keys.items c.in-Some.slot rk in
    let lv = ap (λ (l : List ℕ). length l) c.write_block-in-Some.ensures ∙ length-with_block c.args.value.now s.values.items c.in-Some.slot rv in (
      kept_from _ c.index-old.result.now.link c.last_after-self-inside.result s.limit tk.0 tt',
      laid-out s.cells.items _ s.keys.items _ s.values.items _ s.key_len s.value_len c.self.invariant.1
          (length-set s.cells.items c.in-Some.slot (taken_cell c.index-old.result.now)) lk lv,
    )

pub returns-in-Some-clause-slot : goal.returns-in-Some-clause-slot
returns-in-Some-clause-slot c =
    let s = c.self.inside in
    let tk = taken_out (goal.at.returns-in-Some-clause-slot c).After-index-old in
    let tt' = threaded (goal.at.returns-in-Some-clause-slot c).After-last_after-self-inside in
    ap (λ (a : ArenaState). a.free) (sym c.self.view_is) ∙
    (tk.1 ∙ ap (λ ys. c.in-Some.slot ∷ ys) (sym (free-is _ c.index-old.result.now.link
    c.last_after-self-inside.result s.limit tk.0 tt')))

pub returns-in-Some-clause-new : goal.returns-in-Some-clause-new
returns-in-Some-clause-new c =
    let s = c.self.inside in
    let f = first_free s.cells.items s.first s.last s.limit c.in-Some.slot c.self.invariant.0 c.in-Some.is in
    let at = old_at (goal.at.returns-in-Some-clause-new c).After-index-old in
    let tk = taken_out (goal.at.returns-in-Some-clause-new c).After-index-old in
    let tt' = threaded (goal.at.returns-in-Some-clause-new c).After-last_after-self-inside in
    let ek : length c.args.key.now ≡ s.key_len = c.requires.key ∙ ap (λ (a : ArenaState). a.key_len) (sym c.self.view_is) in
    let ev : length c.args.value.now ≡ s.value_len = c.requires.value ∙ ap (λ (a : ArenaState). a.value_len) (sym c.self.view_is) in
    let was : c.index-old.result.now.standing ≡ Free = ap (λ (z : SlotCell). z.standing) (same_Some _ _ (sym at ∙ f.3)) ∙ f.4 in
    let free : free_of (slice_set s.cells.items c.in-Some.slot
    (taken_cell c.index-old.result.now)) c.index-old.result.now.link ≡ tk.0 =
    free-is _ c.index-old.result.now.link c.last_after-self-inside.result s.limit tk.0 tt' in
    let shown =
    ap (λ (l : List ℕ). slots_shown s.key_len s.value_len
    (slice_set s.cells.items c.in-Some.slot (taken_cell c.index-old.result.now)) l c.write_block-in-Some.new.bytes.items)
    c.write_block.ensures
    ∙ (ap (λ (l : List ℕ). slots_shown s.key_len s.value_len
    (slice_set s.cells.items c.in-Some.slot (taken_cell c.index-old.result.now))
    (with_block c.in-Some.slot c.args.key.now s.keys.items) l) c.write_block-in-Some.ensures
    ∙ shown-taken s.key_len s.value_len c.args.key.now c.args.value.now s.cells.items s.keys.items s.values.items
    c.in-Some.slot c.index-old.result.now (taken_cell c.index-old.result.now) at ek ev c.self.invariant.1 refl) in
    state-is _ c.index-old.result.now.link c.last_after-self-inside.result s.limit tk.0 _ _ s.key_len s.value_len tt'
    ∙ (take_view (slots_shown s.key_len s.value_len s.cells.items s.keys.items s.values.items) s.cells.items s.key_len
    s.value_len s.limit c.in-Some.slot c.index-old.result.now at _ tk.0 c.args.key.now c.args.value.now shown was
    ∙ (ap (λ (ys : List ℕ). taken (state_with (slots_shown s.key_len s.value_len s.cells.items s.keys.items
    s.values.items) s.cells.items ys s.key_len s.value_len s.limit) c.in-Some.slot tk.0 c.args.key.now
    c.args.value.now) (sym tk.1)
    ∙ (ap (λ (a : ArenaState). taken a c.in-Some.slot tk.0 c.args.key.now c.args.value.now) c.self.view_is
    ∙ ap (λ (ys : List ℕ). taken c.args.self.now c.in-Some.slot ys c.args.key.now c.args.value.now) (sym free))))
