use Rattle.bpf_model.proofs.Prelude.{◌≡◌, ◌∙◌, ◌+◌, ◌++◌, ◌∷◌, [], ℕ, List, Option, sym, ap, arith, map-range_with_len_more}
use Rattle.element_store.proofs.Prelude.{fresh_cell, fresh_cells}
use Rattle.element_store.specs.declared.cell.SlotCell.{SlotCell}
use Rattle.element_store.specs.declared.cell.Standing.TheVariants.{Free}
use Rattle.element_store.proofs.make.fresh_cells.Goals as goal

abbrev pub ended : List SlotCell → Option ℕ → List SlotCell
ended cells o = cells ++ record { uses = 0; generation = 0; standing = Free; link = o } ∷ []

pub loop-slot-preserved : goal.loop-slot-preserved
loop-slot-preserved c =
    let e : 0 + c.loop-slot.slot ≡ c.loop-slot.slot = omega arith in
    ◌∙◌ {A = List SlotCell} c.in_ok-push.ensures.items (ap (λ (l : List SlotCell). ended l c.below.result) c.loop-slot.invariant
    ∙ (ap (ended (fresh_cells c.args.slots c.loop-slot.slot)) c.below.ensures
    ∙ sym (map-range_with_len_more (fresh_cell c.args.slots) 0 c.loop-slot.slot c.loop-slot.slot e)))
