-- Joins of whole states: cells by what was stored in their groups.
use Rattle.bpf_model.proofs.Prelude.{◌≡◌, ℕ, ◌+◌, ◌/◌, ◌<◌, List, length, refl, sym, subst, ◌∙◌, arith, inl, inr, ap₂, if◌then◌else◌, cases_lt, get_or_past}
use Rattle.plan_laws.proofs.Prelude.{PartCell, Joins}
use Rattle.register_kinds.proofs.Prelude.{kind_of, cell_of, kind_at, kind_in, class_in, cell_at, state_of, is_pointer, joined_class, IsBelow, AreBelow}
use Rattle.register_kinds.proofs.Prelude.{PairsGrow, pair_of, JoinsKind, JoinsCell}
use Rattle.register_kinds.specs.declared.kind.RegKind.{RegKind}
use Rattle.register_kinds.specs.declared.kind.RegKind.TheVariants as kinds
use Rattle.register_kinds.specs.declared.kind.CellKind as classes
use Rattle.register_kinds.specs.declared.kind.CellKind.TheVariants as cells
use Rattle.register_kinds.specs.declared.frame.FrameCells.{FrameCells}
use Rattle.register_kinds.specs.declared.state.AbsState.{AbsState as StateHere}
use Rattle.register_kinds.proofs.Pairs.{kind_later}

module _ (top : ℕ) (pairs : List (ℕ × ℕ)) where
  -- parts on both sides
  part_joined : (x y z : RegKind) → JoinsKind top pairs (kind_of x) (kind_of y) (kind_of z) →
      JoinsCell top pairs (PartCell (kind_of x)) (PartCell (kind_of y))
      (cell_of z (if is_pointer z then cells.Part else cells.Mixed))
  part_joined x y kinds.Unwritten j = record { left = tt; right = tt; exact = (kind_of kinds.Unwritten, j.exact, refl) }
  part_joined x y kinds.Ended j = record { left = tt; right = tt; exact = (kind_of kinds.Ended, j.exact, refl) }
  part_joined x y kinds.Mixed j = record { left = tt; right = tt; exact = (kind_of kinds.Mixed, j.exact, refl) }
  part_joined x y (kinds.Num s) j = record { left = tt; right = tt; exact = (kind_of (kinds.Num s), j.exact, refl) }
  part_joined x y (kinds.Ctx s) j = record { left = j.left; right = j.right; exact = (kind_of (kinds.Ctx s), j.exact, refl) }
  part_joined x y (kinds.Frame o) j = record { left = j.left; right = j.right; exact = (kind_of (kinds.Frame o), j.exact, refl) }
  part_joined x y (kinds.Map map) j = record { left = j.left; right = j.right; exact = (kind_of (kinds.Map map), j.exact, refl) }
  part_joined x y (kinds.Value map s) j = record { left = j.left; right = j.right; exact = (kind_of (kinds.Value map s), j.exact, refl) }
  part_joined x y (kinds.MaybeNull map id) j = record { left = j.left; right = j.right; exact = (kind_of (kinds.MaybeNull map id), j.exact, refl) }

  cell_joined : (x y z : RegKind) → JoinsKind top pairs (kind_of x) (kind_of y) (kind_of z) → (a b : classes.CellKind)
      → JoinsCell top pairs (cell_of x a) (cell_of y b) (cell_of z (joined_class a b (is_pointer z)))
  cell_joined x y z j cells.Unwritten cells.Unwritten = record { left = tt; right = tt; exact = refl }
  cell_joined x y z j cells.Unwritten cells.Ended = record { left = tt; right = tt; exact = refl }
  cell_joined x y z j cells.Unwritten cells.Mixed = record { left = tt; right = tt; exact = refl }
  cell_joined x y z j cells.Unwritten cells.Byte = record { left = tt; right = tt; exact = refl }
  cell_joined x y z j cells.Unwritten cells.Part = record { left = tt; right = tt; exact = refl }
  cell_joined x y z j cells.Ended cells.Unwritten = record { left = tt; right = tt; exact = refl }
  cell_joined x y z j cells.Ended cells.Ended = record { left = tt; right = tt; exact = refl }
  cell_joined x y z j cells.Ended cells.Mixed = record { left = tt; right = tt; exact = refl }
  cell_joined x y z j cells.Ended cells.Byte = record { left = tt; right = tt; exact = refl }
  cell_joined x y z j cells.Ended cells.Part = record { left = tt; right = tt; exact = refl }
  cell_joined x y z j cells.Mixed cells.Unwritten = record { left = tt; right = tt; exact = refl }
  cell_joined x y z j cells.Mixed cells.Ended = record { left = tt; right = tt; exact = refl }
  cell_joined x y z j cells.Mixed cells.Mixed = record { left = tt; right = tt; exact = refl }
  cell_joined x y z j cells.Mixed cells.Byte = record { left = tt; right = tt; exact = refl }
  cell_joined x y z j cells.Mixed cells.Part = record { left = tt; right = tt; exact = refl }
  cell_joined x y z j cells.Byte cells.Unwritten = record { left = tt; right = tt; exact = refl }
  cell_joined x y z j cells.Byte cells.Ended = record { left = tt; right = tt; exact = refl }
  cell_joined x y z j cells.Byte cells.Mixed = record { left = tt; right = tt; exact = refl }
  cell_joined x y z j cells.Byte cells.Byte = record { left = tt; right = tt; exact = refl }
  cell_joined x y z j cells.Byte cells.Part = record { left = tt; right = tt; exact = refl }
  cell_joined x y z j cells.Part cells.Unwritten = record { left = tt; right = tt; exact = refl }
  cell_joined x y z j cells.Part cells.Ended = record { left = tt; right = tt; exact = refl }
  cell_joined x y z j cells.Part cells.Mixed = record { left = tt; right = tt; exact = refl }
  cell_joined x y z j cells.Part cells.Byte = record { left = tt; right = tt; exact = refl }
  cell_joined x y z j cells.Part cells.Part = part_joined x y z j

  pub cells_joined : (a b c : FrameCells) → ((g : ℕ) → JoinsKind top pairs (kind_at a.spills g) (kind_at b.spills g) (kind_at c.spills g))
      → ((k : ℕ) → class_in c.cells k ≡ joined_class (class_in a.cells k) (class_in b.cells k)
      (is_pointer (kind_in c.spills (k / 8)))) → (k : ℕ) →
      JoinsCell top pairs (cell_at a k) (cell_at b k) (cell_at c k)
  cells_joined a b c spills classes k = subst (λ x. JoinsCell top pairs (cell_at a k) (cell_at b k) (cell_of (kind_in c.spills (k / 8)) x)) (sym (classes k))
      (cell_joined (kind_in a.spills (k / 8)) (kind_in b.spills (k / 8)) (kind_in c.spills (k / 8)) (spills (k / 8)) (class_in a.cells k) (class_in b.cells k))

-- the bytes of two frames are joined where each byte's class is
pub joined_all : (xs old others : List classes.CellKind) (g : ℕ → RegKind) → length xs ≡ length others → length old ≡ length others
    → ((k : ℕ) → k < length others → class_in xs k ≡ joined_class (class_in old k) (class_in others k)
    (is_pointer (g k))) → (k : ℕ) → class_in xs k ≡ joined_class (class_in old k) (class_in others k)
    (is_pointer (g k))
joined_all xs old others g e f all k = elim (cases_lt k (length others)) [
  | inl l ↦ all k l
  | inr l ↦ get_or_past xs k cells.Unwritten (omega arith) ∙
      sym (ap₂ (λ a b. joined_class a b (is_pointer (g k))) (get_or_past old k cells.Unwritten (omega arith))
      (get_or_past others k cells.Unwritten (omega arith)))
]

-- whole states are joined where their registers and their cells are
module _ (top : ℕ) (before pairs : List (ℕ × ℕ)) (a b c : StateHere) (x : PairsGrow before pairs)
    (regs : (r : ℕ) → JoinsKind top before (kind_at a.regs r) (kind_at b.regs r) (kind_at c.regs r))
    (cells : (k : ℕ) → JoinsCell top pairs (cell_at a.frame k) (cell_at b.frame k) (cell_at c.frame k)) where
  pub states_join : a.depth ≡ b.depth → c.depth ≡ a.depth → Joins (pair_of top pairs) (state_of a) (state_of b) (state_of c)
  states_join e f = record {
    left = record { regs = λ r. (kind_later top before pairs x _ _ _ (regs r)).left; cells = λ k. (cells k).left; depth = f };
    right = record { regs = λ r. (kind_later top before pairs x _ _ _ (regs r)).right; cells = λ k. (cells k).right; depth = f ∙ e };
  }

  pub states_below : (n : ℕ) → n ≡ top + length pairs → ((g : ℕ) → IsBelow (top + length pairs) (kind_at c.frame.spills g)) → AreBelow n c
  states_below n e spills = record {
    regs = λ r. subst (λ m. IsBelow m (kind_at c.regs r)) (sym e) (kind_later top before pairs x _ _ _ (regs r)).below;
    spills = λ g. subst (λ m. IsBelow m (kind_at c.frame.spills g)) (sym e) (spills g);
  }
