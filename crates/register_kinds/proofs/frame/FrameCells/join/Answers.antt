use Rattle.bpf_model.proofs.Prelude.{ℕ, subst}
use Rattle.register_kinds.proofs.Prelude.{cell_at, JoinsCell}
use Rattle.register_kinds.specs.Contents.{Contents}
use Rattle.register_kinds.proofs.Cells.{cells_joined}
use Rattle.register_kinds.proofs.frame.FrameCells.join.Goals as goal

pub returns-clause-joins : goal.returns-clause-joins
returns-clause-joins c =
    let top = c.args.top in
    let pairs = c.join_kinds.new.pairs.items in
    let a : Contents = record { cells = c.self.inside.cells; spills = c.self.inside.spills; first = c.self.inside.first } in
    let b : Contents = record { cells = c.other.inside.cells; spills = c.other.inside.spills; first = c.other.inside.first } in
    let n : Contents = record { cells = c.join_cells.new.cells; spills = c.join_kinds.new.kinds; first = c.min-first.result } in
    subst (λ f. (k : ℕ) → JoinsCell top pairs (cell_at f k) (cell_at c.args.other.now k) (cell_at n k)) c.self.view_is
    (subst (λ f. (k : ℕ) → JoinsCell top pairs (cell_at a k) (cell_at f k) (cell_at n k)) c.other.view_is
    (cells_joined top pairs a b n c.join_kinds.ensures.joins c.join_cells.ensures))
