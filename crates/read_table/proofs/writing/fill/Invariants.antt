use Rattle.bpf_model.proofs.Prelude.{◌≡◌, ◌++◌, List}
use Rattle.read_table.proofs.Prelude.{Went, Fills}
use Rattle.read_table.specs.declared.view.Move.{Move}
use Rattle.read_table.proofs.writing.fill.Given as goal

abbrev pub invariant-loop-place : goal.invariant-loop-place
invariant-loop-place l = (l.seat.table_id ≡ l.fn.seat.table_id) × (l.seat.me.1 ≡ l.fn.seat.me.1) ×
    ((ms : List Move) × Fills l.slot l.from l.bytes l.place ms ×
    Went l.fn.seat.me.0 (ms ++ l.fn.seat.me.0.mine) l.seat.me.0)
