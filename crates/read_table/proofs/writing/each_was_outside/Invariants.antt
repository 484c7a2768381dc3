use Rattle.bpf_model.proofs.Prelude.{◌≡◌, ◌++◌, List}
use Rattle.read_table.proofs.Prelude.{Went, AreSightings, ScansInTurn, Tells}
use Rattle.read_table.specs.declared.view.Move.{Move}
use Rattle.read_table.proofs.writing.each_was_outside.Given as goal

abbrev pub invariant-loop-reader : goal.invariant-loop-reader
invariant-loop-reader l = (l.seat.table_id ≡ l.fn.seat.table_id) × (l.seat.me.1 ≡ l.fn.seat.me.1) ×
    AreSightings l.seat.me.0 l.seen.items ×
    ((ms : List Move) × Went l.fn.seat.me.0 (ms ++ l.fn.seat.me.0.mine) l.seat.me.0 ×
    ScansInTurn 0 l.reader ms × Tells l.reader l.slot ms (ms ++ l.fn.seat.me.0.mine) l.each)
