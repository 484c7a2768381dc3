use Rattle.bpf_model.proofs.Prelude.{◌≡◌, ℕ, ◌<◌, ◌++◌, List, get_or}
use Rattle.read_table.proofs.Prelude.{IsLinkedUnder, Went, OnlySearches}
use Rattle.read_table.specs.declared.view.Move.{Move}
use Rattle.read_table.proofs.by_key.find_in.Given as goal

abbrev pub invariant-loop-at : goal.invariant-loop-at
invariant-loop-at l = (l.seat.table_id ≡ l.fn.seat.table_id) × (l.seat.me.1 ≡ l.fn.seat.me.1) ×
    ((ms : List Move) × OnlySearches l.table.shape ms × Went l.fn.seat.me.0 (ms ++ l.fn.seat.me.0.mine) l.seat.me.0) ×
    ((j d : ℕ) → j < l.at → IsLinkedUnder l.table.shape l.key (get_or l.slots j d) l.seat.me.0.seen → ⊥)
