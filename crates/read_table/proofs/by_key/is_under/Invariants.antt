use Rattle.bpf_model.proofs.Prelude.{◌≡◌, ℕ, ◌<◌, ◌++◌, List, Some}
use Rattle.read_table.proofs.Prelude.{Went, word_at_place, key_word, OnlySearches}
use Rattle.read_table.specs.declared.view.Move.{Move}
use Rattle.read_table.proofs.by_key.is_under.Given as goal

abbrev pub invariant-loop-place : goal.invariant-loop-place
invariant-loop-place l = (l.seat.table_id ≡ l.fn.seat.table_id) × (l.seat.me.1 ≡ l.fn.seat.me.1) ×
    ((ms : List Move) × OnlySearches l.table.shape ms × Went l.fn.seat.me.0 (ms ++ l.fn.seat.me.0.mine) l.seat.me.0) ×
    ((p : ℕ) → p < l.place → key_word l.key p ≡ Some (word_at_place l.slot p l.seat.me.0.seen))
