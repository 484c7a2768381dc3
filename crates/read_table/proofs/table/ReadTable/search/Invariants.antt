use Rattle.bpf_model.proofs.Prelude.{ℕ, ◌+◌, ◌*◌, ◌<◌, ◌≤◌, List, length}
use Rattle.read_table.proofs.Prelude.{OnlySearches, Refuted, Goes}
use Rattle.read_table.specs.declared.view.Move.{Move}
use Rattle.read_table.proofs.table.ReadTable.search.Given as goal

abbrev pub invariant-loop-slot : goal.invariant-loop-slot
invariant-loop-slot l = (ms : List Move) × Goes l.fn.seat ms l.seat × OnlySearches l.self.shape ms ×
    ((s : ℕ) → l.low ≤ s → s < l.slot → Refuted l.self.shape l.key s ms) ×
    (length ms + l.low * (1 + l.self.shape.key_words) ≤ l.slot * (1 + l.self.shape.key_words))
