use Rattle.bpf_model.proofs.Prelude.{◌≡◌, ℕ, ◌<◌, ◌≤◌, List, Some, length}
use Rattle.read_table.proofs.Prelude.{key_word, OnlySearches, HadWord, Goes}
use Rattle.read_table.specs.declared.view.Move.{Move}
use Rattle.read_table.proofs.table.ReadTable.has_key.Given as goal

abbrev pub invariant-loop-place : goal.invariant-loop-place
invariant-loop-place l = (ms : List Move) × Goes l.fn.seat ms l.seat × OnlySearches l.self.shape ms ×
    ((place word : ℕ) → place < l.place → key_word l.key place ≡ Some word → HadWord l.slot place word ms) × (length ms ≤ l.place)
