use Rattle.bpf_model.proofs.Prelude.{◌≡◌, ◌≤◌}
use Rattle.host_tables.specs.Walks.{AreEmpty}
use Rattle.host_tables.proofs.walking.load_first.Given as goal

abbrev pub invariant-loop-way : goal.invariant-loop-way
invariant-loop-way l = (l.writer ≡ l.fn.writer) × (l.key ≡ l.fn.key) × (l.from ≤ l.way) × AreEmpty l.from l.way l.fn.writer.view.mine
