use Rattle.bpf_model.proofs.Prelude.{◌≡◌, List, length}
use Rattle.map_table.proofs.Prelude.{Works, Move}
use Rattle.host_tables.specs.Tables.{SumsUp}
use Rattle.host_tables.proofs.writing.read_sums.Given as goal

abbrev pub invariant-loop-place : goal.invariant-loop-place
invariant-loop-place l = (l.writer.table ≡ l.fn.writer.table) × (l.writer.free ≡ l.fn.writer.free)
    × (l.writer.unlinked ≡ l.fn.writer.unlinked) × (length l.sums ≡ length l.fn.sums)
    × ((ms : List Move) × Works l.fn.writer ms l.writer × SumsUp l.table.shape l.element l.place l.sums ms)
