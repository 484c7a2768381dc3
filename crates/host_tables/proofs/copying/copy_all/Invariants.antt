use Rattle.bpf_model.proofs.Prelude.{◌≡◌, length}
use Rattle.map_table.specs.Values.{stored_of}
use Rattle.host_tables.specs.Copies.{Copies}
use Rattle.host_tables.specs.Tables.{IsTidy}
use Rattle.host_tables.proofs.copying.copy_all.Given as goal

abbrev pub invariant-loop-way : goal.invariant-loop-way
invariant-loop-way l = (l.writer.table ≡ l.fn.writer.table) × (l.other_writer.table ≡ l.fn.other_writer.table) ×
    Copies l.way l.fn.writer l.fn.other_writer l.writer l.other_writer × (IsTidy l.fn.writer → IsTidy l.writer) ×
    (IsTidy l.fn.other_writer → IsTidy l.other_writer) × (length l.key ≡ l.fn.table.shape.key_words) ×
    (length l.words ≡ stored_of l.fn.table.shape)
