use Rattle.table_words.proofs.Prelude.{◌≡◌, ◌≤◌, [], vec_len, vec_capacity, All}
use Rattle.map_table.proofs.Prelude.{writer_after, IsReady}
use Rattle.map_table.specs.Held.{AreInOrder, IsNew}
use Rattle.map_table.proofs.setup.deal_all.Given as goal

abbrev pub invariant-loop-reader : goal.invariant-loop-reader
invariant-loop-reader l = (l.writer.table_id ≡ l.fn.writer.table_id) ×
    (l.writer.me ≡ (writer_after l.reader l.table.shape, [])) × (vec_len l.list ≡ l.reader) ×
    (l.readers ≤ vec_capacity l.list) × All (IsReady l.table) l.list.items × All IsNew l.list.items × AreInOrder l.list.items
