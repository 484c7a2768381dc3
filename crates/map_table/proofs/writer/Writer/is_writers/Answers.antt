use Rattle.table_words.proofs.Prelude.{subst, IsSettled}
use Rattle.map_table.proofs.Prelude.{WriterView}
use Rattle.map_table.proofs.writer.Writer.is_writers.Goals as goal

pub returns-clause-settled : goal.returns-clause-settled
returns-clause-settled c = subst (λ (w : WriterView). IsSettled w.view.mine) c.self.view_is c.self.invariant.6
