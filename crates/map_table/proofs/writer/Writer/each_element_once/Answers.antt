use Rattle.table_words.proofs.Prelude.{subst, All}
use Rattle.map_table.proofs.Prelude.{WriterView, IsFree, IsUnlinked, IsNoneLost}
use Rattle.map_table.proofs.writer.Writer.each_element_once.Goals as goal

pub returns-clause-free : goal.returns-clause-free
returns-clause-free c = subst (λ (w : WriterView). All (IsFree w.view) w.free) c.self.view_is c.self.invariant.0.are_free

pub returns-clause-unlinked : goal.returns-clause-unlinked
returns-clause-unlinked c = subst (λ (w : WriterView). All (IsUnlinked w.view) w.unlinked) c.self.view_is c.self.invariant.0.are_unlinked

pub returns-clause-linked : goal.returns-clause-linked
returns-clause-linked c = subst (λ (w : WriterView). IsNoneLost w.view w.free w.unlinked) c.self.view_is c.self.invariant.5
