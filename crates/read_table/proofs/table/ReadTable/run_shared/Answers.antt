use Rattle.bpf_model.proofs.Prelude.{◌∙◌, ap}
use Rattle.read_table.proofs.Prelude.{TableView}
use Rattle.read_table.proofs.Finding.{has-found}
use Rattle.read_table.proofs.Holding.{held-throughout}
use Rattle.read_table.proofs.table.ReadTable.run_shared.Goals as goal

pub returns-then-uses_sub_words-clause-held : goal.returns-then-uses_sub_words-clause-held
returns-then-uses_sub_words-clause-held c = held-throughout c.args.seat.now.view c.requires.ready.known.0 c.is_readers.ensures.reader.0

pub returns-then-uses_sub_words-clause-found : goal.returns-then-uses_sub_words-clause-found
returns-then-uses_sub_words-clause-found c = has-found c.args.seat.now.view c.requires.ready.known.0

pub returns-then-uses_sub_words-clause-shape : goal.returns-then-uses_sub_words-clause-shape
returns-then-uses_sub_words-clause-shape c = c.is_readers.ensures.shape ∙ ap (λ (t : TableView). t.shape) c.requires.ready.table
