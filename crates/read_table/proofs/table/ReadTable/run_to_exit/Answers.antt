use Rattle.bpf_model.proofs.Prelude.{◌∙◌, ap, subst}
use Rattle.read_table.proofs.Prelude.{IsSized, TableView}
use Rattle.read_table.specs.declared.view.TableShape.{TableShape}
use Rattle.read_table.proofs.Finding.{has-found}
use Rattle.read_table.proofs.Holding.{held-throughout}
use Rattle.read_table.proofs.Serving.{ready-after}
use Rattle.read_table.proofs.Stretches.{small}
use Rattle.shared_runs.proofs.Stores.{stores-uses}
use Rattle.read_table.proofs.table.ReadTable.run_to_exit.Goals as goal

pub run_over-value-requires-clause-small : goal.run_over-value-requires-clause-small
run_over-value-requires-clause-small c = small c.args.self.now.shape
    (subst (λ (k : TableShape). IsSized k) c.shape-shape.ensures.shape c.shape-shape.ensures.sized)

pub run_over-value-requires-clause-at : goal.run_over-value-requires-clause-at
run_over-value-requires-clause-at c = (c.requires.ready.table, c.requires.ready.known)

pub run_over-value-requires-clause-outside : goal.run_over-value-requires-clause-outside
run_over-value-requires-clause-outside c = c.requires.ready.outside

pub run_over-value-requires-clause-whole : goal.run_over-value-requires-clause-whole
run_over-value-requires-clause-whole c = λ s. c.requires.words (stores-uses c.args.verified.now s)

pub returns-clause-runs : goal.returns-clause-runs
returns-clause-runs c = c.run_over-value.ensures.runs

pub returns-clause-ready : goal.returns-clause-ready
returns-clause-ready c = ready-after c.args.self.now c.args.verified.now c.args.ctx.now.items c.args.seat.now c.run_over-value.new.seat
    c.run_over-value.result c.requires.ready c.run_over-value.ensures.runs c.run_over-value.ensures.outside

pub returns-clause-held : goal.returns-clause-held
returns-clause-held c = held-throughout c.run_over-value.new.seat.view (returns-clause-ready c).known.0 c.is_readers.ensures.reader.0

pub returns-clause-found : goal.returns-clause-found
returns-clause-found c = has-found c.run_over-value.new.seat.view (returns-clause-ready c).known.0

pub returns-clause-shape : goal.returns-clause-shape
returns-clause-shape c = c.is_readers.ensures.shape ∙ ap (λ (t : TableView). t.shape) (returns-clause-ready c).table
