use Rattle.bpf_model.proofs.Prelude.{◌∙◌, ap}
use Rattle.map_table.proofs.Prelude.{TableView}
use Rattle.shared_runs.proofs.Known.{has-found, has-held, has-met, has-own, has-whole}
use Rattle.shared_runs.proofs.maps.named_running.run_named.Goals as goal

pub returns-then-stores_sub_words-clause-held : goal.returns-then-stores_sub_words-clause-held
returns-then-stores_sub_words-clause-held c = has-held c.args.seat.now.view c.requires.ready.known.0 c.is_readers.ensures.reader.0

pub returns-then-stores_sub_words-clause-found : goal.returns-then-stores_sub_words-clause-found
returns-then-stores_sub_words-clause-found c = has-found c.args.seat.now.view c.requires.ready.known.0

pub returns-then-stores_sub_words-clause-shape : goal.returns-then-stores_sub_words-clause-shape
returns-then-stores_sub_words-clause-shape c = c.is_readers.ensures.shape ∙ ap (λ (t : TableView). t.shape) c.requires.ready.table

pub returns-then-stores_sub_words-clause-met : goal.returns-then-stores_sub_words-clause-met
returns-then-stores_sub_words-clause-met c = has-met c.args.seat.now.view c.requires.ready.known.0 c.is_readers.ensures.reader.0

pub returns-then-stores_sub_words-clause-own : goal.returns-then-stores_sub_words-clause-own
returns-then-stores_sub_words-clause-own c = has-own c.args.seat.now.view c.requires.ready.known.0 c.is_readers.ensures.reader.0

pub returns-then-stores_sub_words-clause-whole : goal.returns-then-stores_sub_words-clause-whole
returns-then-stores_sub_words-clause-whole c = has-whole c.args.seat.now.view c.requires.ready.known.0
