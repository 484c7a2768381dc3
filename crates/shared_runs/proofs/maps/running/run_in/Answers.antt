use Rattle.bpf_model.proofs.Prelude.{◌≡◌, sym, ◌∙◌, ap, subst}
use Rattle.map_table.proofs.Prelude.{TableShape, first_of, Goes, IsSized, TableView}
use Rattle.shared_runs.specs.Running.{RunsOver}
use Rattle.shared_runs.specs.MapTables.{table_of}
use Rattle.shared_runs.proofs.Keeping.{small}
use Rattle.shared_runs.proofs.Known.{has-found, has-held, has-met, has-own, has-whole}
use Rattle.shared_runs.proofs.MapServing.{ready-after}
use Rattle.shared_runs.proofs.maps.running.run_in.Goals as goal

pub run_in-value-requires-clause-small : goal.run_in-value-requires-clause-small
run_in-value-requires-clause-small c = small c.args.table.now.shape c.first_place.result
    (subst (λ (k : TableShape). IsSized k) c.shape-shape.ensures.shape c.shape-shape.ensures.sized) c.requires.maps.few

pub run_in-value-requires-clause-at : goal.run_in-value-requires-clause-at
run_in-value-requires-clause-at c =
    let shape = c.is_readers.ensures.shape ∙ ap (λ (t : TableView). t.shape) c.requires.ready.table in
    let first = subst (λ (k : TableShape). first_of k c.args.seat.now.view.me ≡ c.first_place.result) shape (sym c.first_place.ensures) in
    (c.requires.ready.table, c.requires.ready.known, first)

pub run_in-value-requires-clause-outside : goal.run_in-value-requires-clause-outside
run_in-value-requires-clause-outside c = c.requires.ready.outside

pub run_in-value-requires-clause-maps : goal.run_in-value-requires-clause-maps
run_in-value-requires-clause-maps c = c.requires.maps.fits

pub returns-clause-runs : goal.returns-clause-runs
returns-clause-runs c =
    let k = c.args.table.now.shape in
    let shape = c.is_readers.ensures.shape ∙ ap (λ (t : TableView). t.shape) c.requires.ready.table in
    let first = subst (λ (z : TableShape). c.first_place.result ≡ first_of z c.args.seat.now.view.me) shape c.first_place.ensures in
    subst (λ n. RunsOver (table_of k n) Goes c.args.verified.now c.args.context.now c.args.seat.now c.run_in-value.new.seat c.run_in-value.result)
    first c.run_in-value.ensures.runs

pub returns-clause-ready : goal.returns-clause-ready
returns-clause-ready c = ready-after c.args.table.now c.args.verified.now c.args.context.now c.args.seat.now c.run_in-value.new.seat
    c.run_in-value.result c.requires.ready (returns-clause-runs c) c.run_in-value.ensures.outside

pub returns-clause-held : goal.returns-clause-held
returns-clause-held c = has-held c.run_in-value.new.seat.view (returns-clause-ready c).known.0 c.is_readers-2.ensures.reader.0

pub returns-clause-found : goal.returns-clause-found
returns-clause-found c = has-found c.run_in-value.new.seat.view (returns-clause-ready c).known.0

pub returns-clause-shape : goal.returns-clause-shape
returns-clause-shape c = c.is_readers-2.ensures.shape ∙ ap (λ (t : TableView). t.shape) (returns-clause-ready c).table

pub returns-clause-met : goal.returns-clause-met
returns-clause-met c = has-met c.run_in-value.new.seat.view (returns-clause-ready c).known.0 c.is_readers-2.ensures.reader.0

pub returns-clause-own : goal.returns-clause-own
returns-clause-own c = has-own c.run_in-value.new.seat.view (returns-clause-ready c).known.0 c.is_readers-2.ensures.reader.0

pub returns-clause-whole : goal.returns-clause-whole
returns-clause-whole c = has-whole c.run_in-value.new.seat.view (returns-clause-ready c).known.0
