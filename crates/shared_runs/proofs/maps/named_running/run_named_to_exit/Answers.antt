use Rattle.bpf_model.proofs.Prelude.{◌≡◌, sym, ◌∙◌, ap, subst}
use Rattle.map_table.proofs.Prelude.{TableShape, first_of, Goes, IsSized, TableView}
use Rattle.shared_runs.specs.Running.{RunsOver}
use Rattle.shared_runs.specs.Named.{named_table_of}
use Rattle.shared_runs.proofs.Keeping.{small_named}
use Rattle.shared_runs.proofs.Known.{has-found, has-held, has-met, has-own, has-whole}
use Rattle.shared_runs.proofs.MapServing.{ready-outside}
use Rattle.shared_runs.proofs.maps.named_running.run_named_to_exit.Goals as goal

pub run_over-value-requires-clause-small : goal.run_over-value-requires-clause-small
run_over-value-requires-clause-small c = small_named c.args.table.now.shape c.args.maps.now c.first_place.result
    (subst (λ (k : TableShape). IsSized k) c.shape-shape.ensures.shape c.shape-shape.ensures.sized) c.requires.maps.few

pub run_over-value-requires-clause-at : goal.run_over-value-requires-clause-at
run_over-value-requires-clause-at c =
    let shape = c.is_readers.ensures.shape ∙ ap (λ (t : TableView). t.shape) c.requires.ready.table in
    let first = subst (λ (k : TableShape). first_of k c.args.seat.now.view.me ≡ c.first_place.result) shape (sym c.first_place.ensures) in
    (c.requires.ready.table, c.requires.ready.known, first)

pub run_over-value-requires-clause-outside : goal.run_over-value-requires-clause-outside
run_over-value-requires-clause-outside c = c.requires.ready.outside

pub run_over-value-requires-clause-maps : goal.run_over-value-requires-clause-maps
run_over-value-requires-clause-maps c = c.requires.maps.kept

pub returns-clause-runs : goal.returns-clause-runs
returns-clause-runs c =
    let k = c.args.table.now.shape in
    let seat = c.run_over-value.new.seat in
    let shape = c.is_readers.ensures.shape ∙ ap (λ (t : TableView). t.shape) c.requires.ready.table in
    let first = subst (λ (z : TableShape). c.first_place.result ≡ first_of z c.args.seat.now.view.me) shape c.first_place.ensures in
    subst (λ n. RunsOver (named_table_of k c.args.maps.now n) Goes c.args.verified.now c.args.ctx.now.items
    c.args.seat.now seat c.run_over-value.result) first c.run_over-value.ensures.runs

pub returns-clause-ready : goal.returns-clause-ready
returns-clause-ready c = let r = returns-clause-runs c in
    ready-outside c.args.table.now c.args.seat.now c.run_over-value.new.seat r.moves c.requires.ready r.list c.run_over-value.ensures.outside

pub returns-clause-held : goal.returns-clause-held
returns-clause-held c = has-held c.run_over-value.new.seat.view (returns-clause-ready c).known.0 c.is_readers-2.ensures.reader.0

pub returns-clause-found : goal.returns-clause-found
returns-clause-found c = has-found c.run_over-value.new.seat.view (returns-clause-ready c).known.0

pub returns-clause-shape : goal.returns-clause-shape
returns-clause-shape c = c.is_readers-2.ensures.shape ∙ ap (λ (t : TableView). t.shape) (returns-clause-ready c).table

pub returns-clause-met : goal.returns-clause-met
returns-clause-met c = has-met c.run_over-value.new.seat.view (returns-clause-ready c).known.0 c.is_readers-2.ensures.reader.0

pub returns-clause-own : goal.returns-clause-own
returns-clause-own c = has-own c.run_over-value.new.seat.view (returns-clause-ready c).known.0 c.is_readers-2.ensures.reader.0

pub returns-clause-whole : goal.returns-clause-whole
returns-clause-whole c = has-whole c.run_over-value.new.seat.view (returns-clause-ready c).known.0
