use Rattle.bpf_model.proofs.Prelude.{◌∙◌, ap}
use Rattle.read_table.proofs.Prelude.{TableView}
use Rattle.read_table.proofs.Finding.{lookup-finds}
use Rattle.read_table.proofs.Lookups.{searched_inside, searched_knows, answers_learnt, answers_slot}
use Rattle.read_table.proofs.table.ReadTable.lookup.Goals as goal

pub returns-clause-inside : goal.returns-clause-inside
returns-clause-inside c =
    let h = c.search_all-found.ensures in
    searched_inside c.args.self.now.shape c.args.seat.now c.search_all-found.new.seat h.0 h.1 h.2 c.requires.inside

pub returns-clause-learnt : goal.returns-clause-learnt
returns-clause-learnt c =
    let h = c.search_all-found.ensures in
    answers_learnt c.args.self.now.shape c.args.key.now c.args.seat.now c.search_all-found.new.seat h.0 c.search_all-found.result h.1 h.3

pub returns-clause-slot : goal.returns-clause-slot
returns-clause-slot c =
    let h = c.search_all-found.ensures in
    answers_slot c.args.self.now.shape c.args.key.now h.0 c.search_all-found.result h.3

pub returns-clause-known : goal.returns-clause-known
returns-clause-known c =
    let h = c.search_all-found.ensures in
    searched_knows c.args.self.now.shape c.args.seat.now c.search_all-found.new.seat h.0 h.1 h.2

pub returns-clause-found : goal.returns-clause-found
returns-clause-found c =
    let h = c.search_all-found.ensures in
    lookup-finds c.args.self.now.shape c.args.key.now c.args.seat.now c.search_all-found.new.seat h.0 c.search_all-found.result
    (c.is_readers.ensures.shape ∙ ap (λ (t : TableView). t.shape) (h.1.table ∙ c.requires.table)) h.1 h.3
