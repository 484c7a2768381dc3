use Rattle.table_words.proofs.Prelude.{◌<◌, ◌++◌, ◌∙◌, ap, subst}
use Rattle.map_table.proofs.Prelude.{TableView}
use Rattle.map_table.proofs.Filling.{went_me}
use Rattle.map_table.proofs.Lookups.{searched_inside, searched_holds, answers_held, lookup_finds, hit_was_there}
use Rattle.map_table.proofs.table.MapTable.lookup.Goals as goal

pub returns-clause-inside : goal.returns-clause-inside
returns-clause-inside c =
    let h = c.search_both-found.ensures.searched in
    searched_inside c.args.self.now.shape c.args.seat.now c.search_both-found.new.seat h.0 h.1 h.2.only c.requires.inside

pub returns-clause-held : goal.returns-clause-held
returns-clause-held c =
    let h = c.search_both-found.ensures.searched in
    answers_held c.args.self.now.shape c.args.key.now c.args.seat.now c.search_both-found.new.seat h.0 c.search_both-found.result h.1 h.2

pub returns-clause-keeps : goal.returns-clause-keeps
returns-clause-keeps c =
    let h = c.search_both-found.ensures.searched in
    searched_holds c.args.self.now.shape c.args.seat.now c.search_both-found.new.seat h.0 h.1 h.2.only

pub returns-clause-found : goal.returns-clause-found
returns-clause-found c =
    let h = c.search_both-found.ensures.searched in
    lookup_finds c.args.self.now.shape c.args.key.now c.args.seat.now c.search_both-found.new.seat h.0 c.search_both-found.result
    (c.is_readers.ensures.shape ∙ ap (λ (t : TableView). t.shape) (h.1.table ∙ c.requires.table)) h.1 h.2

pub returns-clause-linked : goal.returns-clause-linked
returns-clause-linked c =
    let h = c.search_both-found.ensures.searched in
    let some = c.is_readers.ensures.reader.0 in
    let me = went_me c.args.seat.now.view c.search_both-found.new.seat.view (h.0 ++ c.args.seat.now.view.mine) h.1.went in
    hit_was_there c.args.self.now.shape c.args.key.now c.args.seat.now c.search_both-found.new.seat h.0 c.search_both-found.result c.requires.key
    (subst (λ z. 0 < z) me some) (c.is_readers.ensures.shape ∙ ap (λ (t : TableView). t.shape) (h.1.table ∙ c.requires.table)) h.1 h.2
