use Rattle.table_words.proofs.Prelude.{◌+◌, ◌*◌, ◌++◌, ap, ◌∙◌}
use Rattle.map_table.proofs.Prelude.{TableShape, first_bucket, second_bucket}
use Rattle.map_table.proofs.Going.{goes_then}
use Rattle.map_table.proofs.Lookups.{searched_inside, only_append, first_found, both_searched, brief_both, brief_one}
use Rattle.map_table.proofs.table.MapTable.search_both.Goals as goal

pub search-requires-2-clause-inside : goal.search-requires-2-clause-inside
search-requires-2-clause-inside c =
    let h = c.in_default.ensures in
    searched_inside c.args.self.now.shape c.args.seat.now c.search.new.seat h.0 h.1 h.2 c.requires.inside

pub returns-clause-searched : goal.returns-clause-searched
returns-clause-searched c =
    let same = c.shape-shape.ensures.shape in
    let e = c.candidates_of-candidates.ensures in
    let h = c.in_default.ensures in
    let g = c.search-2.ensures in (
      g.0 ++ h.0,
      goes_then c.args.seat.now c.search.new.seat c.search-2.new.seat h.0 g.0 h.1 g.1,
      record {
        only = only_append c.args.self.now.shape g.0 h.0 g.2 h.2;
        brief = brief_both (1 + c.args.self.now.shape.key_words) g.0 h.0 h.4 g.4;
        answers = both_searched c.args.self.now.shape c.args.key.now c.candidates_of-candidates.result.first c.candidates_of-candidates.result.second
            g.0 h.0 c.search-2.result
            (e.first ∙ ap (λ (k : TableShape). first_bucket k c.args.key.now * 8) same)
            (e.second ∙ ap (λ (k : TableShape). second_bucket k c.args.key.now * 8) same) h.3 g.3;
      },
    )

pub returns-in-Some-clause-searched : goal.returns-in-Some-clause-searched
returns-in-Some-clause-searched c =
    let same = c.shape-shape.ensures.shape in
    let e = c.candidates_of-candidates.ensures in
    let h = c.in-Some.ensures in (
      h.0,
      h.1,
      record {
        only = h.2;
        brief = brief_one (1 + c.args.self.now.shape.key_words) h.0 h.4;
        answers = first_found c.args.self.now.shape c.args.key.now c.candidates_of-candidates.result.first c.in-Some.element h.0
            (e.first ∙ ap (λ (k : TableShape). first_bucket k c.args.key.now * 8) same) h.3;
      },
    )
