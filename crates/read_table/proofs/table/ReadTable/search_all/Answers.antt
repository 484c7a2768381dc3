use Rattle.bpf_model.proofs.Prelude.{◌+◌, ◌*◌, ◌≤◌, ◌++◌, subst, length, None}
use Rattle.read_table.proofs.Prelude.{Searched}
use Rattle.read_table.specs.declared.view.TableShape.{TableShape}
use Rattle.read_table.proofs.Going.{goes_then}
use Rattle.read_table.proofs.Lookups.{searched_inside, only_append, both_searched, both_steps}
use Rattle.read_table.proofs.table.ReadTable.search_all.Goals as goal

pub search-requires-2-clause-inside : goal.search-requires-2-clause-inside
search-requires-2-clause-inside c =
    let h = c.in_default.ensures in
    searched_inside c.args.self.now.shape c.args.seat.now c.search.new.seat h.0 h.1 h.2 c.requires.inside

pub returns : goal.returns
returns c =
    let h = c.in_default.ensures in
    let g = c.search-2.ensures in (
      g.0 ++ h.0,
      goes_then c.args.seat.now c.search.new.seat c.search-2.new.seat h.0 g.0 h.1 g.1,
      only_append c.args.self.now.shape g.0 h.0 g.2 h.2,
      both_searched c.args.self.now.shape c.args.key.now c.home_of-home.result g.0 h.0 c.search-2.result
          (subst (λ (k : TableShape). Searched c.args.self.now.shape c.args.key.now c.home_of-home.result k.slots h.0
          None) c.shape-shape.ensures.shape h.3) g.3,
      both_steps c.args.self.now.shape.slots c.home_of-home.result (1 + c.args.self.now.shape.key_words) g.0 h.0
          (subst (λ (k : TableShape). length h.0 + c.home_of-home.result * (1 + c.args.self.now.shape.key_words) ≤
          k.slots * (1 + c.args.self.now.shape.key_words)) c.shape-shape.ensures.shape h.4) g.4,
    )
