use Rattle.table_words.proofs.Prelude.{◌+◌, ◌<◌, sym, ap, ◌∙◌, subst}
use Rattle.map_table.proofs.Prelude.{Scan, TableView}
use Rattle.map_table.proofs.Calls.{scans_at, scan_within, scan_reader}
use Rattle.map_table.proofs.Going.{went_as}
use Rattle.map_table.proofs.table.MapTable.scan.Goals as goal

pub load-requires : goal.load-requires
load-requires c =
    let t = c.self.invariant in
    let id = ap (λ (q : TableView). q.id) c.self.view_is in
    let reader = subst (λ (q : TableView). c.args.reader < q.shape.readers) (sym c.self.view_is) c.requires.reader in (
      c.requires.table.0 ∙ sym id,
      scan_within c.self.inside.shape c.args.reader _ reader t.1,
      scans_at c.self.inside.shape c.self.inside.table.shared.key
          _ _ _ c.args.reader (sym t.0) reader c.requires.writer,
    )

pub returns-clause-step : goal.returns-clause-step
returns-clause-step c = went_as _ _ _ _ (ap (λ z. Scan (z + 1) c.load.result) (scan_reader c.args.reader)) c.load.ensures.2.0
