use Rattle.bpf_model.proofs.Prelude.{sym, subst, Some}
use Rattle.map_table.proofs.Prelude.{TableView, StaysIn}
use Rattle.host_tables.specs.Tables.{Finds, Replaces}
use Rattle.host_tables.proofs.Tidy.{replaces_tidy}
use Rattle.host_tables.proofs.writing.replace.Goals as goal

pub returns-then-replace-clause-tidy : goal.returns-then-replace-clause-tidy
returns-then-replace-clause-tidy c tidy =
    let w = c.is_writers.ensures in
    let e = c.replace.ensures in
    let yes = c.if-replace.true in
    let s = e.steps yes in
    let u = e.unlinked yes in
    let v = c.args.writer.now in
    let finds = subst (λ (t : TableView). Finds t.shape c.args.key.now (Some c.args.way) v) (sym c.requires.table) c.requires.finds in
    let r : Replaces c.args.way c.args.key.now c.args.value.now v c.replace.new.self = record {
      element = s.0;
      word = s.1;
      gone = u.0;
      taken = s.2;
      names = s.3;
      puts = s.4;
      was = u.1;
      unlinked = u.2;
      stays = subst (λ (t : TableView). StaysIn t.shape c.args.key.now c.args.way v.view.seen c.replace.new.self.view.seen)
          (sym c.requires.table) (e.stays yes);
    } in
    replaces_tidy v c.replace.new.self c.args.key.now c.args.value.now w.me w.shape w.known c.args.way finds r tidy
