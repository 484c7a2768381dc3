use Rattle.bpf_model.proofs.Prelude.{◌∙◌, sym, subst, refl}
use Rattle.table_words.proofs.Prelude.{IsLinkedUnder, OnlySearches}
use Rattle.map_table.proofs.Prelude.{layout_of, TableView, Reads, stored_of}
use Rattle.host_tables.proofs.Kept.{reads_only}
use Rattle.host_tables.proofs.Tidy.{loaded_tidy, searched_tidy}
use Rattle.host_tables.proofs.copying.load_way.Goals as goal

pub returns-clause-loads : goal.returns-clause-loads
returns-clause-loads c = λ yes.
    let e = c.key_at.ensures in
    let s = e.steps in
    let f = c.value_at.ensures.loaded yes in
    let t = c.requires.table in
    let u = e.table ∙ t in (
      c.key_at.new.self,
      record {
        moves = s.0;
        only = subst (λ (z : TableView). OnlySearches (layout_of z.shape) 0 s.0) (sym t) s.1;
        works = s.2;
        free = e.free;
        unlinked = e.unlinked;
        under = subst (λ (z : TableView). IsLinkedUnder (layout_of z.shape) 0 c.key_at.new.key c.args.way c.key_at.new.self.view.seen) (sym t)
            (e.found c.if-not-key_at.false);
      },
      record {
        element = f.0;
        names = f.2;
        moves = f.1;
        only = reads_only f.0 c.args.table.now.shape.key_words (stored_of c.args.table.now.shape) c.value_at.new.words f.1 f.3;
        reads = subst (λ (z : TableView). Reads f.0 z.shape.key_words c.value_at.new.words (stored_of z.shape) f.1) (sym u) f.3;
        works = f.4;
        free = c.value_at.ensures.free;
        unlinked = c.value_at.ensures.unlinked;
      },
    )

pub returns-clause-tidy : goal.returns-clause-tidy
returns-clause-tidy c tidy =
    let e = c.key_at.ensures in
    let v = c.value_at.ensures in
    let o = c.is_writers.ensures in
    let p = c.is_writers-2.ensures in
    loaded_tidy c.key_at.new.self c.value_at.new.self v.steps.0 p.me p.shape p.known v.steps.1 v.steps.2 v.free v.unlinked
    (searched_tidy (layout_of c.args.table.now.shape) c.args.writer.now c.args.writer.now c.key_at.new.self e.steps.0 refl o.me o.shape o.known e.steps.1
    e.steps.2 e.free e.unlinked tidy)
