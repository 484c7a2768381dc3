use Rattle.bpf_model.proofs.Prelude.{◌≤◌, ◌≢◌, ◌∙◌, ℕ, List, length, refl, sym, ap, subst, inr, None}
use Rattle.table_words.proofs.Prelude.{AreLinkedOnce}
use Rattle.map_table.proofs.Prelude.{layout_of, TableView, IsSomeInside, MakesOneWay, StayLinked, WriterView, AreFull}
use Rattle.map_table.specs.declared.moving.Room.{Room}
use Rattle.map_table.specs.declared.moving.Room.TheVariants.{Made}
use Rattle.host_tables.specs.declared.fault.SetFault.TheVariants.{Held, NoWay}
use Rattle.host_tables.specs.Tables.{Finds, IsNoRoom, IsTidy, Moves}
use Rattle.host_tables.proofs.Tidy.{aside_so, full_so, links_so, links_tidy, moved_nowhere, moved_tidy, moves_so}
use Rattle.host_tables.proofs.writing.link_new.Goals as goal

pub returns-in-Some-clause-tidy : goal.returns-in-Some-clause-tidy
returns-in-Some-clause-tidy c tidy =
    let w = c.is_writers.ensures in
    let e = c.in-Some.ensures in
    let s = e.steps in
    let v = c.args.writer.now in
    let finds = subst (λ (t : TableView). Finds t.shape c.args.key.now None v) (sym c.requires.table) c.requires.finds in
    links_tidy v c.link.new.self c.args.key.now c.args.value.now w.me w.shape w.known c.requires.room finds
    (links_so c.args.table.now v c.link.new.self c.requires.table c.args.key.now c.args.value.now c.in-Some.field-0 s.0 s.1 e.empty s.2 s.3 s.4
    c.link.ensures.unlinked e.under) tidy

pub returns-in-Held-clause-fault : goal.returns-in-Held-clause-fault
returns-in-Held-clause-fault c =
    let m = c.make_room.ensures in
    let s = m.steps in
    let v = c.link.new.self in
    let w = c.make_room.new.self in
    let table = c.link.ensures.table ∙ c.requires.table in
    subst (λ (z : WriterView). IsNoRoom c.args.key.now None z w Held) c.in_default.ensures.unchanged (
      refl,
      record {
        full = (m.held c.in-Held.is).0;
        some = (m.held c.in-Held.is).1;
        moves = record {
          moves = s.0;
          only = s.1;
          works = s.2;
          free = m.free;
          unlinked = m.unlinked;
          stay = subst (λ (t : TableView). StayLinked t.shape v.view.seen w.view.seen) (sym table) m.stay;
        };
        inside = subst (λ (t : TableView). IsSomeInside t.shape.readers s.0) (sym table) (s.3 c.in-Held.is);
        still = m.still (subst (λ (r : Room). r ≢ Made) (sym c.in-Held.is) (λ e. absurd cc));
      },
    )

pub returns-in-Held-clause-tidy : goal.returns-in-Held-clause-tidy
returns-in-Held-clause-tidy c tidy =
    let m = c.make_room.ensures in
    let v = c.link.new.self in
    let w = c.make_room.new.self in
    let table = c.link.ensures.table ∙ c.requires.table in
    moved_tidy v w m.table m.free m.unlinked
    (subst (λ (t : TableView). AreLinkedOnce (layout_of t.shape) 0 v.view.seen → AreLinkedOnce (layout_of t.shape) 0 w.view.seen) (sym table) m.once)
    (subst IsTidy (sym c.in_default.ensures.unchanged) tidy)

pub returns-in-Full-clause-fault : goal.returns-in-Full-clause-fault
returns-in-Full-clause-fault c =
    let m = c.make_room.ensures in
    let s = m.steps in
    let v = c.link.new.self in
    let w = c.make_room.new.self in
    let table = c.link.ensures.table ∙ c.requires.table in
    let full = m.full c.in-Full.is in
    subst (λ (z : WriterView). IsNoRoom c.args.key.now None z w NoWay) c.in_default.ensures.unchanged (
      refl,
      record {
        full = full.0;
        none = full.1;
        moves = moves_so c.args.table.now v w table s.0 s.1 s.2 m.free m.unlinked m.stay;
        still = m.still (subst (λ (r : Room). r ≢ Made) (sym c.in-Full.is) (λ e. absurd cc));
      },
    )

pub returns-in-Full-clause-tidy : goal.returns-in-Full-clause-tidy
returns-in-Full-clause-tidy c tidy =
    let m = c.make_room.ensures in
    let v = c.link.new.self in
    let w = c.make_room.new.self in
    let table = c.link.ensures.table ∙ c.requires.table in
    moved_tidy v w m.table m.free m.unlinked
    (subst (λ (t : TableView). AreLinkedOnce (layout_of t.shape) 0 v.view.seen → AreLinkedOnce (layout_of t.shape) 0 w.view.seen) (sym table) m.once)
    (subst IsTidy (sym c.in_default.ensures.unchanged) tidy)

pub returns-clause-put : goal.returns-clause-put
returns-clause-put c =
    let m = c.make_room.ensures in
    let s = m.steps in
    let v = c.link.new.self in
    let w = c.make_room.new.self in
    let table = c.link.ensures.table ∙ c.requires.table in
    let old = c.args.writer.now in
    let full : AreFull old.view c.args.key.now = full_so old.free (AreFull old.view c.args.key.now) c.requires.room (c.in_default.ensures.none.0 refl) in
    let e = c.in-Some-link.ensures in
    let l = e.steps in
    record {
      ready = w;
      way = inr (
        full,
        subst (λ (z : WriterView). Moves z w) c.in_default.ensures.unchanged
            (moves_so c.args.table.now v w table s.0 s.1 s.2 m.free m.unlinked m.stay),
        aside_so c.args.key.now old w full
            (subst (λ (z : WriterView). MakesOneWay c.args.key.now z.view w.view) c.in_default.ensures.unchanged (m.moved c.in-Made.is)),
      );
      links = links_so c.args.table.now w c.link-2.new.self (m.table ∙ table) c.args.key.now c.args.value.now c.in-Some-link.field-0 l.0 l.1 e.empty l.2 l.3 l.4
          c.link-2.ensures.unlinked e.under;
    }

pub returns-clause-tidy : goal.returns-clause-tidy
returns-clause-tidy c tidy =
    let m = c.make_room.ensures in
    let v = c.link.new.self in
    let w = c.make_room.new.self in
    let table = c.link.ensures.table ∙ c.requires.table in
    let all = m.table ∙ table in
    let is = c.in_default.ensures.unchanged in
    let e = c.in-Some-link.ensures in
    let l = e.steps in
    let o = c.is_writers-2.ensures in
    let room : 2 ≤ length w.free = subst (λ (z : List ℕ). 2 ≤ length z) (sym (m.free ∙ ap (λ (z : WriterView). z.free) is)) c.requires.room in
    let nowhere = moved_nowhere c.args.table.now.shape c.args.key.now v w m.none_new
    (subst (λ (z : WriterView). Finds c.args.table.now.shape c.args.key.now None z) (sym is) c.requires.finds) in
    let ready = moved_tidy v w m.table m.free m.unlinked
    (subst (λ (t : TableView). AreLinkedOnce (layout_of t.shape) 0 v.view.seen → AreLinkedOnce (layout_of t.shape) 0 w.view.seen) (sym table) m.once)
    (subst IsTidy (sym is) tidy) in
    links_tidy w c.link-2.new.self c.args.key.now c.args.value.now o.me o.shape o.known room
    (subst (λ (t : TableView). Finds t.shape c.args.key.now None w) (sym all) nowhere)
    (links_so c.args.table.now w c.link-2.new.self all c.args.key.now c.args.value.now c.in-Some-link.field-0 l.0 l.1 e.empty l.2 l.3 l.4
    c.link-2.ensures.unlinked e.under) ready
