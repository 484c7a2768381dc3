use Rattle.table_words.proofs.Prelude.{rules, ◌≡◌, ◌+◌, ◌≤◌, ◌∙◌, [], ◌∷◌, ℕ, List, sym, ap, subst, refl, arith, IsSettled}
use Rattle.map_table.proofs.Prelude.{Scan, TableShape, View, TableView, dealt, AreSightings, WriterView, HasSeated, IsWriter, IsNoneLost, Works, as_holder}
use Rattle.atomic_table.specs.Table.{Me}
use Rattle.map_table.proofs.Filling.{went_shape}
use Rattle.map_table.proofs.Going.{went_seated}
use Rattle.map_table.proofs.Keeping.{scans_quiet, quiet_writer, quiet_settled}
use Rattle.map_table.proofs.Linking.{fits_still, works}
use Rattle.map_table.proofs.Lost.{quiet_none_lost}
use Rattle.map_table.proofs.Seating.{seated_writer, seated_sightings, one_more}
use Rattle.map_table.proofs.writer.Writer.seat.Goals as goal

pub invariant_of-self : goal.invariant_of-self
invariant_of-self c =
    let i = c.self.invariant in
    let v = c.self.inside.seat.me.0 in
    let w = c.look_at.new.seat.me.0 in
    let u = c.deal.new.writer.me.0 in
    let f = c.look_at.ensures in
    let ms = Scan (c.self.inside.seated + 1) c.look_at.result ∷ [] in
    let quiet = scans_quiet c.self.inside.seated (c.self.inside.seated + 1) ms (omega arith, omega arith, tt) in
    let a = subst (λ (z : List ℕ). AreSightings w z c.look_at.new.seen.items) c.as_slice-unlinked.ensures.value f.seen in
    let is : u ≡ dealt w = ap (λ (m : Me ℕ View). m.0) c.deal.ensures.writer in
    let still = went_shape v w _ f.step in
    let same : u.shape ≡ v.shape = ap (λ (z : View). z.shape) is ∙ still in
    let shape = ap (λ (z : WriterView). z.table.shape) c.self.view_is ∙ ap (λ (t : TableView). t.shape) c.requires.table in
    let here : c.args.table.now.shape.readers ≡ w.shape.readers = ap (λ (k : TableShape). k.readers) (sym (still ∙ shape)) in
    let readers : c.self.inside.seated + 1 ≤ w.shape.readers = search rules in (
      subst (λ (z : View). IsWriter z c.self.inside.ways.items c.self.inside.free.items c.self.inside.unlinked.items) (sym is)
          (seated_writer w _ _ _ (quiet_writer v w ms quiet f.step c.self.inside.ways.items c.self.inside.free.items c.self.inside.unlinked.items i.0)),
      ap (λ (m : Me ℕ View). m.1) c.deal.ensures.writer,
      fits_still v u _ _ same refl i.2,
      fits_still v u _ _ same refl i.3,
      subst (λ (z : View). AreSightings z c.self.inside.unlinked.items c.look_at.new.seen.items) (sym is) (seated_sightings w _ _ a),
      subst (λ (z : View). IsNoneLost z c.self.inside.free.items c.self.inside.unlinked.items) (sym is)
          (quiet_none_lost v w ms quiet f.step c.self.inside.free.items c.self.inside.unlinked.items i.5),
      subst (λ (z : View). IsSettled z.mine) (sym is) (quiet_settled v w ms quiet f.step i.6),
      subst (λ (z : View). HasSeated z (c.self.inside.seated + 1)) (sym is)
          (one_more w c.self.inside.seated (went_seated v w _ c.self.inside.seated f.step i.7) readers),
    )

pub returns-clause-makes : goal.returns-clause-makes
returns-clause-makes c =
    let i = c.self.invariant in
    let v = c.self.inside.seat.me.0 in
    let w = c.look_at.new.seat.me.0 in
    let f = c.look_at.ensures in
    let d = c.deal.ensures in
    let is : c.deal.new.writer.me.0 ≡ dealt w = ap (λ (m : Me ℕ View). m.0) d.writer in
    let next : c.self.inside.seated + 1 ≡ c.args.self.now.view.next = sym i.7.next ∙ ap (λ (z : WriterView). z.view.next) c.self.view_is in record {
      word = c.look_at.result;
      looked = record {
        table = record { id = c.look_at.new.seat.table_id; shape = w.shape };
        view = w;
        free = c.self.inside.free.items;
        unlinked = c.self.inside.unlinked.items;
      };
      looks = subst (λ n. Works c.args.self.now (Scan n c.look_at.result ∷ []) record {
        table = record { id = c.look_at.new.seat.table_id; shape = w.shape };
        view = w;
        free = c.self.inside.free.items;
        unlinked = c.self.inside.unlinked.items;
      }) next (works _ _ v w _ _ (ap as_holder c.self.view_is) f.table f.step);
      seated = λ j. record {
        table = record { id = d.table j; shape = (is j).shape };
        view = is j;
        free = c.self.inside.free.items;
        unlinked = c.self.inside.unlinked.items;
      };
      free = ap (λ (z : WriterView). z.free) c.self.view_is;
      unlinked = ap (λ (z : WriterView). z.unlinked) c.self.view_is;
    }
