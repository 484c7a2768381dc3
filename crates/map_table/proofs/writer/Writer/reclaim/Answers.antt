use Rattle.table_words.proofs.Prelude.{rules, ◌≡◌, ◌++◌, ◌∙◌, sym, ap, subst, ℕ, List, take, drop, length, All, length-take-le, take-append-drop}
use Rattle.table_words.proofs.Prelude.{ScansInTurn}
use Rattle.map_table.proofs.Prelude.{TableShape, TableView, AreSightings, AreCleared, IsHeldUp, Least, WriterView, as_holder, IsWriter, IsNoneLost}
use Rattle.map_table.proofs.Filling.{went_shape}
use Rattle.map_table.proofs.Freeing.{all_cleared, all_held, freed_writer}
use Rattle.map_table.proofs.Going.{went_seated}
use Rattle.map_table.proofs.Keeping.{scans_quiet, quiet_writer, quiet_settled}
use Rattle.map_table.proofs.Linking.{fits_still, works}
use Rattle.map_table.proofs.Lost.{quiet_none_lost, freed_none_lost}
use Rattle.map_table.proofs.Seen.{Looked, sightings_freed}
use Rattle.map_table.proofs.Unlinking.{all_fit, at_least}
use Rattle.map_table.proofs.writer.Writer.reclaim.Goals as goal

pub move_first-requires-clause-room : goal.move_first-requires-clause-room
move_first-requires-clause-room c =
    let i = c.self.invariant in
    at_least _ _ _ (all_fit c.self.inside.seat.me.0 c.self.inside.ways.items c.self.inside.free.items c.self.inside.unlinked.items i.0) i.2

pub invariant_of-self : goal.invariant_of-self
invariant_of-self c =
    let i = c.self.invariant in
    let v = c.self.inside.seat.me.0 in
    let w = c.look_round.new.seat.me.0 in
    let s = c.look_round.ensures.steps in
    let a = subst (λ (z : List ℕ). AreSightings w z c.look_round.new.seen.items) c.as_slice.ensures.value c.look_round.ensures.seen in
    let m = c.move_first.ensures in
    let free = c.self.inside.free.items in
    let unlinked = c.self.inside.unlinked.items in
    let count = c.least_of-count.result in
    let still = went_shape v w (s.0 ++ v.mine) s.1 in
    let quiet = scans_quiet 0 c.args.table.now.shape.readers s.0 s.2 in
    let b = quiet_writer v w s.0 quiet s.1 c.self.inside.ways.items free unlinked i.0 in
    let least : Least count c.look_round.new.seen.items (length unlinked) = search rules in (
      subst (λ (z : List ℕ × List ℕ). IsWriter w c.self.inside.ways.items z.0 z.1) (λ j. (sym m.to j, sym m.from j))
          (freed_writer w c.self.inside.ways.items free unlinked c.look_round.new.seen.items count b a least),
      c.look_round.ensures.held ∙ i.1,
      fits_still v w _ _ still m.to_capacity i.2,
      fits_still v w _ _ still m.from_capacity i.3,
      subst (λ (z : List ℕ). AreSightings w z c.lower_each.new.seen.items) (sym m.from)
          (sightings_freed w count unlinked c.look_round.new.seen.items c.lower_each.new.seen.items c.lower_each.ensures.room
          c.lower_each.ensures.lower least.most_is a),
      subst (λ (z : List ℕ × List ℕ). IsNoneLost w z.0 z.1) (λ j. (sym m.to j, sym m.from j))
          (freed_none_lost w count free unlinked (quiet_none_lost v w s.0 quiet s.1 free unlinked i.5)),
      quiet_settled v w s.0 quiet s.1 i.6,
      went_seated v w _ _ s.1 i.7,
    )

pub returns-clause-freed : goal.returns-clause-freed
returns-clause-freed c =
    let i = c.self.invariant in
    let v = c.self.inside.seat.me.0 in
    let w = c.look_round.new.seat.me.0 in
    let s = c.look_round.ensures.steps in
    let a = subst (λ (z : List ℕ). AreSightings w z c.look_round.new.seen.items) c.as_slice.ensures.value c.look_round.ensures.seen in
    let m = c.move_first.ensures in
    let unlinked = c.self.inside.unlinked.items in
    let count = c.least_of-count.result in
    let still = went_shape v w (s.0 ++ v.mine) s.1 in
    let readers : w.shape.readers ≡ c.args.self.now.table.shape.readers =
    ap (λ (k : TableShape). k.readers) still ∙ ap (λ (z : WriterView). z.table.shape.readers) c.self.view_is in
    let b = quiet_writer v w s.0 (scans_quiet 0 c.args.table.now.shape.readers s.0 s.2) s.1 c.self.inside.ways.items c.self.inside.free.items unlinked i.0 in
    let least : Least count c.look_round.new.seen.items (length unlinked) = search rules in (
      take count unlinked,
      length-take-le count unlinked least.most_is,
      record {
        unlinked = sym (ap (λ (z : WriterView). z.unlinked) c.self.view_is) ∙
            (sym (take-append-drop count unlinked) ∙ ap (λ z. take count unlinked ++ z) (sym m.from));
        free = m.to ∙ ap (λ (z : WriterView). z.free ++ take count unlinked) c.self.view_is;
        cleared = subst (λ n. All (λ e. AreCleared n e w.mine) (take count unlinked)) readers
            (all_cleared w c.self.inside.ways.items c.self.inside.free.items unlinked c.look_round.new.seen.items count b a least);
      },
    )

pub returns-clause-waits : goal.returns-clause-waits
returns-clause-waits c =
    let i = c.self.invariant in
    let v = c.self.inside.seat.me.0 in
    let w = c.look_round.new.seat.me.0 in
    let s = c.look_round.ensures.steps in
    let a = subst (λ (z : List ℕ). AreSightings w z c.look_round.new.seen.items) c.as_slice.ensures.value c.look_round.ensures.seen in
    let unlinked = c.self.inside.unlinked.items in
    let count = c.least_of-count.result in
    let shape = ap (λ (z : WriterView). z.table.shape) c.self.view_is ∙ ap (λ (t : TableView). t.shape) c.requires.table in
    let readers : c.args.table.now.shape.readers ≡ w.shape.readers = ap (λ (k : TableShape). k.readers) (sym (went_shape v w (s.0 ++ v.mine) s.1 ∙ shape)) in
    let here : c.args.table.now.shape.readers ≡ c.args.self.now.table.shape.readers = ap (λ (t : TableView). t.shape.readers) (sym c.requires.table) in
    let b = quiet_writer v w s.0 (scans_quiet 0 c.args.table.now.shape.readers s.0 s.2) s.1 c.self.inside.ways.items c.self.inside.free.items unlinked i.0 in
    let least : Least count c.look_round.new.seen.items (length unlinked) = search rules in (
      s.0,
      (
        subst (λ n. ScansInTurn 0 n s.0) here s.2,
        works _ _ v w _ s.0 (ap as_holder c.self.view_is) c.look_round.ensures.table s.1,
      ),
      subst (λ (z : List ℕ). All (λ e. IsHeldUp c.args.table.now.shape.readers e s.0 w.mine) z) (sym c.move_first.ensures.from)
          (subst (λ n. All (λ e. IsHeldUp n e s.0 w.mine) (drop count unlinked)) (sym readers)
          (all_held w c.self.inside.ways.items c.self.inside.free.items unlinked c.look_round.new.seen.items count b a least s.0
          (subst (λ (z : List ℕ). Looked w.shape.readers (length z) c.look_round.new.seen.items s.0) c.as_slice.ensures.value
          (subst (λ n. Looked n (length c.as_slice.result.now) c.look_round.new.seen.items s.0) readers s.3)))),
    )
