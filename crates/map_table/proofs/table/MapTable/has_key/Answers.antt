use Rattle.table_words.proofs.Prelude.{rules, ◌≡◌, ◌≢◌, ◌<◌, ◌≤◌, [], ◌∷◌, arith, refl, inl, slice_index}
use Rattle.map_table.proofs.Prelude.{Load}
use Rattle.map_table.proofs.Going.{goes_none, goes_more}
use Rattle.map_table.proofs.Lookups.{searched_holds, more_had}
use Rattle.map_table.proofs.table.MapTable.has_key.Goals as goal

pub loop-place-init : goal.loop-place-init
loop-place-init c = ([], goes_none _ c.requires.known, tt, (λ p l. absurd (omega arith)), omega arith)

pub load-requires-clause-held : goal.load-requires-clause-held
load-requires-clause-held c =
    let i = c.loop-place.invariant in
    searched_holds c.args.self.now.shape c.args.seat.now c.loop-place.seat i.0 i.1 i.2 c.args.element c.requires.held

pub returns-then-load-key : goal.returns-then-load-key
returns-then-load-key c =
    let i = c.loop-place.invariant in
    let place : c.loop-place.place < c.args.self.now.shape.key_words = search rules in
    let few = i.4 in
    let ne : c.load.result ≢ slice_index c.args.key.now c.loop-place.place = search rules in (
      Load c.args.element c.loop-place.place c.load.result ∷ i.0,
      goes_more c.args.seat.now c.loop-place.seat c.load.new.seat i.0 _ i.1 c.load.ensures.step,
      (place, i.2),
      inl (refl, place, ne),
      omega (arith, few, place),
    )

pub loop-place-preserved : goal.loop-place-preserved
loop-place-preserved c =
    let i = c.loop-place.invariant in
    let place : c.loop-place.place < c.args.self.now.shape.key_words = search rules in
    let few = i.4 in
    let same : c.load.result ≡ slice_index c.args.key.now c.loop-place.place = search rules in (
      Load c.args.element c.loop-place.place c.load.result ∷ i.0,
      goes_more c.args.seat.now c.loop-place.seat c.load.new.seat i.0 _ i.1 c.load.ensures.step,
      (place, i.2),
      more_had c.args.self.now.shape c.args.key.now c.args.element c.loop-place.place i.0 i.3 c.load.result same,
      omega (arith, few),
    )

pub returns : goal.returns
returns c =
    let i = c.loop-place.invariant in
    let all : c.args.self.now.shape.key_words ≤ c.loop-place.place = search rules in
    let no_more : c.loop-place.place ≤ c.args.self.now.shape.key_words = search rules in
    let few = i.4 in
    (i.0, i.1, i.2, (λ place l. i.3 place (omega (arith, l, all))), omega (arith, few, no_more))
