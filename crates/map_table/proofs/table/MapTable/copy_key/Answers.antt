use Rattle.table_words.proofs.Prelude.{rules, ◌≡◌, ◌+◌, ◌<◌, ◌≤◌, [], ◌∷◌, refl, length, ◌∙◌, subst, arith}
use Rattle.map_table.proofs.Prelude.{Load, Reads}
use Rattle.std.proofs.lemmas.List.{length-set}
use Rattle.map_table.proofs.Going.{goes_none, goes_more}
use Rattle.map_table.proofs.Lookups.{searched_holds}
use Rattle.map_table.proofs.Loading.{reads_more}
use Rattle.map_table.proofs.table.MapTable.copy_key.Goals as goal

pub loop-place-init : goal.loop-place-init
loop-place-init c = ([], goes_none _ c.requires.known, tt, refl, refl)

pub load-requires-clause-held : goal.load-requires-clause-held
load-requires-clause-held c =
    let i = c.loop-place.invariant in
    searched_holds c.args.self.now.shape c.args.seat.now c.loop-place.seat i.0 i.1 i.2 c.args.element c.requires.held

pub loop-place-preserved : goal.loop-place-preserved
loop-place-preserved c =
    let i = c.loop-place.invariant in
    let at = c.loop-place.place in
    let x = c.load.result in
    let place : at < c.args.self.now.shape.key_words = search rules in
    let within : at < length c.loop-place.key = search rules in
    let here : at ≡ 0 + at = omega arith in (
      Load c.args.element at x ∷ i.0,
      goes_more c.args.seat.now c.loop-place.seat c.load.new.seat i.0 _ i.1 c.load.ensures.step,
      (place, i.2),
      reads_more c.args.element 0 c.loop-place.key at at x i.0 here within i.3,
      length-set c.loop-place.key at x ∙ i.4,
    )

pub returns-clause-loaded : goal.returns-clause-loaded
returns-clause-loaded c =
    let i = c.loop-place.invariant in
    let words = c.args.self.now.shape.key_words in
    let all : words ≤ c.loop-place.place = search rules in
    let no_more : c.loop-place.place ≤ words = search rules in
    let at : c.loop-place.place ≡ words = omega (arith, all, no_more) in
    (i.0, i.1, i.2, subst (λ n. Reads c.args.element 0 c.loop-place.key n i.0) at i.3)
