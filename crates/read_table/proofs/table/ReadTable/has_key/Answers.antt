use Rattle.bpf_model.proofs.Prelude.{rules, ◌≡◌, ◌≢◌, ◌<◌, [], ◌∷◌, arith, ap, ◌∙◌, ◌≤◌, Some}
use Rattle.read_table.specs.declared.view.Move.TheVariants.{Load}
use Rattle.read_table.proofs.Going.{goes_none, goes_more}
use Rattle.read_table.proofs.Lookups.{searched_knows, more_had, other_word}
use Rattle.read_table.proofs.table.ReadTable.has_key.Goals as goal

pub loop-place-init : goal.loop-place-init
loop-place-init c = ([], goes_none _ c.requires.known, tt, (λ p w l e. absurd (omega arith)), omega arith)

pub load-requires-clause-learnt : goal.load-requires-clause-learnt
load-requires-clause-learnt c =
    let i = c.loop-place.invariant in
    let l = c.requires.learnt in
    (l.0, searched_knows c.args.self.now.shape c.args.seat.now c.loop-place.seat i.0 i.1 i.2 c.args.slot l.0 l.1)

pub returns-then-load-word_of : goal.returns-then-load-word_of
returns-then-load-word_of c =
    let i = c.loop-place.invariant in
    let place : c.loop-place.place < c.args.self.now.shape.key_words = search rules in
    let few = i.4 in
    let ne : c.load.result ≢ c.word_of.result = search rules in (
      Load c.args.slot c.loop-place.place c.load.result ∷ i.0,
      goes_more c.args.seat.now c.loop-place.seat c.load.new.seat i.0 _ i.1 c.load.ensures.step,
      (place, i.2),
      other_word c.args.self.now.shape c.args.key.now c.args.slot c.loop-place.place c.load.result c.word_of.result i.0 place c.word_of.ensures ne,
      omega (arith, few, place),
    )

pub loop-place-preserved : goal.loop-place-preserved
loop-place-preserved c =
    let i = c.loop-place.invariant in
    let place : c.loop-place.place < c.args.self.now.shape.key_words = search rules in
    let few = i.4 in
    let same : c.word_of.result ≡ c.load.result = search rules in (
      Load c.args.slot c.loop-place.place c.load.result ∷ i.0,
      goes_more c.args.seat.now c.loop-place.seat c.load.new.seat i.0 _ i.1 c.load.ensures.step,
      (place, i.2),
      more_had c.args.key.now c.args.slot c.loop-place.place c.load.result i.0 i.3 (c.word_of.ensures ∙ ap Some same),
      omega (arith, few),
    )

pub returns : goal.returns
returns c =
    let i = c.loop-place.invariant in
    let all : c.args.self.now.shape.key_words ≤ c.loop-place.place = search rules in
    let no_more : c.loop-place.place ≤ c.args.self.now.shape.key_words = search rules in
    let few = i.4 in
    (i.0, i.1, i.2, (λ place word l e. i.3 place word (omega arith) e), omega (arith, few, no_more))
