use Rattle.table_words.proofs.Prelude.{[], ◌∷◌, ◌++◌, arith}
use Rattle.map_table.proofs.Prelude.{Learn}
use Rattle.std.proofs.lemmas.List.{length-append}
use Rattle.map_table.proofs.Going.{goes_then}
use Rattle.map_table.proofs.Lookups.{only_append, way_found, way_refuted}
use Rattle.map_table.proofs.table.MapTable.match_way.Goals as goal

pub has_key-requires-clause-element : goal.has_key-requires-clause-element
has_key-requires-clause-element c = c.learn_behind-word.ensures.within c.in-Some.element c.in-Some.ensures.some.0

pub has_key-requires-clause-held : goal.has_key-requires-clause-held
has_key-requires-clause-held c = c.learn_behind-word.ensures.held c.in-Some.element c.in-Some.ensures.some.0

pub returns-then-not-has_key : goal.returns-then-not-has_key
returns-then-not-has_key c =
    let l = c.learn_behind-word.ensures.step in
    let h = c.if-not-has_key.ensures in
    let few = h.4 in (
      h.0 ++ Learn c.args.way c.learn_behind-word.result ∷ [],
      goes_then c.args.seat.now c.learn_behind-word.new.seat c.has_key.new.seat (Learn c.args.way c.learn_behind-word.result ∷ []) h.0 l h.1,
      only_append c.args.self.now.shape h.0 (Learn c.args.way c.learn_behind-word.result ∷ []) h.2 tt,
      way_refuted c.args.self.now.shape c.args.key.now c.args.way c.learn_behind-word.result c.in-Some.element h.0 c.in-Some.ensures.some.0 h.3,
      omega (arith, few, length-append h.0 (Learn c.args.way c.learn_behind-word.result ∷ [])),
    )

pub returns : goal.returns
returns c =
    let l = c.learn_behind-word.ensures.step in
    let h = c.if-not-has_key.ensures in
    let few = h.4 in (
      h.0 ++ Learn c.args.way c.learn_behind-word.result ∷ [],
      goes_then c.args.seat.now c.learn_behind-word.new.seat c.has_key.new.seat (Learn c.args.way c.learn_behind-word.result ∷ []) h.0 l h.1,
      only_append c.args.self.now.shape h.0 (Learn c.args.way c.learn_behind-word.result ∷ []) h.2 tt,
      way_found c.args.self.now.shape c.args.key.now c.args.way c.learn_behind-word.result c.in-Some.element h.0 c.in-Some.ensures.some.0
          (c.learn_behind-word.ensures.within c.in-Some.element c.in-Some.ensures.some.0) h.3,
      omega (arith, few, length-append h.0 (Learn c.args.way c.learn_behind-word.result ∷ [])),
    )
