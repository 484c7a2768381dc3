use Rattle.table_words.proofs.Prelude.{◌+◌, ◌*◌, ◌≤◌, ap, ◌∙◌, subst}
use Rattle.map_table.proofs.Prelude.{TableShape, first_bucket, second_bucket, ways_of}
use Rattle.std.proofs.lemmas.Option.{IfSome_then}
use Rattle.map_table.proofs.Doubled.{low_named, second_found}
use Rattle.map_table.proofs.Peeking.{named_within}
use Rattle.map_table.proofs.moving.second_way.Goals as goal

pub element_in-element-requires : goal.element_in-element-requires
element_in-element-requires c =
    low_named c.args.seat.now.me.0 c.args.way _ c.requires.writer c.requires.known (c.requires.words c.args.way c.requires.way) c.requires.some

pub load_key-requires-clause-element : goal.load_key-requires-clause-element
load_key-requires-clause-element c =
    named_within c.args.table.now.shape c.args.seat.now.me.0 c.args.way _ c.element_in-element.result c.requires.table.1 c.requires.writer
    c.requires.known (c.requires.words c.args.way c.requires.way) c.element_in-element.ensures

pub returns-clause-some : goal.returns-clause-some
returns-clause-some c =
    let k = c.args.table.now.shape in
    let s = c.load_key.ensures.steps in
    let e = c.candidates_of.ensures in
    let same = c.shape-shape.ensures.shape in
    let key = c.load_key.new.key in
    IfSome_then c.empty_of_both.result c.empty_of_both.ensures.some (λ to t.
    second_found k c.args.seat.now.me.0 c.load_key.new.seat.me.0 s.0 c.requires.table.1 c.requires.writer c.requires.known s.1 s.2 c.args.ways.now
    c.requires.words c.requires.settled key c.args.way _ _ to c.element_in-element.result c.requires.way c.element_in-element.ensures
    c.load_key.ensures.key (e.first ∙ ap (λ (z : TableShape). first_bucket z key * 8) same)
    (e.second ∙ ap (λ (z : TableShape). second_bucket z key * 8) same)
    (subst (λ (z : TableShape). c.candidates_of.result.first + 8 ≤ ways_of z) same e.first_within)
    (subst (λ (z : TableShape). c.candidates_of.result.second + 8 ≤ ways_of z) same e.second_within) t.0 t.1)
