use Rattle.table_words.proofs.Prelude.{refl, slice_index}
use Rattle.map_table.proofs.Peeking.{not_under, named_within, has_under, under_has, false_true}
use Rattle.map_table.proofs.by_key.is_under.Goals as goal

pub returns-in_default-clause-under : goal.returns-in_default-clause-under
returns-in_default-clause-under c = (
  λ t. absurd (false_true t),
  λ l. absurd (not_under c.args.table.now.shape c.args.seat.now.me.0 c.args.key.now c.args.way (slice_index c.args.ways.now c.args.way) c.args.tag
      c.requires.table.1 c.requires.writer c.requires.known c.requires.word c.requires.tag (c.in_default.ensures.none refl) l),
)

pub has_key-requires-clause-element : goal.has_key-requires-clause-element
has_key-requires-clause-element c = named_within c.args.table.now.shape c.args.seat.now.me.0 c.args.way (slice_index c.args.ways.now c.args.way)
    c.in-Some.element c.requires.table.1 c.requires.writer c.requires.known c.requires.word c.in-Some.ensures.some.0

pub returns-clause-under : goal.returns-clause-under
returns-clause-under c =
    let k = c.args.table.now.shape in
    let s = c.has_key.ensures.steps in
    let v = c.args.seat.now.me.0 in
    let w = c.has_key.new.seat.me.0 in
    let word = slice_index c.args.ways.now c.args.way in (
      λ t. has_under k v w s.0 c.requires.table.1 c.requires.writer c.requires.known s.1 s.2 c.args.key.now c.args.way word c.in-Some.element
          c.requires.word c.in-Some.ensures.some.0 (c.has_key.ensures.key.0 t),
      λ l. c.has_key.ensures.key.1 (under_has k v w s.0 c.requires.table.1 c.requires.writer c.requires.known s.1 s.2 c.args.key.now c.args.way word
          c.in-Some.element c.requires.word c.in-Some.ensures.some.0 l),
    )
