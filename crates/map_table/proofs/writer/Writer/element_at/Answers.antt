use Rattle.table_words.proofs.Prelude.{rules, ◌≢◌, ◌<◌, ◌∙◌, sym, subst, Names, word_in}
use Rattle.map_table.proofs.Prelude.{layout_of, ways_of, WriterView}
use Rattle.table_words.proofs.Standing.{fits}
use Rattle.map_table.proofs.Filling.{own_list}
use Rattle.map_table.proofs.Unlinking.{low_half, read_way}
use Rattle.map_table.proofs.writer.Writer.element_at.Goals as goal

pub element_in-requires : goal.element_in-requires
element_in-requires c =
    let i = c.self.invariant in
    let v = c.self.inside.seat.me.0 in
    let low : c.args.way < ways_of v.shape = subst (λ (w : WriterView). c.args.way < ways_of w.table.shape) (sym c.self.view_is) c.requires in
    let read = read_way v c.self.inside.ways.items c.self.inside.free.items c.self.inside.unlinked.items c.args.way c.index-word.result.now i.0 low
    c.index-word.ensures in
    let ne : c.index-word.result.now ≢ 0 = search rules in
    low_half v c.self.inside.ways.items c.self.inside.free.items c.self.inside.unlinked.items c.args.way c.index-word.result.now i.0
    (λ none. ne (read ∙ none)) read

pub returns-clause-within : goal.returns-clause-within
returns-clause-within c =
    let i = c.self.invariant in
    let v = c.self.inside.seat.me.0 in
    let low : c.args.way < ways_of v.shape = subst (λ (w : WriterView). c.args.way < ways_of w.table.shape) (sym c.self.view_is) c.requires in
    let read = read_way v c.self.inside.ways.items c.self.inside.free.items c.self.inside.unlinked.items c.args.way c.index-word.result.now i.0 low
    c.index-word.ensures in
    let names = subst (λ z. Names z c.element_in.result) read c.element_in.ensures in
    let named = subst (λ z. Names (word_in c.args.way z) c.element_in.result) (sym (own_list v i.0.me i.0.known)) names in
    subst (λ (w : WriterView). c.element_in.result < w.table.shape.elements) c.self.view_is
    (fits (layout_of v.shape) v.seen i.0.known.0 c.args.way c.element_in.result named).within
