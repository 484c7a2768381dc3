use Rattle.table_words.proofs.Prelude.{rules, ◌≡◌, ◌∙◌, sym, ap, length, arith}
use Rattle.map_table.proofs.Prelude.{TableShape, TableView, WriterView}
use Rattle.map_table.proofs.Unlinking.{all_fit}
use Rattle.map_table.proofs.writer.Writer.count_linked.Goals as goal

pub overflow_sub-result : goal.overflow_sub-result
overflow_sub-result c =
    let fit = all_fit c.self.inside.seat.me.0 c.self.inside.ways.items c.self.inside.free.items c.self.inside.unlinked.items c.self.invariant.0 in
    let shape = ap (λ (w : WriterView). w.table.shape) c.self.view_is ∙ ap (λ (t : TableView). t.shape) c.requires in
    let same : c.shape.result.elements ≡ c.self.inside.seat.me.0.shape.elements = ap (λ (k : TableShape). k.elements) (c.shape.ensures.shape ∙ sym shape) in
    let one : c.len.result ≡ length c.self.inside.free.items = search rules in omega (arith, fit, same, one)

pub overflow_sub-result-2 : goal.overflow_sub-result-2
overflow_sub-result-2 c =
    let fit = all_fit c.self.inside.seat.me.0 c.self.inside.ways.items c.self.inside.free.items c.self.inside.unlinked.items c.self.invariant.0 in
    let shape = ap (λ (w : WriterView). w.table.shape) c.self.view_is ∙ ap (λ (t : TableView). t.shape) c.requires in
    let same : c.shape.result.elements ≡ c.self.inside.seat.me.0.shape.elements = ap (λ (k : TableShape). k.elements) (c.shape.ensures.shape ∙ sym shape) in
    let one : c.len.result ≡ length c.self.inside.free.items = search rules in
    let two : c.len-2.result ≡ length c.self.inside.unlinked.items = search rules in omega (arith, fit, same, one, two)

pub returns : goal.returns
returns c =
    let fit = all_fit c.self.inside.seat.me.0 c.self.inside.ways.items c.self.inside.free.items c.self.inside.unlinked.items c.self.invariant.0 in
    let shape = ap (λ (w : WriterView). w.table.shape) c.self.view_is ∙ ap (λ (t : TableView). t.shape) c.requires in
    let same : c.shape.result.elements ≡ c.self.inside.seat.me.0.shape.elements = ap (λ (k : TableShape). k.elements) (c.shape.ensures.shape ∙ sym shape) in
    let here : c.shape.result.elements ≡ c.args.table.now.shape.elements = ap (λ (k : TableShape). k.elements) c.shape.ensures.shape in
    let one : c.len.result ≡ length c.self.inside.free.items = search rules in
    let two : c.len-2.result ≡ length c.self.inside.unlinked.items = search rules in
    let free : length c.self.inside.free.items ≡ length c.args.self.now.free = ap (λ (w : WriterView). length w.free) c.self.view_is in
    let unlinked : length c.self.inside.unlinked.items ≡ length c.args.self.now.unlinked = ap (λ (w : WriterView). length w.unlinked) c.self.view_is in
    omega (arith, fit, same, here, one, two, free, unlinked)
