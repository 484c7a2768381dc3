use Rattle.bpf_model.proofs.Prelude.{◌≡◌, ◌<◌, ◌%◌, refl, sym, ap, ◌∙◌, subst}
use Rattle.read_table.proofs.Prelude.{MayLink, headers_from, TableView}
use Rattle.read_table.specs.declared.view.TableShape.{TableShape}
use Rattle.read_table.specs.declared.view.Move.TheVariants.{Header}
use Rattle.read_table.proofs.Calls.{header_slot, header_within, changes_at}
use Rattle.read_table.proofs.Going.{went_as}
use Rattle.read_table.proofs.table.ReadTable.set_header.Goals as goal

pub store-requires : goal.store-requires
store-requires c =
    let t = c.self.invariant in
    let starts : c.self.inside.headers ≡ headers_from c.self.inside.shape = t.5 in
    let id = ap (λ (q : TableView). q.id) c.self.view_is in
    let view = ap (λ (q : TableView). q.shape) c.self.view_is in
    let same = c.requires.table.1 ∙ sym view in
    let slot = subst (λ (k : TableShape). c.args.slot < k.slots) (sym view) c.requires.slot in
    let may = subst (λ (k : TableShape). c.args.header % 2 ≡ 1 → MayLink k.readers c.args.slot c.args.seat.now.me.0.mine) (sym view) c.requires.reuse in (
      c.requires.table.0 ∙ sym id,
      header_within _ _ _ _ _ starts refl slot t.1,
      changes_at _ _ _ _ _ c.args.slot _ _ starts same (sym t.0) slot c.requires.writer c.requires.header may,
    )

pub returns-clause-step : goal.returns-clause-step
returns-clause-step c =
    let same = c.requires.table.1 ∙ sym (ap (λ (q : TableView). q.shape) c.self.view_is) in
    let starts : c.self.inside.headers ≡ headers_from c.self.inside.shape = c.self.invariant.5 in
    let move = ap (λ z. Header z c.args.header) (header_slot _ _ c.args.slot _ starts same) in
    went_as _ _ _ _ move c.store.ensures.2.0
