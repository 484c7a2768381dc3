use Rattle.bpf_model.proofs.Prelude.{refl, sym, ap, ◌∙◌}
use Rattle.read_table.proofs.Prelude.{TableView, Holder}
use Rattle.read_table.specs.declared.view.Move.TheVariants.{Open}
use Rattle.read_table.proofs.Calls.{does, section_within, opens_at}
use Rattle.read_table.proofs.table.ReadTable.open.Goals as goal

pub store-requires : goal.store-requires
store-requires c =
    let p = ap (λ (h : Holder). h.table) c.seat.view_is ∙ (c.requires.table ∙ sym c.self.view_is) in
    let i = c.seat.invariant in
    let t = c.self.invariant in
    let same = ap (λ (q : TableView). q.shape) p in
    (ap (λ (q : TableView). q.id) p, section_within _ _ _ _ _ same i.0 i.1 t.1, opens_at _ _ _ _ _ _ (same ∙ sym t.0) i.0 i.1)

pub returns : goal.returns
returns c = does _ _ _ _ _ Open Open c.seat.view_is c.store.ensures.0 refl c.store.ensures.2.0
