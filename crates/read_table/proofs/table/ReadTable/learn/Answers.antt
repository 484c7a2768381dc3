use Rattle.bpf_model.proofs.Prelude.{rules, ◌≡◌, ◌<◌, refl, sym, ap, ◌∙◌, subst}
use Rattle.read_table.proofs.Prelude.{inside, headers_from, TableView, Holder}
use Rattle.read_table.specs.declared.view.Move.TheVariants.{Learn}
use Rattle.read_table.proofs.Calls.{does, learns_at, header_slot, header_within}
use Rattle.read_table.proofs.Going.{learn_knows}
use Rattle.read_table.proofs.table.ReadTable.learn.Goals as goal

pub load-header-requires : goal.load-header-requires
load-header-requires c =
    let p = ap (λ (h : Holder). h.table) c.seat.view_is ∙ (c.requires.table ∙ sym c.self.view_is) in
    let i = c.seat.invariant in
    let t = c.self.invariant in
    let starts : c.self.inside.headers ≡ headers_from c.self.inside.shape = t.5 in
    let same = ap (λ (q : TableView). q.shape) p in
    let slot = subst (λ (q : TableView). c.args.slot < q.shape.slots) (sym c.self.view_is) c.requires.slot in
    let one = subst (λ (h : Holder). inside h.view.mine ≡ 1) (sym c.seat.view_is) c.requires.inside in
    (ap (λ (q : TableView). q.id) p, header_within _ _ _ _ _ starts refl slot t.1, learns_at _ _ _ _ _ c.args.slot _ starts same (sym t.0) slot i.0 one)

pub returns-clause-step : goal.returns-clause-step
returns-clause-step c =
    let p = ap (λ (h : Holder). h.table) c.seat.view_is ∙ (c.requires.table ∙ sym c.self.view_is) in
    let starts : c.self.inside.headers ≡ headers_from c.self.inside.shape = c.self.invariant.5 in
    let move = ap (λ z. Learn z c.load-header.result) (header_slot _ _ c.args.slot _ starts (ap (λ (q : TableView). q.shape) p)) in
    (c.load-header.result, does _ _ _ _ _ _ _ c.seat.view_is c.load-header.ensures.0 move c.load-header.ensures.2.0, search rules)

pub returns-clause-learnt : goal.returns-clause-learnt
returns-clause-learnt c = λ is.
    let d = returns-clause-step c in
    learn_knows _ _ c.args.slot d.0 d.1 (d.2.0 is)
