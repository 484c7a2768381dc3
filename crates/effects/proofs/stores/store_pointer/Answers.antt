use Rattle.bpf_model.proofs.Prelude.{rules, ap, SFits, to_z-of_z}
use Rattle.model_laws.proofs.Prelude.{Store}
use Rattle.plan_laws.proofs.Prelude.{PartCell, with_cells}
use Rattle.register_kinds.proofs.Prelude.{kind_of, state_of}
use Rattle.std.proofs.Common.{w16, w32}
use Rattle.effects.proofs.Writing.{spill_stored}
use Rattle.effects.proofs.stores.store_pointer.Goals as goal
use Rattle.plan_laws.proofs.Planning.{to_alike}

pub returns-in_ok-at-in-Eight-clause-sound : goal.returns-in_ok-at-in-Eight-clause-sound
returns-in_ok-at-in-Eight-clause-sound c =
    let f : SFits w32 c.args.start = search rules in
    let g : SFits w16 c.args.fields.to.offset = search rules in
    let value = simp to_z-of_z at c.in_ok-at-in-Eight.ensures.value in
    let a = state_of c.args.state.now in
    let at = c.in_ok-at-in-Eight.at in
    let kind = kind_of c.args.kind in
    let v = c.requires.value in
    λ shapes ctx_len. to_alike (Store c.args.fields.width c.args.fields.to.base c.args.fields.to.offset
    c.args.fields.src) shapes ctx_len a (with_cells at 8 (PartCell kind) a) (state_of c.spill.new.self)
    c.spill.ensures.alike
    (spill_stored c.args.fields.width c.args.fields.to.base c.args.fields.to.offset c.args.fields.src shapes ctx_len a
    c.args.start at v.0 kind c.in-Eight.is v.1 (ap kind_of c.requires.base) value (ap kind_of v.2)
    c.requires.written)

pub returns-in_ok-at-in-Eight-clause-others : goal.returns-in_ok-at-in-Eight-clause-others
returns-in_ok-at-in-Eight-clause-others c = λ r. c.spill.ensures.alike.regs r
