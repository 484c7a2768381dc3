use Rattle.bpf_model.proofs.Prelude.{rules, subst, ap, ℕ, SFits, to_z-of_z, byte_count}
use Rattle.model_laws.proofs.Prelude.{Store}
use Rattle.plan_laws.proofs.Prelude.{ByteCell, with_cells, AreAlike}
use Rattle.register_kinds.proofs.Prelude.{kind_of, state_of}
use Rattle.std.proofs.Common.{w16, w32}
use Rattle.effects.proofs.Writing.{number_stored}
use Rattle.effects.proofs.stores.store_number.Goals as goal
use Rattle.plan_laws.proofs.Planning.{to_alike}

pub returns-clause-sound : goal.returns-clause-sound
returns-clause-sound c =
    let f : SFits w32 c.args.start = search rules in
    let g : SFits w16 c.args.fields.to.offset = search rules in
    let value = simp to_z-of_z at c.in_ok-at.ensures.value in
    let a = state_of c.args.state.now in
    let at = c.in_ok-at.at in
    λ shapes ctx_len. to_alike (Store c.args.fields.width c.args.fields.to.base c.args.fields.to.offset
    c.args.fields.src) shapes ctx_len a (with_cells at (byte_count c.args.fields.width) ByteCell a)
    (state_of c.write.new.self)
    (subst (λ (w : ℕ). AreAlike (with_cells at w ByteCell a) (state_of c.write.new.self)) c.bytes.ensures.value c.write.ensures.alike)
    (number_stored c.args.fields.width c.args.fields.to.base c.args.fields.to.offset c.args.fields.src shapes ctx_len
    a c.args.start at (ap kind_of c.requires.base) value c.requires.number)

pub returns-clause-others : goal.returns-clause-others
returns-clause-others c = λ r. c.write.ensures.alike.regs r
