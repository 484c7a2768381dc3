use Rattle.bpf_model.proofs.Prelude.{rules, subst, SFits, ◌/◌, to_z-of_z}
use Rattle.effects.proofs.Prelude.{RegKind}
use Rattle.register_kinds.proofs.Prelude.{kind_of, IsBelow, AreAll}
use Rattle.std.proofs.Common.{w16, w32}
use Rattle.register_kinds.specs.declared.kind.CellKind.TheVariants.{Part}
use Rattle.effects.proofs.Reading.{parts_read}
use Rattle.effects.proofs.reads.read_from_frame.Goals as goal

pub returns-in-Pointer-clause-reads : goal.returns-in-Pointer-clause-reads
returns-in-Pointer-clause-reads c =
    let f : SFits w32 c.args.start = search rules in
    let g : SFits w16 c.args.from.offset = search rules in
    let value = simp to_z-of_z at c.in_ok-at.ensures.value in
    let h = c.in_ok-read_frame.ensures.pointer c.in-Pointer.kind c.in-Pointer.is in
    let wide = rw c.bytes.ensures.value at h.0 in
    let all = subst (λ b. AreAll c.args.state.now.frame.cells c.in_ok-at.at b Part) c.bytes.ensures.value h.3 in
    λ ctx_len shapes. parts_read c.args.state.now c.args.from c.args.width c.args.start c.in_ok-at.at c.requires value
    c.in-Pointer.kind c.in_ok-at.ensures.aligned wide h.1 h.2 all

pub returns-in-Pointer-clause-below : goal.returns-in-Pointer-clause-below
returns-in-Pointer-clause-below c = λ top t b. subst (λ (k : RegKind). IsBelow top (kind_of k))
    (c.in_ok-read_frame.ensures.pointer c.in-Pointer.kind c.in-Pointer.is).1 (b.spills (c.in_ok-at.at / 8))
