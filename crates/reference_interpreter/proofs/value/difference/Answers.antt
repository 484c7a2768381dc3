use Rattle.bpf_model.proofs.Prelude.{rules, ◌∙◌, sym, subst, pos, ◌+ℤ◌, ◌-ℤ◌, w64, to_z-of_z, SFits, signed}
use Rattle.reference_interpreter.specs.Plain.{IsSum}
use Rattle.reference_interpreter.proofs.Laws.{difference_known}
use Rattle.reference_interpreter.proofs.value.difference.Goals as goal

pub returns-in-Pointer-Some : goal.returns-in-Pointer-Some
returns-in-Pointer-Some c =
    let g : SFits w64 c.offset.result = search rules in
    let h : SFits w64 c.cast_signed.result = search rules in
    let e = simp to_z-of_z at c.sub_offset.ensures in
    difference_known c.args.x c.args.y c.in-Pointer-Some.r c.in-Pointer-Some.b c.at_offset.result
    c.in-Pointer-Some.is-0 (sym c.number.ensures ∙ c.in-Pointer-Some.is-1)
    (c.at_offset.ensures (pos 0 -ℤ signed w64 c.in-Pointer-Some.b)
    (subst (λ o. IsSum (o +ℤ (pos 0 -ℤ signed w64 c.in-Pointer-Some.b)) c.sub_offset.result) c.offset.ensures
    (subst (λ s. IsSum (c.offset.result +ℤ (pos 0 -ℤ s)) c.sub_offset.result) c.cast_signed.ensures e)))
