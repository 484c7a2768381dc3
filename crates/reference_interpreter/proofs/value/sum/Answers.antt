use Rattle.bpf_model.proofs.Prelude.{rules, ◌∙◌, sym, subst, ◌+ℤ◌, w64, to_z-of_z, SFits, signed}
use Rattle.reference_interpreter.specs.Plain.{IsSum}
use Rattle.reference_interpreter.proofs.Laws.{sum_known}
use Rattle.reference_interpreter.proofs.value.sum.Goals as goal

pub returns-in-Pointer-Some : goal.returns-in-Pointer-Some
returns-in-Pointer-Some c =
    let g : SFits w64 c.offset.result = search rules in
    let h : SFits w64 c.cast_signed.result = search rules in
    let e = simp to_z-of_z at c.add_offset.ensures in
    sum_known c.args.x c.args.y c.in-Pointer-Some.r c.in-Pointer-Some.b c.at_offset.result c.in-Pointer-Some.is-0
    (sym c.number.ensures ∙ c.in-Pointer-Some.is-1)
    (c.at_offset.ensures (signed w64 c.in-Pointer-Some.b)
    (subst (λ o. IsSum (o +ℤ (signed w64 c.in-Pointer-Some.b)) c.add_offset.result) c.offset.ensures
    (subst (λ s. IsSum (c.offset.result +ℤ (s)) c.add_offset.result) c.cast_signed.ensures e)))
