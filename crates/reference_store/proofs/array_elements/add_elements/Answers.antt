use Rattle.bpf_model.proofs.Prelude.{◌≡◌, ◌+◌, [], ◌∷◌, ◌++◌, map, sym, ap, arith, ◌∙◌, append_assoc, range_with_len, map-append, map-range_with_len_more}
use Rattle.bpf_model.proofs.Prelude.{array_element}
use Rattle.reference_store.specs.State.{element_of, elements_of}
use Rattle.reference_store.proofs.array_elements.add_elements.Goals as goal

pub loop-index-preserved : goal.loop-index-preserved
loop-index-preserved c =
    let made = array_element c.args.map c.args.shape.now in
    let before = elements_of c.args.elements.now.items in
    let done = map made (range_with_len 0 c.loop-index.index) in
    let from_zero : 0 + c.loop-index.index ≡ c.loop-index.index = omega arith in
    let pushed = ap elements_of c.in-Ok.ensures.items ∙ map-append element_of c.loop-index.elements.items (c.in_ok-element.element ∷ []) in
    let one = ap (λ e. elements_of c.loop-index.elements.items ++ e ∷ []) c.in_ok-element.ensures.element in
    pushed ∙ one ∙ ap (λ es. es ++ made c.loop-index.index ∷ []) c.loop-index.invariant ∙ append_assoc before done (made c.loop-index.index ∷ [])
    ∙ ap (λ es. before ++ es) (sym (map-range_with_len_more made 0 c.loop-index.index c.loop-index.index from_zero))
