use Rattle.bpf_model.proofs.Prelude.{◌≡◌, ℕ, ◌+◌, List, [], ◌∷◌, ◌++◌, take, rules, arith, sym, ap, ◌∙◌, take_more, slot_count, slot_total, starts_from}
use Rattle.bpf_model.specs.declared.insn.Insn.{Insn}
use Rattle.insn_codec.proofs.DecodeLoop.{starts_push, total_push}
use Rattle.insn_codec.proofs.program.starts_of.Goals as goal

counted : (front next : List Insn) (i : Insn) (starts new : List ℕ) (slots count : ℕ) → next ≡ front ++ i ∷ [] →
    starts ≡ starts_from 0 front → slots ≡ slot_total front → new ≡ starts ++ slots ∷ [] → count ≡ slot_count i →
    (new ≡ starts_from 0 next) × (slots + count ≡ slot_total next)
counted front next i starts new slots count e s t n k =
    let zero : slots ≡ 0 + slot_total front = omega (arith, t) in
    let made = n ∙ ap (λ (x : List ℕ). x ++ slots ∷ []) s ∙ ap (λ (m : ℕ). starts_from 0 front ++ m ∷ []) zero ∙ sym (starts_push 0 front i) in
    let total : slots + count ≡ slot_total (front ++ i ∷ []) = omega (arith, t, k, total_push front i) in
    rw e (made, total)

pub loop-instruction-preserved : goal.loop-instruction-preserved
loop-instruction-preserved c =
    let next : take (c.loop-instruction.instruction-index + 1) c.args.instructions.now ≡ take
    c.loop-instruction.instruction-index c.args.instructions.now ++ c.instruction-item.result ∷ [] =
    search (rules, take_more) in
    counted _ _ c.instruction-item.result _ _ _ _ next c.loop-instruction.invariant.0 c.loop-instruction.invariant.1
    c.in_ok-push.ensures.items c.slot_count-slots.ensures.value
