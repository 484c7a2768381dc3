use Rattle.bpf_model.proofs.Prelude.{◌≡◌, ℕ, List, [], ◌∷◌, ◌++◌, ◌∙◌, append_assoc, refl, rules, FitsSigned, ◌/◌, ◌^◌, ℤ, to_z-of_z, w32, cast_signed}
use Rattle.bpf_model.proofs.Prelude.{slot_bytes, slots_of, spelling, first_slot, tail_slot}
use Rattle.bpf_model.specs.declared.slot.Slot.{Slot}
use Rattle.bpf_model.specs.declared.insn.Insn.{Insn}
use Rattle.bpf_model.specs.declared.insn.Insn.TheVariants.{LoadNumber}
use Rattle.insn_codec.proofs.encoding.put.Goals as goal

put_two : (old mid new : List ℕ) (s t : Slot) (i : Insn) → mid ≡ old ++ slot_bytes s → new ≡ mid ++ slot_bytes t →
    slots_of i ≡ s ∷ t ∷ [] → new ≡ old ++ spelling i
put_two old mid new s t i p q e = rw (q, p, e) (append_assoc old (slot_bytes s) (slot_bytes t))

slots_are : (i : Insn) (dst number : ℕ) (s t : Slot) (z : ℤ) → i ≡ LoadNumber dst number → s ≡ first_slot i →
    t ≡ tail_slot z → z ≡ cast_signed w32 (number / 2 ^ 32) → slots_of i ≡ s ∷ t ∷ []
slots_are i dst number s t z e f g h = rw (f, g, h, e) refl

pub returns-in_ok-put_slot-in-LoadNumber : goal.returns-in_ok-put_slot-in-LoadNumber
returns-in_ok-put_slot-in-LoadNumber c =
    put_two _ _ _ c.first_slot.result c.tail_slot.result c.args.instruction c.in_ok-put_slot.ensures c.in_ok-put_slot-in-LoadNumber.ensures
    (slots_are c.args.instruction c.in-LoadNumber.dst c.in-LoadNumber.number _ _ _ c.in-LoadNumber.is
    c.first_slot.ensures.value c.tail_slot.ensures.value
    (to_z-of_z w32 c.high_half.result (let f : FitsSigned w32 c.high_half.result = search rules in f) ∙
    c.high_half.ensures))
