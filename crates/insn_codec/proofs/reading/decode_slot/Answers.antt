use Rattle.bpf_model.proofs.Prelude.{◌≡◌, Option, Some, Result, Ok, Err, ap, ◌∙◌, IfOk, IfErr, same_Some, FitsInsn, opcode_of}
use Rattle.bpf_model.specs.declared.slot.Slot.{Slot}
use Rattle.bpf_model.specs.declared.opcode.Opcode.{Opcode}
use Rattle.bpf_model.specs.declared.insn.Insn.{Insn}
use Rattle.insn_codec.specs.declared.flaw.InsnFlaw.{InsnFlaw}
use Rattle.insn_codec.specs.Faults.{flaw_with}
use Rattle.insn_codec.specs.Begins.{BeginsWith}
use Rattle.insn_codec.proofs.InsnLaws.{opcode_is, included, no_flaw, same}
use Rattle.insn_codec.proofs.reading.decode_slot.Goals as goal

pub returns-in_default-clause-only : goal.returns-in_default-clause-only
returns-in_default-clause-only c = λ i fits begins. let e = c.opcode_from.ensures.only (opcode_of i) (opcode_is i _ _ begins) in absurd cc

pub returns-then-is_excluded-clause-only : goal.returns-then-is_excluded-clause-only
returns-then-is_excluded-clause-only c = λ i fits begins.
    let e = c.opcode_from.ensures.only (opcode_of i) (opcode_is i _ _ begins) in
    let s = included i in absurd cc

abbrev Fine : Opcode → Slot → Option Slot → Result Insn InsnFlaw → Type 0
Fine o s next (Ok j) = BeginsWith s next j × FitsInsn j × (opcode_of j ≡ o)
Fine o s next (Err f) = flaw_with o s next ≡ Some f

is_only : (o : Opcode) (s : Slot) (next : Option Slot) (r : Result Insn InsnFlaw) → Fine o s next r → (i : Insn) →
    o ≡ opcode_of i → FitsInsn i → BeginsWith s next i → r ≡ Ok i
is_only o s next (Ok j) h i e fits begins = ap Ok (same j i s next h.1 fits h.0 begins (h.2 ∙ e))
is_only o s next (Err f) h i e fits begins = let n = no_flaw i s next fits begins in let k = ap (λ (p : Opcode). flaw_with p s next) e in absurd cc

fine : (o : Opcode) (s : Slot) (next : Option Slot) (r : Result Insn InsnFlaw) → IfOk r (λ i. BeginsWith s next i) →
    IfOk r FitsInsn → IfOk r (λ i. opcode_of i ≡ o) → IfErr r (λ f. flaw_with o s next ≡ Some f) → Fine o s next r
fine o s next (Ok j) a b c d = (a, b, c)
fine o s next (Err f) a b c d = d

pub returns-clause-only : goal.returns-clause-only
returns-clause-only c = λ i fits begins.
    let e = c.opcode_from.ensures.only (opcode_of i) (opcode_is i _ _ begins) in
    let d = c.decode_with.ensures in
    is_only c.in-Some.opcode _ _ _ (fine _ _ _ c.decode_with.result d.found d.fits d.kind d.flaw) i (same_Some _ _ (let k = c.in-Some.is in cc)) fits begins
