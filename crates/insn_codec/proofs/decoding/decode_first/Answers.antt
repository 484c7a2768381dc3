use Rattle.bpf_model.proofs.Prelude.{◌≡◌, ℕ, ◌*◌, List, ◌++◌, drop, Option, sym, refl, arith, subst, err_from_is_err_and, FitsInsn, spelling, slot_at}
use Rattle.bpf_model.proofs.Prelude.{next_slot_at, slot_count}
use Rattle.std.proofs.lemmas.List.{take_rest}
use Rattle.bpf_model.specs.declared.slot.Slot.{Slot}
use Rattle.bpf_model.specs.declared.insn.Insn.{Insn}
use Rattle.insn_codec.specs.declared.flaw.InsnFlaw.{InsnFlaw}
use Rattle.insn_codec.specs.Faults.{IsInsnFlaw, IsInsnFlawAt}
use Rattle.insn_codec.specs.Begins.{BeginsWith}
use Rattle.insn_codec.proofs.TextLaws.{front_of, again}
use Rattle.insn_codec.proofs.decoding.decode_first.Goals as goal

flaw_at : (bytes : List ℕ) (s : Slot) (next : Option Slot) (f : InsnFlaw) → s ≡ slot_at bytes →
    next ≡ next_slot_at bytes → IsInsnFlaw s next f → IsInsnFlawAt bytes f
flaw_at bytes s next f e d h = subst (λ (n : Option Slot). IsInsnFlaw (slot_at bytes) n f) d (subst (λ (x : Slot). IsInsnFlaw x next f) e h)

begins_at : (bytes : List ℕ) (s : Slot) (next : Option Slot) (i : Insn) → s ≡ slot_at bytes →
    next ≡ next_slot_at bytes → BeginsWith s next i → BeginsWith (slot_at bytes) (next_slot_at bytes) i
begins_at bytes s next i e d h = subst (λ (n : Option Slot). BeginsWith (slot_at bytes) n i) d (subst (λ (x : Slot). BeginsWith x next i) e h)

begins_from : (bytes : List ℕ) (s : Slot) (next : Option Slot) (i : Insn) → s ≡ slot_at bytes →
    next ≡ next_slot_at bytes → BeginsWith (slot_at bytes) (next_slot_at bytes) i → BeginsWith s next i
begins_from bytes s next i e d h = subst (λ (n : Option Slot). BeginsWith s n i) (sym d) (subst (λ (x : Slot). BeginsWith x (next_slot_at bytes) i) (sym e) h)

spelled : (bytes : List ℕ) (s : Slot) (next : Option Slot) (i : Insn) (rest : List ℕ) → s ≡ slot_at bytes →
    next ≡ next_slot_at bytes → FitsInsn i → bytes ≡ spelling i ++ rest → BeginsWith s next i
spelled bytes s next i rest e d f p = begins_from bytes s next i e d
    (subst (λ (b : List ℕ). BeginsWith (slot_at b) (next_slot_at b) i) (sym p) (again i rest f).begins)

pub returns-in_err-instruction-clause-flaw : goal.returns-in_err-instruction-clause-flaw
returns-in_err-instruction-clause-flaw c = let p = err_from_is_err_and c.from_residual.result c.from_residual.ensures.1 in
    rw (p.1, p.2) (flaw_at c.args.bytes.now _ _ _ c.slot_from.ensures.value c.next_slot_from.ensures.value c.in_err-instruction.ensures.flaw)

pub returns-in_err-instruction-clause-only : goal.returns-in_err-instruction-clause-only
returns-in_err-instruction-clause-only c = λ i rest fits parts.
    let e = c.decode_slot.ensures.only i fits (spelled c.args.bytes.now _ _ i rest c.slot_from.ensures.value c.next_slot_from.ensures.value fits parts) in
    let w = c.in_err-instruction.was in
    absurd cc

pub returns-clause-found : goal.returns-clause-found
returns-clause-found c =
    let i = c.in_ok-instruction.instruction in
    let f = front_of i c.args.bytes.now (λ k. omega (arith, c.type_inv.bytes k)) c.requires
    (begins_at c.args.bytes.now _ _ i c.slot_from.ensures.value c.next_slot_from.ensures.value
    c.in_ok-instruction.ensures.found) in
    rw (take_rest c.args.bytes.now (8 * c.slot_count.result), c.slot_count.ensures.value) f.parts

same_start : (bytes : List ℕ) (i j : Insn) (rest : List ℕ) (n : ℕ) → FitsInsn i → j ≡ i → n ≡ slot_count j →
    bytes ≡ spelling i ++ rest → drop (8 * n) bytes ≡ rest
same_start bytes i j rest n f e k p = rw (k, e, p) (again i rest f).rest_is

pub returns-clause-only : goal.returns-clause-only
returns-clause-only c = λ i rest fits parts.
    let e = c.decode_slot.ensures.only i fits (spelled c.args.bytes.now _ _ i rest c.slot_from.ensures.value c.next_slot_from.ensures.value fits parts) in
    let w = c.in_ok-instruction.was in
    let same : c.in_ok-instruction.instruction ≡ i = cc in (
      (
        same,
        rw (take_rest c.args.bytes.now (8 * c.slot_count.result))
            (same_start c.args.bytes.now i _ rest _ fits same c.slot_count.ensures.value parts),
      ),
      refl,
    )
