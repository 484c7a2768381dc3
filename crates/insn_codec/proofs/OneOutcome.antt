-- No two faults of one input, none where it is a text, and no two programs with one text.
use Rattle.bpf_model.proofs.Prelude.{◌≡◌, ℕ, ◌*◌, ◌%◌, ◌<◌, ◌≤◌, Bool, List, [], ◌∷◌, ◌++◌, length, Option, Some, None, refl, sym, ap, subst, ◌∙◌, arith}
use Rattle.bpf_model.proofs.Prelude.{append_assoc, drop, cond, AllByRecursion, nat_tests, append-nil, length-append, same_Some, FitsInsn, IsProgram, spelling}
use Rattle.bpf_model.proofs.Prelude.{text, slot_at, next_slot_at, opcode_of, slot_count, slot_total, slot_count_some}
use Rattle.bpf_model.specs.declared.limits.TheConstants.{MAX_SLOTS}
use Rattle.bpf_model.specs.declared.opcode.Opcode.{Opcode}
use Rattle.bpf_model.specs.declared.insn.Insn.{Insn}
use Rattle.insn_codec.specs.declared.fault.DecodeFault.{DecodeFault}
use Rattle.insn_codec.specs.declared.fault.DecodeFault.TheVariants as faults
use Rattle.insn_codec.specs.declared.flaw.InsnFlaw.{InsnFlaw}
use Rattle.insn_codec.specs.declared.flaw.InsnFlaw.TheVariants.{OutsideProfile}
use Rattle.insn_codec.specs.Faults.{flaw_with, first_flaw, IsOpcode, IsInsnFlawAt, IsDecodeFault, length_fault}
use Rattle.insn_codec.proofs.InsnLaws.{opcode_is, included, no_flaw, same}
use Rattle.insn_codec.proofs.TextLaws.{Again, again}
use Rattle.insn_codec.proofs.DecodeLoop.{total_cons, length_text}
use Rattle.insn_codec.proofs.Injective.{injective}

-- what two instructions that begin one input are
one_first : (bytes x y : List ℕ) (i j : Insn) → FitsInsn i → FitsInsn j → bytes ≡ spelling i ++ x → bytes ≡ spelling j ++ y → (i ≡ j) × (x ≡ y)
one_first bytes x y i j f g p q =
    let a : Again i bytes x = subst (λ (b : List ℕ). Again i b x) (sym p) (again i x f) in
    let b : Again j bytes y = subst (λ (c : List ℕ). Again j c y) (sym q) (again j y g) in
    let o = injective (opcode_of i) (opcode_of j) (opcode_is i _ _ a.begins ∙ sym (opcode_is j _ _ b.begins)) in
    let e = same i j _ _ f g a.begins b.begins o in
    (e, sym a.rest_is ∙ ap (λ (k : Insn). drop (8 * slot_count k) bytes) e ∙ b.rest_is)

opcodes_are : (byte : ℕ) (o p : Option Opcode) → IsOpcode byte o → IsOpcode byte p → o ≡ p
opcodes_are byte None None h k = refl
opcodes_are byte None (Some p) h k = absurd (h p k)
opcodes_are byte (Some o) None h k = absurd (k o h)
opcodes_are byte (Some o) (Some p) h k = ap (λ (x : Opcode). Some x) (injective o p (h ∙ sym k))

pub one_flaw : (bytes : List ℕ) (f g : InsnFlaw) → IsInsnFlawAt bytes f → IsInsnFlawAt bytes g → f ≡ g
one_flaw bytes f g h k =
    let e = opcodes_are _ h.0 k.0 h.1 k.1 in
    same_Some f g (sym h.2 ∙ ap (λ (o : Option Opcode). first_flaw o (slot_at bytes) (next_slot_at bytes)) e ∙ k.2)

pub spelled_has_none : (bytes x : List ℕ) (i : Insn) (f : InsnFlaw) → FitsInsn i → bytes ≡ spelling i ++ x → IsInsnFlawAt bytes f → ⊥
spelled_has_none bytes x i f fits p h =
    let a : Again i bytes x = subst (λ (b : List ℕ). Again i b x) (sym p) (again i x fits) in
    let e = opcodes_are _ h.0 (Some (opcode_of i)) h.1 (opcode_is i _ _ a.begins) in
    let n = no_flaw i _ _ fits a.begins in
    let s = included i in
    let k : first_flaw (Some (opcode_of i)) (slot_at bytes) (next_slot_at bytes) ≡ Some f =
    ap (λ (o : Option Opcode). first_flaw o (slot_at bytes) (next_slot_at bytes)) (sym e) ∙ h.2 in
    none_some (ap (λ (b : Bool). cond b (Some OutsideProfile) (flaw_with (opcode_of i) (slot_at bytes) (next_slot_at bytes))) s) n k
  where
    none_some : {u v : Option InsnFlaw} → u ≡ v → v ≡ None → u ≡ Some f → ⊥
    none_some p q r = cc

pub one_first_flaw : (bytes r q : List ℕ) (front back : List Insn) (f g : InsnFlaw) → AllByRecursion FitsInsn front →
    AllByRecursion FitsInsn back → bytes ≡ text front ++ r → bytes ≡ text back ++ q → IsInsnFlawAt r f →
    IsInsnFlawAt q g → (f ≡ g) × (slot_total front ≡ slot_total back)
one_first_flaw bytes r q [] [] f g a b p s h k = (one_flaw q f g (subst (λ (x : List ℕ). IsInsnFlawAt x f) (sym p ∙ s) h) k, refl)
one_first_flaw bytes r q [] (j ∷ back) f g a b p s h k =
    absurd (spelled_has_none r (text back ++ q) j f b.0 (sym p ∙ s ∙ append_assoc (spelling j) (text back) q) h)
one_first_flaw bytes r q (i ∷ front) [] f g a b p s h k =
    absurd (spelled_has_none q (text front ++ r) i g a.0 (sym s ∙ p ∙ append_assoc (spelling i) (text front) r) k)
one_first_flaw bytes r q (i ∷ front) (j ∷ back) f g a b p s h k =
    let e = one_first bytes (text front ++ r) (text back ++ q) i j a.0 b.0
    (p ∙ append_assoc (spelling i) (text front) r) (s ∙ append_assoc (spelling j) (text back) q) in
    let t = one_first_flaw (text front ++ r) r q front back f g a.1 b.1 refl e.1 h k in
    (t.0, omega (arith, total_cons i front, total_cons j back, t.1, ap slot_count e.0))

fault_is : (f g : InsnFlaw) (s t : ℕ) → f ≡ g → s ≡ t → faults.Insn f s ≡ faults.Insn g t
fault_is f g s t e d = cc

pub one_fault : (bytes : List ℕ) (f g : DecodeFault) → (f ≡ faults.Memory → ⊥) → (g ≡ faults.Memory → ⊥) → IsDecodeFault bytes f → IsDecodeFault bytes g → f ≡ g
one_fault bytes faults.Memory g a b h k = absurd (a refl)
one_fault bytes f faults.Memory a b h k = absurd (b refl)
one_fault bytes (faults.Insn f s) (faults.Insn g t) a b h k =
    let x = h.1 in
    let y = k.1 in
    let e = one_first_flaw bytes x.rest y.rest x.front y.front f g x.fits y.fits x.parts y.parts x.flaw y.flaw in
    fault_is f g s t e.0 (sym x.slot_is ∙ e.1 ∙ y.slot_is)
one_fault bytes (faults.Insn f s) g a b h k = let w = h.0 in absurd cc
one_fault bytes f (faults.Insn g t) a b h k = let w = k.0 in absurd cc
one_fault bytes f g a b h k = cc

long_text : (i : Insn) (is : List Insn) (rest : List ℕ) → [] ≡ text (i ∷ is) ++ rest → ⊥
long_text i is rest e = omega (
  arith,
  slot_count_some i,
  total_cons i is,
  length_text (i ∷ is),
  length-append (text (i ∷ is)) rest,
  ap (λ (x : List ℕ). length x) e,
)

-- no flaw stands in a text
text_has_none : (is front : List Insn) (rest : List ℕ) (f : InsnFlaw) → AllByRecursion FitsInsn is →
    AllByRecursion FitsInsn front → text is ≡ text front ++ rest → 0 < length rest → IsInsnFlawAt rest f → ⊥
text_has_none [] [] rest f a b p more h = omega (arith, more, ap (λ (x : List ℕ). length x) p)
text_has_none [] (j ∷ front) rest f a b p more h = long_text j front rest p
text_has_none (i ∷ is) [] rest f a b p more h = spelled_has_none rest (text is) i f a.0 (sym p) h
text_has_none (i ∷ is) (j ∷ front) rest f a b p more h =
    let e = one_first (text (i ∷ is)) (text is) (text front ++ rest) i j a.0 b.0 refl (p ∙ append_assoc (spelling j) (text front) rest) in
    text_has_none is front rest f a.1 b.1 e.1 more h

no_length_fault : (bytes : List ℕ) (n : ℕ) → length bytes ≡ 8 * n → 1 ≤ n → n ≤ MAX_SLOTS → length_fault bytes ≡ None
no_length_fault bytes n e some limit =
    let whole : length bytes % 8 ≡ 0 = omega arith in
    let long : 0 < length bytes = omega arith in
    let short : length bytes ≤ 8 * MAX_SLOTS = omega arith in
    grind (arith, nat_tests)

pub no_fault : (p : List Insn) → IsProgram p → (f : DecodeFault) → (f ≡ faults.Memory → ⊥) → IsDecodeFault (text p) f → ⊥
no_fault p is faults.Memory m h = m refl
no_fault p is (faults.Insn flaw slot) m h = let x = h.1 in text_has_none p x.front x.rest flaw is.fits x.fits x.parts x.more x.flaw
no_fault p is f m h = let w = no_length_fault (text p) (slot_total p) (length_text p) is.some is.limit in absurd cc

same_text : (p q : List Insn) → AllByRecursion FitsInsn p → AllByRecursion FitsInsn q → text p ≡ text q → p ≡ q
same_text [] [] f g e = refl
same_text [] (j ∷ q) f g e = absurd (long_text j q [] (e ∙ sym (append-nil (text (j ∷ q)))))
same_text (i ∷ p) [] f g e = absurd (long_text i p [] (sym e ∙ sym (append-nil (text (i ∷ p)))))
same_text (i ∷ p) (j ∷ q) f g e =
    let x = one_first (text (i ∷ p)) (text p) (text q) i j f.0 g.0 refl e in
    ap (λ (k : Insn). k ∷ p) x.0 ∙ ap (λ (r : List Insn). j ∷ r) (same_text p q f.1 g.1 x.1)

pub one_program : (p q : List Insn) → IsProgram p → IsProgram q → text p ≡ text q → p ≡ q
one_program p q a b e = same_text p q a.fits b.fits e
