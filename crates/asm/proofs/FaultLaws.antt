-- A text has one fault.
use Rattle.bpf_model.proofs.Prelude.{ℕ, ◌≡◌, ◌≢◌, ◌+◌, ◌<◌, false, List, [], ◌∷◌, ◌++◌, length, refl, sym, ap, subst, ◌∙◌, arith, map, AllByRecursion}
use Rattle.bpf_model.proofs.Prelude.{slot_total, cons-nil, heads, tails}
use Rattle.bpf_model.specs.declared.insn.Insn.{Insn}
use Rattle.bpf_model.specs.declared.limits.TheConstants.{MAX_SLOTS}
use Rattle.disasm.specs.Text.{line_of}
use Rattle.asm.specs.Grammar.{IsFormedLine}
use Rattle.asm.specs.Faults.{is_comment, IsSoundLine, IsInsnLine, IsFirstLineFlaw, IsAsmFault}
use Rattle.asm.specs.declared.fault.LineFlaw.{LineFlaw}
use Rattle.asm.specs.declared.fault.LineFlaw.TheVariants.{NoForm, OutOfRange}
use Rattle.asm.specs.declared.fault.AsmFault.{AsmFault}
use Rattle.asm.specs.declared.fault.AsmFault.TheVariants.{BadLine, BadOperand, TooLong, Empty, Memory}
use Rattle.asm.proofs.Assembled.{flaw_no, no_flaw}

-- Of two faulty lines behind sound ones neither stands before the other.
same_faulty_line : (front front2 : List (List ℕ)) (line line2 : List ℕ) (rest rest2 : List (List ℕ)) →
    (front ++ line ∷ rest) ≡ front2 ++ line2 ∷ rest2 → AllByRecursion IsSoundLine front →
    AllByRecursion IsSoundLine front2 → is_comment line ≡ false → is_comment line2 ≡ false → ¬ (IsInsnLine line) →
    ¬ (IsInsnLine line2) → (length front ≡ length front2) × (line ≡ line2)
same_faulty_line [] [] line line2 rest rest2 e sound sound2 s s2 bad bad2 = (refl, heads line line2 rest rest2 e)
same_faulty_line [] (first ∷ front2) line line2 rest rest2 e sound sound2 s s2 bad bad2 =
    let same : line ≡ first = heads line first rest (front2 ++ line2 ∷ rest2) e in
    absurd (bad (subst (λ (l : List ℕ). IsInsnLine l) (sym same) (sound2.0 (sym (ap is_comment same) ∙ s))))
same_faulty_line (first ∷ front) [] line line2 rest rest2 e sound sound2 s s2 bad bad2 =
    let same : first ≡ line2 = heads first line2 (front ++ line ∷ rest) rest2 e in
    absurd (bad2 (subst (λ (l : List ℕ). IsInsnLine l) same (sound.0 (ap is_comment same ∙ s2))))
same_faulty_line (first ∷ front) (first2 ∷ front2) line line2 rest rest2 e sound sound2 s s2 bad bad2 =
    let more : (length front ≡ length front2) × (line ≡ line2) =
    same_faulty_line front front2 line line2 rest rest2
    (tails first first2 (front ++ line ∷ rest) (front2 ++ line2 ∷ rest2) e) sound.1 sound2.1 s s2 bad bad2 in
    (omega (arith, more.0), more.1)

flaws_meet : (text : List ℕ) (f g : LineFlaw) (n m : ℕ) → (h : IsFirstLineFlaw text f n) → (k : IsFirstLineFlaw text g m) → (n ≡ m) × (h.line ≡ k.line)
flaws_meet text f g n m h k =
    let met : (length h.front ≡ length k.front) × (h.line ≡ k.line) =
    same_faulty_line h.front k.front h.line k.line h.rest k.rest (sym h.parts ∙ k.parts) h.sound k.sound
    h.statement k.statement (flaw_no h.line f h.flawed) (flaw_no k.line g k.flawed) in
    (h.number ∙ ap (λ (j : ℕ). j + 1) met.0 ∙ sym k.number, met.1)

no_both : (text : List ℕ) (n m : ℕ) → IsFirstLineFlaw text NoForm n → IsFirstLineFlaw text OutOfRange m → ⊥
no_both text n m h k =
    let met : (n ≡ m) × (h.line ≡ k.line) = flaws_meet text NoForm OutOfRange n m h k in
    h.flawed (subst (λ (l : List ℕ). IsFormedLine l) (sym met.1) k.flawed.0)

none_long : (is : List Insn) → [] ≡ map line_of is → MAX_SLOTS < slot_total is → ⊥
none_long [] e long = omega arith
none_long (i ∷ is) e long = cons-nil (line_of i) (map line_of is) (sym e)

pub one_fault : (text : List ℕ) (f g : AsmFault) → f ≢ Memory → g ≢ Memory → IsAsmFault text f → IsAsmFault text g → f ≡ g
one_fault text (BadLine n) (BadLine m) a b h k = ap BadLine (flaws_meet text NoForm NoForm n m h k).0
one_fault text (BadLine n) (BadOperand m) a b h k = absurd (no_both text n m h k)
one_fault text (BadLine n) TooLong a b h k = absurd (no_flaw text NoForm n h k.instructions k.fits k.lines)
one_fault text (BadLine n) Empty a b h k = absurd (no_flaw text NoForm n h [] tt k)
one_fault text (BadLine n) Memory a b h k = absurd (b refl)
one_fault text (BadOperand n) (BadLine m) a b h k = absurd (no_both text m n k h)
one_fault text (BadOperand n) (BadOperand m) a b h k = ap BadOperand (flaws_meet text OutOfRange OutOfRange n m h k).0
one_fault text (BadOperand n) TooLong a b h k = absurd (no_flaw text OutOfRange n h k.instructions k.fits k.lines)
one_fault text (BadOperand n) Empty a b h k = absurd (no_flaw text OutOfRange n h [] tt k)
one_fault text (BadOperand n) Memory a b h k = absurd (b refl)
one_fault text TooLong (BadLine m) a b h k = absurd (no_flaw text NoForm m k h.instructions h.fits h.lines)
one_fault text TooLong (BadOperand m) a b h k = absurd (no_flaw text OutOfRange m k h.instructions h.fits h.lines)
one_fault text TooLong TooLong a b h k = refl
one_fault text TooLong Empty a b h k = absurd (none_long h.instructions (sym k ∙ h.lines) h.long)
one_fault text TooLong Memory a b h k = absurd (b refl)
one_fault text Empty (BadLine m) a b h k = absurd (no_flaw text NoForm m k [] tt h)
one_fault text Empty (BadOperand m) a b h k = absurd (no_flaw text OutOfRange m k [] tt h)
one_fault text Empty TooLong a b h k = absurd (none_long k.instructions (sym h ∙ k.lines) k.long)
one_fault text Empty Empty a b h k = refl
one_fault text Empty Memory a b h k = absurd (b refl)
one_fault text Memory g a b h k = absurd (a refl)
