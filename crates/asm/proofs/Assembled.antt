-- What the assembler's faults say of a program's lines, and the lines of a program's text.
use Rattle.bpf_model.proofs.Prelude.{ℕ, ◌≡◌, ◌+◌, ◌<◌, ◌≤◌, Bool, true, false, not, cond, List, [], ◌∷◌, ◌++◌, length, refl, sym, ap, ◌∙◌, arith}
use Rattle.bpf_model.proofs.Prelude.{append_assoc, ◌⊎◌, inl, inr, map, Result, Ok, Err, IfOk, IfErr, AllByRecursion, filter, sum_by-cons, FitsInsn, IsProgram}
use Rattle.bpf_model.proofs.Prelude.{slot_count, slot_total, slot_count_some, cons-nil, heads, tails}
use Rattle.std.proofs.lemmas.List.Concat.{flat_map-cons}
use Rattle.bpf_model.specs.declared.insn.Insn.{Insn}
use Rattle.bpf_model.specs.declared.limits.TheConstants.{MAX_SLOTS}
use Rattle.disasm.specs.Text.{stem_of, suffix_of, mnemonic_text, arguments_text, mnemonic_of, text_arguments, statement_of, line_of, program_text}
use Rattle.asm.specs.Reading.{Lacks}
use Rattle.asm.specs.Grammar.{IsFormedLine}
use Rattle.asm.specs.Faults.{is_comment, lines_in, statements_in, IsInsnLine, IsLineFlaw, IsFirstLineFlaw}
use Rattle.asm.specs.Assembling.{IsAsmTextFault, IsSizeFault}
use Rattle.asm.specs.declared.fault.LineFlaw.{LineFlaw}
use Rattle.asm.specs.declared.fault.LineFlaw.TheVariants.{NoForm, OutOfRange}
use Rattle.asm.specs.declared.fault.AsmFault.{AsmFault}
use Rattle.asm.specs.declared.fault.AsmFault.TheVariants.{BadLine, BadOperand, TooLong, Empty, Memory}
use Rattle.asm.proofs.FormLaws.{formed_of}
use Rattle.asm.proofs.Lacking.{lacks_append, arguments_lack_feed}
use Rattle.asm.proofs.PlainNames.{name_lacks_any, stem_statement}
use Rattle.asm.proofs.LinesRead.{keeps, first_line}

-- a program takes a slot at least

pub some_slots : (is : List Insn) → 0 < length is → 1 ≤ slot_total is
some_slots [] h = absurd (omega arith)
some_slots (i ∷ is) h =
    let whole : slot_total (i ∷ is) ≡ slot_count i + slot_total is = sum_by-cons slot_count i is in
    let one : 1 ≤ slot_count i = slot_count_some i in
    omega arith

-- a flawed line is no line of a program

has_form : (line : List ℕ) → IsInsnLine line → IsFormedLine line
has_form line h = record { statement = statement_of h.instruction; text = h.text; formed = formed_of h.instruction }

pub flaw_no : (line : List ℕ) (f : LineFlaw) → IsLineFlaw line f → IsInsnLine line → ⊥
flaw_no line NoForm flawed h = flawed (has_form line h)
flaw_no line OutOfRange flawed h = flawed.1 h

head_line : (line : List ℕ) (rest : List (List ℕ)) (is : List Insn) → AllByRecursion FitsInsn is → (line ∷ rest) ≡ map line_of is → IsInsnLine line
head_line line rest [] fits e = absurd (cons-nil line rest e)
head_line line rest (i ∷ is) fits e = record { instruction = i; fits = fits.0; text = heads line (line_of i) rest (map line_of is) e }

kept : (b : Bool) (line : List ℕ) (rest : List (List ℕ)) → is_comment line ≡ b →
    filter keeps (line ∷ rest) ≡ cond (not b) (line ∷ filter keeps rest) (filter keeps rest)
kept b line rest e = ap (λ (d : Bool). cond (not d) (line ∷ filter keeps rest) (filter keeps rest)) e

step_line : (first : List ℕ) (rest : List (List ℕ)) (line : List ℕ) (is : List Insn) (b : Bool) → is_comment first ≡ b
    → ((is2 : List Insn) → AllByRecursion FitsInsn is2 → filter keeps rest ≡ map line_of is2 → IsInsnLine line) →
    AllByRecursion FitsInsn is → filter keeps (first ∷ rest) ≡ map line_of is → IsInsnLine line
step_line first rest line is true s more fits e = more is fits (sym (kept true first rest s) ∙ e)
step_line first rest line [] false s more fits e = absurd (cons-nil first (filter keeps rest) (sym (kept false first rest s) ∙ e))
step_line first rest line (i ∷ is) false s more fits e =
    more is fits.1 (tails first (line_of i) (filter keeps rest) (map line_of is) (sym (kept false first rest s) ∙ e))

pub is_insn_line : (front : List (List ℕ)) (line : List ℕ) (rest : List (List ℕ)) (is : List Insn) →
    is_comment line ≡ false → AllByRecursion FitsInsn is → filter keeps (front ++ line ∷ rest) ≡ map line_of is →
    IsInsnLine line
is_insn_line [] line rest is s fits e = head_line line (filter keeps rest) is fits (sym (kept false line rest s) ∙ e)
is_insn_line (first ∷ front) line rest is s fits e =
    step_line first (front ++ line ∷ rest) line is (is_comment first) refl (λ is2 fits2 e2. is_insn_line front line rest is2 s fits2 e2) fits e

pub no_flaw : (text : List ℕ) (f : LineFlaw) (n : ℕ) → IsFirstLineFlaw text f n → (is : List Insn) →
    AllByRecursion FitsInsn is → statements_in text ≡ map line_of is → ⊥
no_flaw text f n h is fits e =
    flaw_no h.line f h.flawed (is_insn_line h.front h.line h.rest is h.statement fits (sym (ap (filter keeps) h.parts) ∙ e))

pub text_fault_only : (text : List ℕ) (f : AsmFault) → IsAsmTextFault text f → (p : List Insn) → IsProgram p → statements_in text ≡ map line_of p → f ≡ Memory
text_fault_only text (BadLine n) h p program e = absurd (no_flaw text NoForm n h p program.fits e)
text_fault_only text (BadOperand n) h p program e = absurd (no_flaw text OutOfRange n h p program.fits e)
text_fault_only text TooLong h p program e = absurd h
text_fault_only text Empty h p program e = absurd h
text_fault_only text Memory h p program e = refl

-- A program has neither too many slots nor none: of it only want of memory is told.

size_fault_only : (items : List Insn) (f : AsmFault) → IsSizeFault items f → (p : List Insn) → IsProgram p → items ≡ p → f ≡ Memory
size_fault_only items (BadLine n) h p program e = absurd h
size_fault_only items (BadOperand n) h p program e = absurd h
size_fault_only items TooLong h p program e = absurd (let same : slot_total items ≡ slot_total p =
    ap slot_total e in let limit : slot_total p ≤ MAX_SLOTS = program.limit in omega arith)
size_fault_only items Empty h p program e = absurd (let none : slot_total p ≡ 0 =
    ap slot_total (sym e ∙ h) in let some : 1 ≤ slot_total p = program.some in omega arith)
size_fault_only items Memory h p program e = refl

pub made_only : (items : List Insn) (r : Result (List Insn) AsmFault) → IfOk r (λ p. p ≡ items) →
    IfErr r (IsSizeFault items) → (p : List Insn) → IsProgram p → items ≡ p → (r ≡ Ok p) ⊎ (r ≡ Err Memory)
made_only items (Ok q) found fault p program e = inl (ap Ok (found ∙ e))
made_only items (Err f) found fault p program e = inr (ap Err (size_fault_only items f fault p program e))

-- The statements of a program's text are the lines of its instructions.

line_lacks_feed : (i : Insn) → Lacks 10 (line_of i)
line_lacks_feed i = lacks_append 10 (mnemonic_text (mnemonic_of i)) (arguments_text (text_arguments i))
    (name_lacks_any 10 (omega arith) (mnemonic_of i)) (arguments_lack_feed (text_arguments i))

line_statement : (i : Insn) → is_comment (line_of i) ≡ false
line_statement i =
    ap is_comment (append_assoc (stem_of (mnemonic_of i)) (suffix_of (mnemonic_of i))
    (arguments_text (text_arguments i))) ∙ stem_statement (mnemonic_of i)
    (suffix_of (mnemonic_of i) ++ arguments_text (text_arguments i))

pub statements_of_program : (is : List Insn) → statements_in (program_text is) ≡ map line_of is
statements_of_program [] = refl
statements_of_program (i ∷ is) =
    let whole : program_text (i ∷ is) ≡ line_of i ++ 10 ∷ program_text is =
    flat_map-cons (λ j. line_of j ++ 10 ∷ []) i is ∙ append_assoc (line_of i) (10 ∷ []) (program_text is) in
    ap statements_in whole ∙ ap (filter keeps) (first_line (line_of i) (program_text is) (line_lacks_feed i)) ∙
    kept false (line_of i) (lines_in (program_text is)) (line_statement i) ∙
    ap (λ (ls : List (List ℕ)). line_of i ∷ ls) (statements_of_program is)
