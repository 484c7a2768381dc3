-- What a line's statement says of the line.
use Rattle.bpf_model.proofs.Prelude.{ℕ, ◌≡◌, ◌++◌, List, true, sym, ap, subst, ◌∙◌, Option, Some, None, Result, Ok, none-some, same_Some, FitsInsn}
use Rattle.bpf_model.specs.declared.insn.Insn.{Insn}
use Rattle.disasm.specs.Text.{mnemonic_text, arguments_text, line_of, mnemonic_of, text_arguments, statement_of}
use Rattle.disasm.specs.declared.mnemonic.Mnemonic.{Mnemonic}
use Rattle.disasm.specs.declared.statement.Arguments.{Arguments}
use Rattle.disasm.specs.declared.statement.Statement.{Statement}
use Rattle.asm.specs.Grammar.{is_formed, IsFormedLine}
use Rattle.asm.specs.Reading.{IsStatementRead, ReadsStatement, capped_arguments, capped_statement, IsOnlyInsn}
use Rattle.asm.specs.declared.fault.LineFlaw.{LineFlaw}
use Rattle.asm.proofs.FormLaws.{IsSmall, formed_capped, formed_of, capped_of, small_of, back_same, told}

pub insn_statement : (line : List ℕ) (s : Statement) → ReadsStatement line (Some s) → (i : Insn) → FitsInsn i → line ≡ line_of i → s ≡ statement_of i
insn_statement line s reads i fits e = same_Some s (capped_statement (statement_of i)) (reads (statement_of i) e) ∙ capped_of i fits

pub no_insn : (line : List ℕ) → ReadsStatement line None → (i : Insn) → line ≡ line_of i → ⊥
no_insn line reads i e = none-some (capped_statement (statement_of i)) (reads (statement_of i) e)

pub formed_line : (line : List ℕ) (s : Statement) → ReadsStatement line (Some s) → IsFormedLine line → is_formed s ≡ true
formed_line line s reads h = ap is_formed (same_Some s (capped_statement h.statement) (reads h.statement h.text)) ∙ formed_capped h.statement ∙ h.formed

pub formed_insn : (line : List ℕ) (s : Statement) → ReadsStatement line (Some s) → (i : Insn) → FitsInsn i → line ≡ line_of i → is_formed s ≡ true
formed_insn line s reads i fits e = ap is_formed (insn_statement line s reads i fits e) ∙ formed_of i

pub has_form : (line : List ℕ) (s : Statement) → IsStatementRead line s → is_formed s ≡ true → IsFormedLine line
has_form line s found formed = record { statement = found.0; text = found.1; formed = sym (ap is_formed found.2 ∙ formed_capped found.0) ∙ formed }

pub text_is : (line : List ℕ) (s : Statement) → IsStatementRead line s → (i : Insn) → FitsInsn i →
    mnemonic_of i ≡ s.mnemonic → text_arguments i ≡ s.arguments → line ≡ line_of i
text_is line s found i fits em ew =
    let w : Statement = found.0 in
    let capped_is : capped_arguments w.arguments ≡ text_arguments i = sym (ap (λ (t : Statement). t.arguments) found.2) ∙ sym ew in
    let small : IsSmall (capped_arguments w.arguments) = subst (λ (a : Arguments). IsSmall a) (sym capped_is) (small_of i fits) in
    let same_arguments : w.arguments ≡ text_arguments i = sym (back_same w.arguments small) ∙ capped_is in
    let same_mnemonic : w.mnemonic ≡ mnemonic_of i = sym (ap (λ (t : Statement). t.mnemonic) found.2) ∙ sym em in
    found.1 ∙ ap (λ (m : Mnemonic). mnemonic_text m ++ arguments_text w.arguments) same_mnemonic ∙
    ap (λ (a : Arguments). mnemonic_text (mnemonic_of i) ++ arguments_text a) same_arguments

pub insn_is : (line : List ℕ) (s : Statement) (r : Option Insn) → ReadsStatement line (Some s) →
    IsOnlyInsn s.mnemonic s.arguments r → (i : Insn) → FitsInsn i → line ≡ line_of i → r ≡ Some i
insn_is line s r reads only i fits e =
    let same : s ≡ statement_of i = insn_statement line s reads i fits e in
    told s.mnemonic s.arguments r only i fits (ap (λ (t : Statement). t.mnemonic) same) (ap (λ (t : Statement). t.arguments) same)

pub ok_is : (line : List ℕ) (s : Statement) (j : Insn) → ReadsStatement line (Some s) →
    IsOnlyInsn s.mnemonic s.arguments (Some j) → (i : Insn) → FitsInsn i → line ≡ line_of i →
    (let r : Result Insn LineFlaw = Ok j in r ≡ Ok i)
ok_is line s j reads only i fits e = ap Ok (same_Some j i (insn_is line s (Some j) reads only i fits e))

pub not_insn : (line : List ℕ) (s : Statement) → ReadsStatement line (Some s) → IsOnlyInsn s.mnemonic s.arguments None
    → (i : Insn) → FitsInsn i → line ≡ line_of i → ⊥
not_insn line s reads only i fits e = none-some i (insn_is line s None reads only i fits e)
