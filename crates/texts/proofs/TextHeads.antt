-- A text's head, and the program file that it makes.
use Rattle.bpf_model.proofs.Prelude.{◌≡◌, ℕ, ◌+◌, ◌≤◌, List, [], ◌∷◌, ◌++◌, length, refl, sym, ap, ◌∙◌, arith, append_assoc, inl, inr, codes, Option, Some}
use Rattle.bpf_model.proofs.Prelude.{Result, Ok, Err, IfErr, length-append, text}
use Rattle.bpf_model.specs.declared.insn.Insn.{Insn}
use Rattle.script_stream.specs.Lines.{lines_of, ended}
use Rattle.program_files.specs.Heads.{HeadView, IsHeadFault, slot_lines, file_text, file_content}
use Rattle.program_files.specs.ProgramFile.{FileSays, heading}
use Rattle.program_files.specs.declared.loader.fault.LoadFault.{LoadFault}
use Rattle.program_files.specs.declared.loader.fault.LoadFault.TheVariants.{BadFile, Memory}
use Rattle.program_files.proofs.EndedLines.{ended_again, line_below}
use Rattle.texts.specs.Assembled.{IsSplit, HasHead, IsFileOf, IsHeadRefusal, code_line, head_or_none}

-- a text that is split at its first line `code` has none in its head
no_code : (bytes head body first : List ℕ) (above below : List (List ℕ)) → bytes ≡ head ++ (code_line ++ body) →
    ((xs ys : List ℕ) → bytes ≡ xs ++ (code_line ++ ys) → length head ≤ length xs) →
    lines_of (head ++ 10 ∷ []) ≡ first ∷ (above ++ codes "code" ∷ below) → ⊥
no_code bytes head body first above below split least parts =
    let h = line_below first (codes "code") above below in
    let again : (head ++ 10 ∷ []) ≡ h.0 ++ (code_line ++ ended below) = sym (ended_again head) ∙ ap ended parts ∙ h.1 in
    let whole : bytes ≡ h.0 ++ (code_line ++ (ended below ++ (codes "code\n" ++ body))) =
    split ∙ sym (append_assoc head (10 ∷ []) (codes "code\n" ++ body)) ∙ ap (λ (x : List ℕ). x ++ (codes "code\n" ++ body)) again
    ∙ append_assoc h.0 (code_line ++ ended below) (codes "code\n" ++ body) in
    let short = least h.0 (ended below ++ (codes "code\n" ++ body)) whole in
    let a : length (head ++ 10 ∷ []) ≡ length head + 1 = length-append head (10 ∷ []) in
    let b : length (h.0 ++ (code_line ++ ended below)) ≡ length h.0 + length (code_line ++ ended below) = length-append h.0 (code_line ++ ended below) in
    let c : length (code_line ++ ended below) ≡ 6 + length (ended below) = length-append code_line (ended below) in
    let e : length (head ++ 10 ∷ []) ≡ length (h.0 ++ (code_line ++ ended below)) = ap length again in
    omega arith

-- a text's own head that is no head
refused_head : (bytes head body : List ℕ) (e : LoadFault) → IsSplit bytes (Some head) body → IsHeadFault head e → IsHeadRefusal bytes e
refused_head bytes head body (BadFile line) split (inl wrong) =
    record {
      head = Some head;
      body = body;
      split = split;
      file = heading ++ (head ++ (code_line ++ []));
      begins = ([], refl);
      line = line;
      fault_is = wrong.0 (codes "code\n");
      in_head = wrong.1;
    }
refused_head bytes head body (BadFile line) split (inr (content, file)) =
    absurd (no_code bytes head body file.first file.map_lines file.code_lines split.0 split.1 file.parts)
refused_head bytes head body Memory split fault = tt

pub refused : (bytes head body : List ℕ) (r : Result HeadView LoadFault) → IsSplit bytes (Some head) body → IfErr r (IsHeadFault head) →
    IfErr r (IsHeadRefusal bytes)
refused bytes head body (Ok h) split fault = tt
refused bytes head body (Err e) split fault = refused_head bytes head body e split fault

-- what is written of a text's head and its program has the head
has_head : (head : Option (List ℕ)) (lines : List ℕ) (program : List Insn) → lines ≡ head_or_none head ++ 10 ∷ [] → HasHead head (file_text lines program)
has_head head lines program e = (
  slot_lines program,
  ap (λ (t : List ℕ). heading ++ (t ++ (codes "code\n" ++ slot_lines program))) e
      ∙ ap (λ (t : List ℕ). heading ++ t) (append_assoc (head_or_none head) (10 ∷ []) (codes "code\n" ++ slot_lines program)),
)

pub file_made : (head : Option (List ℕ)) (h : HeadView) (program : List Insn) → h.text ≡ head_or_none head ++ 10 ∷ [] →
    FileSays (file_text h.text program) (file_content h program) → IsFileOf head (text program) (file_text h.text program)
file_made head h program e says =
    record { begins = has_head head h.text program e; content = file_content h program; says = says; code_is = refl }
