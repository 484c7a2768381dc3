-- Heads, what is wrong with them, and what is written below them.
use Rattle.bpf_model.proofs.Prelude.{◌≡◌, ◌≢◌, ℕ, ◌+◌, ◌<◌, ◌≤◌, ◌^◌, List, [], ◌∷◌, ◌++◌, length, refl, sym, ap, subst, ◌∙◌, arith, append_assoc, inl, inr}
use Rattle.bpf_model.proofs.Prelude.{codes, decimal, length-append, IsProgram, AreNewMaps}
use Rattle.model_laws.proofs.Prelude.{Insn, CTX_BYTES}
use Rattle.maps.specs.Registry.{RegistryView, no_maps}
use Rattle.script_lines.proofs.Again.{number_again}
use Rattle.script_stream.specs.Lines.{lines_of}
use Rattle.program_files.specs.Checks.{IsSourceOf}
use Rattle.program_files.specs.Heads.{HeadView, IsHead, IsWrongHead, IsHeadFault, slot_lines, file_text, file_content}
use Rattle.program_files.specs.ProgramFile.{FileContent, FileSays, IsProgramFile, IsFirstWrongLine}
use Rattle.program_files.specs.Stages.{HasWrongLine, IsLineFault, IsAtStage}
use Rattle.program_files.specs.declared.loader.fault.LoadFault.{LoadFault}
use Rattle.program_files.specs.declared.loader.fault.LoadFault.TheVariants.{BadFile, Memory}
use Rattle.program_files.specs.declared.loader.lines_read.Stage.{Stage}
use Rattle.program_files.specs.declared.loader.lines_read.Stage.TheVariants.{Context, Maps, Code}
use Rattle.program_files.specs.declared.program_file.Source.{Source}
use Rattle.program_files.proofs.ContextLine.{context_words, context_lines}
use Rattle.program_files.proofs.Cuts.{ended_some, lines_behind}
use Rattle.program_files.proofs.EndedLines.{count_lines}
use Rattle.program_files.proofs.Files.{same_registry}
use Rattle.program_files.proofs.NewMaps.{says_new}
use Rattle.program_files.proofs.Written.{program_says}

-- what is written

behind_head : (front slots : List ℕ) → lines_of ((front ++ 10 ∷ []) ++ (codes "code\n" ++ slots)) ≡
    lines_of (front ++ 10 ∷ []) ++ codes "code" ∷ lines_of slots
behind_head front slots = ap lines_of (append_assoc front (10 ∷ []) (codes "code\n" ++ slots)) ∙ lines_behind front (codes "code\n" ++ slots)

-- what is written of a head and a program says them
pub head_says : (h : HeadView) (program : List Insn) → IsHead h.text h.ctx_len h.registry → IsProgram program →
    FileSays (file_text h.text program) (file_content h program)
head_says h program is program_is =
    let slots = slot_lines program in
    let file : IsProgramFile (lines_of (h.text ++ (codes "code\n" ++ slots))) (file_content h program) = record {
      first = is.lines.first;
      map_lines = is.lines.map_lines;
      code_lines = lines_of slots;
      parts = ap (λ (t : List ℕ). lines_of (t ++ (codes "code\n" ++ slots))) is.ends ∙ behind_head is.front slots
          ∙ ap (λ (ls : List (List ℕ)). ls ++ codes "code" ∷ lines_of slots) (sym (ap lines_of is.ends) ∙ is.lines.parts);
      context = is.lines.context_is;
      maps = is.lines.maps;
      code = program_says program program_is;
    } in
    inl (h.text ++ (codes "code\n" ++ slots), refl, file)

-- a program below a head, as the file says it
pub source_is : (h : HeadView) (s : Source) → IsHead h.text h.ctx_len h.registry → IsProgram s.program → s.registry ≡ h.registry →
    s.ctx_len ≡ h.ctx_len → IsSourceOf (file_text h.text s.program) s × AreNewMaps s.registry.maps × (s.ctx_len ≤ CTX_BYTES)
source_is h s is program_is same long =
    let here : IsHead h.text s.ctx_len s.registry = rw (same, long) is in
    let now : HeadView = record { text = h.text; ctx_len = s.ctx_len; registry = s.registry } in
    let says = head_says now s.program here program_is in (
      record { is = program_is; says = says },
      says_new (file_text h.text s.program) (file_content now s.program) says,
      here.lines.context_is.limit,
    )

-- a head without maps
context_is : (n : ℕ) → n ≤ CTX_BYTES → IsHead (codes "ctx " ++ (decimal n ++ codes "\n")) n no_maps
context_is n h =
    let small : n < 2 ^ 64 = omega arith in
    record {
      front = codes "ctx " ++ decimal n;
      ends = refl;
      lines = record {
        first = codes "ctx " ++ decimal n;
        map_lines = [];
        parts = context_lines n small;
        context_is = record { word = decimal n; words = context_words n small; number = number_again n small; limit = h };
        maps = refl;
      };
    }

pub context_made : (n : ℕ) (text : List ℕ) (r : RegistryView) → n ≤ CTX_BYTES → text ≡ codes "ctx " ++ (decimal n ++ codes "\n") →
    r.names ≡ [] → r.maps ≡ [] → IsHead text n r
context_made n text r h e names maps =
    subst (λ (t : List ℕ). IsHead t n r) (sym e)
    (subst (λ (x : RegistryView). IsHead (codes "ctx " ++ (decimal n ++ codes "\n")) n x) (same_registry no_maps r (sym names) (sym maps))
    (context_is n h))

-- what is read

-- a wrong line is wrong whatever follows
any_follows : (lines more : List (List ℕ)) (n : ℕ) → HasWrongLine lines n → IsFirstWrongLine (lines ++ more) n
any_follows lines more n h = record {
  front = h.front;
  rest = h.line ∷ (h.rest ++ more);
  parts = ap (λ ls. ls ++ more) h.parts ∙ append_assoc h.front (h.line ∷ h.rest) more;
  number = h.number;
  begins = h.begins;
  wrong = h.wrong;
}

wrong_head : (lines : List ℕ) (n : ℕ) → HasWrongLine (lines_of (lines ++ 10 ∷ [])) n → IsWrongHead lines n
wrong_head lines n h =
    let all = lines_of (lines ++ 10 ∷ []) in
    let l : length all ≡ length h.front + length (h.line ∷ h.rest) = ap length h.parts ∙ length-append h.front (h.line ∷ h.rest) in
    let k = count_lines lines in
    let m = h.number in (
      λ rest. (
        lines ++ 10 ∷ rest,
        refl,
        subst (λ ls. IsFirstWrongLine ls n) (sym (lines_behind lines rest)) (any_follows all (lines_of rest) n h),
      ),
      omega arith,
    )

pub head_fault : (lines text : List ℕ) (e : LoadFault) → text ≡ lines ++ 10 ∷ [] → IsLineFault (lines_of text) e → IsHeadFault lines e
head_fault lines text (BadFile n) same h = inl (wrong_head lines n (subst (λ (t : List ℕ). HasWrongLine (lines_of t) n) same h))
head_fault lines text Memory same h = tt

pub no_head : (lines text : List ℕ) (stage : Stage) (c : FileContent) (n : ℕ) → text ≡ lines ++ 10 ∷ [] → stage ≢ Maps →
    IsAtStage stage (lines_of text) c → IsHeadFault lines (BadFile n)
no_head lines text Context c n same other h = absurd (ended_some lines (sym (ap lines_of same) ∙ h.0))
no_head lines text Maps c n same other h = absurd (other refl)
no_head lines text Code c n same other h = inr (c, subst (λ (t : List ℕ). IsProgramFile (lines_of t) c) same h)
