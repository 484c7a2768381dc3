-- The lines of a text, read up to one of them.
use Rattle.bpf_model.proofs.Prelude.{◌≡◌, ℕ, ◌+◌, ◌<◌, ◌≤◌, ◌==◌, Bool, false, not, List, [], ◌∷◌, ◌++◌, length, Bor, refl, sym, ap, subst, ◌∙◌, arith}
use Rattle.bpf_model.proofs.Prelude.{append_assoc, inl, inr, Option, Some, None, MatchOption, Result, Ok, Err, IfOk, IfErr, MatchResult, false≢true}
use Rattle.bpf_model.proofs.Prelude.{nat_tests, length-append}
use Rattle.std.proofs.Common.{append-nil}
use Rattle.script_stream.specs.Lines.{lines_of}
use Rattle.program_files.specs.ProgramFile.{FileContent, heading, IsProgramFile, IsFileBeginning, IsFirstWrongLine, FileSays, IsWrongFile, IsLoadFault}
use Rattle.program_files.specs.Stages.{HasNoByte, HasLoaded, HasWrongLine}
use Rattle.program_files.specs.declared.loader.lines_read.LinesRead.{LinesRead}
use Rattle.program_files.specs.Loaded.{loaded_content}
use Rattle.program_files.specs.declared.loader.fault.LoadFault.{LoadFault}
use Rattle.program_files.specs.declared.loader.fault.LoadFault.TheVariants.{BadFile, Memory}
use Rattle.program_files.specs.declared.loader.program_file.ProgramFile.{ProgramFile}
use Rattle.program_files.proofs.Files.{one_content, not_wrong}
use Rattle.program_files.proofs.Cuts.{first_line, last_line}

-- what was loaded is the lines but for those of the rest, and the number is that of the next one
pub record IsReadTo (text rest : List ℕ) (loading : LinesRead) (number : ℕ) : Type 0 where
  pub front : List (List ℕ)
  pub lines : lines_of text ≡ front ++ lines_of rest
  pub loaded : HasLoaded front loading
  pub number_is : number ≡ length front + 2
  pub room : number + length rest ≤ length text + 2

-- the first line of a text that is not empty, and the lines of what is behind it
pub lines_cut : (text front : List ℕ) (rest : Option (Bor (List ℕ))) (more : List ℕ) → 0 < length text →
    HasNoByte 10 front → MatchOption rest (text ≡ front) (λ r. text ≡ front ++ 10 ∷ r.now) →
    MatchOption rest (more ≡ []) (λ r. more ≡ r.now) → (lines_of text ≡ front ∷ lines_of more) ×
    (length more < length text)
lines_cut [] front None more some h e f = absurd (omega arith)
lines_cut (b ∷ text) front None more some h e f = (
  last_line b text (subst (HasNoByte 10) (sym e) h) ∙ ap (λ (l : List ℕ). l ∷ []) e ∙
      ap (λ (m : List ℕ). front ∷ lines_of m) (sym f),
  let l : length more ≡ 0 = ap length f in omega arith,
)
lines_cut text front (Some r) more some h e f = (
  ap lines_of e ∙ first_line front r.now h ∙ ap (λ (m : List ℕ). front ∷ lines_of m) (sym f),
  let a : length text ≡ length front + length (10 ∷ r.now) = ap length e ∙
      length-append front (10 ∷ r.now) in let m : length more ≡ length r.now = ap length f in omega arith,
)

pub read_line : (text rest line more : List ℕ) (old new : LinesRead) (number : ℕ) → IsReadTo text rest old number →
    (lines_of rest ≡ line ∷ lines_of more) × (length more < length rest) →
    ((lines : List (List ℕ)) → HasLoaded lines old → HasLoaded (lines ++ line ∷ []) new) →
    IsReadTo text more new (number + 1)
read_line text rest line more old new number h cut taken = record {
  front = h.front ++ line ∷ [];
  lines = h.lines ∙ ap (λ ls. h.front ++ ls) cut.0 ∙ sym (append_assoc h.front (line ∷ []) (lines_of more));
  loaded = taken h.front h.loaded;
  number_is = let l : length (h.front ++ line ∷ []) ≡ length h.front + 1 = length-append h.front (line ∷ []) in let n = h.number_is in omega arith;
  room = let r = h.room in let s = cut.1 in omega arith;
}

pub wrong_line : (text rest line more : List ℕ) (old : LinesRead) (number : ℕ) → IsReadTo text rest old number →
    (lines_of rest ≡ line ∷ lines_of more) × (length more < length rest) →
    ((lines : List (List ℕ)) → HasLoaded lines old → IsFileBeginning lines) →
    ((lines : List (List ℕ)) → HasLoaded lines old → ¬ (IsFileBeginning (lines ++ line ∷ []))) →
    HasWrongLine (lines_of text) number
wrong_line text rest line more old number h cut begins wrong = record {
  front = h.front;
  line = line;
  rest = lines_of more;
  parts = h.lines ∙ ap (λ ls. h.front ++ ls) cut.0;
  number = h.number_is;
  begins = begins h.front h.loaded;
  wrong = wrong h.front h.loaded;
}

all_lines : (text rest : List ℕ) (old : LinesRead) (number : ℕ) (h : IsReadTo text rest old number) → rest ≡ [] → lines_of text ≡ h.front
all_lines text rest old number h e = h.lines ∙ ap (λ r. h.front ++ lines_of r) e ∙ append-nil h.front

-- where nothing is left, all lines are read
pub all_read : (text rest : List ℕ) (old : LinesRead) (number : ℕ) → IsReadTo text rest old number → rest ≡ [] → HasLoaded (lines_of text) old
all_read text rest old number h e = subst (λ ls. HasLoaded ls old) (sym (all_lines text rest old number h e)) h.loaded

pub number_behind : (text rest : List ℕ) (old : LinesRead) (number : ℕ) → IsReadTo text rest old number → rest ≡ [] → number ≡ length (lines_of text) + 2
number_behind text rest old number h e = h.number_is ∙ ap (λ ls. length ls + 2) (sym (all_lines text rest old number h e))

pub short_file : (text : List ℕ) (number : ℕ) → number ≡ length (lines_of text) + 2 → IsFileBeginning (lines_of text) →
    ((content : FileContent) → ¬ (IsProgramFile (lines_of text) content)) → IsFirstWrongLine (lines_of text) number
short_file text number e begins unfinished = record {
  front = lines_of text;
  rest = [];
  parts = sym (append-nil (lines_of text));
  number = e;
  begins = begins;
  wrong = unfinished;
}

-- a file says one thing, or has a wrong line

heading_cut : (s t : List ℕ) → heading ++ s ≡ heading ++ t → s ≡ t
heading_cut s t e = cc

one_says : (bytes : List ℕ) (c d : FileContent) → FileSays bytes c → FileSays bytes d → c ≡ d
one_says bytes c d (inl h) (inl k) =
    let same : k.0 ≡ h.0 = heading_cut k.0 h.0 (sym k.1 ∙ h.1) in
    one_content (lines_of h.0) c d h.2 (subst (λ t. IsProgramFile (lines_of t) d) same k.2)
one_says bytes c d (inl h) (inr k) = absurd (k.0 h.0 h.1)
one_says bytes c d (inr h) (inl k) = absurd (h.0 k.0 k.1)
one_says bytes c d (inr h) (inr k) = h.1 ∙ sym k.1

not_both : (bytes : List ℕ) (n : ℕ) (c : FileContent) → IsWrongFile bytes n → FileSays bytes c → ⊥
not_both bytes n c h (inl k) =
    let same : k.0 ≡ h.0 = heading_cut k.0 h.0 (sym k.1 ∙ h.1) in
    not_wrong (lines_of h.0) n c h.2 (subst (λ t. IsProgramFile (lines_of t) c) same k.2)
not_both bytes n c h (inr k) = k.0 h.0 h.1

pub only_content : (bytes : List ℕ) (c : FileContent) (r : Result ProgramFile LoadFault) →
    IfOk r (λ f. FileSays bytes (loaded_content f)) → IfErr r (IsLoadFault bytes) → FileSays bytes c →
    MatchResult r (λ f. loaded_content f ≡ c) (λ e. e ≡ Memory)
only_content bytes c (Ok f) found fault says = one_says bytes (loaded_content f) c found says
only_content bytes c (Err (BadFile n)) found fault says = absurd (not_both bytes n c fault says)
only_content bytes c (Err Memory) found fault says = refl

pub empty_is : (xs : List ℕ) (r : Bool) → r ≡ (length xs == 0) → not r ≡ false → xs ≡ []
empty_is [] r e h = refl
empty_is (x ∷ xs) r e h =
    let some : 0 < length (x ∷ xs) = omega arith in
    let f : (length (x ∷ xs) == 0) ≡ false = grind (arith, nat_tests) in
    absurd (false≢true (sym h ∙ ap not (e ∙ f)))
