-- The lines that have been read, and those that are left.
use Rattle.bpf_model.proofs.Prelude.{ℕ, ◌≡◌, ◌+◌, ◌≤◌, ◌==◌, Bool, true, false, not, cond, List, [], ◌∷◌, ◌++◌, length, get_or, refl, sym, ap, subst, ◌∙◌}
use Rattle.bpf_model.proofs.Prelude.{arith, append_assoc, map, IsUtf8, AllByRecursion, filter, map-append, append-nil, get_or_default, filter-append}
use Rattle.bpf_model.proofs.Prelude.{slice_split_none, slice_split_at, All-push, false≢true, FitsInsn, cons-nil, heads, tails}
use Rattle.std.proofs.Common.{length-append, ne_eqb}
use Rattle.std.specs.List.{All}
use Rattle.bpf_model.specs.declared.insn.Insn.{Insn}
use Rattle.disasm.specs.Text.{line_of}
use Rattle.asm.proofs.StatementLaws.{appended}
use Rattle.asm.specs.Reading.{Lacks}
use Rattle.asm.specs.Faults.{is_comment, lines_in, statements_in, IsSoundLine, IsInsnLine}
use Rattle.asm.specs.Assembling.{IsLineOf, AddsLine, IsLineFault, IsAsmTextFault}
use Rattle.asm.specs.declared.fault.AsmFault.{AsmFault}
use Rattle.asm.specs.declared.fault.AsmFault.TheVariants.{BadLine, BadOperand, TooLong, Empty, Memory}

abbrev pub keeps : List ℕ → Bool
keeps line = not (is_comment line)

-- the line stands for at most one instruction
abbrev pub IsUnique : List ℕ → Type 0
IsUnique line = is_comment line ≡ false → (i j : Insn) → FitsInsn i → FitsInsn j → line ≡ line_of i → line ≡ line_of j → i ≡ j

pub record LinesRead (text : List ℕ) (left : List (List ℕ)) (items : List Insn) (index : ℕ) : Type 0 where
  pub front : List (List ℕ)
  pub parts : lines_in text ≡ front ++ left
  pub number : index ≡ length front
  pub sound : AllByRecursion IsSoundLine front
  pub unique : AllByRecursion IsUnique front
  pub lines : filter keeps front ≡ map line_of items
  pub fits : AllByRecursion FitsInsn items

-- the state between two lines: rest is the text that is left
pub record IsReading (text rest : List ℕ) (items : List Insn) (index : ℕ) : Type 0 where
  pub read : LinesRead text (lines_in rest) items index
  pub room : index + length rest ≤ length text
  pub utf8 : IsUtf8 rest

-- the lines of a text that ends at, or goes on after, a line feed

no_feed : (line : List ℕ) → Lacks 10 line → All (λ b. (b == 10) ≡ false) line
no_feed line lacks k d inside = ne_eqb (get_or line k d) 10 (λ e. lacks k inside (get_or_default line k 0 d inside ∙ e))

pub last_line : (line : List ℕ) → Lacks 10 line → lines_in line ≡ line ∷ []
last_line line lacks = slice_split_none (λ b. b == 10) line (no_feed line lacks)

pub first_line : (line more : List ℕ) → Lacks 10 line → lines_in (line ++ 10 ∷ more) ≡ line ∷ lines_in more
first_line line more lacks = slice_split_at (λ b. b == 10) line 10 more (no_feed line lacks) refl

-- One more line is read: a comment adds nothing, a statement its instruction.

insn_line : (line : List ℕ) (i : Insn) → IsLineOf line i → IsInsnLine line
insn_line line i h = record { instruction = i; fits = h.fits; text = h.text }

unique_line : (line : List ℕ) (i : Insn) → IsLineOf line i → IsUnique line
unique_line line i h statement j k fits_j fits_k e f = sym (h.only j fits_j e) ∙ h.only k fits_k f

left_out : (line : List ℕ) (xs : List (List ℕ)) → is_comment line ≡ true → (xs ++ filter keeps (line ∷ [])) ≡ xs ++ []
left_out line xs e = ap (λ (b : Bool). xs ++ cond (not b) (line ∷ []) []) e

kept : (line : List ℕ) (xs : List (List ℕ)) (items : List Insn) (i : Insn) → is_comment line ≡ false →
    xs ≡ map line_of items → line ≡ line_of i → (xs ++ filter keeps (line ∷ [])) ≡ map line_of items ++ map line_of
    (i ∷ [])
kept line xs items i e same is =
    ap (λ (b : Bool). xs ++ cond (not b) (line ∷ []) []) e ∙
    appended xs (line ∷ []) (map line_of items) (map line_of (i ∷ [])) same (ap (λ (t : List ℕ). t ∷ []) is)

comment_read : (text line : List ℕ) (left : List (List ℕ)) (items : List Insn) (index : ℕ) →
    LinesRead text (line ∷ left) items index → is_comment line ≡ true → LinesRead text left items (index + 1)
comment_read text line left items index read e =
    record {
      front = read.front ++ line ∷ [];
      parts = read.parts ∙ sym (append_assoc read.front (line ∷ []) left);
      number = rw (read.number) (sym (length-append read.front (line ∷ [])));
      sound = All-push IsSoundLine read.front line read.sound (λ f. absurd (false≢true (sym f ∙ e)));
      unique = All-push IsUnique read.front line read.unique (λ f. absurd (false≢true (sym f ∙ e)));
      lines = filter-append keeps read.front (line ∷ []) ∙ left_out line (filter keeps read.front) e ∙ append-nil (filter keeps read.front) ∙ read.lines;
      fits = read.fits;
    }

statement_read : (text line : List ℕ) (left : List (List ℕ)) (items : List Insn) (index : ℕ) →
    LinesRead text (line ∷ left) items index → is_comment line ≡ false → (i : Insn) → IsLineOf line i →
    LinesRead text left (items ++ i ∷ []) (index + 1)
statement_read text line left items index read e i is =
    record {
      front = read.front ++ line ∷ [];
      parts = read.parts ∙ sym (append_assoc read.front (line ∷ []) left);
      number = rw (read.number) (sym (length-append read.front (line ∷ [])));
      sound = All-push IsSoundLine read.front line read.sound (λ _. insn_line line i is);
      unique = All-push IsUnique read.front line read.unique (unique_line line i is);
      lines = filter-append keeps read.front (line ∷ []) ∙
          kept line (filter keeps read.front) items i e read.lines is.text ∙ sym (map-append line_of items (i ∷ []));
      fits = All-push FitsInsn items i read.fits is.fits;
    }

by_kind : (text line : List ℕ) (left : List (List ℕ)) (items new : List Insn) (index : ℕ) →
    LinesRead text (line ∷ left) items index → AddsLine line items new → (b : Bool) → is_comment line ≡ b →
    LinesRead text left new (index + 1)
by_kind text line left items new index read adds true e =
    subst (λ (is : List Insn). LinesRead text left is (index + 1)) (sym (adds.comment e)) (comment_read text line left items index read e)
by_kind text line left items new index read adds false e =
    let h = adds.statement e in
    subst (λ (is : List Insn). LinesRead text left is (index + 1)) (sym h.2) (statement_read text line left items index read e h.0 h.1)

pub line_read : (text line : List ℕ) (left : List (List ℕ)) (items new : List Insn) (index : ℕ) →
    LinesRead text (line ∷ left) items index → AddsLine line items new → LinesRead text left new (index + 1)
line_read text line left items new index read adds = by_kind text line left items new index read adds (is_comment line) refl

-- a fault is that of the first faulty line
pub line_fault : (text line : List ℕ) (left : List (List ℕ)) (items : List Insn) (index : ℕ) (f : AsmFault) →
    LinesRead text (line ∷ left) items index → IsLineFault index line f → IsAsmTextFault text f
line_fault text line left items index (BadLine n) read h =
    record {
      front = read.front;
      line = line;
      rest = left;
      parts = read.parts;
      number = h.0 ∙
          ap (λ k. k + 1) read.number;
      sound = read.sound;
      statement = h.1;
      flawed = h.2;
    }
line_fault text line left items index (BadOperand n) read h =
    record {
      front = read.front;
      line = line;
      rest = left;
      parts = read.parts;
      number = h.0 ∙
          ap (λ k. k + 1) read.number;
      sound = read.sound;
      statement = h.1;
      flawed = h.2;
    }
line_fault text line left items index TooLong read h = h
line_fault text line left items index Empty read h = h
line_fault text line left items index Memory read h = tt

-- When no line is left, the text's statements are the lines of the instructions.

pub all_read : (text : List ℕ) (items : List Insn) (index : ℕ) → LinesRead text [] items index → statements_in text ≡ map line_of items
all_read text items index read = ap (filter keeps) (read.parts ∙ append-nil read.front) ∙ read.lines

cons_insns : (i j : Insn) (is js : List Insn) → i ≡ j → is ≡ js → (i ∷ is) ≡ j ∷ js
cons_insns i j is js e f = cc

same_cons : (line : List ℕ) (rest : List (List ℕ)) (is js : List Insn) → is_comment line ≡ false → IsUnique line →
    ((is2 js2 : List Insn) → AllByRecursion FitsInsn is2 → AllByRecursion FitsInsn js2 → rest ≡ map line_of is2 →
    rest ≡ map line_of js2 → is2 ≡ js2) → AllByRecursion FitsInsn is → AllByRecursion FitsInsn js →
    (line ∷ rest) ≡ map line_of is → (line ∷ rest) ≡ map line_of js → is ≡ js
same_cons line rest [] js s unique more fits_i fits_j e f = absurd (cons-nil line rest e)
same_cons line rest (i ∷ is) [] s unique more fits_i fits_j e f = absurd (cons-nil line rest f)
same_cons line rest (i ∷ is) (j ∷ js) s unique more fits_i fits_j e f =
    let p : line ≡ line_of i = heads line (line_of i) rest (map line_of is) e in
    let q : line ≡ line_of j = heads line (line_of j) rest (map line_of js) f in
    let behind_p : rest ≡ map line_of is = tails line (line_of i) rest (map line_of is) e in
    let behind_q : rest ≡ map line_of js = tails line (line_of j) rest (map line_of js) f in
    cons_insns i j is js (unique s i j fits_i.0 fits_j.0 p q) (more is js fits_i.1 fits_j.1 behind_p behind_q)

same_step : (line : List ℕ) (front : List (List ℕ)) (is js : List Insn) (b : Bool) → is_comment line ≡ b →
    IsUnique line → ((is2 js2 : List Insn) → AllByRecursion FitsInsn is2 → AllByRecursion FitsInsn js2 →
    filter keeps front ≡ map line_of is2 → filter keeps front ≡ map line_of js2 → is2 ≡ js2) →
    AllByRecursion FitsInsn is → AllByRecursion FitsInsn js → filter keeps (line ∷ front) ≡ map line_of is →
    filter keeps (line ∷ front) ≡ map line_of js → is ≡ js
same_step line front is js true s unique more fits_i fits_j e f =
    let out : filter keeps (line ∷ front) ≡ filter keeps front = ap (λ (b : Bool). cond (not b) (line ∷ filter keeps front) (filter keeps front)) s in
    more is js fits_i fits_j (sym out ∙ e) (sym out ∙ f)
same_step line front is js false s unique more fits_i fits_j e f =
    let out : filter keeps (line ∷ front) ≡ line ∷ filter keeps front = ap (λ (b : Bool). cond (not b) (line ∷ filter keeps front) (filter keeps front)) s in
    same_cons line (filter keeps front) is js s unique more fits_i fits_j (sym out ∙ e) (sym out ∙ f)

-- the lines of two lists of instructions are those of one
same_insns : (front : List (List ℕ)) (is js : List Insn) → AllByRecursion IsUnique front → AllByRecursion FitsInsn is
    → AllByRecursion FitsInsn js → filter keeps front ≡ map line_of is → filter keeps front ≡ map line_of js → is ≡ js
same_insns [] [] [] unique fits_i fits_j e f = refl
same_insns [] [] (j ∷ js) unique fits_i fits_j e f = absurd (cons-nil (line_of j) (map line_of js) (sym f))
same_insns [] (i ∷ is) js unique fits_i fits_j e f = absurd (cons-nil (line_of i) (map line_of is) (sym e))
same_insns (line ∷ front) is js unique fits_i fits_j e f =
    same_step line front is js (is_comment line) refl unique.0 (λ is2 js2 g h k l. same_insns front is2 js2 unique.1 g h k l) fits_i fits_j e f

pub only_read : (text : List ℕ) (items : List Insn) (index : ℕ) → LinesRead text [] items index → (is : List Insn) →
    AllByRecursion FitsInsn is → statements_in text ≡ map line_of is → items ≡ is
only_read text items index read is fits e =
    same_insns read.front items is read.unique read.fits fits read.lines (sym (ap (filter keeps) (read.parts ∙ append-nil read.front)) ∙ e)

-- one turn of the loop, and what follows it

left_is : (text : List ℕ) (left left2 : List (List ℕ)) (items : List Insn) (index : ℕ) → left ≡ left2 →
    LinesRead text left items index → LinesRead text left2 items index
left_is text left left2 items index e read = subst (λ (ls : List (List ℕ)). LinesRead text ls items index) e read

first_left : (text rest line more : List ℕ) (items : List Insn) (index : ℕ) →
    LinesRead text (lines_in rest) items index → rest ≡ line ++ 10 ∷ more → Lacks 10 line →
    LinesRead text (line ∷ lines_in more) items index
first_left text rest line more items index read parts lacks =
    left_is text (lines_in rest) (line ∷ lines_in more) items index (ap lines_in parts ∙ first_line line more lacks) read

pub next_read : (text rest line more : List ℕ) (items new : List Insn) (index : ℕ) →
    LinesRead text (lines_in rest) items index → rest ≡ line ++ 10 ∷ more → Lacks 10 line → AddsLine line items new →
    LinesRead text (lines_in more) new (index + 1)
next_read text rest line more items new index read parts lacks adds =
    line_read text line (lines_in more) items new index (first_left text rest line more items index read parts lacks) adds

pub next_fault : (text rest line more : List ℕ) (items : List Insn) (index : ℕ) (f : AsmFault) →
    LinesRead text (lines_in rest) items index → rest ≡ line ++ 10 ∷ more → Lacks 10 line → IsLineFault index line f →
    IsAsmTextFault text f
next_fault text rest line more items index f read parts lacks h =
    line_fault text line (lines_in more) items index f (first_left text rest line more items index read parts lacks) h

last_left : (text rest : List ℕ) (items : List Insn) (index : ℕ) → LinesRead text (lines_in rest) items index →
    Lacks 10 rest → LinesRead text (rest ∷ []) items index
last_left text rest items index read lacks = left_is text (lines_in rest) (rest ∷ []) items index (last_line rest lacks) read

pub last_read : (text rest : List ℕ) (items new : List Insn) (index : ℕ) → LinesRead text (lines_in rest) items index
    → Lacks 10 rest → AddsLine rest items new → LinesRead text [] new (index + 1)
last_read text rest items new index read lacks adds =
    line_read text rest [] items new index (last_left text rest items index read lacks) adds

pub last_fault : (text rest : List ℕ) (items : List Insn) (index : ℕ) (f : AsmFault) →
    LinesRead text (lines_in rest) items index → Lacks 10 rest → IsLineFault index rest f → IsAsmTextFault text f
last_fault text rest items index f read lacks h = line_fault text rest [] items index f (last_left text rest items index read lacks) h

pub next_room : (text rest line more : List ℕ) (index : ℕ) → index + length rest ≤ length text → rest ≡ line ++ 10
    ∷ more → index + 1 + length more ≤ length text
next_room text rest line more index room parts =
    let whole : length rest ≡ length line + length (10 ∷ more) = ap length parts ∙ length-append line (10 ∷ more) in
    omega arith
