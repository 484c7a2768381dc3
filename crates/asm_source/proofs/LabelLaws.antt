-- A label leads to its instruction.
use Rattle.bpf_model.proofs.Prelude.{ℕ, zero, suc, ◌≡◌, ◌+◌, ◌-◌, ◌==◌, Bool, true, false, not, cond, List, [], ◌∷◌, ◌++◌, length, get_or, take, refl, sym}
use Rattle.bpf_model.proofs.Prelude.{ap, subst, ◌∙◌, append_assoc, arith, map, slice_get, count_by, Option, Some, None, is_some, option_map, Result, Ok, Err}
use Rattle.bpf_model.proofs.Prelude.{codes, bytes_eq, filter, find, onto_first, and_parts, false≢true, bytes_eq-Decides, sum_by-cons, slice_split-cons_yes}
use Rattle.bpf_model.proofs.Prelude.{slice_split-cons_no, none-some, same_Some, cons-nil, heads, tails, insn_at-beyond, slot_count, insn_at, slot_total}
use Rattle.std.proofs.Common.{length-append}
use Rattle.bpf_model.specs.declared.insn.Insn.{Insn}
use Rattle.disasm.specs.Text.{line_of}
use Rattle.asm.specs.Faults.{is_comment, lines_in, statements_in}
use Rattle.asm_source.specs.Tokens.{tokens_of, lines_of}
use Rattle.asm_source.specs.Names.{Binding, is_name, is_constant, constant_in, label_in, instruction_in, slots_of, slots_after, named, names_in, with_binding}
use Rattle.asm_source.specs.Names.{with_constant, with_label, with_line, with_lines}
use Rattle.asm_source.specs.Plain.{Meanings, fed, is_end, instruction_text, line_text, lines_text, text_with, plain}
use Rattle.asm_source.specs.Labels.{has_instruction, instructions_above, place_of, HasLabel, JumpsByName, LeadsToLine, StandsAtLine}
use Rattle.asm_source.specs.declared.names.Meaning.{Meaning}
use Rattle.asm_source.specs.declared.names.Meaning.TheVariants.{Place}
use Rattle.asm_source.specs.declared.fault.SourceFault.{SourceFault}
use Rattle.asm_source.specs.declared.fault.SourceFault.TheVariants as fault
use Rattle.asm_source.proofs.KeptLaws.{clean, all_clean, IsClean, not_true, lines_clean, line_clean, one_line}
use Rattle.asm_source.proofs.LineText.{are_tokens, instruction_tokens, ok_same, joined_parts, text_of_insn, no_comment, slots_are, jump_leads}

abbrev Text : Type 0
Text = Result (List ℕ) SourceFault

abbrev Names : Type 0
Names = Result (List Binding) SourceFault

-- Names.

same_name : (w : List ℕ) → bytes_eq w w ≡ true
same_name w = (bytes_eq-Decides w w).1 refl

-- a name keeps its meaning when another is added
still_found : (b : Bool) (x : Binding) (xs ys : Option Binding) (meaning : Meaning) →
    option_map (λ (b : Binding). b.meaning) (cond b (Some x) xs) ≡ Some meaning →
    (option_map (λ (b : Binding). b.meaning) xs ≡ Some meaning → option_map (λ (b : Binding). b.meaning) ys ≡ Some meaning) →
    option_map (λ (b : Binding). b.meaning) (cond b (Some x) ys) ≡ Some meaning
still_found true x xs ys meaning h more = h
still_found false x xs ys meaning h more = more h

named_more : (names more : List Binding) (name : List ℕ) (meaning : Meaning) → named names name ≡ Some meaning → named (names ++ more) name ≡ Some meaning
named_more [] more name meaning h = absurd (none-some meaning h)
named_more (b ∷ names) more name meaning h =
    still_found (bytes_eq b.name name) b (find (λ c. bytes_eq c.name name) names) (find (λ c. bytes_eq c.name name) (names ++ more)) meaning h
    (λ e. named_more names more name meaning e)

-- a name that is new has the meaning that is added
new_found : (b : Bool) (x : Binding) (xs ys : Option Binding) (meaning : Meaning) →
    is_some (option_map (λ (b : Binding). b.meaning) (cond b (Some x) xs)) ≡ false →
    (is_some (option_map (λ (b : Binding). b.meaning) xs) ≡ false → option_map (λ (b : Binding). b.meaning) ys ≡ Some meaning) →
    option_map (λ (b : Binding). b.meaning) (cond b (Some x) ys) ≡ Some meaning
new_found true x xs ys meaning h more = cc h
new_found false x xs ys meaning h more = more h

named_new : (names : List Binding) (b : Binding) → is_some (named names b.name) ≡ false → named (names ++ b ∷ []) b.name ≡ Some b.meaning
named_new [] b h = ap (λ (t : Bool). option_map (λ (b : Binding). b.meaning) (cond t (Some b) None)) (same_name b.name)
named_new (c ∷ names) b h =
    new_found (bytes_eq c.name b.name) c (find (λ d. bytes_eq d.name b.name) names) (find (λ d. bytes_eq d.name b.name) (names ++ b ∷ [])) b.meaning h
    (λ e. named_new names b e)

named_same : (all out : List Binding) → (let new : Names = Ok all in new ≡ Ok out) → all ≡ out
named_same all out e = cc e

record IsAdded (names : List Binding) (b : Binding) (out : List Binding) : Type 0 where
  name : is_name b.name ≡ true
  new : is_some (named names b.name) ≡ false
  out_is : out ≡ names ++ b ∷ []

picks : (name old : Bool) (f g : SourceFault) (all out : List Binding) →
    (let no : Names = Err f in let twice : Names = Err g in let new : Names = Ok all in cond (not name) no (cond old twice new) ≡ Ok out) →
    (name ≡ true) × (old ≡ false) × (out ≡ all)
picks false old f g all out h = cc h
picks true true f g all out h = cc h
picks true false f g all out h = (refl, refl, sym (named_same all out h))

added : (names : List Binding) (n : ℕ) (b : Binding) (out : List Binding) → with_binding names n b ≡ Ok out → IsAdded names b out
added names n b out h =
    let p = picks (is_name b.name) (is_some (named names b.name)) (fault.BadName n) (fault.NameTwice n) (names ++ b ∷ []) out h in
    record { name = p.0; new = p.1; out_is = p.2 }

abbrev Keeps : List Binding → List Binding → Type 0
Keeps names out = (name : List ℕ) (meaning : Meaning) → named names name ≡ Some meaning → named out name ≡ Some meaning

binding_keeps : (names : List Binding) (n : ℕ) (b : Binding) (out : List Binding) → with_binding names n b ≡ Ok out → Keeps names out
binding_keeps names n b out h name meaning e =
    ap (λ (bs : List Binding). named bs name) (added names n b out h).out_is ∙ named_more names (b ∷ []) name meaning e

constant_keeps : (names : List Binding) (n : ℕ) (b : Option Binding) (out : List Binding) → with_constant names n b ≡ Ok out → Keeps names out
constant_keeps names n None out h name meaning e = cc h
constant_keeps names n (Some b) out h name meaning e = binding_keeps names n b out h name meaning e

label_keeps : (names : List Binding) (n slot : ℕ) (label : Option (List ℕ)) (out : List Binding) → with_label names n slot label ≡ Ok out → Keeps names out
label_keeps names n slot None out h name meaning e = let same = named_same names out h in ap (λ (bs : List Binding). named bs name) (sym same) ∙ e
label_keeps names n slot (Some label) out h name meaning e =
    binding_keeps names n (record { name = label; meaning = Place slot }) out h name meaning e

either_keeps : (constant : Bool) (names : List Binding) (n slot : ℕ) (first : List ℕ) (rest : List (List ℕ)) (out : List Binding) →
    cond constant (with_constant names n (constant_in rest)) (with_label names n slot (label_in first)) ≡ Ok out → Keeps names out
either_keeps true names n slot first rest out h = constant_keeps names n (constant_in rest) out h
either_keeps false names n slot first rest out h = label_keeps names n slot (label_in first) out h

line_keeps : (names : List Binding) (n slot : ℕ) (tokens : List (List ℕ)) (out : List Binding) → with_line names n slot tokens ≡ Ok out → Keeps names out
line_keeps names n slot [] out h name meaning e = let same = named_same names out h in ap (λ (bs : List Binding). named bs name) (sym same) ∙ e
line_keeps names n slot (first ∷ rest) out h name meaning e = either_keeps (is_constant first) names n slot first rest out h name meaning e

-- the names behind a line
line_then : (r : Names) (n slot : ℕ) (lines : List (List ℕ)) (out : List Binding) → with_lines r n slot lines ≡ Ok out → (mid : List Binding) × (r ≡ Ok mid)
unfolding with_lines
line_then (Ok mid) n slot lines out h = (mid, refl)
line_then (Err f) n slot lines out h = cc h

names_behind : (r : Names) (mid : List Binding) (n slot : ℕ) (lines : List (List ℕ)) (out : List Binding) → r ≡ Ok mid →
    with_lines r n slot lines ≡ Ok out → with_lines (Ok mid) n slot lines ≡ Ok out
names_behind r mid n slot lines out e h = ap (λ (r : Names). with_lines r n slot lines) (sym e) ∙ h

lines_keep : (names : List Binding) (n slot : ℕ) (lines : List (List ℕ)) (out : List Binding) → with_lines (Ok names) n slot lines ≡ Ok out → Keeps names out
unfolding with_lines
lines_keep names n slot [] out h name meaning e = let same = named_same names out h in ap (λ (bs : List Binding). named bs name) (sym same) ∙ e
lines_keep names n slot (line ∷ lines) out h name meaning e =
    let mid = line_then (with_line names (n + 1) slot (tokens_of line)) (n + 1) (slots_after slot line) lines out h in
    lines_keep mid.0 (n + 1) (slots_after slot line) lines out
    (names_behind (with_line names (n + 1) slot (tokens_of line)) mid.0 (n + 1) (slots_after slot line) lines out mid.1 h)
    name meaning (line_keeps names (n + 1) slot (tokens_of line) mid.0 mid.1 name meaning e)

-- The word of a label.

last_there : (w : List ℕ) (c : ℕ) → get_or (w ++ c ∷ []) (length w) 0 ≡ c
last_there [] c = refl
last_there (b ∷ w) c = last_there w c

front_there : (w : List ℕ) (c : ℕ) → take (length w) (w ++ c ∷ []) ≡ w
front_there [] c = refl
front_there (b ∷ w) c = ap (λ (v : List ℕ). b ∷ v) (front_there w c)

one_more : (w : List ℕ) (c : ℕ) → length (w ++ c ∷ []) ≡ suc (length w)
one_more w c = length-append w (c ∷ []) ∙ (let e : length w + 1 ≡ suc (length w) = omega arith in e)

label_word : (name : List ℕ) → label_in (name ++ codes ":") ≡ Some name
label_word [] = refl
label_word (b ∷ name) =
    let count = one_more name 58 in
    let last = last_there (b ∷ name) 58 in
    let front = front_there (b ∷ name) 58 in
    ap (λ (k : ℕ). cond (get_or (b ∷ name ++ 58 ∷ []) k 0 == 58) (Some (take k (b ∷ name ++ 58 ∷ []))) None) count ∙
    ap (λ (c : ℕ). cond (c == 58) (Some (take (suc (length name)) (b ∷ name ++ 58 ∷ []))) None) last ∙
    ap (λ (w : List ℕ). Some w) front

apart : (c d : ℕ) → c ≡ 58 → d ≡ 117 → c ≡ d → ⊥
apart c d e f same = omega arith

not_constant : (name : List ℕ) → (name ++ codes ":") ≡ codes ".equ" → ⊥
not_constant name e =
    let count : suc (length name) ≡ 4 = sym (one_more name 58) ∙ ap length e in
    let three : length name ≡ 3 = omega arith in
    apart (get_or (name ++ codes ":") (length name) 0) (get_or (codes ".equ") (length name) 0) (last_there name 58)
    (ap (λ (k : ℕ). get_or (codes ".equ") k 0) three) (ap (λ (w : List ℕ). get_or w (length name) 0) e)

no_constant_by : (b : Bool) (name : List ℕ) → is_constant (name ++ codes ":") ≡ b → b ≡ false
no_constant_by true name e = absurd (not_constant name ((bytes_eq-Decides (name ++ codes ":") (codes ".equ")).0 e))
no_constant_by false name e = refl

label_no_constant : (name : List ℕ) → is_constant (name ++ codes ":") ≡ false
label_no_constant name = no_constant_by (is_constant (name ++ codes ":")) name refl

labelled : (names : List Binding) (n slot : ℕ) (tokens : List (List ℕ)) (name : List ℕ) (rest : List (List ℕ)) (out : List Binding) →
    tokens ≡ (name ++ codes ":") ∷ rest → with_line names n slot tokens ≡ Ok out → (is_name name ≡ true) × (named out name ≡ Some (Place slot))
labelled names n slot tokens name rest out e h =
    let told : with_line names n slot ((name ++ codes ":") ∷ rest) ≡ with_binding names n (record { name = name; meaning = Place slot }) =
    ap (λ (b : Bool). cond b (with_constant names n (constant_in rest)) (with_label names n slot (label_in (name ++ codes ":")))) (label_no_constant name) ∙
    ap (with_label names n slot) (label_word name) in
    let is = added names n (record { name = name; meaning = Place slot }) out (sym told ∙ ap (with_line names n slot) (sym e) ∙ h) in
    (is.name, ap (λ (bs : List Binding). named bs name) is.out_is ∙ named_new names (record { name = name; meaning = Place slot }) is.new)

-- how many slots stand before a line, of those that begin behind so many
abbrev slots_before : ℕ → ℕ → List (List ℕ) → ℕ
slots_before slot zero lines = slot
slots_before slot (suc k) [] = slot
slots_before slot (suc k) (line ∷ lines) = slots_before (slots_after slot line) k lines

label_means : (names : List Binding) (n slot : ℕ) (lines : List (List ℕ)) (out : List Binding) → with_lines (Ok names) n slot lines ≡ Ok out →
    (k : ℕ) (line name : List ℕ) (rest : List (List ℕ)) → slice_get lines k ≡ Some line → tokens_of line ≡ (name ++ codes ":") ∷ rest →
    (is_name name ≡ true) × (named out name ≡ Some (Place (slots_before slot k lines)))
unfolding with_lines
label_means names n slot [] out h k line name rest e f = absurd (none-some line e)
label_means names n slot (first ∷ lines) out h zero line name rest e f =
    let mid = line_then (with_line names (n + 1) slot (tokens_of first)) (n + 1) (slots_after slot first) lines out h in
    let here : first ≡ line = same_Some first line e in
    let is = labelled names (n + 1) slot (tokens_of first) name rest mid.0 (ap tokens_of here ∙ f) mid.1 in (
      is.0,
      lines_keep mid.0 (n + 1) (slots_after slot first) lines out
          (names_behind (with_line names (n + 1) slot (tokens_of first)) mid.0 (n + 1) (slots_after slot first) lines out mid.1 h) name (Place slot) is.1,
    )
label_means names n slot (first ∷ lines) out h (suc k) line name rest e f =
    let mid = line_then (with_line names (n + 1) slot (tokens_of first)) (n + 1) (slots_after slot first) lines out h in
    label_means mid.0 (n + 1) (slots_after slot first) lines out
    (names_behind (with_line names (n + 1) slot (tokens_of first)) mid.0 (n + 1) (slots_after slot first) lines out mid.1 h) k line name rest e f

-- Statements.

feed_split : (line more : List ℕ) → clean line ≡ true → lines_in (line ++ 10 ∷ more) ≡ line ∷ lines_in more
feed_split [] more h = slice_split-cons_yes (λ b. b == 10) 10 more refl
feed_split (b ∷ line) more h =
    let parts = and_parts (not (b == 10)) (clean line) h in
    slice_split-cons_no (λ b. b == 10) b (line ++ 10 ∷ more) (not_true (b == 10) parts.0) ∙ ap (onto_first b) (feed_split line more parts.1)

statements_by : (line more : List ℕ) (b : Bool) → clean line ≡ true → is_comment line ≡ b →
    statements_in (line ++ 10 ∷ more) ≡ cond (not b) (line ∷ statements_in more) (statements_in more)
statements_by line more b h e =
    ap (filter (λ l. not (is_comment l))) (feed_split line more h) ∙
    ap (λ (c : Bool). cond (not c) (line ∷ statements_in more) (statements_in more)) e

-- a line, and the lines below it
record IsStep (m : Meanings) (n slot : ℕ) (line : List ℕ) (lines : List (List ℕ)) (text : List ℕ) : Type 0 where
  first : List ℕ
  first_is : line_text m (n + 1) slot line ≡ Ok first
  more : List ℕ
  more_is : lines_text m (n + 1) (slots_after slot line) lines ≡ Ok more
  text_is : text ≡ first ++ 10 ∷ more
  is_clean : clean first ≡ true

fed_part : (a : Text) (x : List ℕ) → fed a ≡ Ok x → (y : List ℕ) × (a ≡ Ok y) × (x ≡ y ++ 10 ∷ [])
fed_part (Ok y) x e = (y, refl, sym (cc e))
fed_part (Err f) x e = cc e

clean_of : (a : Text) (x : List ℕ) → a ≡ Ok x → IsClean a → clean x ≡ true
clean_of (Ok y) x e h = let same : y ≡ x = cc e in ap clean (sym same) ∙ h
clean_of (Err f) x e h = cc e

step_of : (m : Meanings) (n slot : ℕ) (line : List ℕ) (lines : List (List ℕ)) (text : List ℕ) → clean line ≡ true →
    lines_text m n slot (line ∷ lines) ≡ Ok text → IsStep m n slot line lines text
unfolding lines_text
step_of m n slot line lines text h e =
    let parts = joined_parts [] text (fed (line_text m (n + 1) slot line)) (lines_text m (n + 1) (slots_after slot line) lines) e in
    let first = fed_part (line_text m (n + 1) slot line) parts.0 parts.2 in
    record {
      first = first.0;
      first_is = first.1;
      more = parts.1;
      more_is = parts.3;
      text_is = parts.4 ∙ ap (λ (w : List ℕ). w ++ parts.1) first.2 ∙ append_assoc first.0 (10 ∷ []) parts.1;
      is_clean = clean_of (line_text m (n + 1) slot line) first.0 first.1 (line_clean m (n + 1) slot line h);
    }

-- a line without an instruction adds no statement
record IsQuietStep (line more : List ℕ) (program : List Insn) (slot : ℕ) : Type 0 where
  none : has_instruction line ≡ false
  lines : statements_in more ≡ map line_of program
  slots : slots_after slot line ≡ slot

-- one with an instruction adds its line
record IsInsnStep (m : Meanings) (n slot : ℕ) (line first more : List ℕ) (program : List Insn) : Type 0 where
  some : has_instruction line ≡ true
  insn : Insn
  behind : List Insn
  program_is : program ≡ insn ∷ behind
  line_is : first ≡ line_of insn
  lines : statements_in more ≡ map line_of behind
  slots : slots_after slot line ≡ slot + slot_count insn

quiet_step : (m : Meanings) (n slot : ℕ) (line : List ℕ) (lines : List (List ℕ)) (text : List ℕ) (program : List Insn)
    (s : IsStep m n slot line lines text) → statements_in text ≡ map line_of program → instruction_in (tokens_of line) ≡ [] →
    IsQuietStep line s.more program slot
quiet_step m n slot line lines text program s e none =
    let empty : [] ≡ s.first = ok_same [] s.first (ap (instruction_text m (n + 1) slot) (sym none) ∙ s.first_is) in
    record {
      none = ap (λ (ts : List (List ℕ)). not (is_end ts)) none;
      lines = sym (statements_by s.first s.more true s.is_clean (ap is_comment (sym empty))) ∙ ap statements_in (sym s.text_is) ∙ e;
      slots = ap (λ (ts : List (List ℕ)). slot + slots_of ts) none ∙ (let z : slot + 0 ≡ slot = omega arith in z);
    }

insn_by : (m : Meanings) (n slot : ℕ) (line : List ℕ) (lines : List (List ℕ)) (text : List ℕ) (program : List Insn)
    (s : IsStep m n slot line lines text) (name : List ℕ) (rest : List (List ℕ)) → instruction_in (tokens_of line) ≡ name ∷ rest →
    (s.first ∷ statements_in s.more) ≡ map line_of program → IsInsnStep m n slot line s.first s.more program
insn_by m n slot line lines text [] s name rest tokens e = absurd (cons-nil s.first (statements_in s.more) e)
insn_by m n slot line lines text (i ∷ program) s name rest tokens e =
    let here : s.first ≡ line_of i = heads s.first (line_of i) (statements_in s.more) (map line_of program) e in
    let words = subst (λ (ts : List (List ℕ)). are_tokens ts ≡ true) tokens (instruction_tokens line) in
    let is : instruction_text m (n + 1) slot (name ∷ rest) ≡ Ok (line_of i) =
    ap (instruction_text m (n + 1) slot) (sym tokens) ∙ s.first_is ∙ ap (λ (t : List ℕ). Ok t) here in
    record {
      some = ap (λ (ts : List (List ℕ)). not (is_end ts)) tokens;
      insn = i;
      behind = program;
      program_is = refl;
      line_is = here;
      lines = tails s.first (line_of i) (statements_in s.more) (map line_of program) e;
      slots = ap (λ (ts : List (List ℕ)). slot + slots_of ts) tokens ∙
          ap (λ (k : ℕ). slot + k) (slots_are m (n + 1) slot (name ∷ rest) i (text_of_insn m (n + 1) slot name rest i words is));
    }

insn_step : (m : Meanings) (n slot : ℕ) (line : List ℕ) (lines : List (List ℕ)) (text : List ℕ) (program : List Insn)
    (s : IsStep m n slot line lines text) (name : List ℕ) (rest : List (List ℕ)) → instruction_in (tokens_of line) ≡ name ∷ rest →
    statements_in text ≡ map line_of program → IsInsnStep m n slot line s.first s.more program
insn_step m n slot line lines text program s name rest tokens e =
    let words = subst (λ (ts : List (List ℕ)). are_tokens ts ≡ true) tokens (instruction_tokens line) in
    let comment = no_comment m (n + 1) slot name rest s.first words (ap (instruction_text m (n + 1) slot) (sym tokens) ∙ s.first_is) in
    insn_by m n slot line lines text program s name rest tokens
    (sym (statements_by s.first s.more false s.is_clean comment) ∙ ap statements_in (sym s.text_is) ∙ e)

abbrev count : ℕ → List (List ℕ) → ℕ
count k lines = count_by has_instruction (take k lines)

-- the slots before a line are those of the instructions above it
before_by : (slot slot2 : ℕ) (i : Insn) (program : List Insn) (k next : ℕ) → slot2 ≡ slot + slot_count i → next ≡ slot2 + slot_total (take k program) →
    next ≡ slot + slot_total (i ∷ take k program)
before_by slot slot2 i program k next e f =
    let whole : slot_total (i ∷ take k program) ≡ slot_count i + slot_total (take k program) = sum_by-cons slot_count i (take k program) in
    omega arith

count_first : (k : ℕ) (line : List ℕ) (lines : List (List ℕ)) → count (suc k) (line ∷ lines) ≡ cond (has_instruction line) 1 0 + count k lines
count_first k line lines = sum_by-cons (λ l. cond (has_instruction l) 1 0) line (take k lines)

count_yes : (k : ℕ) (line : List ℕ) (lines : List (List ℕ)) → has_instruction line ≡ true → count (suc k) (line ∷ lines) ≡ suc (count k lines)
count_yes k line lines e =
    let one : 1 + count k lines ≡ suc (count k lines) = omega arith in
    count_first k line lines ∙ ap (λ (b : Bool). cond b 1 0 + count k lines) e ∙ one

count_no : (k : ℕ) (line : List ℕ) (lines : List (List ℕ)) → has_instruction line ≡ false → count (suc k) (line ∷ lines) ≡ count k lines
count_no k line lines e =
    let none : 0 + count k lines ≡ count k lines = omega arith in
    count_first k line lines ∙ ap (λ (b : Bool). cond b 1 0 + count k lines) e ∙ none

before_quiet : (slot k : ℕ) (line more : List ℕ) (lines : List (List ℕ)) (program : List Insn) → IsQuietStep line more program slot →
    (slots_before (slots_after slot line) k lines ≡ slots_after slot line + slot_total (take (count k lines) program)) →
    slots_before (slots_after slot line) k lines ≡ slot + slot_total (take (count (suc k) (line ∷ lines)) program)
before_quiet slot k line more lines program s h =
    h ∙ ap (λ (j : ℕ). j + slot_total (take (count k lines) program)) s.slots ∙
    ap (λ (j : ℕ). slot + slot_total (take j program)) (sym (count_no k line lines s.none))

before_insn : (m : Meanings) (n slot k : ℕ) (line first more : List ℕ) (lines : List (List ℕ)) (program : List Insn) →
    (s : IsInsnStep m n slot line first more program) →
    (slots_before (slots_after slot line) k lines ≡ slots_after slot line + slot_total (take (count k lines) s.behind)) →
    slots_before (slots_after slot line) k lines ≡ slot + slot_total (take (count (suc k) (line ∷ lines)) program)
before_insn m n slot k line first more lines program s h =
    before_by slot (slots_after slot line) s.insn s.behind (count k lines) (slots_before (slots_after slot line) k lines) s.slots h ∙
    ap (λ (p : List Insn). slot + slot_total (take (suc (count k lines)) p)) (sym s.program_is) ∙
    ap (λ (j : ℕ). slot + slot_total (take j program)) (sym (count_yes k line lines s.some))

before_step : (m : Meanings) (n slot k : ℕ) (line : List ℕ) (lines : List (List ℕ)) (text : List ℕ) (program : List Insn)
    (s : IsStep m n slot line lines text) (tokens : List (List ℕ)) → instruction_in (tokens_of line) ≡ tokens → statements_in text ≡ map line_of program →
    ((p : List Insn) → statements_in s.more ≡ map line_of p →
    slots_before (slots_after slot line) k lines ≡ slots_after slot line + slot_total (take (count k lines) p)) →
    slots_before (slots_after slot line) k lines ≡ slot + slot_total (take (count (suc k) (line ∷ lines)) program)
before_step m n slot k line lines text program s [] e f more =
    let quiet = quiet_step m n slot line lines text program s f e in
    before_quiet slot k line s.more lines program quiet (more program quiet.lines)
before_step m n slot k line lines text program s (name ∷ rest) e f more =
    let i = insn_step m n slot line lines text program s name rest e f in
    before_insn m n slot k line s.first s.more lines program i (more i.behind i.lines)

slots_are_before : (m : Meanings) (n slot : ℕ) (lines : List (List ℕ)) (text : List ℕ) (program : List Insn) → all_clean lines ≡ true →
    lines_text m n slot lines ≡ Ok text → statements_in text ≡ map line_of program → (k : ℕ) →
    slots_before slot k lines ≡ slot + slot_total (take (count k lines) program)
slots_are_before m n slot lines text program h e f zero = let z : slot ≡ slot + 0 = omega arith in z
slots_are_before m n slot [] text program h e f (suc k) = let z : slot ≡ slot + 0 = omega arith in z
slots_are_before m n slot (line ∷ lines) text program h e f (suc k) =
    let parts = and_parts (clean line) (all_clean lines) h in
    let step = step_of m n slot line lines text parts.0 e in
    before_step m n slot k line lines text program step (instruction_in (tokens_of line)) refl f
    (λ p g. slots_are_before m (n + 1) (slots_after slot line) lines step.more p parts.1 step.more_is g k)

-- the instruction of a line
record IsInsnOf (m : Meanings) (slot : ℕ) (lines : List (List ℕ)) (text : List ℕ) (program : List Insn) (k : ℕ) (line : List ℕ) : Type 0 where
  insn : Insn
  insn_is : slice_get program (count k lines) ≡ Some insn
  number : ℕ
  text_is : line_text m number (slots_before slot k lines) line ≡ Ok (line_of insn)
  line_is : slice_get (lines_of text) k ≡ Some (line_of insn)

here_by : (m : Meanings) (n slot : ℕ) (line : List ℕ) (lines : List (List ℕ)) (text : List ℕ) (program : List Insn) → clean line ≡ true →
    (s : IsStep m n slot line lines text) → (name : List ℕ) (rest : List (List ℕ)) → instruction_in (tokens_of line) ≡ name ∷ rest →
    statements_in text ≡ map line_of program → IsInsnOf m slot (line ∷ lines) text program 0 line
here_by m n slot line lines text program h s name rest tokens f =
    let i = insn_step m n slot line lines text program s name rest tokens f in
    record {
      insn = i.insn;
      insn_is = ap (λ (p : List Insn). slice_get p 0) i.program_is;
      number = n + 1;
      text_is = s.first_is ∙ ap (λ (t : List ℕ). Ok t) i.line_is;
      line_is = ap (λ (t : List ℕ). slice_get (lines_of t) 0) s.text_is ∙ ap (λ (ls : List (List ℕ)). slice_get ls 0) (one_line s.first s.more s.is_clean) ∙
          ap (λ (t : List ℕ). Some t) i.line_is;
    }

line_behind : (first more text : List ℕ) (k : ℕ) → text ≡ first ++ 10 ∷ more → clean first ≡ true →
    slice_get (lines_of text) (suc k) ≡ slice_get (lines_of more) k
line_behind first more text k e h =
    ap (λ (t : List ℕ). slice_get (lines_of t) (suc k)) e ∙ ap (λ (ls : List (List ℕ)). slice_get ls (suc k)) (one_line first more h)

quiet_below : (m : Meanings) (n slot : ℕ) (first : List ℕ) (lines : List (List ℕ)) (text : List ℕ) (program : List Insn) (k : ℕ) (line : List ℕ)
    (s : IsStep m n slot first lines text) → IsQuietStep first s.more program slot →
    IsInsnOf m (slots_after slot first) lines s.more program k line → IsInsnOf m slot (first ∷ lines) text program (suc k) line
quiet_below m n slot first lines text program k line s q below = record {
  insn = below.insn;
  insn_is = ap (slice_get program) (count_no k first lines q.none) ∙ below.insn_is;
  number = below.number;
  text_is = below.text_is;
  line_is = line_behind s.first s.more text k s.text_is s.is_clean ∙ below.line_is;
}

insn_below : (m : Meanings) (n slot : ℕ) (first : List ℕ) (lines : List (List ℕ)) (text : List ℕ) (program : List Insn) (k : ℕ) (line : List ℕ)
    (s : IsStep m n slot first lines text) (i : IsInsnStep m n slot first s.first s.more program) →
    IsInsnOf m (slots_after slot first) lines s.more i.behind k line → IsInsnOf m slot (first ∷ lines) text program (suc k) line
insn_below m n slot first lines text program k line s i below = record {
  insn = below.insn;
  insn_is = ap (slice_get program) (count_yes k first lines i.some) ∙ ap (λ (p : List Insn). slice_get p (suc (count k lines))) i.program_is ∙ below.insn_is;
  number = below.number;
  text_is = below.text_is;
  line_is = line_behind s.first s.more text k s.text_is s.is_clean ∙ below.line_is;
}

below_step : (m : Meanings) (n slot : ℕ) (first : List ℕ) (lines : List (List ℕ)) (text : List ℕ) (program : List Insn) (k : ℕ) (line : List ℕ)
    (s : IsStep m n slot first lines text) (tokens : List (List ℕ)) → instruction_in (tokens_of first) ≡ tokens → statements_in text ≡ map line_of program →
    ((p : List Insn) → statements_in s.more ≡ map line_of p → IsInsnOf m (slots_after slot first) lines s.more p k line) →
    IsInsnOf m slot (first ∷ lines) text program (suc k) line
below_step m n slot first lines text program k line s [] e f more =
    let quiet = quiet_step m n slot first lines text program s f e in
    quiet_below m n slot first lines text program k line s quiet (more program quiet.lines)
below_step m n slot first lines text program k line s (name ∷ rest) e f more =
    let i = insn_step m n slot first lines text program s name rest e f in
    insn_below m n slot first lines text program k line s i (more i.behind i.lines)

insn_of_line : (m : Meanings) (n slot : ℕ) (lines : List (List ℕ)) (text : List ℕ) (program : List Insn) → all_clean lines ≡ true →
    lines_text m n slot lines ≡ Ok text → statements_in text ≡ map line_of program → (k : ℕ) (line name : List ℕ) (rest : List (List ℕ)) →
    slice_get lines k ≡ Some line → instruction_in (tokens_of line) ≡ name ∷ rest → IsInsnOf m slot lines text program k line
insn_of_line m n slot [] text program h e f k line name rest at tokens = absurd (none-some line at)
insn_of_line m n slot (first ∷ lines) text program h e f zero line name rest at tokens =
    let parts = and_parts (clean first) (all_clean lines) h in
    let step = step_of m n slot first lines text parts.0 e in
    let here : first ≡ line = same_Some first line at in
    subst (λ (l : List ℕ). IsInsnOf m slot (first ∷ lines) text program 0 l) here
    (here_by m n slot first lines text program parts.0 step name rest (ap (λ (l : List ℕ). instruction_in (tokens_of l)) here ∙ tokens) f)
insn_of_line m n slot (first ∷ lines) text program h e f (suc k) line name rest at tokens =
    let parts = and_parts (clean first) (all_clean lines) h in
    let step = step_of m n slot first lines text parts.0 e in
    below_step m n slot first lines text program k line step (instruction_in (tokens_of first)) refl f
    (λ p g. insn_of_line m (n + 1) (slots_after slot first) lines step.more p parts.1 step.more_is g k line name rest at tokens)

-- The laws.

-- the instruction of an index begins behind the slots of those before it
insn_at_taken : (program : List Insn) (k : ℕ) (i : Insn) → slice_get program k ≡ Some i → insn_at program (slot_total (take k program)) ≡ Some i
insn_at_taken [] k i e = absurd (none-some i e)
insn_at_taken (j ∷ program) zero i e = e
insn_at_taken (j ∷ program) (suc k) i e =
    let whole : slot_total (j ∷ take k program) ≡ slot_count j + slot_total (take k program) = sum_by-cons slot_count j (take k program) in
    let rest : slot_total (j ∷ take k program) - slot_count j ≡ slot_total (take k program) = omega arith in
    insn_at-beyond j program (slot_total (j ∷ take k program)) (omega arith) ∙ ap (insn_at program) rest ∙ insn_at_taken program k i e

-- the names and the lines of a source that has a plain text
record HasPlain (maps : List ℕ → Option ℕ) (source text : List ℕ) : Type 0 where
  names : List Binding
  names_are : names_in source ≡ Ok names
  text_is : lines_text (record { names = names; map = maps }) 0 0 (lines_of source) ≡ Ok text

has_plain_by : (maps : List ℕ → Option ℕ) (source text : List ℕ) (names : Names) → names_in source ≡ names → text_with maps source names ≡ Ok text →
    HasPlain maps source text
has_plain_by maps source text (Ok names) e h = record { names = names; names_are = e; text_is = h }
has_plain_by maps source text (Err f) e h = cc h

some_tokens : (line : List ℕ) (tokens : List (List ℕ)) → instruction_in (tokens_of line) ≡ tokens → has_instruction line ≡ true →
    (name : List ℕ) × (rest : List (List ℕ)) × (instruction_in (tokens_of line) ≡ name ∷ rest)
some_tokens line [] e h = absurd (let no : false ≡ true = ap (λ (ts : List (List ℕ)). not (is_end ts)) (sym e) ∙ h in false≢true no)
some_tokens line (name ∷ rest) e h = (name, rest, e)

pub stands : (maps : List ℕ → Option ℕ) (source text : List ℕ) (program : List Insn) → plain maps source ≡ Ok text →
    statements_in text ≡ map line_of program → (n : ℕ) (line : List ℕ) → slice_get (lines_of source) n ≡ Some line →
    has_instruction line ≡ true → StandsAtLine source text program n
stands maps source text program e f n line at some =
    let h = has_plain_by maps source text (names_in source) refl e in
    let words = some_tokens line (instruction_in (tokens_of line)) refl some in
    let i = insn_of_line (record { names = h.names; map = maps }) 0 0 (lines_of source) text program (lines_clean source) h.text_is f n line
    words.0 words.1 at words.2 in
    record {
      instruction = i.insn;
      line_is = i.line_is;
      is_at = insn_at_taken program (instructions_above source n) i.insn i.insn_is;
    }

none_more : (n : ℕ) → 0 + n ≡ n
none_more n = omega arith

pub leads : (maps : List ℕ → Option ℕ) (source text : List ℕ) (program : List Insn) → plain maps source ≡ Ok text →
    statements_in text ≡ map line_of program → (from to : ℕ) (name : List ℕ) →
    JumpsByName source from name → HasLabel source to name → LeadsToLine source program from to
leads maps source text program e f from to name jumps label =
    let h = has_plain_by maps source text (names_in source) refl e in
    let m : Meanings = record { names = h.names; map = maps } in
    let means = label_means [] 0 0 (lines_of source) h.names h.names_are to label.line name label.rest label.line_is label.tokens in
    let at : slots_before 0 to (lines_of source) ≡ place_of source program to =
    slots_are_before m 0 0 (lines_of source) text program (lines_clean source) h.text_is f to ∙ none_more (place_of source program to) in
    let slots : slots_before 0 from (lines_of source) ≡ place_of source program from =
    slots_are_before m 0 0 (lines_of source) text program (lines_clean source) h.text_is f from ∙ none_more (place_of source program from) in
    let i = insn_of_line m 0 0 (lines_of source) text program (lines_clean source) h.text_is f from jumps.line jumps.jump (jumps.front ++ name ∷ [])
    jumps.line_is jumps.tokens in
    let words = subst (λ (ts : List (List ℕ)). are_tokens ts ≡ true) jumps.tokens (instruction_tokens jumps.line) in
    let place : named m.names name ≡ Some (Place (place_of source program to)) = means.1 ∙ ap (λ (k : ℕ). Some (Place k)) at in
    let is : instruction_text m i.number (place_of source program from) (jumps.jump ∷ (jumps.front ++ name ∷ [])) ≡ Ok (line_of i.insn) =
    ap (λ (ts : List (List ℕ)). instruction_text m i.number (place_of source program from) ts) (sym jumps.tokens) ∙
    ap (λ (k : ℕ). line_text m i.number k jumps.line) (sym slots) ∙ i.text_is in
    record {
      jump = i.insn;
      jump_is = insn_at_taken program (instructions_above source from) i.insn i.insn_is;
      leads = jump_leads m i.number (place_of source program from) jumps.jump jumps.front name (place_of source program to) i.insn words jumps.jump_is
          means.0 place is;
    }
