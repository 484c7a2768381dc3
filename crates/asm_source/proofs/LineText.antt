-- What the text of a line says of its tokens, and of the instruction that it is the line of.
use Rattle.bpf_model.proofs.Prelude.{ℕ, ◌≡◌, ◌+◌, ◌-◌, ◌<◌, ◌≤◌, ◌==◌, Bool, true, false, not, ◌&&◌, ◌||◌, cond, List, [], ◌∷◌, ◌++◌, refl, sym, ap, get_or}
use Rattle.bpf_model.proofs.Prelude.{◌∙◌, append_assoc, arith, ◌⊎◌, inl, inr, map, nat_lt, Option, Some, None, is_some, Result, Ok, Err, codes, bytes_eq, ℤ}
use Rattle.bpf_model.proofs.Prelude.{pos, negsuc, ◌+ℤ◌, onto_first, digits_of, first_digits_of, same_from_digits_of, eq-zero-or-pos, and_parts, append-nil}
use Rattle.bpf_model.proofs.Prelude.{nat_tests, ints, heads, tails, slot_count, distance}
use Rattle.bpf_model.specs.declared.insn.Insn.{Insn}
use Rattle.bpf_model.specs.declared.insn.Insn.TheVariants as insn
use Rattle.bpf_model.specs.declared.insn.Operand.TheVariants as operand
use Rattle.bpf_model.specs.declared.insn.UnaryOp.TheVariants as unary
use Rattle.bpf_model.specs.declared.insn.AluOp.TheVariants as alu
use Rattle.bpf_model.specs.declared.insn.CallKind.TheVariants.{Helper, Kernel}
use Rattle.bpf_model.specs.declared.opcode.Condition.TheVariants as condition
use Rattle.bpf_model.specs.declared.opcode.ByteOrder.TheVariants.{ToLittle, ToBig, Swap}
use Rattle.disasm.specs.declared.statement.Arguments.{Arguments}
use Rattle.disasm.specs.declared.statement.Arguments.TheVariants.{Zero, One, Two, Three}
use Rattle.disasm.specs.Text.{glyph, glyphs, numeral, sign_text, sign_of, magnitude, argument_text, arguments_text, mnemonic_text, mnemonic_of}
use Rattle.disasm.specs.Text.{text_arguments, source_argument, line_of}
use Rattle.disasm.proofs.Numerals.{above_zero}
use Rattle.asm.specs.Faults.{is_comment}
use Rattle.asm_source.specs.Tokens.{is_blank, is_letter, begins_word, tokens_of}
use Rattle.asm_source.specs.Names.{begins_name, is_register, is_name, is_constant, label_in, instruction_in, slots_of, named}
use Rattle.asm_source.specs.Plain.{Meanings, role_of, word_text, distance_text, label_text, name_text, last_text, gap, joined, is_end, token_text}
use Rattle.asm_source.specs.Plain.{tokens_text, instruction_text}
use Rattle.asm_source.specs.declared.names.Meaning.{Meaning}
use Rattle.asm_source.specs.declared.names.Meaning.TheVariants.{Place}
use Rattle.asm_source.specs.declared.site.Role.{Role}
use Rattle.asm_source.specs.declared.site.Role.TheVariants as role
use Rattle.asm_source.specs.declared.site.Site.{Site}
use Rattle.asm_source.specs.declared.fault.SourceFault.{SourceFault}
use Rattle.asm_source.proofs.MnemonicLaws.{is_low, is_figure, is_plain, mnemonic_plain}
use Rattle.asm_source.proofs.FixedLaws.{figures, numeral_figures}
use Rattle.asm_source.proofs.KeptLaws.{both, not_true}

abbrev Text : Type 0
Text = Result (List ℕ) SourceFault

-- Tokens: none is empty or has a blank or a `;`.

abbrev solid_byte : ℕ → Bool
solid_byte b = not (b == 59) && not (is_blank b)

abbrev solid : List ℕ → Bool
solid [] = true
solid (b ∷ w) = solid_byte b && solid w

abbrev is_token : List ℕ → Bool
is_token [] = false
is_token (b ∷ w) = solid (b ∷ w)

abbrev pub are_tokens : List (List ℕ) → Bool
are_tokens [] = true
are_tokens (w ∷ ws) = is_token w && are_tokens ws

token_solid : (w : List ℕ) → is_token w ≡ true → solid w ≡ true
token_solid [] h = refl
token_solid (b ∷ w) h = h

onto_tokens : (b : ℕ) (ws : List (List ℕ)) → solid_byte b ≡ true → are_tokens ws ≡ true → are_tokens (onto_first b ws) ≡ true
onto_tokens b [] e h = both (solid (b ∷ [])) true (both (solid_byte b) true e refl) refl
onto_tokens b (w ∷ ws) e h =
    let parts = and_parts (is_token w) (are_tokens ws) h in
    both (solid (b ∷ w)) (are_tokens ws) (both (solid_byte b) (solid w) e (token_solid w parts.0)) parts.1

solid_by : (b : ℕ) → (b == 59) ≡ false → is_blank b ≡ false → solid_byte b ≡ true
solid_by b e f = rw (e, f) refl

by_tests : (b : ℕ) (line : List ℕ) (comment blank goes_on : Bool) → (b == 59) ≡ comment → is_blank b ≡ blank →
    are_tokens (tokens_of line) ≡ true →
    are_tokens (cond comment [] (cond blank (tokens_of line) (cond goes_on (onto_first b (tokens_of line)) ((b ∷ []) ∷ tokens_of line)))) ≡ true
by_tests b line true blank goes_on e f h = refl
by_tests b line false true goes_on e f h = h
by_tests b line false false true e f h = onto_tokens b (tokens_of line) (solid_by b e f) h
by_tests b line false false false e f h =
    both (solid (b ∷ [])) (are_tokens (tokens_of line)) (both (solid_byte b) true (solid_by b e f) refl) h

tokens_are : (line : List ℕ) → are_tokens (tokens_of line) ≡ true
tokens_are [] = refl
tokens_are (b ∷ line) = by_tests b line (b == 59) (is_blank b) (is_letter b && begins_word line) refl refl (tokens_are line)

picked : (constant : Bool) (label : Option (List ℕ)) (first : List ℕ) (rest : List (List ℕ)) → are_tokens rest ≡ true → are_tokens (first ∷ rest) ≡ true →
    are_tokens (cond constant [] (cond (is_some label) rest (first ∷ rest))) ≡ true
picked true label first rest e f = refl
picked false None first rest e f = f
picked false (Some name) first rest e f = e

behind_label : (tokens : List (List ℕ)) → are_tokens tokens ≡ true → are_tokens (instruction_in tokens) ≡ true
behind_label [] h = refl
behind_label (first ∷ rest) h = picked (is_constant first) (label_in first) first rest (and_parts (is_token first) (are_tokens rest) h).1 h

pub instruction_tokens : (line : List ℕ) → are_tokens (instruction_in (tokens_of line)) ≡ true
instruction_tokens line = behind_label (tokens_of line) (tokens_are line)

-- The parts of texts that are joined.

pub ok_same : (x y : List ℕ) → (let a : Text = Ok x in a ≡ Ok y) → x ≡ y
ok_same x y e = cc e

pub joined_parts : (between t : List ℕ) (a b : Text) → joined between a b ≡ Ok t →
    (x : List ℕ) × (y : List ℕ) × (a ≡ Ok x) × (b ≡ Ok y) × (t ≡ between ++ x ++ y)
joined_parts between t (Ok x) (Ok y) e = (x, y, refl, refl, cc e)
joined_parts between t (Ok x) (Err f) e = cc e
joined_parts between t (Err f) b e = cc e

-- nothing, or a space first
abbrev IsBehind : List ℕ → Type 0
IsBehind t = (t ≡ []) ⊎ ((u : List ℕ) × (t ≡ 32 ∷ u))

tail_behind : (m : Meanings) (site : Site) (rest : List (List ℕ)) (t : List ℕ) → tokens_text m site (codes ",") rest ≡ Ok t → IsBehind t
unfolding tokens_text
tail_behind m site [] t e = let none : t ≡ [] = cc e in inl none
tail_behind m site (token ∷ rest) t e =
    let parts = joined_parts (codes " ") t (token_text m site (codes ",") token (is_end rest)) (tokens_text m site token rest) e in
    inr (parts.0 ++ parts.1, parts.4)

arguments_behind : (args : Arguments) → IsBehind (arguments_text args)
arguments_behind Zero = inl refl
arguments_behind (One a) = inr (argument_text a, refl)
arguments_behind (Two a b) = inr (argument_text a ++ codes ", " ++ argument_text b, refl)
arguments_behind (Three a b c) = inr (argument_text a ++ codes ", " ++ argument_text b ++ codes ", " ++ argument_text c, refl)

-- a text is cut at its first space in one way
abbrev pub unspaced : List ℕ → Bool
unspaced [] = true
unspaced (b ∷ w) = not (b == 32) && unspaced w

space_no : (b : ℕ) (w : List ℕ) → unspaced (b ∷ w) ≡ true → b ≡ 32 → ⊥
space_no b w h e =
    let parts = and_parts (not (b == 32)) (unspaced w) h in
    let test : (b == 32) ≡ false = not_true (b == 32) parts.0 in
    grind (arith, nat_tests)

word_or_space : (t : List ℕ) (b : ℕ) (w u : List ℕ) → IsBehind t → unspaced (b ∷ w) ≡ true → t ≡ b ∷ u → ⊥
word_or_space t b w u (inl none) h e = let no : [] ≡ b ∷ u = sym none ∙ e in cc no
word_or_space t b w u (inr s) h e = space_no b w h (sym (heads 32 b s.0 u (sym s.1 ∙ e)))

pub cut_once : (v w t u : List ℕ) → unspaced v ≡ true → unspaced w ≡ true → IsBehind t → IsBehind u → v ++ t ≡ w ++ u → v ≡ w
cut_once [] [] t u e f g h same = refl
cut_once [] (b ∷ w) t u e f g h same = absurd (word_or_space t b w (w ++ u) g f same)
cut_once (b ∷ v) [] t u e f g h same = absurd (word_or_space u b v (v ++ t) h e (sym same))
cut_once (b ∷ v) (d ∷ w) t u e f g h same =
    let first : b ≡ d = heads b d (v ++ t) (w ++ u) same in
    let more = cut_once v w t u (and_parts (not (b == 32)) (unspaced v) e).1 (and_parts (not (d == 32)) (unspaced w) f).1 g h
    (tails b d (v ++ t) (w ++ u) same) in
    rw (first, more) refl

solid_unspaced_byte : (b : ℕ) → solid_byte b ≡ true → not (b == 32) ≡ true
solid_unspaced_byte b h = grind (arith, nat_tests)

solid_unspaced : (w : List ℕ) → solid w ≡ true → unspaced w ≡ true
solid_unspaced [] h = refl
solid_unspaced (b ∷ w) h =
    let parts = and_parts (solid_byte b) (solid w) h in
    both (not (b == 32)) (unspaced w) (solid_unspaced_byte b parts.0) (solid_unspaced w parts.1)

plain_unspaced_byte : (b : ℕ) → (is_low b || is_figure b) ≡ true → not (b == 32) ≡ true
plain_unspaced_byte b h = grind (arith, nat_tests)

plain_unspaced : (w : List ℕ) → is_plain w ≡ true → unspaced w ≡ true
plain_unspaced [] h = refl
plain_unspaced (b ∷ w) h =
    let parts = and_parts (is_low b || is_figure b) (is_plain w) h in
    both (not (b == 32)) (unspaced w) (plain_unspaced_byte b parts.0) (plain_unspaced w parts.1)

-- An instruction's line.

-- what the text of an instruction says of it
pub record IsText (m : Meanings) (line slot : ℕ) (tokens : List (List ℕ)) (i : Insn) : Type 0 where
  pub name : List ℕ
  pub rest : List (List ℕ)
  pub tokens_are : tokens ≡ name ∷ rest
  pub name_is : name ≡ mnemonic_text (mnemonic_of i)
  pub text : List ℕ
  pub text_is : tokens_text m (record { role = role_of name; line = line; slot = slot }) (codes ",") rest ≡ Ok text
  pub line_is : line_of i ≡ name ++ text

pub text_of_insn : (m : Meanings) (line slot : ℕ) (name : List ℕ) (rest : List (List ℕ)) (i : Insn) →
    are_tokens (name ∷ rest) ≡ true → instruction_text m line slot (name ∷ rest) ≡ Ok (line_of i) → IsText m line slot (name ∷ rest) i
text_of_insn m line slot name rest i h e =
    let site : Site = record { role = role_of name; line = line; slot = slot } in
    let parts = joined_parts [] (line_of i) (Ok name) (tokens_text m site (codes ",") rest) e in
    let word : name ≡ parts.0 = ok_same name parts.0 parts.2 in
    let whole : line_of i ≡ name ++ parts.1 = parts.4 ∙ ap (λ (w : List ℕ). w ++ parts.1) (sym word) in
    record {
      name = name;
      rest = rest;
      tokens_are = refl;
      name_is = cut_once name (mnemonic_text (mnemonic_of i)) parts.1 (arguments_text (text_arguments i))
          (solid_unspaced name (token_solid name (and_parts (is_token name) (are_tokens rest) h).0))
          (plain_unspaced (mnemonic_text (mnemonic_of i)) (mnemonic_plain (mnemonic_of i)))
          (tail_behind m site rest parts.1 parts.3) (arguments_behind (text_arguments i)) (sym whole);
      text = parts.1;
      text_is = parts.3;
      line_is = whole;
    }

-- an instruction is no comment
solid_no_comment : (b : ℕ) → solid_byte b ≡ true → (b == 59) ≡ false
solid_no_comment b h = grind (arith, nat_tests)

begun : (name t : List ℕ) → is_token name ≡ true → is_comment (name ++ t) ≡ false
begun [] t h = cc h
begun (b ∷ name) t h = solid_no_comment b (and_parts (solid_byte b) (solid name) h).0

comment_by : (x y : List ℕ) → x ≡ y → is_comment y ≡ false → is_comment x ≡ false
comment_by x y e h = rw e h

pub no_comment : (m : Meanings) (line slot : ℕ) (name : List ℕ) (rest : List (List ℕ)) (x : List ℕ) →
    are_tokens (name ∷ rest) ≡ true → instruction_text m line slot (name ∷ rest) ≡ Ok x → is_comment x ≡ false
no_comment m line slot name rest x h e =
    let site : Site = record { role = role_of name; line = line; slot = slot } in
    let parts = joined_parts [] x (Ok name) (tokens_text m site (codes ",") rest) e in
    let word : name ≡ parts.0 = ok_same name parts.0 parts.2 in
    comment_by x (name ++ parts.1) (parts.4 ∙ ap (λ (w : List ℕ). w ++ parts.1) (sym word))
    (begun name parts.1 (and_parts (is_token name) (are_tokens rest) h).0)

-- The slots of an instruction.

slots_by : (i : Insn) (rest : List (List ℕ)) → slots_of (mnemonic_text (mnemonic_of i) ∷ rest) ≡ slot_count i
slots_by (insn.Alu alu.Add size dst src) rest = refl
slots_by (insn.Alu op size dst src) rest = refl
slots_by (insn.Unary (unary.Negate size) dst) rest = refl
slots_by (insn.Unary (unary.ByteSwap ToLittle width) dst) rest = refl
slots_by (insn.Unary (unary.ByteSwap ToBig width) dst) rest = refl
slots_by (insn.Unary (unary.ByteSwap Swap width) dst) rest = refl
slots_by (insn.Unary (unary.MoveSigned extension src) dst) rest = refl
slots_by (insn.LoadNumber dst number) rest = refl
slots_by (insn.LoadMap dst map) rest = refl
slots_by (insn.Jump offset) rest = refl
slots_by (insn.JumpLong imm) rest = refl
slots_by (insn.JumpIf condition.Equal size dst src offset) rest = refl
slots_by (insn.JumpIf condition size dst src offset) rest = refl
slots_by (insn.Call Helper imm) rest = refl
slots_by (insn.Call Kernel imm) rest = refl
slots_by insn.Exit rest = refl
slots_by (insn.Load width dst src offset) rest = refl
slots_by (insn.LoadSigned width dst src offset) rest = refl
slots_by (insn.Store width dst offset (operand.Register src)) rest = refl
slots_by (insn.Store width dst offset (operand.Immediate imm)) rest = refl

pub slots_are : (m : Meanings) (line slot : ℕ) (tokens : List (List ℕ)) (i : Insn) → IsText m line slot tokens i → slots_of tokens ≡ slot_count i
slots_are m line slot tokens i h =
    ap slots_of h.tokens_are ∙ ap (λ (w : List ℕ). slots_of (w ∷ h.rest)) h.name_is ∙ slots_by i h.rest

-- A jump, and the distance at its line's end.

record IsJump (i : Insn) : Type 0 where
  by : ℤ
  by_is : distance i ≡ Some by
  front : List ℕ
  line_is : line_of i ≡ front ++ sign_text (sign_of by) ++ numeral (magnitude by)

jump_of : (i : Insn) → role_of (mnemonic_text (mnemonic_of i)) ≡ role.Jump → IsJump i
jump_of (insn.Alu alu.Add size dst src) h = cc h
jump_of (insn.Alu op size dst src) h = cc h
jump_of (insn.Unary (unary.Negate size) dst) h = cc h
jump_of (insn.Unary (unary.ByteSwap ToLittle width) dst) h = cc h
jump_of (insn.Unary (unary.ByteSwap ToBig width) dst) h = cc h
jump_of (insn.Unary (unary.ByteSwap Swap width) dst) h = cc h
jump_of (insn.Unary (unary.MoveSigned extension src) dst) h = cc h
jump_of (insn.LoadNumber dst number) h = cc h
jump_of (insn.LoadMap dst map) h = cc h
jump_of (insn.Jump offset) h = record { by = offset; by_is = refl; front = codes "ja "; line_is = refl }
jump_of (insn.JumpLong imm) h = record { by = imm; by_is = refl; front = codes "ja32 "; line_is = refl }
jump_of (insn.JumpIf condition size dst src offset) h = record {
  by = offset;
  by_is = refl;
  front = mnemonic_text (mnemonic_of (insn.JumpIf condition size dst src offset)) ++ codes " r" ++ numeral dst ++ codes ", "
      ++ argument_text (source_argument src) ++ codes ", ";
  line_is = simp append_assoc;
}
jump_of (insn.Call Helper imm) h = cc h
jump_of (insn.Call Kernel imm) h = cc h
jump_of insn.Exit h = cc h
jump_of (insn.Load width dst src offset) h = cc h
jump_of (insn.LoadSigned width dst src offset) h = cc h
jump_of (insn.Store width dst offset (operand.Register src)) h = cc h
jump_of (insn.Store width dst offset (operand.Immediate imm)) h = cc h

-- a number has one numeral
digits_back : List ℕ → List ℕ
digits_back [] = []
digits_back (b ∷ bs) = (b - 48) ∷ digits_back bs

glyphs_back : (ds : List ℕ) → digits_back (map glyph ds) ≡ ds
unfolding digits_back
glyphs_back [] = refl
glyphs_back (d ∷ ds) =
    let e : 48 + d - 48 ≡ d = omega arith in
    rw (e, glyphs_back ds) refl

glyphs_injective : (m n : ℕ) → glyphs m ≡ glyphs n → m ≡ n
glyphs_injective m n e =
    same_from_digits_of 10 m n (omega arith) (sym (glyphs_back (digits_of 10 m)) ∙ ap digits_back e ∙ glyphs_back (digits_of 10 n))

first_above : (ds rest : List ℕ) → 0 < get_or ds 0 0 → map glyph ds ≡ 48 ∷ rest → ⊥
first_above [] rest h e = absurd (omega arith)
first_above (d ∷ ds) rest h e = let f : 48 + d ≡ 48 = heads (48 + d) 48 (map glyph ds) rest e in omega arith

glyphs_no_zero : (n : ℕ) → 0 < n → glyphs n ≡ 48 ∷ [] → ⊥
glyphs_no_zero n h e = first_above (digits_of 10 n) [] (first_digits_of 10 n (omega arith) h) e

numeral_injective : (m n : ℕ) → numeral m ≡ numeral n → m ≡ n
numeral_injective m n e = elim (eq-zero-or-pos m) [
  | inl mz ↦ elim (eq-zero-or-pos n) [
    | inl nz ↦ mz ∙ sym nz
    | inr np ↦ absurd (glyphs_no_zero n np (sym (above_zero n np) ∙ sym e ∙ ap numeral mz))
  ]
  | inr mp ↦ elim (eq-zero-or-pos n) [
    | inl nz ↦ absurd (glyphs_no_zero m mp (sym (above_zero m mp) ∙ e ∙ ap numeral nz))
    | inr np ↦ glyphs_injective m n (sym (above_zero m mp) ∙ e ∙ above_zero n np)
  ]
]

-- a text is cut in one way at a sign with digits alone behind it
last_figure : (b : List ℕ) (t : ℕ) (y : List ℕ) → figures (b ++ (t ∷ y)) ≡ true → is_figure t ≡ true
last_figure [] t y h = (and_parts (is_figure t) (figures y) h).0
last_figure (d ∷ b) t y h = last_figure b t y (and_parts (is_figure d) (figures (b ++ (t ∷ y))) h).1

no_sign : (s : ℕ) (x b : List ℕ) (d t : ℕ) (y : List ℕ) → figures x ≡ true → is_figure t ≡ false → s ∷ x ≡ d ∷ (b ++ (t ∷ y)) → ⊥
no_sign s x b d t y f g e =
    let digits : figures (b ++ (t ∷ y)) ≡ true = sym (ap figures (tails s d x (b ++ (t ∷ y)) e)) ∙ f in
    let figure : is_figure t ≡ true = last_figure b t y digits in
    let no : true ≡ false = sym figure ∙ g in
    cc no

sign_once : (a b : List ℕ) (s t : ℕ) (x y : List ℕ) → is_figure s ≡ false → is_figure t ≡ false → figures x ≡ true → figures y ≡ true →
    a ++ (s ∷ x) ≡ b ++ (t ∷ y) → (s ≡ t) × (x ≡ y)
sign_once [] [] s t x y e f g h same = (heads s t x y same, tails s t x y same)
sign_once [] (d ∷ b) s t x y e f g h same = absurd (no_sign s x b d t y g f same)
sign_once (c ∷ a) [] s t x y e f g h same = absurd (no_sign t y a c s x h e (sym same))
sign_once (c ∷ a) (d ∷ b) s t x y e f g h same =
    sign_once a b s t x y e f g h (tails c d (a ++ (s ∷ x)) (b ++ (t ∷ y)) same)

-- the distance that a line's end writes
ahead : (a b : List ℕ) (slot place n : ℕ) (d : ℤ) → slot < place → n ≡ place - (slot + 1) →
    a ++ (43 ∷ numeral n) ≡ b ++ sign_text (sign_of d) ++ numeral (magnitude d) → pos place ≡ pos (slot + 1) +ℤ d
ahead a b slot place n (pos k) less is e =
    let cut = sign_once a b 43 43 (numeral n) (numeral k) refl refl (numeral_figures n) (numeral_figures k)
    (e ∙ append_assoc b (43 ∷ []) (numeral k)) in
    let same : n ≡ k = numeral_injective n k cut.1 in
    omega (arith, ints)
ahead a b slot place n (negsuc k) less is e =
    let cut = sign_once a b 43 45 (numeral n) (numeral (k + 1)) refl refl (numeral_figures n) (numeral_figures (k + 1))
    (e ∙ append_assoc b (45 ∷ []) (numeral (k + 1))) in
    cc cut.0

back : (a b : List ℕ) (slot place n : ℕ) (d : ℤ) → place ≤ slot → n ≡ slot + 1 - place →
    a ++ (45 ∷ numeral n) ≡ b ++ sign_text (sign_of d) ++ numeral (magnitude d) → pos place ≡ pos (slot + 1) +ℤ d
back a b slot place n (pos k) less is e =
    let cut = sign_once a b 45 43 (numeral n) (numeral k) refl refl (numeral_figures n) (numeral_figures k)
    (e ∙ append_assoc b (43 ∷ []) (numeral k)) in
    cc cut.0
back a b slot place n (negsuc k) less is e =
    let cut = sign_once a b 45 45 (numeral n) (numeral (k + 1)) refl refl (numeral_figures n) (numeral_figures (k + 1))
    (e ∙ append_assoc b (45 ∷ []) (numeral (k + 1))) in
    let same : n ≡ k + 1 = numeral_injective n (k + 1) cut.1 in
    omega (arith, ints)

distance_by : (a b : List ℕ) (slot place : ℕ) (d : ℤ) (less : Bool) → nat_lt slot place ≡ less →
    a ++ cond less (43 ∷ numeral (place - (slot + 1))) (45 ∷ numeral (slot + 1 - place)) ≡ b ++ sign_text (sign_of d) ++ numeral (magnitude d) →
    pos place ≡ pos (slot + 1) +ℤ d
distance_by a b slot place d true h e =
    let less : slot < place = grind (arith, nat_tests) in
    ahead a b slot place (place - (slot + 1)) d less refl e
distance_by a b slot place d false h e =
    let less : place ≤ slot = grind (arith, nat_tests) in
    back a b slot place (slot + 1 - place) d less refl e

-- a jump by a name

letter_no_bracket : (b : ℕ) → begins_name b ≡ true → (b == 93) ≡ false
letter_no_bracket b h = grind (arith, nat_tests)

opens : (name : List ℕ) → is_name name ≡ true → bytes_eq name (codes "]") ≡ false
opens [] h = cc h
opens (b ∷ word) h =
    let other = letter_no_bracket b (and_parts (begins_name b) (not (is_register (b ∷ word))) h).0 in
    rw other refl

open_by : (b closed : Bool) (x y : Text) → b ≡ false → cond (b && closed) x y ≡ y
open_by true closed x y e = cc e
open_by false closed x y e = refl

yes_by : (b : Bool) (x y : Text) → b ≡ true → cond b x y ≡ x
yes_by true x y e = refl
yes_by false x y e = cc e

name_goes : (m : Meanings) (site : Site) (before name : List ℕ) (place : ℕ) → site.role ≡ role.Jump → is_name name ≡ true →
    named m.names name ≡ Some (Place place) → token_text m site before name true ≡ Ok (distance_text site.slot place)
name_goes m site before name place e f g =
    open_by (bytes_eq name (codes "]")) (is_register before) (Ok (codes "+0]")) (last_text m site name) (opens name f) ∙
    yes_by (is_name name) (name_text m site site.role name) (Ok (word_text m.names name)) f ∙
    ap (λ (r : Role). name_text m site r name) e ∙ ap (λ (o : Option Meaning). label_text site o) g

ends_with : (x y t front d : List ℕ) → t ≡ x ++ y → y ≡ front ++ d → (t ≡ (x ++ front) ++ d)
ends_with x y t front d e f = e ∙ ap (λ (w : List ℕ). x ++ w) f ∙ sym (append_assoc x front d)

last_goes : (m : Meanings) (site : Site) (before : List ℕ) (front : List (List ℕ)) (name : List ℕ) (place : ℕ) (t : List ℕ) →
    site.role ≡ role.Jump → is_name name ≡ true → named m.names name ≡ Some (Place place) →
    tokens_text m site before (front ++ name ∷ []) ≡ Ok t → (a : List ℕ) × (t ≡ a ++ distance_text site.slot place)
unfolding tokens_text
last_goes m site before [] name place t e f g h =
    let parts = joined_parts (gap before name) t (token_text m site before name true) (Ok []) h in
    let same : parts.0 ≡ distance_text site.slot place =
    ok_same parts.0 (distance_text site.slot place) (sym parts.2 ∙ name_goes m site before name place e f g) in
    let none : [] ≡ parts.1 = ok_same [] parts.1 parts.3 in (
      gap before name,
      parts.4 ∙ ap (λ (w : List ℕ). gap before name ++ parts.0 ++ w) (sym none) ∙ append-nil (gap before name ++ parts.0) ∙
          ap (λ (w : List ℕ). gap before name ++ w) same,
    )
last_goes m site before (token ∷ front) name place t e f g h =
    let parts = joined_parts (gap before token) t (token_text m site before token (is_end (front ++ name ∷ [])))
    (tokens_text m site token (front ++ name ∷ [])) h in
    let more = last_goes m site token front name place parts.1 e f g parts.3 in
    ((gap before token ++ parts.0) ++ more.0, ends_with (gap before token ++ parts.0) parts.1 t more.0 (distance_text site.slot place) parts.4 more.1)

pub jump_leads : (m : Meanings) (line slot : ℕ) (jump : List ℕ) (front : List (List ℕ)) (name : List ℕ) (place : ℕ) (i : Insn) →
    are_tokens (jump ∷ (front ++ name ∷ [])) ≡ true → role_of jump ≡ role.Jump → is_name name ≡ true →
    named m.names name ≡ Some (Place place) → instruction_text m line slot (jump ∷ (front ++ name ∷ [])) ≡ Ok (line_of i) →
    (d : ℤ) × (distance i ≡ Some d) × (pos place ≡ pos (slot + 1) +ℤ d)
jump_leads m line slot jump front name place i tokens e f g h =
    let text = text_of_insn m line slot jump (front ++ name ∷ []) i tokens h in
    let word : text.name ≡ jump = sym (heads jump text.name (front ++ name ∷ []) text.rest text.tokens_are) in
    let rest : text.rest ≡ front ++ name ∷ [] = sym (tails jump text.name (front ++ name ∷ []) text.rest text.tokens_are) in
    let goes : tokens_text m (record { role = role_of jump; line = line; slot = slot }) (codes ",") (front ++ name ∷ []) ≡ Ok text.text =
    ap (λ (ts : List (List ℕ)). tokens_text m (record { role = role_of jump; line = line; slot = slot }) (codes ",") ts) (sym rest) ∙
    ap (λ (w : List ℕ). tokens_text m (record { role = role_of w; line = line; slot = slot }) (codes ",") text.rest) (sym word) ∙ text.text_is in
    let last = last_goes m (record { role = role_of jump; line = line; slot = slot }) (codes ",") front name place text.text e f g goes in
    let kind = jump_of i (ap role_of (sym (sym word ∙ text.name_is)) ∙ e) in
    let whole : line_of i ≡ (text.name ++ last.0) ++ distance_text slot place =
    ends_with text.name text.text (line_of i) last.0 (distance_text slot place) text.line_is last.1 in
    (kind.by, kind.by_is, distance_by (text.name ++ last.0) kind.front slot place kind.by (nat_lt slot place) refl (sym whole ∙ kind.line_is))
