-- A text of the fixed language stays as it is.
use Rattle.bpf_model.proofs.Prelude.{ℕ, zero, suc, ◌≡◌, ◌≢◌, ◌+◌, ◌<◌, ◌==◌, Bool, true, false, ◌&&◌, ◌||◌, cond, List, [], ◌∷◌, ◌++◌, length, get_or, refl}
use Rattle.bpf_model.proofs.Prelude.{sym, ap, ◌∙◌, arith, append_assoc, inl, inr, map, nat_le, Option, None, Result, Ok, codes, bytes_eq, AllByRecursion}
use Rattle.bpf_model.proofs.Prelude.{flat_map, onto_first, all_ascii_digits, digits_of, AllBelowBase, all_below_base_digits_of, first_digits_of, append-nil}
use Rattle.bpf_model.proofs.Prelude.{length-map, ne_eqb, and_parts, nat_tests, eq-zero-or-pos}
use Rattle.disasm.specs.declared.statement.Sign.{Sign}
use Rattle.disasm.specs.declared.statement.Sign.TheVariants.{Plus, Minus}
use Rattle.disasm.specs.declared.statement.Argument.{Argument}
use Rattle.disasm.specs.declared.statement.Argument.TheVariants.{Register, Number, Signed, Memory}
use Rattle.disasm.specs.declared.statement.Arguments.{Arguments}
use Rattle.disasm.specs.declared.statement.Arguments.TheVariants.{Zero, One, Two, Three}
use Rattle.disasm.specs.declared.statement.Statement.{Statement}
use Rattle.disasm.specs.Text.{glyph, numeral, sign_text, argument_text, arguments_text, statement_text, mnemonic_text}
use Rattle.disasm.proofs.Numerals.{above_zero}
use Rattle.asm_source.specs.Tokens.{is_letter, begins_word, tokens_of, lines_of}
use Rattle.asm_source.specs.Numbers.{hex_in}
use Rattle.asm_source.specs.Names.{Binding, is_name, is_register, label_in, is_constant, instruction_in, slots_after, with_line, with_lines}
use Rattle.asm_source.specs.Plain.{Meanings, role_of, gap, joined, fed, is_end, token_text, tokens_text, instruction_text, line_text, lines_text, plain}
use Rattle.asm_source.specs.Plain.{text_with}
use Rattle.asm.specs.Faults.{is_comment}
use Rattle.asm_source.specs.Fixed.{IsFixedLine, IsFixed, kept, kept_text}
use Rattle.asm_source.specs.declared.site.Site.{Site}
use Rattle.asm_source.specs.declared.fault.SourceFault.{SourceFault}
use Rattle.asm_source.proofs.TokenLaws.{letter_tokens}
use Rattle.asm_source.proofs.MnemonicLaws.{is_low, is_figure, is_plain, begins_low, mnemonic_plain, mnemonic_begins}

abbrev Text : Type 0
Text = Result (List ℕ) SourceFault

abbrev with_map : (List ℕ → Option ℕ) → Meanings
with_map m = record { names = []; map = m }

-- the text of the tokens of what is left of a line
abbrev T : (List ℕ → Option ℕ) → Site → List ℕ → List ℕ → Text
T m site before line = tokens_text (with_map m) site before (tokens_of line)

same : {A : Type 0} (b : Bool) (x : A) → cond b x x ≡ x
same true x = refl
same false x = refl

joined_is : (between text rest : List ℕ) (a b : Text) → a ≡ Ok text → b ≡ Ok rest → joined between a b ≡ Ok (between ++ text ++ rest)
joined_is between text rest a b e f = rw (e, f) refl

-- Words.

abbrev all_letters : List ℕ → Bool
all_letters [] = true
all_letters (b ∷ w) = is_letter b && all_letters w

word_token : (w rest : List ℕ) → all_letters w ≡ true → 0 < length w → begins_word rest ≡ false → tokens_of (w ++ rest) ≡ w ∷ tokens_of rest
word_token [] rest h some e = absurd (omega arith)
word_token (b ∷ []) rest h some e =
    let letter = and_parts (is_letter b) true h in
    letter_tokens b rest letter.0 ∙
    ap (λ (l : Bool). cond l (onto_first b (tokens_of rest)) ((b ∷ []) ∷ tokens_of rest)) e
word_token (b ∷ c ∷ w) rest h some e =
    let letter = and_parts (is_letter b) (all_letters (c ∷ w)) h in
    let next = and_parts (is_letter c) (all_letters w) letter.1 in
    letter_tokens b (c ∷ w ++ rest) letter.0 ∙
    ap (λ (l : Bool). cond l (onto_first b (tokens_of (c ∷ w ++ rest))) ((b ∷ []) ∷ tokens_of (c ∷ w ++ rest))) next.0 ∙
    ap (onto_first b) (word_token (c ∷ w) rest letter.1 (omega arith) e)

-- a word that stays as it is
record IsQuiet (w : List ℕ) : Type 0 where
  begins : begins_word w ≡ true
  letters : all_letters w ≡ true
  some : 0 < length w
  no_name : is_name w ≡ false
  no_hex : hex_in w ≡ None
  no_comma : bytes_eq w (codes ",") ≡ false
  no_close : bytes_eq w (codes "]") ≡ false

quiet_text : (m : List ℕ → Option ℕ) (site : Site) (before w : List ℕ) (last : Bool) → IsQuiet w → token_text (with_map m) site before w last ≡ Ok w
quiet_text m site before w last h =
    let a = h.no_close in
    let b = h.no_name in
    let c = h.no_hex in
    rw (a, b, c) (same last (Ok w))

word_goes : (m : List ℕ → Option ℕ) (site : Site) (before w rest out : List ℕ) → IsQuiet w → begins_word rest ≡ false →
    T m site w rest ≡ Ok out → T m site before (w ++ rest) ≡ Ok (gap before w ++ w ++ out)
unfolding tokens_text
word_goes m site before w rest out h e goes =
    ap (tokens_text (with_map m) site before) (word_token w rest h.letters h.some e) ∙
    joined_is (gap before w) w out (token_text (with_map m) site before w (is_end (tokens_of rest))) (T m site w rest)
    (quiet_text m site before w (is_end (tokens_of rest)) h) goes

mark_goes : (m : List ℕ → Option ℕ) (site : Site) (before : List ℕ) (t : ℕ) (rest out : List ℕ) →
    tokens_of (t ∷ rest) ≡ (t ∷ []) ∷ tokens_of rest →
    ((last : Bool) → token_text (with_map m) site before (t ∷ []) last ≡ Ok (t ∷ [])) → T m site (t ∷ []) rest ≡ Ok out →
    T m site before (t ∷ rest) ≡ Ok (gap before (t ∷ []) ++ (t ∷ []) ++ out)
unfolding tokens_text
mark_goes m site before t rest out tokens text goes =
    ap (tokens_text (with_map m) site before) tokens ∙
    joined_is (gap before (t ∷ [])) (t ∷ []) out (token_text (with_map m) site before (t ∷ []) (is_end (tokens_of rest)))
    (T m site (t ∷ []) rest) (text (is_end (tokens_of rest))) goes

no_gap_cases : (b : Bool) → cond (false || (b && false)) (codes " ") [] ≡ []
no_gap_cases true = refl
no_gap_cases false = refl

no_gap : (before : List ℕ) (t : ℕ) → bytes_eq before (codes ",") ≡ false → begins_word (t ∷ []) ≡ false → gap before (t ∷ []) ≡ []
no_gap before t e f = rw (e, f) (no_gap_cases (begins_word before))

-- Numbers.

abbrev pub figures : List ℕ → Bool
figures [] = true
figures (b ∷ ds) = is_figure b && figures ds

figure_letter : (b : ℕ) → is_figure b ≡ true → is_letter b ≡ true
figure_letter b h = grind (arith, nat_tests)

figures_letters : (ds : List ℕ) → figures ds ≡ true → all_letters ds ≡ true
figures_letters [] h = refl
figures_letters (b ∷ ds) h =
    let parts = and_parts (is_figure b) (figures ds) h in
    let one = figure_letter b parts.0 in
    let more = figures_letters ds parts.1 in
    rw (one, more) refl

figure_digit : (b : ℕ) → is_figure b ≡ true → all_ascii_digits (b ∷ []) ≡ true
figure_digit b h = grind (arith, nat_tests)

figures_digits : (ds : List ℕ) → figures ds ≡ true → all_ascii_digits ds ≡ true
figures_digits [] h = refl
figures_digits (b ∷ ds) h =
    let parts = and_parts (is_figure b) (figures ds) h in
    let one = and_parts _ true (figure_digit b parts.0) in
    let more = figures_digits ds parts.1 in
    rw (one.0, more) refl

apart : (b c : ℕ) → is_figure b ≡ true → 57 < c → (b == c) ≡ false
apart b c h big = grind (arith, nat_tests)

below : (b c : ℕ) → is_figure b ≡ true → c < 48 → (b == c) ≡ false
below b c h small = grind (arith, nat_tests)

and_false : (a : Bool) → (a && false) ≡ false
and_false true = refl
and_false false = refl

number_hex : (b : ℕ) (ds : List ℕ) → figures (b ∷ ds) ≡ true → hex_in (b ∷ ds) ≡ None
number_hex b [] h = refl
number_hex b (c ∷ []) h = refl
number_hex b (c ∷ d ∷ ds) h =
    let parts = and_parts (is_figure b) (figures (c ∷ d ∷ ds)) h in
    let next = and_parts (is_figure c) (figures (d ∷ ds)) parts.1 in
    let other = apart c 120 next.0 (omega arith) in
    let none = and_false (b == 48) in
    rw (other, none) refl

figure_name : (b : ℕ) → is_figure b ≡ true → (nat_le 97 b && nat_le b 122) || ((nat_le 65 b && nat_le b 90) || (b == 95 || b == 46)) ≡ false
figure_name b h = grind (arith, nat_tests)

quiet_number : (b : ℕ) (ds : List ℕ) → figures (b ∷ ds) ≡ true → IsQuiet (b ∷ ds)
quiet_number b ds h =
    let parts = and_parts (is_figure b) (figures ds) h in
    let name = figure_name b parts.0 in
    let comma = below b 44 parts.0 (omega arith) in
    let close = apart b 93 parts.0 (omega arith) in
    record {
      begins = figure_letter b parts.0;
      letters = figures_letters (b ∷ ds) h;
      some = omega arith;
      no_name = rw name refl;
      no_hex = number_hex b ds h;
      no_comma = rw comma refl;
      no_close = rw close refl;
    }

register_hex : (d : ℕ) (ds : List ℕ) → hex_in (114 ∷ d ∷ ds) ≡ None
register_hex d [] = refl
register_hex d (e ∷ ds) = refl

quiet_register : (d : ℕ) (ds : List ℕ) → figures (d ∷ ds) ≡ true → IsQuiet (114 ∷ d ∷ ds)
quiet_register d ds h =
    let digits : all_ascii_digits (d ∷ ds) ≡ true = figures_digits (d ∷ ds) h in
    record {
      begins = refl;
      letters = figures_letters (d ∷ ds) h;
      some = omega arith;
      no_name = rw digits refl;
      no_hex = register_hex d ds;
      no_comma = refl;
      no_close = refl;
    }

-- numerals
glyph_figures : (ds : List ℕ) → AllBelowBase 10 ds → figures (map glyph ds) ≡ true
glyph_figures [] all = refl
glyph_figures (d ∷ ds) all =
    let small : d < 10 = all.0 in
    let one : is_figure (48 + d) ≡ true = grind (arith, nat_tests) in
    let more = glyph_figures ds all.1 in
    rw (one, more) refl

pub numeral_figures : (n : ℕ) → figures (numeral n) ≡ true
numeral_figures n = elim (eq-zero-or-pos n) [
  | inl e ↦ rw e refl
  | inr p ↦ rw (above_zero n p) (glyph_figures (digits_of 10 n) (all_below_base_digits_of 10 n (omega arith)))
]

nonempty : (ds : List ℕ) → 0 < get_or ds 0 0 → 0 < length ds
nonempty [] h = h
nonempty (d ∷ ds) h = omega arith

numeral_some : (n : ℕ) → 0 < length (numeral n)
numeral_some n = elim (eq-zero-or-pos n) [
  | inl e ↦ rw e (omega arith)
  | inr p ↦ rw (above_zero n p)
      (let some : 0 < length (digits_of 10 n) = nonempty (digits_of 10 n) (first_digits_of 10 n (omega arith) p) in simp length-map some)
]

number_is : (w : List ℕ) → 0 < length w → figures w ≡ true → IsQuiet w
number_is [] some h = absurd (omega arith)
number_is (b ∷ ds) some h = quiet_number b ds h

register_is : (w : List ℕ) → 0 < length w → figures w ≡ true → IsQuiet (114 ∷ w)
register_is [] some h = absurd (omega arith)
register_is (b ∷ ds) some h = quiet_register b ds h

numeral_quiet : (n : ℕ) → IsQuiet (numeral n)
numeral_quiet n = number_is (numeral n) (numeral_some n) (numeral_figures n)

name_quiet : (n : ℕ) → IsQuiet (114 ∷ numeral n)
name_quiet n = register_is (numeral n) (numeral_some n) (numeral_figures n)

no_register : (w : List ℕ) → figures w ≡ true → is_register w ≡ false
no_register [] h = refl
no_register (b ∷ []) h = refl
no_register (b ∷ c ∷ ds) h =
    let parts = and_parts (is_figure b) (figures (c ∷ ds)) h in
    let other = apart b 114 parts.0 (omega arith) in
    rw other refl

-- Arguments.

abbrev last_of : Argument → List ℕ
last_of (Register n) = 114 ∷ numeral n
last_of (Number n) = numeral n
last_of (Signed s n) = numeral n
last_of (Memory b s o) = 93 ∷ []

last_no_comma : (a : Argument) → bytes_eq (last_of a) (codes ",") ≡ false
last_no_comma (Register n) = refl
last_no_comma (Number n) = (numeral_quiet n).no_comma
last_no_comma (Signed s n) = (numeral_quiet n).no_comma
last_no_comma (Memory b s o) = refl

closing : (m : List ℕ → Option ℕ) (site : Site) (before : List ℕ) (last : Bool) → is_register before ≡ false →
    token_text (with_map m) site before (codes "]") last ≡ Ok (codes "]")
closing m site before last h = rw h (same last (Ok (codes "]")))

-- `-8]` behind a register
offset_goes : (m : List ℕ → Option ℕ) (site : Site) (before : List ℕ) (s : Sign) (o : ℕ) (rest out : List ℕ) → bytes_eq before (codes ",") ≡ false →
    T m site (93 ∷ []) rest ≡ Ok out → T m site before (sign_text s ++ (numeral o ++ (93 ∷ rest))) ≡ Ok (sign_text s ++ (numeral o ++ (93 ∷ out)))
offset_goes m site before Plus o rest out h goes =
    let close = mark_goes m site (numeral o) 93 rest out refl (λ last. closing m site (numeral o) last (no_register (numeral o) (numeral_figures o))) goes in
    let close2 : T m site (numeral o) (93 ∷ rest) ≡ Ok (93 ∷ out) = close ∙
    ap (λ (g : List ℕ). Ok (g ++ (93 ∷ []) ++ out)) (no_gap (numeral o) 93 (numeral_quiet o).no_comma refl) in
    let number = word_goes m site (43 ∷ []) (numeral o) (93 ∷ rest) (93 ∷ out) (numeral_quiet o) refl close2 in
    let sign = mark_goes m site before 43 (numeral o ++ (93 ∷ rest)) (numeral o ++ (93 ∷ out)) refl (λ last. same last (Ok (43 ∷ []))) number in
    sign ∙ ap (λ (g : List ℕ). Ok (g ++ (43 ∷ []) ++ (numeral o ++ (93 ∷ out)))) (no_gap before 43 h refl)
offset_goes m site before Minus o rest out h goes =
    let close = mark_goes m site (numeral o) 93 rest out refl (λ last. closing m site (numeral o) last (no_register (numeral o) (numeral_figures o))) goes in
    let close2 : T m site (numeral o) (93 ∷ rest) ≡ Ok (93 ∷ out) = close ∙
    ap (λ (g : List ℕ). Ok (g ++ (93 ∷ []) ++ out)) (no_gap (numeral o) 93 (numeral_quiet o).no_comma refl) in
    let number = word_goes m site (45 ∷ []) (numeral o) (93 ∷ rest) (93 ∷ out) (numeral_quiet o) refl close2 in
    let sign = mark_goes m site before 45 (numeral o ++ (93 ∷ rest)) (numeral o ++ (93 ∷ out)) refl (λ last. same last (Ok (45 ∷ []))) number in
    sign ∙ ap (λ (g : List ℕ). Ok (g ++ (45 ∷ []) ++ (numeral o ++ (93 ∷ out)))) (no_gap before 45 h refl)

sign_ends_word : (s : Sign) (rest : List ℕ) → begins_word (sign_text s ++ rest) ≡ false
sign_ends_word Plus rest = refl
sign_ends_word Minus rest = refl

memory_goes : (m : List ℕ → Option ℕ) (site : Site) (b : ℕ) (s : Sign) (o : ℕ) (rest out : List ℕ) → T m site (93 ∷ []) rest ≡ Ok out →
    T m site (codes ",") (91 ∷ 114 ∷ (numeral b ++ (sign_text s ++ (numeral o ++ (93 ∷ rest)))))
    ≡ Ok (32 ∷ 91 ∷ 114 ∷ (numeral b ++ (sign_text s ++ (numeral o ++ (93 ∷ out)))))
memory_goes m site b s o rest out goes =
    let offset = offset_goes m site (114 ∷ numeral b) s o rest out refl goes in
    let base = word_goes m site (91 ∷ []) (114 ∷ numeral b) (sign_text s ++ (numeral o ++ (93 ∷ rest)))
    (sign_text s ++ (numeral o ++ (93 ∷ out))) (name_quiet b) (sign_ends_word s (numeral o ++ (93 ∷ rest))) offset in
    mark_goes m site (codes ",") 91 (114 ∷ (numeral b ++ (sign_text s ++ (numeral o ++ (93 ∷ rest)))))
    (114 ∷ (numeral b ++ (sign_text s ++ (numeral o ++ (93 ∷ out))))) refl (λ last. same last (Ok (91 ∷ []))) base

memory_text : (b : ℕ) (s : Sign) (o : ℕ) (rest : List ℕ) →
    argument_text (Memory b s o) ++ rest ≡ 91 ∷ 114 ∷ (numeral b ++ (sign_text s ++ (numeral o ++ (93 ∷ rest))))
memory_text b s o rest = simp append_assoc

arg_goes : (m : List ℕ → Option ℕ) (site : Site) (a : Argument) (rest out : List ℕ) → begins_word rest ≡ false → T m site (last_of a) rest ≡ Ok out →
    T m site (codes ",") (argument_text a ++ rest) ≡ Ok (32 ∷ (argument_text a ++ out))
arg_goes m site (Register n) rest out e goes = word_goes m site (codes ",") (114 ∷ numeral n) rest out (name_quiet n) e goes
arg_goes m site (Number n) rest out e goes = word_goes m site (codes ",") (numeral n) rest out (numeral_quiet n) e goes
arg_goes m site (Signed Plus n) rest out e goes =
    mark_goes m site (codes ",") 43 (numeral n ++ rest) (numeral n ++ out) refl (λ last. same last (Ok (43 ∷ [])))
    (word_goes m site (43 ∷ []) (numeral n) rest out (numeral_quiet n) e goes)
arg_goes m site (Signed Minus n) rest out e goes =
    mark_goes m site (codes ",") 45 (numeral n ++ rest) (numeral n ++ out) refl (λ last. same last (Ok (45 ∷ [])))
    (word_goes m site (45 ∷ []) (numeral n) rest out (numeral_quiet n) e goes)
arg_goes m site (Memory b s o) rest out e goes =
    ap (T m site (codes ",")) (memory_text b s o rest) ∙ memory_goes m site b s o rest out goes ∙
    ap (λ (t : List ℕ). Ok (32 ∷ t)) (sym (memory_text b s o out))

comma_goes : (m : List ℕ → Option ℕ) (site : Site) (before rest out : List ℕ) → bytes_eq before (codes ",") ≡ false → T m site (codes ",") rest ≡ Ok out →
    T m site before (44 ∷ 32 ∷ rest) ≡ Ok (44 ∷ out)
comma_goes m site before rest out h goes =
    mark_goes m site before 44 (32 ∷ rest) out refl (λ last. same last (Ok (44 ∷ []))) goes ∙
    ap (λ (g : List ℕ). Ok (g ++ (44 ∷ []) ++ out)) (no_gap before 44 h refl)

nothing_goes : (m : List ℕ → Option ℕ) (site : Site) (before : List ℕ) → T m site before [] ≡ Ok []
unfolding tokens_text
nothing_goes m site before = refl

-- the last argument, and one with others behind it
one_goes : (m : List ℕ → Option ℕ) (site : Site) (a : Argument) → T m site (codes ",") (argument_text a) ≡ Ok (32 ∷ argument_text a)
one_goes m site a =
    ap (T m site (codes ",")) (sym (append-nil (argument_text a))) ∙
    arg_goes m site a [] [] refl (nothing_goes m site (last_of a)) ∙ ap (λ (t : List ℕ). Ok (32 ∷ t)) (append-nil (argument_text a))

more_goes : (m : List ℕ → Option ℕ) (site : Site) (a : Argument) (rest : List ℕ) → T m site (codes ",") rest ≡ Ok (32 ∷ rest) →
    T m site (codes ",") (argument_text a ++ (44 ∷ 32 ∷ rest)) ≡ Ok (32 ∷ (argument_text a ++ (44 ∷ 32 ∷ rest)))
more_goes m site a rest goes =
    arg_goes m site a (44 ∷ 32 ∷ rest) (44 ∷ 32 ∷ rest) refl
    (comma_goes m site (last_of a) rest (32 ∷ rest) (last_no_comma a) goes)

goes_as : (m : List ℕ → Option ℕ) (site : Site) (text other : List ℕ) → text ≡ other → T m site (codes ",") other ≡ Ok (32 ∷ other) →
    T m site (codes ",") (32 ∷ text) ≡ Ok (32 ∷ text)
goes_as m site text other e h = rw e h

args_goes : (m : List ℕ → Option ℕ) (site : Site) (args : Arguments) → T m site (codes ",") (arguments_text args) ≡ Ok (arguments_text args)
args_goes m site Zero = nothing_goes m site (codes ",")
args_goes m site (One a) = one_goes m site a
args_goes m site (Two a b) =
    goes_as m site (argument_text a ++ codes ", " ++ argument_text b) (argument_text a ++ (44 ∷ 32 ∷ argument_text b))
    (simp append_assoc) (more_goes m site a (argument_text b) (one_goes m site b))
args_goes m site (Three a b c) =
    goes_as m site (argument_text a ++ codes ", " ++ argument_text b ++ codes ", " ++ argument_text c)
    (argument_text a ++ (44 ∷ 32 ∷ (argument_text b ++ (44 ∷ 32 ∷ argument_text c))))
    (simp append_assoc) (more_goes m site a (argument_text b ++ (44 ∷ 32 ∷ argument_text c)) (more_goes m site b (argument_text c) (one_goes m site c)))

args_end_word : (args : Arguments) → begins_word (arguments_text args) ≡ false
args_end_word Zero = refl
args_end_word (One a) = refl
args_end_word (Two a b) = refl
args_end_word (Three a b c) = refl

-- Statements.

plain_letter : (b : ℕ) → (is_low b || is_figure b) ≡ true → is_letter b ≡ true
plain_letter b h = grind (arith, nat_tests)

plain_letters : (w : List ℕ) → is_plain w ≡ true → all_letters w ≡ true
plain_letters [] h = refl
plain_letters (b ∷ w) h =
    let parts = and_parts (is_low b || is_figure b) (is_plain w) h in
    let one = plain_letter b parts.0 in
    let more = plain_letters w parts.1 in
    rw (one, more) refl

plain_no_colon : (w : List ℕ) (k : ℕ) → is_plain w ≡ true → get_or w k 0 ≢ 58
plain_no_colon [] k h e = omega arith
plain_no_colon (b ∷ w) zero h e =
    let parts = and_parts (is_low b || is_figure b) (is_plain w) h in
    let test = parts.0 in
    let same : b ≡ 58 = e in
    let no : (is_low 58 || is_figure 58) ≡ true = sym (ap (λ c. is_low c || is_figure c) same) ∙ test in
    cc no
plain_no_colon (b ∷ w) (suc k) h e = plain_no_colon w k (and_parts (is_low b || is_figure b) (is_plain w) h).1 e

no_label : (w : List ℕ) → is_plain w ≡ true → label_in w ≡ None
no_label [] h = refl
no_label (b ∷ w) h =
    let other : (get_or (b ∷ w) (length w) 0 == 58) ≡ false = ne_eqb (get_or (b ∷ w) (length w) 0) 58 (plain_no_colon (b ∷ w) (length w) h) in
    rw other refl

no_constant : (w : List ℕ) → begins_low w ≡ true → is_constant w ≡ false
no_constant [] h = cc h
no_constant (b ∷ w) h =
    let other : (b == 46) ≡ false = grind (arith, nat_tests) in
    rw other refl

begins_some : (w : List ℕ) → begins_low w ≡ true → 0 < length w
begins_some [] h = cc h
begins_some (b ∷ w) h = omega arith

-- a line with a mnemonic, whose arguments stay
statement_tokens : (s : Statement) → tokens_of (statement_text s) ≡ mnemonic_text s.mnemonic ∷ tokens_of (arguments_text s.arguments)
statement_tokens s =
    word_token (mnemonic_text s.mnemonic) (arguments_text s.arguments)
    (plain_letters (mnemonic_text s.mnemonic) (mnemonic_plain s.mnemonic))
    (begins_some (mnemonic_text s.mnemonic) (mnemonic_begins s.mnemonic)) (args_end_word s.arguments)

all_instruction : (name : List ℕ) (rest : List (List ℕ)) → is_constant name ≡ false → label_in name ≡ None → instruction_in (name ∷ rest) ≡ name ∷ rest
all_instruction name rest e f = rw (e, f) refl

nothing_named : (names : List Binding) (n slot : ℕ) (name : List ℕ) (rest : List (List ℕ)) → is_constant name ≡ false → label_in name ≡ None →
    with_line names n slot (name ∷ rest) ≡ Ok names
nothing_named names n slot name rest e f = rw (e, f) refl

statement_line : (m : List ℕ → Option ℕ) (n slot : ℕ) (s : Statement) → line_text (with_map m) n slot (statement_text s) ≡ Ok (statement_text s)
statement_line m n slot s =
    let name = mnemonic_text s.mnemonic in
    let rest : List (List ℕ) = tokens_of (arguments_text s.arguments) in
    let tokens = ap instruction_in (statement_tokens s) ∙
    all_instruction (mnemonic_text s.mnemonic) (tokens_of (arguments_text s.arguments))
    (no_constant (mnemonic_text s.mnemonic) (mnemonic_begins s.mnemonic)) (no_label (mnemonic_text s.mnemonic) (mnemonic_plain s.mnemonic)) in
    ap (instruction_text (with_map m) n slot) tokens ∙
    joined_is [] (mnemonic_text s.mnemonic) (arguments_text s.arguments) (Ok (mnemonic_text s.mnemonic))
    (T m (record { role = role_of (mnemonic_text s.mnemonic); line = n; slot = slot }) (codes ",") (arguments_text s.arguments)) refl
    (args_goes m (record { role = role_of (mnemonic_text s.mnemonic); line = n; slot = slot }) s.arguments)

statement_names : (names : List Binding) (n slot : ℕ) (s : Statement) → with_line names n slot (tokens_of (statement_text s)) ≡ Ok names
statement_names names n slot s =
    ap (with_line names n slot) (statement_tokens s) ∙
    nothing_named names n slot (mnemonic_text s.mnemonic) (tokens_of (arguments_text s.arguments))
    (no_constant (mnemonic_text s.mnemonic) (mnemonic_begins s.mnemonic)) (no_label (mnemonic_text s.mnemonic) (mnemonic_plain s.mnemonic))

comment_tokens : (line : List ℕ) → is_comment line ≡ true → tokens_of line ≡ []
comment_tokens [] h = refl
comment_tokens (b ∷ line) h = rw h refl

-- Lines.

stays_by : (m : List ℕ → Option ℕ) (n slot : ℕ) (line : List ℕ) (comment : Bool) → is_comment line ≡ comment → IsFixedLine line →
    line_text (with_map m) n slot line ≡ Ok (kept line)
stays_by m n slot line true e h = ap (λ (ts : List (List ℕ)). instruction_text (with_map m) n slot (instruction_in ts)) (comment_tokens line e) ∙ rw e refl
stays_by m n slot line false e h =
    let s = h e in
    let text = s.text in
    let stays : line_text (with_map m) n slot line ≡ Ok line = rw text (statement_line m n slot s.statement) in
    stays ∙ rw e refl

line_stays : (m : List ℕ → Option ℕ) (n slot : ℕ) (line : List ℕ) → IsFixedLine line → line_text (with_map m) n slot line ≡ Ok (kept line)
line_stays m n slot line h = stays_by m n slot line (is_comment line) refl h

names_by : (names : List Binding) (n slot : ℕ) (line : List ℕ) (comment : Bool) → is_comment line ≡ comment → IsFixedLine line →
    with_line names n slot (tokens_of line) ≡ Ok names
names_by names n slot line true e h = ap (with_line names n slot) (comment_tokens line e)
names_by names n slot line false e h =
    let s = h e in
    let text = s.text in
    rw text (statement_names names n slot s.statement)

names_stay : (n slot : ℕ) (lines : List (List ℕ)) → AllByRecursion IsFixedLine lines → with_lines (Ok []) n slot lines ≡ Ok []
unfolding with_lines
names_stay n slot [] h = refl
names_stay n slot (line ∷ lines) h =
    ap (λ (r : Result (List Binding) SourceFault). with_lines r (n + 1) (slots_after slot line) lines)
    (names_by [] (n + 1) slot line (is_comment line) refl h.0) ∙ names_stay (n + 1) (slots_after slot line) lines h.1

fed_is : (text : List ℕ) (a : Text) → a ≡ Ok text → fed a ≡ Ok (text ++ 10 ∷ [])
fed_is text a e = rw e refl

lines_stay : (m : List ℕ → Option ℕ) (n slot : ℕ) (lines : List (List ℕ)) → AllByRecursion IsFixedLine lines →
    lines_text (with_map m) n slot lines ≡ Ok (flat_map (λ line. kept line ++ 10 ∷ []) lines)
unfolding lines_text
lines_stay m n slot [] h = refl
lines_stay m n slot (line ∷ lines) h =
    joined_is [] (kept line ++ 10 ∷ []) (flat_map (λ line. kept line ++ 10 ∷ []) lines)
    (fed (line_text (with_map m) (n + 1) slot line)) (lines_text (with_map m) (n + 1) (slots_after slot line) lines)
    (fed_is (kept line) (line_text (with_map m) (n + 1) slot line) (line_stays m (n + 1) slot line h.0))
    (lines_stay m (n + 1) (slots_after slot line) lines h.1)

pub text_stays : (m : List ℕ → Option ℕ) (text : List ℕ) → IsFixed text → plain m text ≡ Ok (kept_text text)
text_stays m text h = ap (text_with m text) (names_stay 0 0 (lines_of text) h) ∙ lines_stay m 0 0 (lines_of text) h
