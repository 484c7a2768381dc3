-- A plain text has as many lines as its source.
use Rattle.bpf_model.proofs.Prelude.{ℕ, ◌≡◌, ◌+◌, ◌-◌, ◌==◌, Bool, true, false, not, ◌&&◌, ◌||◌, cond, List, [], ◌∷◌, ◌++◌, length, refl, sym, ap, subst, ◌∙◌}
use Rattle.bpf_model.proofs.Prelude.{append_assoc, arith, nat_lt, Option, Some, None, is_some, Result, Ok, Err, IfOk, codes, bytes_eq, onto_first, and_parts}
use Rattle.bpf_model.proofs.Prelude.{nat_tests}
use Rattle.disasm.specs.Text.{numeral}
use Rattle.asm_source.specs.Tokens.{is_blank, is_letter, begins_word, tokens_of, lines_of}
use Rattle.asm_source.specs.Numbers.{hex_in}
use Rattle.asm_source.specs.Names.{Binding, is_name, is_constant, label_in, instruction_in, slots_after, named, names_in}
use Rattle.asm_source.specs.Plain.{Meanings, role_of, word_text, value_text, meaning_text, number_text, label_text, map_text, name_text, last_text}
use Rattle.asm_source.specs.Plain.{token_text, closes, gap, joined, fed, is_end, tokens_text, instruction_text, line_text, lines_text, text_with, plain}
use Rattle.asm_source.specs.declared.names.Meaning.{Meaning}
use Rattle.asm_source.specs.declared.names.Meaning.TheVariants.{Place, Number}
use Rattle.asm_source.specs.declared.site.Role.{Role}
use Rattle.asm_source.specs.declared.site.Role.TheVariants as role
use Rattle.asm_source.specs.declared.site.Site.{Site}
use Rattle.asm_source.specs.declared.fault.SourceFault.{SourceFault}
use Rattle.asm_source.proofs.MnemonicLaws.{is_figure}
use Rattle.asm_source.proofs.FixedLaws.{figures, numeral_figures}

abbrev Text : Type 0
Text = Result (List ℕ) SourceFault

-- no byte is a line feed
abbrev pub clean : List ℕ → Bool
clean [] = true
clean (b ∷ xs) = not (b == 10) && clean xs

abbrev pub all_clean : List (List ℕ) → Bool
all_clean [] = true
all_clean (xs ∷ rest) = clean xs && all_clean rest

abbrev pub IsClean : Text → Type 0
IsClean text = IfOk text (λ t. clean t ≡ true)

pub both : (a b : Bool) → a ≡ true → b ≡ true → (a && b) ≡ true
both a b e f = rw (e, f) refl

clean_append : (xs ys : List ℕ) → clean xs ≡ true → clean ys ≡ true → clean (xs ++ ys) ≡ true
clean_append [] ys e f = f
clean_append (x ∷ xs) ys e f =
    let parts = and_parts (not (x == 10)) (clean xs) e in
    both (not (x == 10)) (clean (xs ++ ys)) parts.0 (clean_append xs ys parts.1 f)

figure_clean : (b : ℕ) → is_figure b ≡ true → not (b == 10) ≡ true
figure_clean b h = grind (arith, nat_tests)

figures_clean : (ds : List ℕ) → figures ds ≡ true → clean ds ≡ true
figures_clean [] h = refl
figures_clean (d ∷ ds) h =
    let parts = and_parts (is_figure d) (figures ds) h in
    both (not (d == 10)) (clean ds) (figure_clean d parts.0) (figures_clean ds parts.1)

numeral_clean : (n : ℕ) → clean (numeral n) ≡ true
numeral_clean n = figures_clean (numeral n) (numeral_figures n)

pub not_true : (b : Bool) → not b ≡ true → b ≡ false
not_true true h = cc h
not_true false h = refl

-- the parts of a text
onto_clean : (b : ℕ) (parts : List (List ℕ)) → not (b == 10) ≡ true → all_clean parts ≡ true → all_clean (onto_first b parts) ≡ true
onto_clean b [] e f = rw e refl
onto_clean b (part ∷ parts) e f =
    let halves = and_parts (clean part) (all_clean parts) f in
    both (clean (b ∷ part)) (all_clean parts) (both (not (b == 10)) (clean part) e halves.0) halves.1

lines_step : (b : ℕ) (text : List ℕ) (feed : Bool) → (b == 10) ≡ feed → all_clean (lines_of text) ≡ true → all_clean (lines_of (b ∷ text)) ≡ true
lines_step b text true e h = rw e h
lines_step b text false e h =
    let other : not (b == 10) ≡ true = rw e refl in
    let more = onto_clean b (lines_of text) other h in
    rw e more

pub lines_clean : (text : List ℕ) → all_clean (lines_of text) ≡ true
lines_clean [] = refl
lines_clean (b ∷ text) = lines_step b text (b == 10) refl (lines_clean text)

by_tests : (comment blank goes_on : Bool) (skipped joined new : List (List ℕ)) → all_clean skipped ≡ true → all_clean joined ≡ true → all_clean new ≡ true →
    all_clean (cond comment [] (cond blank skipped (cond goes_on joined new))) ≡ true
by_tests true blank goes_on skipped joined new e f g = refl
by_tests false true goes_on skipped joined new e f g = e
by_tests false false true skipped joined new e f g = f
by_tests false false false skipped joined new e f g = g

tokens_clean : (line : List ℕ) → clean line ≡ true → all_clean (tokens_of line) ≡ true
tokens_clean [] h = refl
tokens_clean (b ∷ line) h =
    let parts = and_parts (not (b == 10)) (clean line) h in
    let rest = tokens_clean line parts.1 in
    by_tests (b == 59) (is_blank b) (is_letter b && begins_word line) (tokens_of line) (onto_first b (tokens_of line)) ((b ∷ []) ∷ tokens_of line)
    rest (onto_clean b (tokens_of line) parts.0 rest)
    (both (clean (b ∷ [])) (all_clean (tokens_of line)) (both (not (b == 10)) true parts.0 refl) rest)

picked : (constant : Bool) (label : Option (List ℕ)) (first : List ℕ) (rest : List (List ℕ)) → all_clean rest ≡ true → all_clean (first ∷ rest) ≡ true →
    all_clean (cond constant [] (cond (is_some label) rest (first ∷ rest))) ≡ true
picked true label first rest e f = refl
picked false None first rest e f = f
picked false (Some name) first rest e f = e

instruction_clean : (tokens : List (List ℕ)) → all_clean tokens ≡ true → all_clean (instruction_in tokens) ≡ true
instruction_clean [] h = refl
instruction_clean (first ∷ rest) h =
    picked (is_constant first) (label_in first) first rest (and_parts (clean first) (all_clean rest) h).1 h

-- the texts of tokens
number_clean : (minus : Bool) (n : ℕ) → clean (number_text minus n) ≡ true
number_clean true n = numeral_clean n
number_clean false n = numeral_clean n

distance_by : (ahead : Bool) (m n : ℕ) → clean (cond ahead (43 ∷ numeral m) (45 ∷ numeral n)) ≡ true
distance_by true m n = numeral_clean m
distance_by false m n = numeral_clean n

meaning_clean : (word : List ℕ) (meaning : Option Meaning) → clean word ≡ true → clean (meaning_text word meaning) ≡ true
meaning_clean word (Some (Number minus n)) h = number_clean minus n
meaning_clean word (Some (Place place)) h = h
meaning_clean word None h = h

value_clean : (value : Option ℕ) (other : List ℕ) → clean other ≡ true → clean (value_text value other) ≡ true
value_clean (Some n) other h = numeral_clean n
value_clean None other h = h

word_clean : (names : List Binding) (word : List ℕ) → clean word ≡ true → clean (word_text names word) ≡ true
word_clean names word h = value_clean (hex_in word) (meaning_text word (named names word)) (meaning_clean word (named names word) h)

label_clean : (site : Site) (meaning : Option Meaning) → IsClean (label_text site meaning)
label_clean site (Some (Place place)) = distance_by (nat_lt site.slot place) (place - (site.slot + 1)) (site.slot + 1 - place)
label_clean site (Some (Number minus n)) = tt
label_clean site None = tt

map_clean : (site : Site) (index : Option ℕ) → IsClean (map_text site index)
map_clean site (Some index) = numeral_clean index
map_clean site None = tt

name_clean : (m : Meanings) (site : Site) (r : Role) (word : List ℕ) → clean word ≡ true → IsClean (name_text m site r word)
name_clean m site role.Jump word h = label_clean site (named m.names word)
name_clean m site role.LoadMap word h = map_clean site (m.map word)
name_clean m site role.Plain word h = word_clean m.names word h

either_clean : (b : Bool) (x y : Text) → IsClean x → IsClean y → IsClean (cond b x y)
either_clean true x y h k = h
either_clean false x y h k = k

token_clean : (m : Meanings) (site : Site) (before token : List ℕ) (last : Bool) → clean token ≡ true → IsClean (token_text m site before token last)
token_clean m site before token last h =
    let word : IsClean (Ok (word_text m.names token)) = word_clean m.names token h in
    let zero : IsClean (Ok (codes "+0]")) = refl in
    let name = either_clean (is_name token) (name_text m site site.role token) (Ok (word_text m.names token)) (name_clean m site site.role token h) word in
    either_clean (closes before token) (Ok (codes "+0]")) (cond last (last_text m site token) (Ok (word_text m.names token))) zero
    (either_clean last (last_text m site token) (Ok (word_text m.names token)) name word)

gap_by : (b : Bool) → clean (cond b (codes " ") []) ≡ true
gap_by true = refl
gap_by false = refl

gap_clean : (before token : List ℕ) → clean (gap before token) ≡ true
gap_clean before token = gap_by (bytes_eq before (codes ",") || (begins_word before && begins_word token))

joined_clean : (between : List ℕ) (a b : Text) → clean between ≡ true → IsClean a → IsClean b → IsClean (joined between a b)
joined_clean between (Ok x) (Ok y) e f g = clean_append (between ++ x) y (clean_append between x e f) g
joined_clean between (Ok x) (Err fault) e f g = tt
joined_clean between (Err fault) b e f g = tt

texts_clean : (m : Meanings) (site : Site) (before : List ℕ) (tokens : List (List ℕ)) → all_clean tokens ≡ true → IsClean (tokens_text m site before tokens)
unfolding tokens_text
texts_clean m site before [] h = refl
texts_clean m site before (token ∷ rest) h =
    let parts = and_parts (clean token) (all_clean rest) h in
    joined_clean (gap before token) (token_text m site before token (is_end rest)) (tokens_text m site token rest) (gap_clean before token)
    (token_clean m site before token (is_end rest) parts.0) (texts_clean m site token rest parts.1)

whole_clean : (m : Meanings) (n slot : ℕ) (tokens : List (List ℕ)) → all_clean tokens ≡ true → IsClean (instruction_text m n slot tokens)
whole_clean m n slot [] h = refl
whole_clean m n slot (name ∷ rest) h =
    let parts = and_parts (clean name) (all_clean rest) h in
    joined_clean [] (Ok name) (tokens_text m (record { role = role_of name; line = n; slot = slot }) (codes ",") rest) refl parts.0
    (texts_clean m (record { role = role_of name; line = n; slot = slot }) (codes ",") rest parts.1)

pub line_clean : (m : Meanings) (n slot : ℕ) (line : List ℕ) → clean line ≡ true → IsClean (line_text m n slot line)
line_clean m n slot line h = whole_clean m n slot (instruction_in (tokens_of line)) (instruction_clean (tokens_of line) (tokens_clean line h))

-- lines
pub one_line : (line rest : List ℕ) → clean line ≡ true → lines_of (line ++ (10 ∷ rest)) ≡ line ∷ lines_of rest
one_line [] rest h = refl
one_line (b ∷ line) rest h =
    let parts = and_parts (not (b == 10)) (clean line) h in
    let other : (b == 10) ≡ false = not_true (b == 10) parts.0 in
    rw other (ap (onto_first b) (one_line line rest parts.1))

abbrev HasLines : Text → ℕ → Type 0
HasLines text n = IfOk text (λ t. length (lines_of t) ≡ n)

lines_joined : (a b : Text) (n : ℕ) → IsClean a → HasLines b n → HasLines (joined [] (fed a) b) (1 + n)
lines_joined (Ok x) (Ok y) n f g =
    let e : (x ++ 10 ∷ []) ++ y ≡ x ++ (10 ∷ y) = append_assoc x (10 ∷ []) y in
    let lines : lines_of ((x ++ 10 ∷ []) ++ y) ≡ x ∷ lines_of y = ap lines_of e ∙ one_line x y f in
    ap length lines ∙ (let h : length (lines_of y) ≡ n = g in omega arith)
lines_joined (Ok x) (Err fault) n f g = tt
lines_joined (Err fault) b n f g = tt

as_many : (m : Meanings) (n slot : ℕ) (lines : List (List ℕ)) → all_clean lines ≡ true → HasLines (lines_text m n slot lines) (length lines)
unfolding lines_text
as_many m n slot [] h = refl
as_many m n slot (line ∷ lines) h =
    let parts = and_parts (clean line) (all_clean lines) h in
    let more = lines_joined (line_text m (n + 1) slot line) (lines_text m (n + 1) (slots_after slot line) lines) (length lines)
    (line_clean m (n + 1) slot line parts.0) (as_many m (n + 1) (slots_after slot line) lines parts.1) in
    let one : 1 + length lines ≡ length (line ∷ lines) = omega arith in
    subst (λ (k : ℕ). HasLines (lines_text m n slot (line ∷ lines)) k) one more

with_names : (map : List ℕ → Option ℕ) (source : List ℕ) (names : Result (List Binding) SourceFault) →
    HasLines (text_with map source names) (length (lines_of source))
with_names map source (Err f) = tt
with_names map source (Ok names) = as_many (record { names = names; map = map }) 0 0 (lines_of source) (lines_clean source)

answered : (text : Text) (t : List ℕ) (n : ℕ) → text ≡ Ok t → HasLines text n → length (lines_of t) ≡ n
answered (Ok s) t n e h = let same : s ≡ t = cc e in ap (λ (x : List ℕ). length (lines_of x)) (sym same) ∙ h
answered (Err f) t n e h = cc e

pub lines_kept : (map : List ℕ → Option ℕ) (source text : List ℕ) → plain map source ≡ Ok text → length (lines_of text) ≡ length (lines_of source)
lines_kept map source text e = answered (plain map source) text (length (lines_of source)) e (with_names map source (names_in source))
