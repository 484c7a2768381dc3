-- The first line of a text, and how many lines there are.
use Rattle.bpf_model.proofs.Prelude.{ℕ, suc, ◌≡◌, ◌+◌, ◌<◌, ◌≤◌, ◌==◌, Bool, true, false, not, cond, List, [], ◌∷◌, length, take, drop, refl, sym, ap, ◌∙◌}
use Rattle.bpf_model.proofs.Prelude.{arith, Option, Some, None, nat_lt, position, prefix_len, onto_first, nat_tests}
use Rattle.asm_source.specs.Tokens.{lines_of}

abbrev is_feed : ℕ → Bool
is_feed b = b == 10

-- the bytes before the first line feed
abbrev before : List ℕ → ℕ
before text = prefix_len (λ b. not (is_feed b)) text

onto : (b : ℕ) (text : List ℕ) (n : ℕ) (lines : List (List ℕ)) → lines_of text ≡ take n text ∷ lines →
    onto_first b (lines_of text) ≡ take (1 + n) (b ∷ text) ∷ lines
onto b text n lines e =
    let one : 1 + n ≡ suc n = omega arith in
    rw (e, one) refl

cut_step : (b : ℕ) (text : List ℕ) (feed : Bool) → is_feed b ≡ feed → before (b ∷ text) < length (b ∷ text) →
    (before text < length text → lines_of text ≡ take (before text) text ∷ lines_of (drop (suc (before text)) text)) →
    lines_of (b ∷ text) ≡ take (before (b ∷ text)) (b ∷ text) ∷ lines_of (drop (suc (before (b ∷ text))) (b ∷ text))
cut_step b text true e h more = rw e refl
cut_step b text false e h more =
    let inside : cond (not false) (1 + before text) 0 < length (b ∷ text) = rw e at h in
    let rest = more (omega arith) in
    let one : 1 + before text ≡ suc (before text) = omega arith in
    rw e (onto b text (before text) (lines_of (drop (suc (before text)) text)) rest ∙
    ap (λ n. take (1 + before text) (b ∷ text) ∷ lines_of (drop (suc n) (b ∷ text))) (sym one))

cut : (text : List ℕ) → before text < length text → lines_of text ≡ take (before text) text ∷ lines_of (drop (suc (before text)) text)
cut [] h = absurd (omega arith)
cut (b ∷ text) h = cut_step b text (is_feed b) refl h (λ inside. cut text inside)

uncut_step : (b : ℕ) (text : List ℕ) (feed : Bool) → is_feed b ≡ feed → length (b ∷ text) ≤ before (b ∷ text) →
    (0 < length text → length text ≤ before text → lines_of text ≡ text ∷ []) → lines_of (b ∷ text) ≡ (b ∷ text) ∷ []
uncut_step b text true e h more = let none : length (b ∷ text) ≤ 0 = rw e at h in absurd (omega arith)
uncut_step b [] false e h more = rw e refl
uncut_step b (d ∷ text) false e h more =
    let inside : length (b ∷ d ∷ text) ≤ 1 + before (d ∷ text) = rw e at h in
    rw e (ap (onto_first b) (more (omega arith) (omega arith)))

uncut : (text : List ℕ) → 0 < length text → length text ≤ before text → lines_of text ≡ text ∷ []
uncut [] some h = absurd (omega arith)
uncut (b ∷ text) some h = uncut_step b text (is_feed b) refl h (λ k l. uncut text k l)

found : (b : Bool) (n end : ℕ) → cond b (Some n) None ≡ Some end → (b ≡ true) × (n ≡ end)
found true n end e = (refl, cc e)
found false n end e = cc e

not_found : (b : Bool) (n : ℕ) → (let none : Option ℕ = None in cond b (Some n) None ≡ none) → b ≡ false
not_found true n e = cc e
not_found false n e = refl

-- the line that a line feed ends
pub fed_inside : (text : List ℕ) (end : ℕ) → position (λ b. b == 10) text ≡ Some end → end < length text
fed_inside text end e =
    let parts = found (nat_lt (before text) (length text)) (before text) end e in
    let test : nat_lt (before text) (length text) ≡ true = parts.0 in
    let inside : before text < length text = grind (arith, nat_tests) in
    let same : before text ≡ end = parts.1 in
    omega arith

pub fed_line : (text : List ℕ) (end : ℕ) → position (λ b. b == 10) text ≡ Some end →
    (take end text ∷ lines_of (drop (end + 1) text)) ≡ lines_of text
fed_line text end e =
    let parts = found (nat_lt (before text) (length text)) (before text) end e in
    let test : nat_lt (before text) (length text) ≡ true = parts.0 in
    let inside : before text < length text = grind (arith, nat_tests) in
    let same : before text ≡ end = parts.1 in
    let next : end + 1 ≡ suc (before text) = omega arith in
    rw next (sym (cut text inside ∙ ap (λ n. take n text ∷ lines_of (drop (suc (before text)) text)) same))

-- the line that the text ends
pub last_line : (text : List ℕ) → 0 < length text → (let none : Option ℕ = None in position (λ b. b == 10) text ≡ none) → lines_of text ≡ text ∷ []
last_line text some e =
    let test : nat_lt (before text) (length text) ≡ false = not_found (nat_lt (before text) (length text)) (before text) e in
    uncut text some (grind (arith, nat_tests))

onto_le : (b : ℕ) (lines : List (List ℕ)) (n : ℕ) → length lines ≤ n → length (onto_first b lines) ≤ n + 1
onto_le b [] n h = omega arith
onto_le b (line ∷ lines) n h = omega arith

count_step : (b : ℕ) (text : List ℕ) (feed : Bool) → is_feed b ≡ feed → length (lines_of text) ≤ length text →
    length (lines_of (b ∷ text)) ≤ length (b ∷ text)
count_step b text true e h = rw e (omega arith)
count_step b text false e h = let more = onto_le b (lines_of text) (length text) h in rw e (omega arith)

pub lines_le : (text : List ℕ) → length (lines_of text) ≤ length text
lines_le [] = omega arith
lines_le (b ∷ text) = count_step b text (is_feed b) refl (lines_le text)
