-- The first token of a line.
use Rattle.bpf_model.proofs.Prelude.{ℕ, suc, ◌≡◌, ◌≢◌, ◌+◌, ◌<◌, ◌==◌, Bool, true, false, not, ◌||◌, ◌&&◌, cond, List, [], ◌∷◌, length, get_or, take, drop}
use Rattle.bpf_model.proofs.Prelude.{refl, sym, ap, ◌∙◌, arith, prefix_len, onto_first, ne_eqb}
use Rattle.asm_source.specs.Tokens.{is_blank, is_mark, is_letter, begins_word, tokens_of}

no_comment : (b : ℕ) → is_blank b ≡ true → (b == 59) ≡ false
no_comment b h = ne_eqb b 59 (λ e. let blank : is_blank 59 ≡ true = sym (ap is_blank e) ∙ h in cc blank)

-- the tokens by what the first byte is: a comment, a blank, a letter
abbrev tokens_by : Bool → Bool → Bool → Bool → List (List ℕ) → List (List ℕ) → List (List ℕ) → List (List ℕ)
tokens_by comment blank letter on skipped joined new = cond comment [] (cond blank skipped (cond (letter && on) joined new))

by_blank : (comment blank letter on : Bool) (skipped joined new : List (List ℕ)) → comment ≡ false → blank ≡ true →
    tokens_by comment blank letter on skipped joined new ≡ skipped
by_blank comment blank letter on skipped joined new e f = rw (e, f) refl

by_letter : (comment blank letter on : Bool) (skipped joined new : List (List ℕ)) → comment ≡ false → blank ≡ false → letter ≡ true →
    tokens_by comment blank letter on skipped joined new ≡ cond on joined new
by_letter comment blank letter on skipped joined new e f g = rw (e, f, g) refl

by_mark : (comment blank letter on : Bool) (skipped joined new : List (List ℕ)) → comment ≡ false → blank ≡ false → letter ≡ false →
    tokens_by comment blank letter on skipped joined new ≡ new
by_mark comment blank letter on skipped joined new e f g = rw (e, f, g) refl

-- a blank says nothing
pub blank_skipped : (b : ℕ) (line : List ℕ) → is_blank b ≡ true → tokens_of (b ∷ line) ≡ tokens_of line
blank_skipped b line h =
    by_blank (b == 59) (is_blank b) (is_letter b) (begins_word line) (tokens_of line) (onto_first b (tokens_of line))
    ((b ∷ []) ∷ tokens_of line) (no_comment b h) h

letter_parts : (blank mark comment : Bool) → not (blank || (mark || comment)) ≡ true → (blank ≡ false) × (comment ≡ false)
letter_parts false false false h = (refl, refl)
letter_parts false false true h = cc h
letter_parts false true comment h = cc h
letter_parts true mark comment h = cc h

pub letter_tokens : (b : ℕ) (line : List ℕ) → is_letter b ≡ true →
    tokens_of (b ∷ line) ≡ cond (begins_word line) (onto_first b (tokens_of line)) ((b ∷ []) ∷ tokens_of line)
letter_tokens b line h =
    let parts = letter_parts (is_blank b) (is_mark b) (b == 59) h in
    by_letter (b == 59) (is_blank b) (is_letter b) (begins_word line) (tokens_of line) (onto_first b (tokens_of line))
    ((b ∷ []) ∷ tokens_of line) parts.1 parts.0 h

abbrev letters : List ℕ → ℕ
letters line = prefix_len is_letter line

letters_by : (b : ℕ) (line : List ℕ) (letter : Bool) → is_letter b ≡ letter → letters (b ∷ line) ≡ cond letter (1 + letters line) 0
letters_by b line letter e = ap (λ (l : Bool). cond l (1 + letters line) 0) e

no_letters : (line : List ℕ) → begins_word line ≡ false → letters line ≡ 0
no_letters [] h = refl
no_letters (b ∷ line) h = letters_by b line false h

word_step : (b : ℕ) (line : List ℕ) (goes_on : Bool) → is_letter b ≡ true → begins_word line ≡ goes_on →
    (begins_word line ≡ true → tokens_of line ≡ take (letters line) line ∷ tokens_of (drop (letters line) line)) →
    tokens_of (b ∷ line) ≡ take (suc (letters line)) (b ∷ line) ∷ tokens_of (drop (suc (letters line)) (b ∷ line))
word_step b line true h on more =
    letter_tokens b line h ∙ ap (λ (w : Bool). cond w (onto_first b (tokens_of line)) ((b ∷ []) ∷ tokens_of line)) on ∙ ap (onto_first b) (more on)
word_step b line false h on more =
    letter_tokens b line h ∙ ap (λ (w : Bool). cond w (onto_first b (tokens_of line)) ((b ∷ []) ∷ tokens_of line)) on
    ∙ ap (λ (n : ℕ). take (suc n) (b ∷ line) ∷ tokens_of (drop (suc n) (b ∷ line))) (sym (no_letters line on))

pub word_first : (line : List ℕ) → begins_word line ≡ true →
    (take (prefix_len is_letter line) line ∷ tokens_of (drop (prefix_len is_letter line) line)) ≡ tokens_of line
word_first [] h = cc h
word_first (b ∷ line) h =
    let one : 1 + letters line ≡ suc (letters line) = omega arith in
    let count : letters (b ∷ line) ≡ suc (letters line) = letters_by b line true h ∙ one in
    ap (λ (n : ℕ). take n (b ∷ line) ∷ tokens_of (drop n (b ∷ line))) count ∙
    sym (word_step b line (begins_word line) h refl (λ on. sym (word_first line on)))

pub mark_first : (line : List ℕ) → 0 < length line → is_blank (get_or line 0 0) ≡ false → get_or line 0 0 ≢ 59 →
    begins_word line ≡ false → tokens_of line ≡ take 1 line ∷ tokens_of (drop 1 line)
mark_first [] some blank comment word = absurd (omega arith)
mark_first (b ∷ line) some blank comment word =
    by_mark (b == 59) (is_blank b) (is_letter b) (begins_word line) (tokens_of line) (onto_first b (tokens_of line))
    ((b ∷ []) ∷ tokens_of line) (ne_eqb b 59 comment) blank word
