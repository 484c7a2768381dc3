-- Bytes that are cut at the first of one byte: words and lines.
use Rattle.bpf_model.proofs.Prelude.{◌≡◌, ◌≢◌, ℕ, ◌+◌, ◌<◌, ◌==◌, Bool, true, false, not, cond, List, [], ◌∷◌, ◌++◌, length, get_or, take, Bor, refl, sym, ap}
use Rattle.bpf_model.proofs.Prelude.{subst, ◌∙◌, Option, Some, None, is_some, MatchOption, onto_first, cond-false, false≢true, ne_eqb, take_more, All-nil}
use Rattle.bpf_model.proofs.Prelude.{All-cons, All-head, All-tail, All-append}
use Rattle.program_files.specs.Lines.{file_words}
use Rattle.script_stream.specs.Lines.{lines_of}
use Rattle.program_files.specs.Stages.{HasNoByte, words_left}

-- one byte more that is another
pub no_byte_more : (at : ℕ) (bytes : List ℕ) (i : ℕ) → i < length bytes → HasNoByte at (take i bytes) →
    get_or bytes i 0 ≢ at → HasNoByte at (take (i + 1) bytes)
no_byte_more at bytes i inside h other =
    subst (HasNoByte at) (sym (take_more bytes i 0 inside))
    (All-append (λ b. (b == at) ≡ false) (take i bytes) (get_or bytes i 0 ∷ []) h
    (All-cons (λ b. (b == at) ≡ false) (get_or bytes i 0) [] (ne_eqb (get_or bytes i 0) at other)
    (All-nil (λ b. (b == at) ≡ false))))

-- words

pub one_word : (line : List ℕ) → HasNoByte 32 line → file_words line ≡ line ∷ []
one_word [] h = refl
one_word (b ∷ line) h =
    cond-false (b == 32) _ _ (All-head (λ x. (x == 32) ≡ false) b line h) ∙ ap (onto_first b) (one_word line (All-tail (λ x. (x == 32) ≡ false) b line h))

pub first_word : (front rest : List ℕ) → HasNoByte 32 front → file_words (front ++ 32 ∷ rest) ≡ front ∷ file_words rest
first_word [] rest h = refl
first_word (b ∷ front) rest h =
    cond-false (b == 32) _ _ (All-head (λ x. (x == 32) ≡ false) b front h) ∙
    ap (onto_first b) (first_word front rest (All-tail (λ x. (x == 32) ≡ false) b front h))

pub word_cut : (line front : List ℕ) (rest : Option (Bor (List ℕ))) → HasNoByte 32 front →
    MatchOption rest (line ≡ front) (λ r. line ≡ front ++ 32 ∷ r.now) → file_words line ≡ front ∷ words_left rest
word_cut line front None h e = ap file_words e ∙ one_word front h
word_cut line front (Some r) h e = ap file_words e ∙ first_word front r.now h

onto_some : (b : ℕ) (parts : List (List ℕ)) → onto_first b parts ≢ []
onto_some b [] h = cc
onto_some b (part ∷ parts) h = cc

pub some_word : (line : List ℕ) → file_words line ≢ []
some_word [] h = cc
some_word (b ∷ line) h =
    elim (b == 32) as (λ (v : Bool). cond v ([] ∷ file_words line) (onto_first b (file_words line)) ≡ [] → ⊥) [
      | true ↦ (λ (e : [] ∷ file_words line ≡ []). cc)
      | false ↦ (λ e. onto_some b (file_words line) e)
    ] h

pub words_some : (rest : Option (Bor (List ℕ))) (r : Bool) → is_some rest ≡ not r → r ≡ false → words_left rest ≢ []
words_some None r e h = absurd (false≢true (e ∙ ap not h))
words_some (Some line) r e h = some_word line.now

-- lines

pub last_line : (b : ℕ) (line : List ℕ) → HasNoByte 10 (b ∷ line) → lines_of (b ∷ line) ≡ (b ∷ line) ∷ []
last_line b [] h = cond-false (b == 10) _ _ (All-head (λ x. (x == 10) ≡ false) b [] h)
last_line b (d ∷ line) h =
    cond-false (b == 10) _ _ (All-head (λ x. (x == 10) ≡ false) b (d ∷ line) h) ∙
    ap (onto_first b) (last_line d line (All-tail (λ x. (x == 10) ≡ false) b (d ∷ line) h))

pub first_line : (front rest : List ℕ) → HasNoByte 10 front → lines_of (front ++ 10 ∷ rest) ≡ front ∷ lines_of rest
first_line [] rest h = refl
first_line (b ∷ front) rest h =
    cond-false (b == 10) _ _ (All-head (λ x. (x == 10) ≡ false) b front h) ∙
    ap (onto_first b) (first_line front rest (All-tail (λ x. (x == 10) ≡ false) b front h))

-- lines and what stands behind them

onto_behind : (b : ℕ) (lines more : List (List ℕ)) → lines ≢ [] → onto_first b (lines ++ more) ≡ onto_first b lines ++ more
onto_behind b [] more some = absurd (some refl)
onto_behind b (line ∷ lines) more some = refl

-- bytes have a line
pub some_line : (b : ℕ) (bytes : List ℕ) → lines_of (b ∷ bytes) ≢ []
some_line b bytes h =
    elim (b == 10) as (λ (v : Bool). cond v ([] ∷ lines_of bytes) (onto_first b (lines_of bytes)) ≡ [] → ⊥) [
      | true ↦ (λ (e : [] ∷ lines_of bytes ≡ []). cc)
      | false ↦ (λ e. onto_some b (lines_of bytes) e)
    ] h

pub ended_some : (front : List ℕ) → lines_of (front ++ 10 ∷ []) ≢ []
ended_some [] = some_line 10 []
ended_some (b ∷ front) = some_line b (front ++ 10 ∷ [])

-- what stands behind a line feed has lines of its own
pub lines_behind : (front after : List ℕ) → lines_of (front ++ 10 ∷ after) ≡ lines_of (front ++ 10 ∷ []) ++ lines_of after
lines_behind [] after = refl
lines_behind (b ∷ front) after =
    let here = lines_of (front ++ 10 ∷ []) in
    ap (λ ls. cond (b == 10) ([] ∷ ls) (onto_first b ls)) (lines_behind front after)
    ∙ (elim (b == 10) as (λ (v : Bool). cond v ([] ∷ (here ++ lines_of after)) (onto_first b (here ++ lines_of after))
    ≡ cond v ([] ∷ here) (onto_first b here) ++ lines_of after) [
      | true ↦ refl
      | false ↦ onto_behind b here (lines_of after) (ended_some front)
    ])
