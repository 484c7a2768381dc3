-- The words of a line, one after another.
use Rattle.bpf_model.proofs.Prelude.{ℕ, suc, ◌≡◌, ◌≢◌, ◌<◌, ◌≤◌, ◌==◌, Bool, true, false, not, ◌⊎◌, inl, inr, List, [], ◌∷◌, ◌++◌, length, get_or, take, drop}
use Rattle.bpf_model.proofs.Prelude.{refl, sym, ap, ◌∙◌, arith, drop-cons, ne_eqb, eqb_tells, take-append-drop, take_all, drop_all, length-take, get_or-take}
use Rattle.bpf_model.proofs.Prelude.{slice_split_none, slice_split_at}
use Rattle.std.specs.Prelude.{filter}
use Rattle.std.specs.List.{slice_split, All}
use Rattle.std.proofs.lemmas.List.Elements.{All-from_get_or}
use Rattle.script_lines.specs.Words.{words_of, is_word}

abbrev is_space : ℕ → Bool
is_space b = b == 32

pub long_is_word : (word : List ℕ) → 0 < length word → is_word word ≡ true
long_is_word [] h = absurd (omega arith)
long_is_word (b ∷ word) h = ap not (ne_eqb (length (b ∷ word)) 0 (λ e. omega (arith, e)))

no_spaces : (line : List ℕ) (n : ℕ) → n ≤ length line → ((k : ℕ) → k < n → get_or line k 0 ≢ 32) → All (λ b. is_space b ≡ false) (take n line)
no_spaces line n within before =
    All-from_get_or (λ b. is_space b ≡ false) (take n line) 0 (λ i inside.
    let below : i < n = omega (arith, length-take n line) in
    ap is_space (get_or-take n line i 0 below) ∙ ne_eqb (get_or line i 0) 32 (before i below))

with_word : (word : List ℕ) (parts : List (List ℕ)) → 0 < length word → filter is_word (word ∷ parts) ≡ word ∷ filter is_word parts
with_word word parts some = rw (long_is_word word some) refl

last_word : (line : List ℕ) → 0 < length line → All (λ b. is_space b ≡ false) line → words_of line ≡ line ∷ []
last_word line some lacks = ap (filter is_word) (slice_split_none is_space line lacks) ∙ with_word line [] some

word_before_space : (word rest : List ℕ) → 0 < length word → All (λ b. is_space b ≡ false) word → words_of (word ++ 32 ∷ rest) ≡ word ∷ words_of (32 ∷ rest)
word_before_space word rest some lacks =
    ap (filter is_word) (slice_split_at is_space word 32 rest lacks refl) ∙ with_word word (slice_split is_space rest) some

at_end : (line : List ℕ) (n : ℕ) → 0 < n → n ≡ length line → All (λ b. is_space b ≡ false) (take n line) → words_of line ≡ take n line ∷ words_of (drop n line)
at_end line n some same lacks =
    let all : take n line ≡ line = take_all n line (omega arith) in
    let none : drop n line ≡ [] = drop_all n line (omega arith) in
    let lacks_all : All (λ b. is_space b ≡ false) line = rw all at lacks in
    rw (all, none) (last_word line (omega arith) lacks_all)

at_space : (line : List ℕ) (n : ℕ) → 0 < n → n < length line → get_or line n 0 ≡ 32 →
    All (λ b. is_space b ≡ false) (take n line) → words_of line ≡ take n line ∷ words_of (drop n line)
at_space line n some inside space lacks =
    let rest : drop n line ≡ 32 ∷ drop (suc n) line = drop-cons line n 0 inside ∙ ap (λ b. b ∷ drop (suc n) line) space in
    let parts : line ≡ take n line ++ 32 ∷ drop (suc n) line = sym (take-append-drop n line) ∙ ap (λ xs. take n line ++ xs) rest in
    ap words_of parts ∙ word_before_space (take n line) (drop (suc n) line) (omega (arith, length-take n line)) lacks
    ∙ ap (λ xs. take n line ∷ words_of xs) (sym rest)

end_or_inside : (m n : ℕ) → m ≤ n → (m ≡ n) ⊎ (m < n)
end_or_inside m n h = elim (eqb_tells m n) [ inl same ↦ inl same.1 | inr other ↦ inr (let apart : m ≢ n = other.1 in omega (arith, apart, h)) ]

-- what stands before the first space is the first word
pub first_word : (line : List ℕ) (n : ℕ) → 0 < n → n ≤ length line → ((k : ℕ) → k < n → get_or line k 0 ≢ 32) →
    (n < length line → get_or line n 0 ≡ 32) → words_of line ≡ take n line ∷ words_of (drop n line)
first_word line n some within before space =
    let lacks = no_spaces line n within before in
    elim (end_or_inside n (length line) within) [
      | inl e ↦ at_end line n some e lacks
      | inr inside ↦ at_space line n some inside (space inside) lacks
    ]
