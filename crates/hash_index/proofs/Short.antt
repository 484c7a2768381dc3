-- Keys of one word or of half a word.
use Rattle.bpf_model.proofs.Prelude.{◌≡◌, ◌∙◌, ◌+◌, ◌-◌, ◌/◌, ◌<◌, ℕ, List, length, get_or, inl, inr, sym, ap, arith, from_le_bytes, to_le_bytes, w32, w64}
use Rattle.bpf_model.proofs.Prelude.{bytes_eq, nat_eq, cases_Bool, eq-eqb, eqb-true, false_from_ne_true, false≢true, get_or_past, le_bytes_4}
use Rattle.std.specs.Cmp.Lexicographic.{bytes_decides}
use Rattle.std.proofs.lemmas.Nat.{le_bytes_8}
use Rattle.hash_index.specs.Chains.{hash_of, hashed_word, mixed_hash, words_hash, hash_start, word_bytes}
use Rattle.hash_index.specs.declared.hash.TheConstants.{HALF_BYTES}

-- four bytes have the number of the word that zeros fill up
pub half_is : (bytes : List ℕ) → length bytes ≡ 4 → hashed_word bytes ≡ from_le_bytes w32 bytes
half_is bytes h =
    let four : get_or bytes 4 0 ≡ 0 = get_or_past bytes 4 0 (omega arith) in
    let five : get_or bytes 5 0 ≡ 0 = get_or_past bytes 5 0 (omega arith) in
    let six : get_or bytes 6 0 ≡ 0 = get_or_past bytes 6 0 (omega arith) in
    let seven : get_or bytes 7 0 ≡ 0 = get_or_past bytes 7 0 (omega arith) in
    omega arith

-- a key of one word, or of half a word, is hashed as one
pub word_hashed : (key : List ℕ) → length key ≡ word_bytes → hash_of key ≡ mixed_hash hash_start (hashed_word key)
word_hashed key h = ap (λ (n : ℕ). words_hash ((n + (word_bytes - 1)) / word_bytes) hash_start key) h

pub half_hashed : (key : List ℕ) → length key ≡ HALF_BYTES → hash_of key ≡ mixed_hash hash_start (hashed_word key)
half_hashed key h = ap (λ (n : ℕ). words_hash ((n + (word_bytes - 1)) / word_bytes) hash_start key) h

-- bytes are told by a number that they can be read back from
told_by : (back : ℕ → List ℕ) (from : List ℕ → ℕ) (a b : List ℕ) (m n : ℕ) → m ≡ from a → n ≡ from b → back m ≡ a →
    back n ≡ b → nat_eq m n ≡ bytes_eq a b
told_by back from a b m n ma nb ba bb = elim (cases_Bool (nat_eq m n)) [
  | inl y ↦ y ∙ sym ((bytes_decides a b).1 (sym ba ∙ (ap back (eqb-true m n y) ∙ bb)))
  | inr z ↦ z ∙ sym (false_from_ne_true (bytes_eq a b)
      (λ h. false≢true (sym z ∙ eq-eqb m n (ma ∙ (ap from ((bytes_decides a b).0 h) ∙ sym nb)))))
]

pub word_told : (a b : List ℕ) (m n : ℕ) → length a ≡ word_bytes → length b ≡ word_bytes → ((i : ℕ) → get_or a i 0 < 256) →
    ((i : ℕ) → get_or b i 0 < 256) → m ≡ hashed_word a → n ≡ hashed_word b → nat_eq m n ≡ bytes_eq a b
word_told a b m n la lb ba bb ma nb =
    told_by (to_le_bytes w64) (from_le_bytes w64) a b m n ma nb (le_bytes_8 a m la ba ma) (le_bytes_8 b n lb bb nb)

pub half_told : (a b : List ℕ) (m n : ℕ) → length a ≡ HALF_BYTES → length b ≡ HALF_BYTES → ((i : ℕ) → get_or a i 0 < 256) →
    ((i : ℕ) → get_or b i 0 < 256) → m ≡ hashed_word a → n ≡ hashed_word b → nat_eq m n ≡ bytes_eq a b
half_told a b m n la lb ba bb ma nb =
    let ka : m ≡ from_le_bytes w32 a = ma ∙ half_is a la in
    let kb : n ≡ from_le_bytes w32 b = nb ∙ half_is b lb in
    told_by (to_le_bytes w32) (from_le_bytes w32) a b m n ka kb (le_bytes_4 a m la ba ka) (le_bytes_4 b n lb bb kb)
