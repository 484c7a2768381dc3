use Rattle.bpf_model.proofs.Prelude.{◌≡◌, ◌∙◌, ap, subst, sym, ℕ, suc, ◌+◌, ◌-◌, ◌/◌, ◌<◌, ◌≤◌, List, arith, rules, length, drop, length-drop, take_all}
use Rattle.hash_index.specs.Chains.{hash_of, mixed_hash, hashed_word, words_hash, word_bytes}
use Rattle.hash_index.proofs.hash.hash_words.Goals as goal

-- how many words so many bytes are
abbrev words_of : ℕ → ℕ
words_of n = (n + (word_bytes - 1)) / word_bytes

-- the hash of what is left, where that is no byte, or at most one word
ended : (h : ℕ) (rest : List ℕ) → length rest ≡ 0 → words_hash (words_of (length rest)) h rest ≡ h
ended h rest e = ap (λ (n : ℕ). words_hash (words_of n) h rest) e

last_word : (h : ℕ) (rest : List ℕ) → 0 < length rest → length rest < word_bytes →
    words_hash (words_of (length rest)) h rest ≡ mixed_hash h (hashed_word rest)
last_word h rest some few =
    let one : words_of (length rest) ≡ 1 = omega arith in ap (λ (n : ℕ). words_hash n h rest) one

pub loop-preserved : goal.loop-preserved
loop-preserved c =
    let rest = c.loop.rest.now in
    let i = c.loop.invariant in
    let more : c.loop.counter < length c.args.key.now / word_bytes = omega (arith, c.loop-test.true) in
    let full : word_bytes ≤ length rest = omega (arith, i.full, more) in
    let further = take_all (length rest - word_bytes) (drop word_bytes rest) (omega (arith, length-drop word_bytes rest)) in
    let left : words_of (length rest) ≡ suc (words_of (length (drop word_bytes rest))) = omega (arith, length-drop word_bytes rest, full) in
    let step : words_hash (suc (words_of (length (drop word_bytes rest)))) c.loop.hash rest ≡ hash_of c.args.key.now =
    subst (λ (n : ℕ). words_hash n c.loop.hash rest ≡ hash_of c.args.key.now) left i.same in
    let word : c.mix-hash.result ≡ mixed_hash c.loop.hash (hashed_word rest) = c.mix-hash.ensures ∙ ap (mixed_hash c.loop.hash) c.word_at_start.ensures in
    record {
      same = ap (λ (bytes : List ℕ). words_hash (words_of (length bytes)) c.mix-hash.result bytes) further
          ∙ (ap (λ (h : ℕ). words_hash (words_of (length (drop word_bytes rest))) h (drop word_bytes rest)) word ∙ step);
      full = omega (arith, ap (λ (bytes : List ℕ). length bytes) further, length-drop word_bytes rest, i.full);
      past = omega (arith, ap (λ (bytes : List ℕ). length bytes) further, length-drop word_bytes rest, i.past, full);
    }

pub returns-then-is_empty : goal.returns-then-is_empty
returns-then-is_empty c =
    let none : length c.loop.rest.now ≡ 0 = search rules in
    sym (ended c.loop.hash c.loop.rest.now none) ∙ c.loop.invariant.same

pub returns-else-is_empty : goal.returns-else-is_empty
returns-else-is_empty c =
    let rest = c.loop.rest.now in
    let some : 0 < length rest = search rules in
    let few : length rest < word_bytes = omega (arith, c.loop.invariant.past, c.loop-test.false) in
    c.mix.ensures ∙ (ap (mixed_hash c.loop.hash) c.filled_word.ensures
    ∙ (sym (last_word c.loop.hash rest some few) ∙ c.loop.invariant.same))
