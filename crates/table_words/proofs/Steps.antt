-- What one more step leaves as it was.
use Rattle.table_words.proofs.Prelude.{◌≡◌, ◌≢◌, ℕ, zero, suc, ◌+◌, ◌<◌, ◌≤◌, List, [], ◌∷◌, refl, sym, ap, ◌∙◌, subst, ⊎_elim, arith, eq-eqb, ne_eqb}
use Rattle.table_words.proofs.Prelude.{length, slice_index, dite, ℕ_discrete, Layout, Names, moves_of, word_in, word_after, word_at, key_of, Holds}
use Rattle.table_words.proofs.Prelude.{IsSpare, IsOpenTo, MayDo}
use Rattle.table_words.specs.declared.moves.Move.{Move}
use Rattle.table_words.specs.declared.moves.Move.TheVariants.{Open, Close, Learn, Load, Store, Put, Double, Scan}
use Rattle.table_words.specs.History.{words_from}

-- the moves of one holder, after one more step
pub own : (who : ℕ) (e : ℕ × Move) (es : List (ℕ × Move)) → e.0 ≡ who → moves_of who (e ∷ es) ≡ e.1 ∷ moves_of who es
own who e es is = rw (eq-eqb e.0 who is) refl

pub others : (who : ℕ) (e : ℕ × Move) (es : List (ℕ × Move)) → e.0 ≢ who → moves_of who (e ∷ es) ≡ moves_of who es
others who e es ne = rw (ne_eqb e.0 who ne) refl

-- what one step leaves of a word
pub stored_elsewhere : (s p x element place old : ℕ) (es : List (ℕ × Move)) (who : ℕ) → s ≢ element →
    word_at element place ((who, Store s p x) ∷ es) ≡ word_at element place es
stored_elsewhere s p x element place old es who ne = rw (ne_eqb s element ne) refl

stored_beside : (s p x element place : ℕ) (es : List (ℕ × Move)) (who : ℕ) → s ≡ element → p ≢ place →
    word_at element place ((who, Store s p x) ∷ es) ≡ word_at element place es
stored_beside s p x element place es who is ne = rw (eq-eqb s element is) (rw (ne_eqb p place ne) refl)

words_same : (element place n : ℕ) (es fs : List (ℕ × Move)) →
    ((p : ℕ) → p < place + n → word_at element p es ≡ word_at element p fs) →
    words_from element place n es ≡ words_from element place n fs
words_same element place zero es fs same = refl
words_same element place (suc n) es fs same =
    let head : word_at element place es ≡ word_at element place fs = same place (omega arith) in
    let tail = words_same element (suc place) n es fs (λ p l. same p (omega arith)) in
    λ i. head i ∷ tail i

key_same : (k : Layout) (element : ℕ) (es fs : List (ℕ × Move)) →
    ((p : ℕ) → p < k.key_words (k.table_of element) → word_at element p es ≡ word_at element p fs) → key_of k element es ≡ key_of k element fs
key_same k element es fs same = words_same element 0 (k.key_words (k.table_of element)) es fs (λ p l. same p (omega arith))

stored_key : (k : Layout) (es : List (ℕ × Move)) (who element s p x : ℕ) → MayDo k es who (Store s p x) →
    (IsSpare k.readers element (moves_of 0 es) → ⊥) → key_of k element ((who, Store s p x) ∷ es) ≡ key_of k element es
stored_key k es who element s p x may kept = dite (ℕ_discrete s element)
    (λ same. ⊎_elim
    (λ (w : (who ≡ 0) × IsSpare k.readers s (moves_of 0 es)).
    absurd (kept (subst (λ z. IsSpare k.readers z (moves_of 0 es)) same w.1)))
    (λ (r : Holds s (moves_of who es) × (k.key_words (k.table_of s) ≤ p) × IsOpenTo k who s p).
    let high : k.key_words (k.table_of element) ≤ p = subst (λ z. k.key_words (k.table_of z) ≤ p) same r.1 in
    key_same k element ((who, Store s p x) ∷ es) es
    (λ place l. stored_beside s p x element place es who same (λ e. absurd (omega (arith, high, l, e))))) may)
    (λ ne. key_same k element ((who, Store s p x) ∷ es) es (λ place l. stored_elsewhere s p x element place 0 es who ne))

-- an element that is not spare keeps its key
key_of_step : (k : Layout) (es : List (ℕ × Move)) (who element : ℕ) (m : Move) → MayDo k es who m →
    (IsSpare k.readers element (moves_of 0 es) → ⊥) → key_of k element ((who, m) ∷ es) ≡ key_of k element es
key_of_step k es who element Open may kept = key_same k element ((who, Open) ∷ es) es (λ p l. refl)
key_of_step k es who element Close may kept = key_same k element ((who, Close) ∷ es) es (λ p l. refl)
key_of_step k es who element (Learn w x) may kept = key_same k element ((who, Learn w x) ∷ es) es (λ p l. refl)
key_of_step k es who element (Load s p x) may kept = key_same k element ((who, Load s p x) ∷ es) es (λ q l. refl)
key_of_step k es who element (Store s p x) may kept = stored_key k es who element s p x may kept
key_of_step k es who element (Put w x) may kept = key_same k element ((who, Put w x) ∷ es) es (λ p l. refl)
key_of_step k es who element (Double v w x) may kept = key_same k element ((who, Double v w x) ∷ es) es (λ p l. refl)
key_of_step k es who element (Scan r x) may kept = key_same k element ((who, Scan r x) ∷ es) es (λ p l. refl)

pub key_step : (k : Layout) (es : List (ℕ × Move)) (e : ℕ × Move) (element : ℕ) → MayDo k es e.0 e.1 →
    (IsSpare k.readers element (moves_of 0 es) → ⊥) → key_of k element (e ∷ es) ≡ key_of k element es
key_step k es e element may kept = key_of_step k es e.0 element e.1 may kept

-- putting a word in a way changes no key
pub key_put : (k : Layout) (es : List (ℕ × Move)) (who element way x : ℕ) →
    key_of k element ((who, Put way x) ∷ es) ≡ key_of k element es
key_put k es who element way x = key_same k element ((who, Put way x) ∷ es) es (λ p l. refl)

pub key_doubled : (k : Layout) (es : List (ℕ × Move)) (who element from way x : ℕ) →
    key_of k element ((who, Double from way x) ∷ es) ≡ key_of k element es
key_doubled k es who element from way x = key_same k element ((who, Double from way x) ∷ es) es (λ p l. refl)

-- nor does learning
pub key_learn : (k : Layout) (es : List (ℕ × Move)) (who element way x : ℕ) →
    key_of k element ((who, Learn way x) ∷ es) ≡ key_of k element es
key_learn k es who element way x = key_same k element ((who, Learn way x) ∷ es) es (λ p l. refl)

pub key_load : (k : Layout) (es : List (ℕ × Move)) (who element e p x : ℕ) →
    key_of k element ((who, Load e p x) ∷ es) ≡ key_of k element es
key_load k es who element e p x = key_same k element ((who, Load e p x) ∷ es) es (λ q l. refl)

-- nor does any step that stores nothing
pub key_other : (k : Layout) (es : List (ℕ × Move)) (who element : ℕ) (m : Move) →
    ((p old : ℕ) → word_after element p m old ≡ old) → key_of k element ((who, m) ∷ es) ≡ key_of k element es
key_other k es who element m same = key_same k element ((who, m) ∷ es) es (λ p l. same p (word_at element p es))

-- nor a store behind the key
pub key_stored : (k : Layout) (es : List (ℕ × Move)) (who element s p x : ℕ) → k.key_words (k.table_of s) ≤ p →
    key_of k element ((who, Store s p x) ∷ es) ≡ key_of k element es
key_stored k es who element s p x high = dite (ℕ_discrete s element)
    (λ same. let above : k.key_words (k.table_of element) ≤ p = subst (λ z. k.key_words (k.table_of z) ≤ p) same high in
    key_same k element ((who, Store s p x) ∷ es) es
    (λ place l. stored_beside s p x element place es who same (λ e. absurd (omega (arith, above, l, e)))))
    (λ ne. key_same k element ((who, Store s p x) ∷ es) es (λ place l. stored_elsewhere s p x element place 0 es who ne))

-- the word of a way after a word was put in it, or in another
pub put_here : (w way x : ℕ) (ms : List Move) → w ≡ way → word_in way (Put w x ∷ ms) ≡ x
put_here w way x ms is = rw (eq-eqb w way is) refl

pub put_there : (w way x : ℕ) (ms : List Move) → w ≢ way → word_in way (Put w x ∷ ms) ≡ word_in way ms
put_there w way x ms ne = rw (ne_eqb w way ne) refl

-- the same of a word that is put in a second way
pub doubled_here : (v w way x : ℕ) (ms : List Move) → w ≡ way → word_in way (Double v w x ∷ ms) ≡ x
doubled_here v w way x ms is = rw (eq-eqb w way is) refl

pub doubled_there : (v w way x : ℕ) (ms : List Move) → w ≢ way → word_in way (Double v w x ∷ ms) ≡ word_in way ms
doubled_there v w way x ms ne = rw (ne_eqb w way ne) refl

-- a word names one element
pub one_name : (word a b : ℕ) → Names word a → Names word b → a ≡ b
one_name word a b p q = omega (arith, sym p ∙ q)

pub nothing_named : (element : ℕ) → Names 0 element → ⊥
nothing_named element h = absurd (omega (arith, h))

-- a word of an element's key
word_of_key : (element place n p : ℕ) (es : List (ℕ × Move)) → p < n → slice_index (words_from element place n es) p ≡ word_at element (place + p) es
word_of_key element place zero p es l = absurd (omega (arith, l))
word_of_key element place (suc n) zero es l = let e : place ≡ place + 0 = omega arith in ap (λ z. word_at element z es) e
word_of_key element place (suc n) (suc p) es l = let e : suc place + p ≡ place + suc p = omega arith in
    word_of_key element (suc place) n p es (omega (arith, l)) ∙ ap (λ z. word_at element z es) e

pub key_word : (k : Layout) (element p : ℕ) (es : List (ℕ × Move)) → p < k.key_words (k.table_of element) →
    slice_index (key_of k element es) p ≡ word_at element p es
key_word k element p es l = let e : 0 + p ≡ p = omega arith in
    word_of_key element 0 (k.key_words (k.table_of element)) p es l ∙ ap (λ z. word_at element z es) e

words_are : (element place n : ℕ) (key : List ℕ) (es : List (ℕ × Move)) → length key ≡ n →
    ((p : ℕ) → p < n → slice_index key p ≡ word_at element (place + p) es) → words_from element place n es ≡ key
words_are element place zero [] es count same = refl
words_are element place zero (a ∷ key) es count same = absurd (omega (arith, count))
words_are element place (suc n) [] es count same = absurd (omega (arith, count))
words_are element place (suc n) (a ∷ key) es count same =
    let here : place + 0 ≡ place = omega arith in
    let head : word_at element place es ≡ a = sym (same 0 (omega arith) ∙ ap (λ z. word_at element z es) here) in
    let tail = words_are element (suc place) n key es (omega (arith, count)) (λ p l. let e : place + suc p ≡ suc place + p = omega arith in
    same (suc p) (omega (arith, l)) ∙ ap (λ z. word_at element z es) e) in
    λ i. head i ∷ tail i

-- a key whose words the element has is its key
pub key_is : (k : Layout) (element : ℕ) (key : List ℕ) (es : List (ℕ × Move)) → length key ≡ k.key_words (k.table_of element) →
    ((p : ℕ) → p < k.key_words (k.table_of element) → slice_index key p ≡ word_at element p es) → key_of k element es ≡ key
key_is k element key es count same = words_are element 0 (k.key_words (k.table_of element)) key es count
    (λ p l. let e : p ≡ 0 + p = omega arith in same p l ∙ ap (λ z. word_at element z es) e)
