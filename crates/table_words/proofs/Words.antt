-- What section words tell.
use Rattle.table_words.proofs.Prelude.{◌≡◌, ◌≢◌, ℕ, ◌+◌, ◌-◌, ◌*◌, ◌%◌, ◌^◌, ◌<◌, ◌≤◌, List, [], ◌∷◌, ◌++◌, refl, sym, ap, ◌∙◌, subst, arith, min-eq_left}
use Rattle.table_words.proofs.Prelude.{min-eq_right, dite, dec_lt, inside, opened, section_word, StaysInside}
use Rattle.table_words.specs.declared.moves.Move.{Move}
use Rattle.table_words.specs.declared.moves.Move.TheVariants.{Open, Close, Learn, Load, Store, Put, Double, Scan}

pub inside_small : (ms : List Move) → inside ms ≤ 1
inside_small [] = omega arith
inside_small (Open ∷ ms) = omega arith
inside_small (Close ∷ ms) = omega arith
inside_small (Learn w x ∷ ms) = inside_small ms
inside_small (Load e p x ∷ ms) = inside_small ms
inside_small (Store e p x ∷ ms) = inside_small ms
inside_small (Put w x ∷ ms) = inside_small ms
inside_small (Double v w x ∷ ms) = inside_small ms
inside_small (Scan r x ∷ ms) = inside_small ms

-- who is inside has opened a section
pub inside_opened : (ms : List Move) → inside ms ≤ opened ms
inside_opened [] = omega arith
inside_opened (Open ∷ ms) = omega arith
inside_opened (Close ∷ ms) = omega arith
inside_opened (Learn w x ∷ ms) = inside_opened ms
inside_opened (Load e p x ∷ ms) = inside_opened ms
inside_opened (Store e p x ∷ ms) = inside_opened ms
inside_opened (Put w x ∷ ms) = inside_opened ms
inside_opened (Double v w x ∷ ms) = inside_opened ms
inside_opened (Scan r x ∷ ms) = inside_opened ms

opened_more : (ns ms : List Move) → opened ms ≤ opened (ns ++ ms)
opened_more [] ms = omega arith
opened_more (Open ∷ ns) ms = let ih = opened_more ns ms in omega (arith, ih)
opened_more (Close ∷ ns) ms = opened_more ns ms
opened_more (Learn w x ∷ ns) ms = opened_more ns ms
opened_more (Load e p x ∷ ns) ms = opened_more ns ms
opened_more (Store e p x ∷ ns) ms = opened_more ns ms
opened_more (Put w x ∷ ns) ms = opened_more ns ms
opened_more (Double v w x ∷ ns) ms = opened_more ns ms
opened_more (Scan r x ∷ ns) ms = opened_more ns ms

-- the word while the count is below its limit, and from there on
pub word_below : (ms : List Move) → opened ms < 2 ^ 62 → section_word ms ≡ 2 * opened ms - inside ms
word_below ms l = ap (λ z. 2 * z - inside ms) (min-eq_left (omega (arith, l)))

pub word_at_limit : (ms : List Move) → (opened ms < 2 ^ 62 → ⊥) → section_word ms ≡ 2 ^ 63 - inside ms
word_at_limit ms l = ap (λ z. 2 * z - inside ms) (min-eq_right (omega (arith, l)))

-- an odd number is that of a reader inside
pub word_parity : (ms : List Move) → section_word ms % 2 ≡ inside ms
word_parity ms =
    let a = inside_small ms in
    let b = inside_opened ms in
    dite (dec_lt (opened ms) (2 ^ 62))
    (λ l. let e = word_below ms l in omega (arith, a, b, e))
    (λ l. let e = word_at_limit ms l in omega (arith, a, e))

pub word_fits : (ms : List Move) → section_word ms < 2 ^ 64
word_fits ms = dite (dec_lt (opened ms) (2 ^ 62))
    (λ l. let e = word_below ms l in omega (arith, l, e))
    (λ l. let e = word_at_limit ms l in omega (arith, e))

pub word_low : (ms : List Move) (x : ℕ) → x ≡ section_word ms → opened ms < 2 ^ 62 → x < 2 ^ 63 - 1
word_low ms x is l = let e = word_below ms l in omega (arith, is, l, e)

-- what neither opens nor closes a section leaves the word
pub word_stays : (ns ms : List Move) → StaysInside ns → section_word (ns ++ ms) ≡ section_word ms
word_stays [] ms s = refl
word_stays (Open ∷ ns) ms s = absurd s
word_stays (Close ∷ ns) ms s = absurd s
word_stays (Learn w x ∷ ns) ms s = word_stays ns ms s
word_stays (Load e p x ∷ ns) ms s = word_stays ns ms s
word_stays (Store e p x ∷ ns) ms s = word_stays ns ms s
word_stays (Put w x ∷ ns) ms s = word_stays ns ms s
word_stays (Double v w x ∷ ns) ms s = word_stays ns ms s
word_stays (Scan r x ∷ ns) ms s = word_stays ns ms s

-- and who was inside stays so
pub inside_same : (ns ms : List Move) → StaysInside ns → inside (ns ++ ms) ≡ inside ms
inside_same ns ms s = sym (word_parity (ns ++ ms)) ∙ (ap (λ z. z % 2) (word_stays ns ms s) ∙ word_parity ms)

-- a stretch that opens no more sections, and at whose end one is open, begins and ends none
none_opened : (ns ms : List Move) → opened (ns ++ ms) ≤ opened ms → inside (ns ++ ms) ≡ 1 → StaysInside ns
none_opened [] ms few i = tt
none_opened (Open ∷ ns) ms few i = let more = opened_more ns ms in absurd (omega (arith, few, more))
none_opened (Close ∷ ns) ms few i = absurd (omega (arith, i))
none_opened (Learn w x ∷ ns) ms few i = none_opened ns ms few i
none_opened (Load e p x ∷ ns) ms few i = none_opened ns ms few i
none_opened (Store e p x ∷ ns) ms few i = none_opened ns ms few i
none_opened (Put w x ∷ ns) ms few i = none_opened ns ms few i
none_opened (Double v w x ∷ ns) ms few i = none_opened ns ms few i
none_opened (Scan r x ∷ ns) ms few i = none_opened ns ms few i

-- an odd word below the limit tells how many sections were opened
word_opened : (ms : List Move) → section_word ms % 2 ≡ 1 → section_word ms < 2 ^ 63 - 1 → 2 * opened ms ≡ section_word ms + 1
word_opened ms odd low =
    let p = word_parity ms in
    let b = inside_opened ms in
    dite (dec_lt (opened ms) (2 ^ 62))
    (λ l. let e = word_below ms l in omega (arith, p, odd, b, e))
    (λ l. let e = word_at_limit ms l in absurd (omega (arith, p, odd, low, e)))

-- one odd number, before and after: the reader stayed in its section
pub one_section : (ns ms : List Move) (x : ℕ) → section_word (ns ++ ms) ≡ x → section_word ms ≡ x → x % 2 ≡ 1 → x < 2 ^ 63 - 1 → StaysInside ns
one_section ns ms x after before odd low =
    let odd_now : section_word (ns ++ ms) % 2 ≡ 1 = ap (λ z. z % 2) after ∙ odd in
    let a = word_opened ms (ap (λ z. z % 2) before ∙ odd) (subst (λ z. z < 2 ^ 63 - 1) (sym before) low) in
    let b = word_opened (ns ++ ms) odd_now (subst (λ z. z < 2 ^ 63 - 1) (sym after) low) in
    none_opened ns ms (omega (arith, a, b, after, before)) (sym (word_parity (ns ++ ms)) ∙ odd_now)

-- a number that is not even is odd
pub odd_else : (x : ℕ) → x % 2 ≢ 0 → x % 2 ≡ 1
odd_else x ne = omega (arith, ne)
