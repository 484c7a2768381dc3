-- Threads under changes of links.
use Rattle.std.proofs.Common.{◌≡◌, ◌≢◌, ◌∙◌, ℕ, zero, suc, ◌<◌, ◌≤◌, List, [], ◌∷◌, ◌++◌, length, Option, Some, None, refl, sym, ap, arith, cond, eqb, subst}
use Rattle.std.proofs.lemmas.Option.{none-some, same_Some}
use Rattle.element_store.specs.State.{times_in}
use Rattle.element_store.specs.Threads.{IsThread, walk, last_slot_of}
use Rattle.element_store.proofs.Counts.{one_same, times_first}
use Rattle.element_store.specs.Kept.{last_left}

pub walk-thread : (next : ℕ → Option ℕ) (o : Option ℕ) (xs : List ℕ) (n : ℕ) → IsThread next o xs → length xs ≤ n → walk n next o ≡ xs
walk-thread next o [] zero t l = refl
walk-thread next o [] (suc n) t l = ap (walk (suc n) next) t
walk-thread next o (x ∷ xs) zero t l = absurd (omega arith)
walk-thread next o (x ∷ xs) (suc n) t l = ap (walk (suc n) next) t.0 ∙ ap (λ ys. x ∷ ys) (walk-thread next (next x) xs n t.1 (omega arith))

pub thread-agree : (f g : ℕ → Option ℕ) (o : Option ℕ) (xs : List ℕ) → ((j : ℕ) → 0 < times_in j xs → g j ≡ f j) → IsThread f o xs → IsThread g o xs
thread-agree f g o [] h t = t
thread-agree f g o (x ∷ xs) h t =
    (t.0, subst (λ p. IsThread g p xs) (sym (h x (times_first x xs))) (thread-agree f g (f x) xs (λ j l. h j (omega arith)) t.1))

-- a walk reads the links of the slots that it goes through alone
pub walk-agree : (n : ℕ) (f g : ℕ → Option ℕ) (o : Option ℕ) → ((j : ℕ) → 0 < times_in j (walk n f o) → g j ≡ f j) → walk n g o ≡ walk n f o
walk-agree zero f g o h = refl
walk-agree (suc n) f g None h = refl
walk-agree (suc n) f g (Some i) h =
    ap (λ p. i ∷ walk n g p) (h i (times_first i (walk n f (f i)))) ∙ ap (λ ys. i ∷ ys) (walk-agree n f g (f i) (λ j l. h j (omega arith)))

pub thread-some : (next : ℕ → Option ℕ) (o : Option ℕ) (xs : List ℕ) (i : ℕ) → IsThread next o xs → o ≡ Some i →
    (ys : List ℕ) × (xs ≡ i ∷ ys) × IsThread next (next i) ys
thread-some next o [] i t e = absurd (none-some i (sym t ∙ e))
thread-some next o (x ∷ xs) i t e = let y : x ≡ i = same_Some x i (sym t.0 ∙ e) in (xs, ap (λ z. z ∷ xs) y, subst (λ z. IsThread next (next z) xs) y t.1)

-- the last slot of a list whose first one leaves it
pub left-last : (next : ℕ → Option ℕ) (i : ℕ) (last o : Option ℕ) (ys : List ℕ) → IsThread next o ys →
    last ≡ last_slot_of (i ∷ ys) → last_left o last ≡ last_slot_of ys
left-last next i last None [] t h = refl
left-last next i last None (y ∷ ys) t h = absurd (none-some y t.0)
left-last next i last (Some x) [] t h = absurd (none-some x (sym t))
left-last next i last (Some x) (y ∷ ys) t h = h

pub last-none : (xs : List ℕ) → last_slot_of xs ≡ None → xs ≡ []
last-none [] h = refl
last-none (x ∷ []) h = absurd (none-some x (sym h))
last-none (x ∷ (y ∷ ys)) h = absurd (let z : (y ∷ ys) ≡ [] = last-none (y ∷ ys) h in cc)

pub last-held : (xs : List ℕ) (l : ℕ) → last_slot_of xs ≡ Some l → 0 < times_in l xs
last-held [] l h = absurd (none-some l h)
last-held (x ∷ []) l h = subst (λ z. 0 < times_in z (x ∷ [])) (same_Some x l h) (times_first x [])
last-held (x ∷ (y ∷ ys)) l h = let p : 0 < times_in l (y ∷ ys) = last-held (y ∷ ys) l h in omega arith

pub last-append : (xs ys : List ℕ) (l : ℕ) → last_slot_of ys ≡ Some l → last_slot_of (xs ++ ys) ≡ Some l
last-append [] ys l h = h
last-append (x ∷ []) [] l h = absurd (none-some l h)
last-append (x ∷ []) (y ∷ ys) l h = h
last-append (x ∷ (z ∷ xs)) ys l h = last-append (z ∷ xs) ys l h

-- the last slot of one thread is linked to the first of another
pub thread-join : (f g : ℕ → Option ℕ) (o p : Option ℕ) (xs ys : List ℕ) (l : ℕ) →
    IsThread f o xs → last_slot_of xs ≡ Some l → ((j : ℕ) → times_in j xs ≤ 1) → g l ≡ p →
    ((j : ℕ) → 0 < times_in j xs → j ≢ l → g j ≡ f j) → IsThread g p ys → IsThread g o (xs ++ ys)
thread-join f g o p [] ys l t e once at others u = absurd (none-some l e)
thread-join f g o p (x ∷ []) ys l t e once at others u =
    (t.0, subst (λ q. IsThread g q ys) (sym at ∙ ap g (sym (same_Some x l e))) u)
thread-join f g o p (x ∷ (y ∷ xs)) ys l t e once at others u =
    let held : 0 < times_in l (y ∷ xs) = last-held (y ∷ xs) l e in
    let ne : x ≢ l = λ s. let o : times_in l (x ∷ (y ∷ xs)) ≤ 1 = once l in let c : cond {A = ℕ} (eqb x l) 1 0 ≡ 1 =
    subst (λ z. cond {A = ℕ} (eqb x z) 1 0 ≡ 1) s (one_same x) in absurd (omega arith) in
    let rest : IsThread g (f x) ((y ∷ xs) ++ ys) = thread-join f g (f x) p (y ∷ xs) ys l t.1 e
    (λ j. let o : times_in j (x ∷ (y ∷ xs)) ≤ 1 = once j in omega arith) at (λ j h n. others j (omega arith) n)
    u in
    (t.0, subst (λ q. IsThread g q ((y ∷ xs) ++ ys)) (sym (others x (times_first x (y ∷ xs)) ne)) rest)

-- slots taken out of the middle: the one before is linked to the one after
pub thread-skip : (f g : ℕ → Option ℕ) (o : Option ℕ) (xs ys : List ℕ) (p i : ℕ) →
    IsThread f o (xs ++ p ∷ i ∷ ys) → ((j : ℕ) → times_in j (xs ++ p ∷ i ∷ ys) ≤ 1) → g p ≡ f i →
    ((j : ℕ) → 0 < times_in j (xs ++ p ∷ i ∷ ys) → j ≢ p → j ≢ i → g j ≡ f j) → IsThread g o (xs ++ p ∷ ys)
thread-skip f g o [] ys p i t once at others = (
  t.0,
  subst (λ q. IsThread g q ys) (sym at) (thread-agree f g (f i) ys (λ j h. others j (omega arith)
      (λ e. let o : times_in p (p ∷ i ∷ ys) ≤ 1 = once p in let h' : 0 < times_in p ys =
      subst (λ z. 0 < times_in z ys) e h in absurd (omega (arith, one_same p)))
      (λ e. let o : times_in i (p ∷ i ∷ ys) ≤ 1 = once i in let h' : 0 < times_in i ys =
      subst (λ z. 0 < times_in z ys) e h in absurd (omega (arith, one_same i)))) t.1.1),
)
thread-skip f g o (x ∷ xs) ys p i t once at others =
    let all : List ℕ = xs ++ p ∷ i ∷ ys in
    let twice : (z : ℕ) → 0 < times_in z (xs ++ p ∷ i ∷ ys) → x ≢ z = λ z h e.
    let o : times_in z (x ∷ (xs ++ p ∷ i ∷ ys)) ≤ 1 = once z in let c : cond {A = ℕ} (eqb x z) 1 0 ≡ 1 =
    subst (λ w. cond {A = ℕ} (eqb x w) 1 0 ≡ 1) e (one_same x) in absurd (omega arith) in
    let rest : IsThread g (f x) (xs ++ p ∷ ys) = thread-skip f g (f x) xs ys p i t.1
    (λ j. let o : times_in j (x ∷ (xs ++ p ∷ i ∷ ys)) ≤ 1 = once j in omega arith) at
    (λ j h n m. others j (omega arith) n m) in
    (t.0, subst (λ q. IsThread g q (xs ++ p ∷ ys)) (sym (others x (times_first x (xs ++ p ∷ i ∷ ys)) (twice p (p_in xs)) (twice i (i_in xs)))) rest)
  where
    p_in : (xs : List ℕ) → 0 < times_in p (xs ++ p ∷ i ∷ ys)
    p_in [] = times_first p (i ∷ ys)
    p_in (x ∷ xs) = let h : 0 < times_in p (xs ++ p ∷ i ∷ ys) = p_in xs in omega arith

    i_in : (xs : List ℕ) → 0 < times_in i (xs ++ p ∷ i ∷ ys)
    i_in [] = omega (arith, one_same i)
    i_in (x ∷ xs) = let h : 0 < times_in i (xs ++ p ∷ i ∷ ys) = i_in xs in omega arith
