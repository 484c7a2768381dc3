-- How often a slot stands in a list.
use Rattle.std.proofs.Common.{◌≡◌, ◌≢◌, ◌∙◌, ℕ, zero, suc, ◌+◌, ◌<◌, ◌≤◌, List, [], ◌∷◌, ◌++◌, length, ◌⊎◌, inl, inr, refl, sym, ap, arith, cond, eqb, subst}
use Rattle.std.proofs.lemmas.Bool.{cond-true, cond-false, eq-eqb, eqb-true, eqb-false, false_from_ne_true, cases_Bool}
use Rattle.element_store.specs.State.{times_in}

-- two slots are one, or they are not
pub one_cases : (x n : ℕ) → ((x ≡ n) × (cond {A = ℕ} (eqb x n) 1 0 ≡ 1)) ⊎ ((x ≢ n) × (cond {A = ℕ} (eqb x n) 1 0 ≡ 0))
one_cases x n = elim (cases_Bool (eqb x n)) [
  | inl y ↦ inl (eqb-true x n y, cond-true {A = ℕ} _ 1 0 y)
  | inr f ↦ inr (eqb-false x n f, cond-false {A = ℕ} _ 1 0 f)
]

pub one_same : (x : ℕ) → cond {A = ℕ} (eqb x x) 1 0 ≡ 1
one_same x = cond-true {A = ℕ} _ 1 0 (eq-eqb x x refl)

pub one_other : (x n : ℕ) → x ≢ n → cond {A = ℕ} (eqb x n) 1 0 ≡ 0
one_other x n ne = cond-false {A = ℕ} _ 1 0 (false_from_ne_true _ (λ y. ne (eqb-true x n y)))

pub times-append : (n : ℕ) (xs ys : List ℕ) → times_in n (xs ++ ys) ≡ times_in n xs + times_in n ys
times-append n [] ys = omega arith
times-append n (x ∷ xs) ys = omega (arith, times-append n xs ys)

pub times_first : (x : ℕ) (xs : List ℕ) → 0 < times_in x (x ∷ xs)
times_first x xs = omega (arith, one_same x)

abbrev pub without : ℕ → List ℕ → List ℕ
without k [] = []
without k (x ∷ xs) = cond (eqb x k) (without k xs) (x ∷ without k xs)

without-length : (k : ℕ) (xs : List ℕ) → length xs ≡ length (without k xs) + times_in k xs
without-length k [] = refl
without-length k (x ∷ xs) = elim (cases_Bool (eqb x k)) [
  | inl y ↦
      let l : length (without k (x ∷ xs)) ≡ length (without k xs) = ap (λ (l : List ℕ). length l) (cond-true _ _ _ y) in
      let c : cond {A = ℕ} (eqb x k) 1 0 ≡ 1 = cond-true {A = ℕ} _ 1 0 y in
      omega (arith, without-length k xs)
  | inr f ↦
      let l : length (without k (x ∷ xs)) ≡ suc (length (without k xs)) = ap (λ (l : List ℕ). length l) (cond-false _ _ _ f) in
      let c : cond {A = ℕ} (eqb x k) 1 0 ≡ 0 = cond-false {A = ℕ} _ 1 0 f in
      omega (arith, without-length k xs)
]

without-gone : (k : ℕ) (xs : List ℕ) → times_in k (without k xs) ≡ 0
without-gone k [] = refl
without-gone k (x ∷ xs) = elim (cases_Bool (eqb x k)) [
  | inl y ↦ ap (times_in k) (cond-true _ _ _ y) ∙ without-gone k xs
  | inr f ↦
      let l : times_in k (without k (x ∷ xs)) ≡ cond {A = ℕ} (eqb x k) 1 0 + times_in k (without k xs) = ap (times_in k) (cond-false _ _ _ f) in
      let c : cond {A = ℕ} (eqb x k) 1 0 ≡ 0 = cond-false {A = ℕ} _ 1 0 f in
      omega (arith, without-gone k xs)
]

without-less : (k i : ℕ) (xs : List ℕ) → times_in i (without k xs) ≤ times_in i xs
without-less k i [] = omega arith
without-less k i (x ∷ xs) = elim (cases_Bool (eqb x k)) [
  | inl y ↦
      let l : times_in i (without k (x ∷ xs)) ≡ times_in i (without k xs) = ap (times_in i) (cond-true _ _ _ y) in
      omega (arith, without-less k i xs)
  | inr f ↦
      let l : times_in i (without k (x ∷ xs)) ≡ cond {A = ℕ} (eqb x i) 1 0 + times_in i (without k xs) = ap (times_in i) (cond-false _ _ _ f) in
      omega (arith, without-less k i xs)
]

-- slots below n that stand once are no more than n
pub length_once : (n : ℕ) (xs : List ℕ) → ((i : ℕ) → times_in i xs ≤ 1) → ((i : ℕ) → 0 < times_in i xs → i < n) → length xs ≤ n
length_once zero [] once inside = omega arith
length_once zero (x ∷ xs) once inside = absurd (let h : x < 0 = inside x (times_first x xs) in omega arith)
length_once (suc n) xs once inside =
    let less : (i : ℕ) → times_in i (without n xs) ≤ times_in i xs = λ i. without-less n i xs in
    let short : length (without n xs) ≤ n = length_once n (without n xs) (λ i. let o : times_in i xs ≤ 1 = once i in omega (arith, less i)) (λ i h.
    let within : i < suc n = inside i (omega (arith, less i)) in
    elim (one_cases i n) [
      | inl y ↦ let z : times_in i (without n xs) ≡ 0 = subst (λ j. times_in j (without n xs) ≡ 0) (sym y.0) (without-gone n xs) in absurd (omega arith)
      | inr ne ↦ let d : i ≢ n = ne.0 in omega arith
    ]) in
    let o : times_in n xs ≤ 1 = once n in
    omega (arith, without-length n xs)

-- numbers below n that stand once each, without x below n, are fewer than n
pub length_room : (n : ℕ) (xs : List ℕ) (x : ℕ) → ((i : ℕ) → times_in i xs ≤ 1) →
    ((i : ℕ) → 0 < times_in i xs → i < n) → times_in x xs ≡ 0 → x < n → length xs < n
length_room n xs x once inside new within =
    let l : length (x ∷ xs) ≤ n = length_once n (x ∷ xs) (λ i. elim (one_cases x i) [
      | inl y ↦ let z : times_in i xs ≡ 0 = subst (λ j. times_in j xs ≡ 0) y.0 new in let c : cond {A = ℕ} (eqb x i) 1 0 ≡ 1 = y.1 in omega arith
      | inr ne ↦ let c : cond {A = ℕ} (eqb x i) 1 0 ≡ 0 = ne.1 in let o : times_in i xs ≤ 1 = once i in omega arith
    ]) (λ i h. elim (one_cases x i) [
      | inl y ↦ subst (λ j. j < n) y.0 within
      | inr ne ↦ let c : cond {A = ℕ} (eqb x i) 1 0 ≡ 0 = ne.1 in inside i (omega arith)
    ]) in omega arith
