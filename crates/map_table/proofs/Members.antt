-- Lists of elements, each once at most.
use Rattle.table_words.proofs.Prelude.{◌≡◌, ◌≢◌, ℕ, zero, suc, ◌+◌, ◌<◌, ◌≤◌, List, [], ◌∷◌, ◌++◌, length, get_or, refl, sym, ap, ◌∙◌, subst, arith}
use Rattle.table_words.proofs.Prelude.{eq-eqb, ne_eqb, All, ◌==◌, if◌then◌else◌, length-append, dite, ℕ_discrete, range_with_len, add-one}
use Rattle.map_table.proofs.Prelude.{times_in}
use Rattle.std.proofs.lemmas.List.FromFn.{length-range_with_len, get_or-range_with_len}

abbrev pub one_for : ℕ → ℕ → ℕ
one_for element e = if e == element then 1 else 0

pub one_same : (element e : ℕ) → e ≡ element → one_for element e ≡ 1
one_same element e is = rw (eq-eqb e element is) refl

pub one_other : (element e : ℕ) → e ≢ element → one_for element e ≡ 0
one_other element e ne = rw (ne_eqb e element ne) refl

pub at_most_one : (e x : ℕ) → one_for e x ≤ 1
at_most_one e x = dite (ℕ_discrete x e) (λ same. let o = one_same e x same in omega (arith, o)) (λ ne. let o = one_other e x ne in omega (arith, o))

pub none_for : (e x : ℕ) → x ≢ e → one_for e x ≡ 0
none_for e x ne = one_other e x ne

pub times_append : (e : ℕ) (xs ys : List ℕ) → times_in e (xs ++ ys) ≡ times_in e xs + times_in e ys
times_append e [] ys = let z : 0 + times_in e ys ≡ times_in e ys = omega arith in sym z
times_append e (x ∷ xs) ys = let h = times_append e xs ys in omega (arith, h)

pub times_push : (e x : ℕ) (xs : List ℕ) → times_in e (xs ++ x ∷ []) ≡ times_in e xs + one_for e x
times_push e x xs = let h = times_append e xs (x ∷ []) in omega (arith, h)

all_tail : (P : ℕ → Type 0) (x : ℕ) (xs : List ℕ) → All P (x ∷ xs) → All P xs
all_tail P x xs all k d l = all (suc k) d (omega (arith, l))

all_head : (P : ℕ → Type 0) (x : ℕ) (xs : List ℕ) → All P (x ∷ xs) → P x
all_head P x xs all = all 0 0 (omega arith)

all_cons : (P : ℕ → Type 0) (x : ℕ) (xs : List ℕ) → P x → All P xs → All P (x ∷ xs)
all_cons P x xs one all zero d l = one
all_cons P x xs one all (suc k) d l = all k d (omega (arith, l))

pub all_nil : (P : ℕ → Type 0) → All P []
all_nil P k d l = absurd (omega (arith, l))

pub all_append : (P : ℕ → Type 0) (xs ys : List ℕ) → All P xs → All P ys → All P (xs ++ ys)
all_append P [] ys p q = q
all_append P (x ∷ xs) ys p q = all_cons P x (xs ++ ys) (all_head P x xs p) (all_append P xs ys (all_tail P x xs p) q)

pub all_front : (P : ℕ → Type 0) (xs ys : List ℕ) → All P (xs ++ ys) → All P xs
all_front P [] ys p = all_nil P
all_front P (x ∷ xs) ys p = all_cons P x xs (all_head P x (xs ++ ys) p) (all_front P xs ys (all_tail P x (xs ++ ys) p))

pub all_back : (P : ℕ → Type 0) (xs ys : List ℕ) → All P (xs ++ ys) → All P ys
all_back P [] ys p = p
all_back P (x ∷ xs) ys p = all_back P xs ys (all_tail P x (xs ++ ys) p)

pub all_last : (P : ℕ → Type 0) (x : ℕ) (xs : List ℕ) → All P (xs ++ x ∷ []) → P x
all_last P x xs p = all_head P x [] (all_back P xs (x ∷ []) p)

pub all_push : (P : ℕ → Type 0) (x : ℕ) (xs : List ℕ) → All P xs → P x → All P (xs ++ x ∷ [])
all_push P x xs p q = all_append P xs (x ∷ []) p (all_cons P x [] q (all_nil P))

pub all_to : (P Q : ℕ → Type 0) (xs : List ℕ) → ((e : ℕ) → P e → Q e) → All P xs → All Q xs
all_to P Q xs to all k d l = to (get_or xs k d) (all k d l)

pub all_both : (P Q R : ℕ → Type 0) (xs : List ℕ) → ((e : ℕ) → P e → Q e → R e) → All P xs → All Q xs → All R xs
all_both P Q R xs to p q k d l = to (get_or xs k d) (p k d l) (q k d l)

-- what no member is stands nowhere
pub nowhere : (P : ℕ → Type 0) (e : ℕ) (xs : List ℕ) → All P xs → (P e → ⊥) → times_in e xs ≡ 0
nowhere P e [] all not = refl
nowhere P e (x ∷ xs) all not =
    let rest = nowhere P e xs (all_tail P x xs all) not in
    let one = one_other e x (λ same. not (subst P same (all_head P x xs all))) in omega (arith, rest, one)

pub all_else : (e : ℕ) (xs : List ℕ) → times_in e xs ≡ 0 → All (λ x. x ≢ e) xs
all_else e [] none = all_nil (λ x. x ≢ e)
all_else e (x ∷ xs) none = all_cons (λ y. y ≢ e) x xs
    (λ same. let one = one_same e x same in absurd (omega (arith, none, one))) (all_else e xs (omega (arith, none)))

-- how many members are below a number
abbrev total : ℕ → List ℕ → ℕ
total zero xs = 0
total (suc n) xs = times_in n xs + total n xs

total_above : (n x : ℕ) (xs : List ℕ) → n ≤ x → total n (x ∷ xs) ≡ total n xs
total_above zero x xs l = refl
total_above (suc n) x xs l =
    let rest = total_above n x xs (omega (arith, l)) in
    let one = one_other n x (λ e. absurd (omega (arith, l, e))) in omega (arith, rest, one)

total_below : (n x : ℕ) (xs : List ℕ) → x < n → total n (x ∷ xs) ≡ total n xs + 1
total_below zero x xs l = absurd (omega (arith, l))
total_below (suc n) x xs l = dite (ℕ_discrete x n)
    (λ e. let one = one_same n x e in let rest = total_above n x xs (omega (arith, e)) in omega (arith, rest, one))
    (λ ne. let one = one_other n x ne in let rest = total_below n x xs (omega (arith, l, ne)) in omega (arith, rest, one))

total_none : (n : ℕ) → total n [] ≡ 0
total_none zero = refl
total_none (suc n) = let rest = total_none n in omega (arith, rest)

total_all : (n : ℕ) (xs : List ℕ) → All (λ x. x < n) xs → total n xs ≡ length xs
total_all n [] all = total_none n
total_all n (x ∷ xs) all =
    let rest = total_all n xs (all_tail (λ y. y < n) x xs all) in
    let one = total_below n x xs (all_head (λ y. y < n) x xs all) in omega (arith, rest, one)

total_few : (n : ℕ) (xs : List ℕ) → ((e : ℕ) → times_in e xs ≤ 1) → total n xs ≤ n
total_few zero xs once = omega arith
total_few (suc n) xs once = let rest = total_few n xs once in let one = once n in omega (arith, rest, one)

-- so many numbers, each once at most
pub few : (n : ℕ) (xs : List ℕ) → All (λ x. x < n) xs → ((e : ℕ) → times_in e xs ≤ 1) → length xs ≤ n
few n xs all once = let a = total_all n xs all in let b = total_few n xs once in omega (arith, a, b)

-- with one that stands in neither of two lists
pub room : (n e : ℕ) (xs ys : List ℕ) → e < n → All (λ x. x < n) xs → All (λ x. x < n) ys → ((x : ℕ) → times_in x xs + times_in x ys ≤ 1) →
    times_in e xs ≡ 0 → times_in e ys ≡ 0 → length xs + length ys < n
room n e xs ys within p q once one two =
    let long = length-append xs ys in
    let all = all_cons (λ x. x < n) e (xs ++ ys) within (all_append (λ x. x < n) xs ys p q) in
    let f = few n (e ∷ (xs ++ ys)) all (λ x.
    let a = times_append x xs ys in
    let o = once x in dite (ℕ_discrete e x)
    (λ same. let t = one_same x e same in let u = ap (λ z. times_in z xs + times_in z ys) (sym same) in omega (arith, a, t, u, one, two))
    (λ ne. let t = one_other x e ne in omega (arith, a, t, o))) in
    omega (arith, long, f)

-- the numbers below one
range_more' : (a n : ℕ) → range_with_len a (suc n) ≡ range_with_len a n ++ (a + n) ∷ []
range_more' a zero = ap (λ z. z ∷ []) (omega arith)
range_more' a (suc n) = ap (λ zs. a ∷ zs) (range_more' (a + 1) n ∙ ap (λ z. range_with_len (a + 1) n ++ z ∷ []) (omega arith))

pub range_more : (n : ℕ) → range_with_len 0 (n + 1) ≡ range_with_len 0 n ++ n ∷ []
range_more n =
    let same : 0 + n ≡ n = omega arith in
    ap (range_with_len 0) (add-one n) ∙ (range_more' 0 n ∙ ap (λ z. range_with_len 0 n ++ z ∷ []) same)

times_below : (e a n : ℕ) → e < a → times_in e (range_with_len a n) ≡ 0
times_below e a zero l = refl
times_below e a (suc n) l =
    let one : one_for e a ≡ 0 = one_other e a (λ z. absurd (omega (arith, z, l))) in
    let rest : times_in e (range_with_len (a + 1) n) ≡ 0 = times_below e (a + 1) n (omega (arith, l)) in
    omega (arith, one, rest)

pub times_range : (e a n : ℕ) → times_in e (range_with_len a n) ≤ 1
times_range e a zero = omega arith
times_range e a (suc n) = dite (ℕ_discrete a e)
    (λ z. let one = one_same e a z in
    let rest = times_below e (a + 1) n (omega (arith, z)) in omega (arith, one, rest))
    (λ ne. let one = one_other e a ne in let rest = times_range e (a + 1) n in omega (arith, one, rest))

pub all_range : (P : ℕ → Type 0) (n : ℕ) → ((e : ℕ) → e < n → P e) → All P (range_with_len 0 n)
all_range P n each j d l =
    let len = length-range_with_len 0 n in
    let zero_more : 0 + j ≡ j = omega arith in
    let low : j < n = omega (arith, len, l) in
    subst P (sym (get_or-range_with_len 0 n j d low ∙ zero_more)) (each j low)
