-- Shares of workers.
use Rattle.bpf_model.proofs.Prelude.{◌≡◌, ◌≢◌, ◌∙◌, ℕ, zero, suc, ◌+◌, ◌<◌, List, [], ◌∷◌, ◌++◌, length, Bool, true, false, cond, refl, ap, arith, ◌==◌}
use Rattle.bpf_model.proofs.Prelude.{count_by, range_with_len, sum_by, eq-eqb, eqb-true, false_from_ne_true, filter-append, append-nil, sum_by-cons}
use Rattle.bpf_model.proofs.Prelude.{sum_by_push}
use Rattle.model_laws.proofs.Prelude.{Entry}
use Rattle.model_laws.proofs.Tallies.{count-cons, one_of}
use Rattle.shared_books.specs.Totals.{AreOfWorkers, entries_by, is_step, share_of, shares, steps_of}

longer : (b : Bool) (e : Entry) (es : List Entry) → length (cond b (e ∷ es) es) ≡ one_of b + length es
longer true e es = omega arith
longer false e es = omega arith

shares-none : (ws : List ℕ) → sum_by (share_of []) ws ≡ 0
shares-none [] = refl
shares-none (w ∷ ws) = let a = sum_by-cons (share_of []) w ws in let r = shares-none ws in omega (arith, a, r)

shares-more : (e : Entry) (es : List Entry) (ws : List ℕ) → sum_by (share_of (e ∷ es)) ws ≡ count_by (λ w. e.worker == w) ws + sum_by (share_of es) ws
shares-more e es [] = refl
shares-more e es (w ∷ ws) =
    let a = sum_by-cons (share_of (e ∷ es)) w ws in
    let b = sum_by-cons (share_of es) w ws in
    let c = count-cons (λ (w : ℕ). e.worker == w) w ws in
    let d : share_of (e ∷ es) w ≡ one_of (e.worker == w) + share_of es w = longer (e.worker == w) e (entries_by w es) in
    let r = shares-more e es ws in
    omega (arith, a, b, c, d, r)

not-there : (x a n : ℕ) → x < a → count_by (λ w. x == w) (range_with_len a n) ≡ 0
not-there x a zero l = refl
not-there x a (suc n) l =
    let c = count-cons (λ (w : ℕ). x == w) a (range_with_len (a + 1) n) in
    let d : one_of (x == a) ≡ 0 = ap one_of (false_from_ne_true (x == a) (λ t. let e : x ≡ a = eqb-true x a t in absurd (omega (arith, e, l)))) in
    let r = not-there x (a + 1) n (omega (arith, l)) in
    omega (arith, c, d, r)

-- a number of the range stands in it once
once : (x a n i : ℕ) → x ≡ a + i → i < n → count_by (λ w. x == w) (range_with_len a n) ≡ 1
once x a zero i e l = absurd (omega (arith, l))
once x a (suc n) zero e l =
    let c = count-cons (λ (w : ℕ). x == w) a (range_with_len (a + 1) n) in
    let d : one_of (x == a) ≡ 1 = ap one_of (eq-eqb x a (omega (arith, e))) in
    let r = not-there x (a + 1) n (omega (arith, e)) in
    omega (arith, c, d, r)
once x a (suc n) (suc i) e l =
    let c = count-cons (λ (w : ℕ). x == w) a (range_with_len (a + 1) n) in
    let d : one_of (x == a) ≡ 0 = ap one_of (false_from_ne_true (x == a) (λ t. let f : x ≡ a = eqb-true x a t in absurd (omega (arith, e, f)))) in
    let r = once x (a + 1) n i (omega (arith, e)) (omega (arith, l)) in
    omega (arith, c, d, r)

pub shares_add_up : (workers : ℕ) (entries : List Entry) → AreOfWorkers workers entries → shares workers entries ≡ length entries
shares_add_up workers [] of = shares-none (range_with_len 0 workers)
shares_add_up workers (e ∷ es) of =
    let a = shares-more e es (range_with_len 0 workers) in
    let first : e.worker < workers = of 0 e refl in
    let b = once e.worker 0 workers e.worker (omega arith) first in
    let r = shares_add_up workers es (λ k x at. of (suc k) x at) in
    omega (arith, a, b, r)

-- one entry more
pub steps_push : (entries : List Entry) (entry : Entry) → steps_of (entries ++ entry ∷ []) ≡ steps_of entries + one_of (is_step entry.answer)
steps_push entries entry = sum_by_push (λ (e : Entry). cond {A = ℕ} (is_step e.answer) 1 0) entries entry

kept-if : (b : Bool) (e : Entry) (es : List Entry) → b ≡ true → es ++ cond b (e ∷ []) [] ≡ es ++ e ∷ []
kept-if b e es h = ap (λ (c : Bool). es ++ cond c (e ∷ []) []) h

left-out : (b : Bool) (e : Entry) (es : List Entry) → b ≡ false → es ++ cond b (e ∷ []) [] ≡ es
left-out b e es h = ap (λ (c : Bool). es ++ cond c (e ∷ []) []) h ∙ append-nil es

pub own_push : (entries : List Entry) (entry : Entry) → entries_by entry.worker (entries ++ entry ∷ []) ≡ entries_by entry.worker entries ++ entry ∷ []
own_push entries entry =
    filter-append (λ (e : Entry). e.worker == entry.worker) entries (entry ∷ [])
    ∙ kept-if (entry.worker == entry.worker) entry (entries_by entry.worker entries) (eq-eqb entry.worker entry.worker refl)

pub others_push : (entries : List Entry) (entry : Entry) (worker : ℕ) → entry.worker ≢ worker →
    entries_by worker (entries ++ entry ∷ []) ≡ entries_by worker entries
others_push entries entry worker ne =
    filter-append (λ (e : Entry). e.worker == worker) entries (entry ∷ [])
    ∙ left-out (entry.worker == worker) entry (entries_by worker entries)
    (false_from_ne_true (entry.worker == worker) (λ t. ne (eqb-true entry.worker worker t)))
