-- Counts in many chains.
use Rattle.std.proofs.Common.{◌≡◌, ◌≢◌, ◌∙◌, ℕ, zero, suc, ◌+◌, ◌<◌, ◌≤◌, List, [], ◌∷◌, ◌++◌}
use Rattle.std.proofs.Common.{Option, Some, inl, inr, refl, ap, arith, eqb}
use Rattle.std.specs.Prelude.{slice_get, slice_set}
use Rattle.std.proofs.lemmas.Bool.{eqb-true, eqb-false, cases_Bool}
use Rattle.std.proofs.lemmas.Option.{none-some, same_Some}
use Rattle.element_store.specs.State.{times_in}
use Rattle.element_store.specs.Threads.{walk}
use Rattle.element_store.proofs.Counts.{times-append}
use Rattle.element_store.proofs.Threading.{walk-agree}
use Rattle.hash_index.specs.Buckets.{slots_from}

module _ (n : ℕ) (f : ℕ → Option ℕ) where
  -- the slots of a chain are among all
  pub chain_among : (heads : List (Option ℕ)) (k : ℕ) (o : Option ℕ) (j : ℕ) →
      slice_get heads k ≡ Some o → times_in j (walk n f o) ≤ times_in j (slots_from n f heads)
  chain_among [] k o j h = absurd (none-some o h)
  chain_among (p ∷ heads) zero o j h = let e : times_in j (walk n f p) ≡ times_in j (walk n f o) =
      ap (λ q. times_in j (walk n f q)) (same_Some p o h) in
      omega (arith, times-append j (walk n f p) (slots_from n f heads))
  chain_among (p ∷ heads) (suc k) o j h =
      let l : times_in j (walk n f o) ≤ times_in j (slots_from n f heads) =
      chain_among heads k o j h in omega (arith, times-append j (walk n f p) (slots_from n f heads))

  -- two chains have no slot in common, if all slots are apart
  pub chains_apart : (heads : List (Option ℕ)) (k m : ℕ) (o p : Option ℕ) (j : ℕ) → k ≢ m →
      slice_get heads k ≡ Some o → slice_get heads m ≡ Some p →
      times_in j (walk n f o) + times_in j (walk n f p) ≤ times_in j (slots_from n f heads)
  chains_apart [] k m o p j ne h g = absurd (none-some o h)
  chains_apart (q ∷ heads) zero zero o p j ne h g = absurd (ne refl)
  chains_apart (q ∷ heads) zero (suc m) o p j ne h g =
      let e : times_in j (walk n f q) ≡ times_in j (walk n f o) =
      ap (λ z. times_in j (walk n f z)) (same_Some q o h) in
      let l : times_in j (walk n f p) ≤ times_in j (slots_from n f heads) =
      chain_among heads m p j g in omega (arith, times-append j (walk n f q) (slots_from n f heads))
  chains_apart (q ∷ heads) (suc k) zero o p j ne h g =
      let e : times_in j (walk n f q) ≡ times_in j (walk n f p) =
      ap (λ z. times_in j (walk n f z)) (same_Some q p g) in
      let l : times_in j (walk n f o) ≤ times_in j (slots_from n f heads) =
      chain_among heads k o j h in omega (arith, times-append j (walk n f q) (slots_from n f heads))
  chains_apart (q ∷ heads) (suc k) (suc m) o p j ne h g =
      let l : times_in j (walk n f o) + times_in j (walk n f p)
      ≤ times_in j (slots_from n f heads) =
      chains_apart heads k m o p j (λ e. ne (ap suc e)) h g in
      omega (arith, times-append j (walk n f q) (slots_from n f heads))

  -- each of the slots stands in a chain
  pub chain_having : (heads : List (Option ℕ)) (j : ℕ) → 0 < times_in j (slots_from n f heads) →
      (k : ℕ) × (o : Option ℕ) × (slice_get heads k ≡ Some o) × (0 < times_in j (walk n f o))
  chain_having [] j h = absurd (omega arith)
  chain_having (p ∷ heads) j h = elim (cases_Bool (eqb (times_in j (walk n f p)) 0)) [
    | inl y ↦ let z : times_in j (walk n f p) ≡ 0 = eqb-true _ 0 y in let r =
        chain_having heads j (omega (arith, times-append j (walk n f p) (slots_from n f heads))) in
        (suc r.0, r.1, r.2, r.3)
    | inr y ↦ let z : times_in j (walk n f p) ≢ 0 = eqb-false _ 0 y in (zero, p, refl, omega arith)
  ]

-- the same chains, by links that are the same at their slots
pub slots-agree : (n : ℕ) (f g : ℕ → Option ℕ) (heads : List (Option ℕ)) →
    ((j : ℕ) → 0 < times_in j (slots_from n f heads) → g j ≡ f j) →
    slots_from n g heads ≡ slots_from n f heads
slots-agree n f g [] h = refl
slots-agree n f g (o ∷ heads) h =
    ap (λ l. l ++ slots_from n g heads) (walk-agree n f g o (λ j p. h j (omega (
      arith,
      times-append j (walk n f o) (slots_from n f heads),
    ))))
    ∙ ap (λ l. walk n f o
    ++ l) (slots-agree n f g heads (λ j p. h j (omega (
      arith,
      times-append j (walk n f o) (slots_from n f heads),
    ))))

-- one head is set: its chain is another, and the others are the same
pub slots-set : (n : ℕ) (f g : ℕ →
    Option ℕ) (heads : List (Option ℕ)) (k : ℕ) (o p : Option ℕ) (j : ℕ) →
    slice_get heads k ≡ Some o →
    ((m : ℕ) (q : Option ℕ) → m ≢ k → slice_get heads m ≡ Some q → walk n g q ≡ walk n f q) →
    times_in j (slots_from n g (slice_set heads k p)) + times_in j (walk n f o)
    ≡ times_in j (slots_from n f heads) + times_in j (walk n g p)
slots-set n f g [] k o p j h same = absurd (none-some o h)
slots-set n f g (q ∷ heads) zero o p j h same =
    let e : times_in j (walk n f q) ≡ times_in j (walk n f o) =
    ap (λ z. times_in j (walk n f z)) (same_Some q o h) in
    let r : times_in j (slots_from n g heads) ≡ times_in j (slots_from n f heads) =
    ap (times_in j) (all_same heads (λ m z at. same (suc m) z (λ y. cc) at)) in
    omega (
      arith,
      times-append j (walk n g p) (slots_from n g heads),
      times-append j (walk n f q) (slots_from n f heads),
    )
  where
    all_same : (hs : List (Option ℕ)) →
        ((m : ℕ) (z : Option ℕ) → slice_get hs m ≡ Some z → walk n g z ≡ walk n f z) →
        slots_from n g hs ≡ slots_from n f hs
    all_same [] h = refl
    all_same (z ∷ hs) h =
        ap (λ l. l ++ slots_from n g hs) (h zero z refl)
        ∙ ap (λ l. walk n f z ++ l) (all_same hs (λ m w at. h (suc m) w at))
slots-set n f g (q ∷ heads) (suc k) o p j h same =
    let first : times_in j (walk n g q) ≡ times_in j (walk n f q) =
    ap (times_in j) (same zero q (λ y. cc) refl) in
    let rest : times_in j (slots_from n g (slice_set heads k p)) + times_in j (walk n f o)
    ≡ times_in j (slots_from n f heads) + times_in j (walk n g p) =
    slots-set n f g heads k o p j h (λ m z ne at. same (suc m) z (λ y. ne (let e : m ≡ k = cc in
    e)) at) in
    omega (
      arith,
      times-append j (walk n g q) (slots_from n g (slice_set heads k p)),
      times-append j (walk n f q) (slots_from n f heads),
    )
