-- The flags of a set of runs.
use Rattle.bpf_model.proofs.Prelude.{◌≡◌, ◌≢◌, ◌∙◌, ℕ, ◌+◌, ◌*◌, ◌/◌, ◌%◌, ◌^◌, ◌<◌, ◌⊎◌, zero, suc, Bool, true, false, List, [], ◌∷◌, length, get_or, refl}
use Rattle.bpf_model.proofs.Prelude.{sym, ap, subst, inl, inr, arith, not, slice_set, replicate, ◌==◌, Decides, bit_at, bit_not, trailing_zeros, cases_eq}
use Rattle.bpf_model.proofs.Prelude.{same_lists, get_or-set_same, get_or-set_other, get_or-replicate, length-set, length-map-range_with_len}
use Rattle.bpf_model.proofs.Prelude.{get_or-map-range_with_len, bit_at-trailing_zeros, is_any, bits}
use Rattle.std.proofs.Common.{zero-add}
use Rattle.std.specs.Int.Bits.{bit_and}
use Rattle.std.specs.Int.RustNames.{bit_or}
use Rattle.std.proofs.Math.Nat.{div-add-mod}
use Rattle.std.proofs.lemmas.List.Folds.{list_any_at}
use Rattle.std.proofs.lemmas.Nat.Bits.{bit_at_set_same, bit_at_set_other, bit_at_clear_same, bit_at_clear_other}
use Rattle.bpf_model.specs.declared.limits.TheConstants.{MAX_RUNS}
use Rattle.element_store.specs.Sections.{flags_of}
use mir.Syntax.{w64}

-- the bit of run slot i
abbrev bit_of : List ℕ → ℕ → ℕ
bit_of ws i = bit_at (get_or ws (i / 64) 0) (i % 64)

pub length-flags : (ws : List ℕ) → length (flags_of ws) ≡ MAX_RUNS
unfolding flags_of
length-flags ws = length-map-range_with_len (λ r. bit_of ws r == 1) 0 MAX_RUNS

get-flags : (ws : List ℕ) (i : ℕ) (d : Bool) → i < MAX_RUNS → get_or (flags_of ws) i d ≡ (bit_of ws i == 1)
unfolding flags_of
get-flags ws i d h = get_or-map-range_with_len (λ r. bit_of ws r == 1) 0 MAX_RUNS i i d h (zero-add i)

pub no_flags : flags_of (0 ∷ 0 ∷ 0 ∷ 0 ∷ []) ≡ replicate MAX_RUNS false
unfolding flags_of
no_flags = refl

-- a run slot's word, and its bit there
word-within : (r : ℕ) → r < MAX_RUNS → r / 64 < 4
word-within r h = omega (arith, h, div-add-mod r 64)

bit-within : (r : ℕ) → r % 64 < 64
bit-within r = omega arith

same-slot : (i r : ℕ) → i / 64 ≡ r / 64 → i % 64 ≡ r % 64 → i ≡ r
same-slot i r e f = sym (div-add-mod i 64) ∙ (ap (λ n. 64 * n + i % 64) e ∙ (ap (λ n. 64 * (r / 64) + n) f ∙ div-add-mod r 64))

-- words that differ in the bit of one run slot have flags that differ in one
module _ (ws : List ℕ) (r w n : ℕ) (long : length ws ≡ 4) (within : r < MAX_RUNS) (here : bit_at w (r % 64) ≡ n)
    (others : (i : ℕ) → i < 64 → i ≢ r % 64 → bit_at w i ≡ bit_at (get_or ws (r / 64) 0) i) where
  abbrev now : List ℕ
  now = slice_set ws (r / 64) w

  inside : r / 64 < length ws
  inside = subst (λ l. r / 64 < l) (sym long) (word-within r within)

  at-slot : bit_of now r ≡ n
  at-slot = ap (λ v. bit_at v (r % 64)) (get_or-set_same ws (r / 64) w 0 inside) ∙ here

  elsewhere : (i : ℕ) → i ≢ r → bit_of now i ≡ bit_of ws i
  elsewhere i ne = elim (cases_eq (i / 64) (r / 64)) [
    | inl e ↦
        ap (λ k. bit_at (get_or now k 0) (i % 64)) e
        ∙ (ap (λ v. bit_at v (i % 64)) (get_or-set_same ws (r / 64) w 0 inside)
        ∙ (others (i % 64) (bit-within i) (λ f. ne (same-slot i r e f))
        ∙ ap (λ k. bit_at (get_or ws k 0) (i % 64)) (sym e)))
    | inr other ↦ ap (λ v. bit_at v (i % 64)) (get_or-set_other ws (r / 64) (i / 64) w 0 other)
  ]

  pub flags-differ : flags_of now ≡ slice_set (flags_of ws) r (n == 1)
  flags-differ = same_lists (flags_of now) (slice_set (flags_of ws) r (n == 1))
      (length-flags now ∙ sym (length-set (flags_of ws) r (n == 1) ∙ length-flags ws)) (λ k d h.
      let k-in : k < MAX_RUNS = subst (λ l. k < l) (length-flags now) h in
      get-flags now k d k-in ∙ elim (cases_eq k r) [
        | inl e ↦ subst (λ k. (bit_of now k == 1) ≡ get_or (slice_set (flags_of ws) r (n == 1)) k d) (sym e)
            (ap (λ m. m == 1) at-slot ∙ sym (get_or-set_same (flags_of ws) r (n == 1) d (subst (λ l. r < l) (sym (length-flags ws)) within)))
        | inr ne ↦ ap (λ m. m == 1) (elsewhere k ne) ∙ (sym (get-flags ws k d k-in) ∙ sym (get_or-set_other (flags_of ws) r k (n == 1) d ne))
      ])

-- a run slot's flag is set and cleared by the bit of its word
pub flags-set : (ws : List ℕ) (r : ℕ) → length ws ≡ 4 → r < MAX_RUNS →
    flags_of (slice_set ws (r / 64) (bit_or (get_or ws (r / 64) 0) (1 * 2 ^ (r % 64) % 2 ^ bits w64))) ≡ slice_set
    (flags_of ws) r true
flags-set ws r long h =
    let w : ℕ = get_or ws (r / 64) 0 in
    flags-differ ws r _ 1 long h (bit_at_set_same w64 w (r % 64) (bit-within r)) (λ i l ne. bit_at_set_other w64 w (r % 64) (bit-within r) i ne)

pub flags-clear : (ws : List ℕ) (r : ℕ) → length ws ≡ 4 → r < MAX_RUNS →
    flags_of (slice_set ws (r / 64) (bit_and (get_or ws (r / 64) 0) (bit_not w64 (1 * 2 ^ (r % 64) % 2 ^ bits w64))))
    ≡ slice_set (flags_of ws) r false
flags-clear ws r long h =
    let w : ℕ = get_or ws (r / 64) 0 in
    flags-differ ws r _ 0 long h (bit_at_clear_same w64 w (r % 64) (bit-within r)) (λ i l ne. bit_at_clear_other w64 w (r % 64) (bit-within r) i l ne)

-- a word that is not 0 has a bit, and so its run slots have a flag
pub any-flags : (ws : List ℕ) (k : ℕ) → k < 4 → get_or ws k 0 < 2 ^ 64 → 0 < get_or ws k 0 → is_any (flags_of ws) ≡ true
any-flags ws k h fits some =
    let b : ℕ = trailing_zeros w64 (get_or ws k 0) in
    let f = bit_at-trailing_zeros w64 (get_or ws k 0) some fits in
    let i : ℕ = k * 64 + b in
    let in-runs : i < MAX_RUNS = omega (arith, h, f.0) in
    let word : i / 64 ≡ k = omega (arith, f.0) in
    let bit : i % 64 ≡ b = omega (arith, f.0) in
    list_any_at (λ b. b) (flags_of ws) i false (subst (λ l. i < l) (sym (length-flags ws)) in-runs)
    (get-flags ws i false in-runs ∙ ap (λ m. m == 1) (ap (λ j. bit_at (get_or ws j 0) (i % 64)) word ∙ (ap (λ j. bit_at (get_or ws k 0) j) bit ∙ f.1)))

-- a list of numbers is all zeros, or has one that is not
some-word : (ws : List ℕ) → (ws ≡ replicate (length ws) 0) ⊎ ((k : ℕ) × (k < length ws) × (0 < get_or ws k 0))
some-word [] = inl refl
some-word (suc w ∷ ws) = inr (0, omega arith, omega arith)
some-word (zero ∷ ws) = elim (some-word ws) [
  | inl e ↦ inl (ap (λ l. 0 ∷ l) e)
  | inr p ↦ inr (suc p.0, omega (arith, p.1), p.2)
]

-- four words have a flag where they are not four zeros
pub any-of : (ws : List ℕ) (same : Bool) → length ws ≡ 4 → ((k : ℕ) → get_or ws k 0 < 2 ^ 64) →
    Decides same (ws ≡ 0 ∷ 0 ∷ 0 ∷ 0 ∷ []) → not same ≡ is_any (flags_of ws)
any-of ws same long fits d = elim (some-word ws) [
  | inl e ↦
      let none : ws ≡ 0 ∷ 0 ∷ 0 ∷ 0 ∷ [] = e ∙ ap (λ n. replicate n 0) long in
      ap not (d.1 none) ∙ sym (ap (λ l. is_any (flags_of l)) none ∙ ap is_any no_flags)
  | inr p ↦
      let k : p.0 < 4 = subst (λ l. p.0 < l) long p.1 in
      let some : (ws ≡ 0 ∷ 0 ∷ 0 ∷ 0 ∷ []) → ⊥ = λ e. some-zero p.0 k (subst (λ (l : List ℕ). 0 < get_or l p.0 0) e p.2) in
      when_not same d some ∙ sym (any-flags ws p.0 k (fits p.0) p.2)
]
  where
    when_not : (b : Bool) → Decides b (ws ≡ 0 ∷ 0 ∷ 0 ∷ 0 ∷ []) → ((ws ≡ 0 ∷ 0 ∷ 0 ∷ 0 ∷ []) → ⊥) → not b ≡ true
    when_not false d n = refl
    when_not true d n = absurd (n (d.0 refl))

    some-zero : (k : ℕ) → k < 4 → 0 < get_or (0 ∷ 0 ∷ 0 ∷ 0 ∷ []) k 0 → ⊥
    some-zero k h p = omega (arith, p, get_or-replicate {A = ℕ} 4 k 0 0 h)
