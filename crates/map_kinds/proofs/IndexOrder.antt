-- The byte order of an array's keys.
use Rattle.bpf_model.proofs.Prelude.{◌≡◌, ◌∙◌, ℕ, ◌+◌, ◌*◌, ◌/◌, ◌%◌, ◌<◌, ◌≤◌, List, [], ◌∷◌, Some, None, ◌⊎◌, inl, inr, refl, sym, ap, arith, subst}
use Rattle.bpf_model.proofs.Prelude.{slice_index, nat_cmp, is_lt, Ordering, Less, Equal, Greater, slice_cmp, cases_eq, false≢true, index_key, index_below}
use Rattle.model_laws.proofs.Prelude.{MAX_ENTRIES}
use Rattle.std.specs.Int.{bytes_low_first as rest}
use Rattle.std.specs.Ordering.{ordering_then}
use Rattle.std.specs.Cmp.{ranked, nat_cmp_is}
use Rattle.hash_index.specs.Order.{IsLess, NoneAbove, NoneBetween}
use Rattle.model_laws.proofs.Indices.{index-got}

-- the first bytes decide, or where they are one the others do
less-head : (x y : ℕ) (xs ys : List ℕ) → x < y → IsLess (x ∷ xs) (y ∷ ys)
less-head x y xs ys h = ap (λ r. ordering_then r (slice_cmp nat_cmp xs ys)) (sym (nat_cmp_is x y Less h))

less-tail : (x y : ℕ) (xs ys : List ℕ) → x ≡ y → IsLess xs ys → IsLess (x ∷ xs) (y ∷ ys)
less-tail x y xs ys e h = ap (λ r. ordering_then r (slice_cmp nat_cmp xs ys)) (sym (nat_cmp_is x y Equal e)) ∙ h

less-cases : (x y : ℕ) (xs ys : List ℕ) → IsLess (x ∷ xs) (y ∷ ys) → (x < y) ⊎ ((x ≡ y) × IsLess xs ys)
less-cases x y xs ys h = by (nat_cmp x y) refl
  where
    by : (r : Ordering) → nat_cmp x y ≡ r → (x < y) ⊎ ((x ≡ y) × IsLess xs ys)
    by Less e = inl (ranked x y Less (sym e))
    by Equal e = inr (ranked x y Equal (sym e), ap (λ r. ordering_then r (slice_cmp nat_cmp xs ys)) (sym e) ∙ h)
    by Greater e = absurd (false≢true (ap (λ r. is_lt (ordering_then r (slice_cmp nat_cmp xs ys))) (sym e) ∙ ap is_lt h))

-- index i comes before index j: two bytes of a key tell
abbrev pub ComesBefore : ℕ → ℕ → Type 0
ComesBefore i j = (i % 256 < j % 256) ⊎ ((i % 256 ≡ j % 256) × (i / 256 < j / 256))

-- index j comes at or behind the one of a bound's two lowest bytes
abbrev pub ComesFrom : ℕ → ℕ → ℕ → Type 0
ComesFrom low high j = (low < j % 256) ⊎ ((low ≡ j % 256) × (high ≤ j / 256))

pub key-before : (i j : ℕ) → i < MAX_ENTRIES → j < MAX_ENTRIES → IsLess (index_key i) (index_key j) → ComesBefore i j
key-before i j hi hj h = elim (less-cases (i % 256) (j % 256) (rest 1 3 i) (rest 1 3 j) h) [
  | inl less ↦ inl less
  | inr low ↦ elim (less-cases (i / 256 % 256) (j / 256 % 256) (rest 2 2 i) (rest 2 2 j) low.1) [
    | inl less ↦ inr (low.0, omega (arith, less))
    | inr high ↦ elim (less-cases (i / 65536 % 256) (j / 65536 % 256) (rest 3 1 i) (rest 3 1 j) high.1) [
      | inl less ↦ absurd (omega (arith, less))
      | inr third ↦ elim (less-cases (i / 16777216 % 256) (j / 16777216 % 256) [] [] third.1) [
        | inl less ↦ absurd (omega (arith, less))
        | inr fourth ↦ absurd (cc)
      ]
    ]
  ]
]

pub key-from : (b : List ℕ) (j : ℕ) → j < MAX_ENTRIES → IsLess b (index_key j) → ComesFrom (slice_index b 0) (slice_index b 1) j
key-from [] j hj h = elim (cases_eq (j % 256) 0) [ inl e ↦ inr (sym e, omega arith) | inr ne ↦ inl (omega (arith, ne)) ]
key-from (x ∷ []) j hj h = elim (less-cases x (j % 256) [] (rest 1 3 j) h) [ inl less ↦ inl less | inr low ↦ inr (low.0, omega arith) ]
key-from (x ∷ y ∷ b) j hj h = elim (less-cases x (j % 256) (y ∷ b) (rest 1 3 j) h) [
  | inl less ↦ inl less
  | inr low ↦ elim (less-cases y (j / 256 % 256) b (rest 2 2 j) low.1) [
    | inl less ↦ inr (low.0, omega (arith, less))
    | inr high ↦ let e : y ≡ j / 256 % 256 = high.0 in inr (low.0, omega arith)
  ]
]

key-behind : (b : List ℕ) (j : ℕ) → j < MAX_ENTRIES → slice_index b 0 ≡ j % 256 → slice_index b 1 < j / 256 → IsLess b (index_key j)
key-behind [] j hj low high = refl
key-behind (x ∷ []) j hj low high = less-tail x (j % 256) [] (rest 1 3 j) low refl
key-behind (x ∷ y ∷ b) j hj low high = less-tail x (j % 256) (y ∷ b) (rest 1 3 j) low (less-head y (j / 256 % 256) b (rest 2 2 j) (omega arith))

key-low : (b : List ℕ) (j : ℕ) → slice_index b 0 < j % 256 → IsLess b (index_key j)
key-low [] j h = refl
key-low (x ∷ b) j h = less-head x (j % 256) b (rest 1 3 j) h

module _ (b : List ℕ) (limit low high : ℕ) (most : limit ≤ MAX_ENTRIES) (low-is : low ≡ slice_index b 0)
    (high-is : high ≡ slice_index b 1) (small : low < 256) where
  -- an index whose key is above the bound
  abbrev pub Candidate : ℕ → Type 0
  Candidate i = (i < limit) × IsLess b (index_key i)

  none-between : (i : ℕ) → i < limit → ((j : ℕ) → Candidate j → ComesBefore j i → ⊥) → NoneBetween (index_below limit) (Some b) (index_key i)
  none-between i hi h key j at above less =
      let g = index-got limit key j at in
      let in_ : j < limit = g.0 in
      h j (in_, subst (IsLess b) (sym g.1) above) (key-before j i (omega arith) (omega arith) (subst (λ k. IsLess k (index_key i)) (sym g.1) less))

  none-above : ((j : ℕ) → Candidate j → ⊥) → NoneAbove (index_below limit) (Some b)
  none-above h key j at above = let g = index-got limit key j at in h j (g.0, subst (IsLess b) (sym g.1) above)

  -- that of the bound's two lowest bytes
  abbrev first : ℕ
  first = low + 256 * high

  from : (j : ℕ) → Candidate j → ComesFrom low high j
  from j c =
      let less : j < limit = c.0 in
      elim (key-from b j (omega arith) c.1) [
        | inl x ↦ inl (omega (arith, low-is, x))
        | inr x ↦ let e = x.0 in let g = x.1 in inr (low-is ∙ e, omega (arith, high-is, g))
      ]

  pub least-first : first < limit → NoneBetween (index_below limit) (Some b) (index_key first)
  least-first hi = none-between first hi (λ j c before. elim (from j c) [
    | inl f ↦ elim before [ inl x ↦ omega (arith, f, x) | inr x ↦ let e = x.0 in omega (arith, f, e) ]
    | inr f ↦ let e = f.0 in let g = f.1 in elim before [ inl x ↦ omega (arith, e, x) | inr x ↦ let y = x.1 in omega (arith, e, g, y) ]
  ])

  module _ (not-first : Candidate first → ⊥) where
    -- a candidate with the bound's lowest byte has a greater second one
    second-from : (j : ℕ) → Candidate j → low ≡ j % 256 → high < j / 256
    second-from j c e = elim (from j c) [
      | inl f ↦ absurd (omega arith)
      | inr f ↦
          let g : high ≤ j / 256 = f.1 in
          elim (cases_eq j first) [
            | inl same ↦ absurd (not-first (subst Candidate same c))
            | inr ne ↦ omega (arith, ne)
          ]
    ]

    pub least-second : first + 256 < limit → NoneBetween (index_below limit) (Some b) (index_key (first + 256))
    least-second hi = none-between (first + 256) hi (λ j c before. elim (from j c) [
      | inl f ↦ elim before [ inl x ↦ omega (arith, f, x) | inr x ↦ let e = x.0 in omega (arith, f, e) ]
      | inr f ↦
          let s : high < j / 256 = second-from j c f.0 in
          let e = f.0 in
          elim before [ inl x ↦ omega (arith, e, x) | inr x ↦ let y = x.1 in omega (arith, s, y) ]
    ])

    module _ (not-second : Candidate (first + 256) → ⊥) where
      -- no candidate has the bound's lowest byte
      lowest-greater : (j : ℕ) → Candidate j → low < j % 256
      lowest-greater j c = elim (from j c) [
        | inl f ↦ f
        | inr f ↦
            let e : low ≡ j % 256 = f.0 in
            let s : high < j / 256 = second-from j c e in
            let less : j < limit = c.0 in
            let past : first + 256 < limit = omega arith in
            absurd (not-second (
              past,
              key-behind b (first + 256) (omega arith)
                  (sym low-is ∙ (let z : low ≡ (first + 256) % 256 = omega arith in z)) (omega (arith, high-is)),
            ))
      ]

      pub least-third : low + 1 < limit → NoneBetween (index_below limit) (Some b) (index_key (low + 1))
      least-third hi = none-between (low + 1) hi (λ j c before.
          let f : low < j % 256 = lowest-greater j c in
          elim before [ inl x ↦ omega (arith, x) | inr x ↦ let e = x.0 in let y = x.1 in omega (arith, e, y) ])

      pub none-left : (Candidate (low + 1) → ⊥) → NoneAbove (index_below limit) (Some b)
      none-left not-third = none-above (λ j c.
          let f : low < j % 256 = lowest-greater j c in
          let less : j < limit = c.0 in
          not-third (omega arith, key-low b (low + 1) (omega (arith, low-is))))

-- no bound is like one of no bytes: every index has a key above it
pub between-any : (limit : ℕ) (last : List ℕ) → NoneBetween (index_below limit) (Some []) last → NoneBetween (index_below limit) None last
between-any limit last h key i at above less = h key i at (subst (IsLess []) (index-got limit key i at).1 refl) less

pub above-any : (limit : ℕ) → NoneAbove (index_below limit) (Some []) → NoneAbove (index_below limit) None
above-any limit h key i at above = h key i at (subst (IsLess []) (index-got limit key i at).1 refl)
