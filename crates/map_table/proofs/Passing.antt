-- Whether readers have left their sections.
use Rattle.table_words.proofs.Prelude.{◌≡◌, ◌≢◌, ℕ, ◌+◌, ◌%◌, ◌<◌, ◌≤◌, List, [], ◌∷◌, ◌++◌, refl, sym, subst, inl, inr, arith, Bool, true, false}
use Rattle.table_words.proofs.Prelude.{MatchBool, dite, ℕ_discrete, OnlyScans, FoundInside, FoundOther, FoundGone}
use Rattle.map_table.proofs.Prelude.{Move, Open, Close, Learn, Load, Store, Put, Double, Scan, View, Went, HaveGone, IsSomeInside}
use Rattle.table_words.proofs.Moved.{gone_front, gone_back}
use Rattle.table_words.proofs.Words.{odd_else}
use Rattle.map_table.proofs.Going.{went_then}
use Rattle.map_table.proofs.Seen.{inside_front}

-- so far the looks at a reader found one odd number
abbrev pub HasLooked : ℕ → ℕ → View → View → Type 0
HasLooked reader first u v = (ms : List Move) × OnlyScans reader (reader + 1) ms × Went u (ms ++ u.mine) v ×
    ((y : ℕ) → first ≢ y → FoundOther (reader + 1) y ms) × FoundInside (reader + 1) ms

-- what looks at a reader found in the end
abbrev pub Passes : (List Move → Type 0) → ℕ → View → View → Type 0
Passes p reader u v = (ms : List Move) × OnlyScans reader (reader + 1) ms × Went u (ms ++ u.mine) v × p ms

module _ (reader x : ℕ) (u v : View) (g : Went u (Scan (reader + 1) x ∷ u.mine) v) where
  pub looked_first : x % 2 ≢ 0 → HasLooked reader x u v
  looked_first odd = (
    Scan (reader + 1) x ∷ [],
    (omega arith, omega arith, tt),
    g,
    (λ y ne. inl (refl, ne)),
    inl (refl, odd_else x odd),
  )

  pub looked_outside : x % 2 ≡ 0 → Passes (FoundGone (reader + 1)) reader u v
  looked_outside even = (Scan (reader + 1) x ∷ [], (omega arith, omega arith, tt), g, inl (refl, inl even))

module _ (reader first x : ℕ) (u v w : View) (h : HasLooked reader first u v) (g : Went v (Scan (reader + 1) x ∷ v.mine) w) where
  abbrev more : List Move
  more = Scan (reader + 1) x ∷ h.0

  only : OnlyScans reader (reader + 1) more
  only = (omega arith, omega arith, h.1)

  pub looked_again : HasLooked reader first u w
  looked_again = (more, only, went_then u v w h.0 (Scan (reader + 1) x ∷ []) h.2 g, (λ y ne. inr (h.3 y ne)), inr h.4)

  pub looked_other : x ≢ first → Passes (FoundGone (reader + 1)) reader u w
  looked_other ne = (more, only, went_then u v w h.0 (Scan (reader + 1) x ∷ []) h.2 g, inl (refl, inr (h.3 x (λ e. ne (sym e)))))

pub looked_inside : (reader first : ℕ) (u v : View) → HasLooked reader first u v → Passes (FoundInside (reader + 1)) reader u v
looked_inside reader first u v h = (h.0, h.1, h.2, h.4)

-- by the answer
abbrev pub PassesOr : Bool → ℕ → View → View → Type 0
PassesOr b reader = Passes (λ ms. MatchBool b (FoundGone (reader + 1) ms) (FoundInside (reader + 1) ms)) reader

pub passes_true : (b : Bool) (reader : ℕ) (u v : View) → PassesOr b reader u v → b ≡ true → Passes (FoundGone (reader + 1)) reader u v
passes_true b reader u v p is = (p.0, p.1, p.2, subst (λ z. MatchBool z (FoundGone (reader + 1) p.0) (FoundInside (reader + 1) p.0)) is p.3)

pub passes_false : (b : Bool) (reader : ℕ) (u v : View) → PassesOr b reader u v → b ≡ false → Passes (FoundInside (reader + 1)) reader u v
passes_false b reader u v p is = (p.0, p.1, p.2, subst (λ z. MatchBool z (FoundGone (reader + 1) p.0) (FoundInside (reader + 1) p.0)) is p.3)

scans_within : (low high lower higher : ℕ) (ns : List Move) → lower ≤ low → high ≤ higher → OnlyScans low high ns → OnlyScans lower higher ns
scans_within low high lower higher [] l h n = tt
scans_within low high lower higher (Open ∷ ns) l h n = absurd n
scans_within low high lower higher (Close ∷ ns) l h n = absurd n
scans_within low high lower higher (Learn w x ∷ ns) l h n = absurd n
scans_within low high lower higher (Load e p x ∷ ns) l h n = absurd n
scans_within low high lower higher (Store e p x ∷ ns) l h n = absurd n
scans_within low high lower higher (Put w x ∷ ns) l h n = absurd n
scans_within low high lower higher (Double v w x ∷ ns) l h n = absurd n
scans_within low high lower higher (Scan r x ∷ ns) l h n =
    let a = n.0 in
    let b = n.1 in
    (omega (arith, a, l), omega (arith, b, h), scans_within low high lower higher ns l h n.2)

scans_both : (low high : ℕ) (ns ms : List Move) → OnlyScans low high ns → OnlyScans low high ms → OnlyScans low high (ns ++ ms)
scans_both low high [] ms n m = m
scans_both low high (Open ∷ ns) ms n m = absurd n
scans_both low high (Close ∷ ns) ms n m = absurd n
scans_both low high (Learn w x ∷ ns) ms n m = absurd n
scans_both low high (Load e p x ∷ ns) ms n m = absurd n
scans_both low high (Store e p x ∷ ns) ms n m = absurd n
scans_both low high (Put w x ∷ ns) ms n m = absurd n
scans_both low high (Double v w x ∷ ns) ms n m = absurd n
scans_both low high (Scan r x ∷ ns) ms n m = (n.0, n.1, scans_both low high ns ms n.2 m)

-- each of the first readers has left
abbrev pub FirstPassed : ℕ → View → View → Type 0
FirstPassed reader u v = (ms : List Move) × OnlyScans 0 reader ms × Went u (ms ++ u.mine) v × HaveGone reader ms

module _ (reader : ℕ) (u v w : View) (h : FirstPassed reader u v) where
  pub passed_more : Passes (FoundGone (reader + 1)) reader v w → FirstPassed (reader + 1) u w
  passed_more p = (
    p.0 ++ h.0,
    scans_both 0 (reader + 1) p.0 h.0 (scans_within reader (reader + 1) 0 (reader + 1) p.0 (omega arith) (omega arith) p.1)
        (scans_within 0 reader 0 (reader + 1) h.0 (omega arith) (omega arith) h.1),
    went_then u v w h.0 p.0 h.2 p.2,
    λ r some few. dite (ℕ_discrete r (reader + 1))
        (λ here. subst (λ z. FoundGone z (p.0 ++ h.0)) (sym here) (gone_front (reader + 1) p.0 h.0 p.3))
        (λ ne. gone_back r p.0 h.0 (h.3 r some (omega (arith, few, ne)))),
  )

  -- one is inside
  pub passed_none : (readers : ℕ) → reader < readers → Passes (FoundInside (reader + 1)) reader v w →
      (ms : List Move) × OnlyScans 0 readers ms × Went u (ms ++ u.mine) w × IsSomeInside readers ms
  passed_none readers low p = (
    p.0 ++ h.0,
    scans_both 0 readers p.0 h.0 (scans_within reader (reader + 1) 0 readers p.0 (omega arith) (omega (arith, low)) p.1)
        (scans_within 0 reader 0 readers h.0 (omega arith) (omega (arith, low)) h.1),
    went_then u v w h.0 p.0 h.2 p.2,
    (reader + 1, omega arith, omega (arith, low), inside_front (reader + 1) p.0 h.0 p.3),
  )
