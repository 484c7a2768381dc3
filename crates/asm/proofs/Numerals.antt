-- Numerals: their bytes are digits, the first is 0 in that of 0 alone, and each number has its own.
use Rattle.bpf_model.proofs.Prelude.{ℕ, zero, suc, ◌≡◌, ◌≢◌, ◌+◌, ◌-◌, ◌*◌, ◌/◌, ◌%◌, ◌^◌, ◌<◌, ◌≤◌, List, [], ◌∷◌, ◌++◌, length, get_or, take, refl, sym, ap}
use Rattle.bpf_model.proofs.Prelude.{◌∙◌, arith, inl, inr, map, Option, Some, None, IfSome, IfNone, IsInRange, digits_of, AllBelowBase, first_digits_of}
use Rattle.bpf_model.proofs.Prelude.{all_below_base_digits_of, same_from_digits_of, take_more, length-map, eq-zero-or-pos}
use Rattle.disasm.specs.Text.{glyph, glyphs, numeral}
use Rattle.disasm.proofs.Numerals.{above_zero, last_digit}
use Rattle.asm.specs.Reading.{capped}

pub glyphs_push : (n d : ℕ) → d < 10 → 0 < n * 10 + d → glyphs (n * 10 + d) ≡ glyphs n ++ (48 + d) ∷ []
glyphs_push n d small some =
    let high : (n * 10 + d) / 10 ≡ n = omega arith in
    let low : (n * 10 + d) % 10 ≡ d = omega arith in
    last_digit (n * 10 + d) some ∙ rw (high, low) refl

digit_at : (ds : List ℕ) (k : ℕ) → AllBelowBase 10 ds → k < length (map glyph ds) → IsInRange 48 57 (get_or (map glyph ds) k 0)
digit_at [] k all h = absurd (omega arith)
digit_at (d ∷ ds) zero all h = (omega arith, let small : d < 10 = all.0 in omega arith)
digit_at (d ∷ ds) (suc k) all h = digit_at ds k all.1 (omega arith)

pub glyphs_digit : (n k : ℕ) → k < length (glyphs n) → IsInRange 48 57 (get_or (glyphs n) k 0)
glyphs_digit n k h = digit_at (digits_of 10 n) k (all_below_base_digits_of 10 n (omega arith)) h

nonempty : (ds : List ℕ) → 0 < get_or ds 0 0 → 0 < length ds
nonempty [] h = h
nonempty (d ∷ ds) h = omega arith

first_glyph : (ds : List ℕ) → 0 < get_or ds 0 0 → 48 < get_or (map glyph ds) 0 0
first_glyph [] h = absurd (omega arith)
first_glyph (d ∷ ds) h = omega arith

pub glyphs_first : (n : ℕ) → 0 < n → 48 < get_or (glyphs n) 0 0
glyphs_first n h = first_glyph (digits_of 10 n) (first_digits_of 10 n (omega arith) h)

pub glyphs_some : (n : ℕ) → 0 < n → 0 < length (glyphs n)
glyphs_some n h =
    let some : 0 < length (digits_of 10 n) = nonempty (digits_of 10 n) (first_digits_of 10 n (omega arith) h) in
    simp length-map some

unglyphs : List ℕ → List ℕ
unglyphs [] = []
unglyphs (c ∷ cs) = (c - 48) ∷ unglyphs cs

unglyphs_glyphs : (ds : List ℕ) → unglyphs (map glyph ds) ≡ ds
unfolding unglyphs
unglyphs_glyphs [] = refl
unglyphs_glyphs (d ∷ ds) =
    let e : 48 + d - 48 ≡ d = omega arith in
    rw (e, unglyphs_glyphs ds) refl

pub glyphs_injective : (m n : ℕ) → glyphs m ≡ glyphs n → m ≡ n
glyphs_injective m n e =
    same_from_digits_of 10 m n (omega arith) (sym (unglyphs_glyphs (digits_of 10 m)) ∙ ap unglyphs e ∙ unglyphs_glyphs (digits_of 10 n))

zero_digit : (n k : ℕ) → n ≡ 0 → k < length (numeral n) → IsInRange 48 57 (get_or (numeral n) k 0)
zero_digit n k e = rw e (λ (h : k < 1). let f : k ≡ 0 = omega arith in rw f (omega arith, omega arith))

above_digit : (n k : ℕ) → 0 < n → k < length (numeral n) → IsInRange 48 57 (get_or (numeral n) k 0)
above_digit n k p = rw (above_zero n p) (glyphs_digit n k)

pub numeral_digit : (n k : ℕ) → k < length (numeral n) → IsInRange 48 57 (get_or (numeral n) k 0)
numeral_digit n k h = elim (eq-zero-or-pos n) [ inl e ↦ zero_digit n k e h | inr p ↦ above_digit n k p h ]

pub numeral_some : (n : ℕ) → 0 < length (numeral n)
numeral_some n = elim (eq-zero-or-pos n) [ inl e ↦ rw e (omega arith) | inr p ↦ rw (above_zero n p) (glyphs_some n p) ]

pub numeral_first : (n : ℕ) → get_or (numeral n) 0 0 ≡ 48 → n ≡ 0
numeral_first n h = elim (eq-zero-or-pos n) [
  | inl e ↦ e
  | inr p ↦
      absurd (let q : 48 < get_or (glyphs n) 0 0 = glyphs_first n p in let r : get_or (glyphs n) 0 0 ≡ 48 =
      sym (ap (λ ds. get_or ds 0 0) (above_zero n p)) ∙ h in omega arith)
]

pub numeral_injective : (m n : ℕ) → numeral m ≡ numeral n → m ≡ n
numeral_injective m n e = elim (eq-zero-or-pos m) [
  | inl mz ↦ mz ∙ sym (numeral_first n (sym (ap (λ ds. get_or ds 0 0) e) ∙ rw mz refl))
  | inr mp ↦ elim (eq-zero-or-pos n) [
    | inl nz ↦ numeral_first m (ap (λ ds. get_or ds 0 0) e ∙ rw nz refl) ∙ sym nz
    | inr np ↦ glyphs_injective m n (sym (above_zero m mp) ∙ e ∙ above_zero n np)
  ]
]

-- the first i digits, and the number that was made of them
pub record IsReadSoFar (front : List ℕ) (i value : ℕ) : Type 0 where
  pub n : ℕ
  pub digits : front ≡ glyphs n
  pub value_is : value ≡ capped n
  pub limit : value ≤ 2 ^ 64
  pub some : 0 < i → 0 < n

first_digit : (digits : List ℕ) (i : ℕ) → i ≡ 0 → 48 ≤ get_or digits i 0 → get_or digits 0 0 ≢ 48 → 0 < get_or digits i 0 - 48
first_digit digits i e low first =
    let same : get_or digits i 0 ≡ get_or digits 0 0 = ap (λ k. get_or digits k 0) e in
    grind (arith, first)

not_zero : (n d : ℕ) → 0 < d → 0 < n * 10 + d
not_zero n d h = omega arith

pub read_more : (digits : List ℕ) (i value next : ℕ) → IsReadSoFar (take i digits) i value → i < length digits →
    IsInRange 48 57 (get_or digits i 0) → get_or digits 0 0 ≢ 48 →
    ((n : ℕ) → value ≡ capped n → next ≡ capped (n * 10 + (get_or digits i 0 - 48))) → next ≤ 2 ^ 64 →
    IsReadSoFar (take (i + 1) digits) (i + 1) next
read_more digits i value next so_far inside digit first pushed limit =
    let d : ℕ = get_or digits i 0 - 48 in
    let low : 48 ≤ get_or digits i 0 = digit.0 in
    let high : get_or digits i 0 ≤ 57 = digit.1 in
    let some : 0 < so_far.n * 10 + d = elim (eq-zero-or-pos i) [
      | inl e ↦ not_zero so_far.n d (first_digit digits i e low first)
      | inr p ↦ let q : 0 < so_far.n =
          so_far.some p in omega arith
    ] in
    let same : 48 + d ≡ get_or digits i 0 = omega arith in
    record {
      n = so_far.n * 10 + d;
      digits = take_more digits i 0 inside ∙ ap (λ front. front ++ get_or digits i 0 ∷ []) so_far.digits ∙
          sym (glyphs_push so_far.n d (omega arith) some ∙ rw same refl);
      value_is = pushed so_far.n so_far.value_is;
      limit = limit;
      some = λ _. some;
    }

pub numeral_zero_only : (text : List ℕ) → get_or text 0 0 ≡ 48 → (n : ℕ) → text ≡ numeral n →
    (let zero_value : Option ℕ = Some 0 in zero_value ≡ Some (capped n))
numeral_zero_only text first n e =
    let z : n ≡ 0 = numeral_first n (sym (ap (λ t. get_or t 0 0) e) ∙ first) in
    rw z refl

pub numeral_not_long : (text : List ℕ) (n : ℕ) → get_or text 0 0 ≡ 48 → 2 ≤ length text → text ≡ numeral n → ⊥
numeral_not_long text n first long e =
    let z : n ≡ 0 = numeral_first n (sym (ap (λ t. get_or t 0 0) e) ∙ first) in
    let one : length text ≡ 1 = ap length e ∙ rw z refl in
    omega arith

pub digits_only : (text : List ℕ) (r : Option ℕ) → IfSome r
    (λ value. (n : ℕ) × (0 < n) × (text ≡ glyphs n) × (value ≡ capped n)) →
    IfNone r ((k : ℕ) × (k < length text) × ¬ (IsInRange 48 57 (get_or text k 0))) → (n : ℕ) → text ≡ numeral n →
    r ≡ Some (capped n)
digits_only text (Some value) found none n e =
    let same : found.0 ≡ n = numeral_injective found.0 n (above_zero found.0 found.1 ∙ sym found.2 ∙ e) in
    rw (found.3, same) refl
digits_only text None found none n e =
    absurd (none.2 (rw e (numeral_digit n none.0 (let l : length text ≡ length (numeral n) =
    ap length e in let inside : none.0 < length text = none.1 in omega arith))))
