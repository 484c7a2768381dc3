-- Bytes of lists: those that a number was written to, those that a load reads, those of an argument.
use Rattle.bpf_model.proofs.Prelude.{◌≡◌, ℕ, zero, suc, ◌+◌, ◌-◌, ◌*◌, ◌/◌, ◌%◌, ◌^◌, ◌<◌, ◌≤◌, refl, sym, ◌∙◌, ap, subst, arith, length, List, [], ◌∷◌, inl}
use Rattle.bpf_model.proofs.Prelude.{inr, ◌≢◌, Some, ◌==◌, if◌then◌else◌, slice_get, slice_index, slice_set, take, drop, unwrap_or, ℤ, pos, cases_lt}
use Rattle.bpf_model.proofs.Prelude.{cases_eq, eq-eqb, ne_eqb, cond-true, cond-false, get_or-set_same, get_or-set_other, slice_get-get_or, same_Some, pow-suc}
use Rattle.bpf_model.proofs.Prelude.{div-div-eq-div-mul, number_at, byte_of, is_within, with_bytes, bytes_at, ◌>>=◌, ByteIs, before, behind, within}
use Rattle.bpf_model.proofs.Prelude.{length-with_bytes, drop-next}
use Rattle.model_laws.proofs.Prelude.{Cell}
use Rattle.world_laws.proofs.Prelude.{number_from}
use Rattle.world_laws.proofs.Cells.{number_more, byte_known}
use Rattle.model_laws.proofs.Computations.{first-step}

pub set_cond : (xs : List ℕ) (d x q : ℕ) → d < length xs → slice_index (slice_set xs d x) q ≡ (if q == d then x else slice_index xs q)
set_cond xs d x q l = elim (cases_eq q d) [
  | inl e ↦ subst (λ q. slice_index (slice_set xs d x) q ≡ (if q == d then x else slice_index xs q)) (sym e)
      (get_or-set_same xs d x 0 l ∙ sym (ap (λ t. if t then x else slice_index xs d) (eq-eqb d d refl)))
  | inr n ↦ get_or-set_other xs d q x 0 n ∙ sym (ap (λ t. if t then x else slice_index xs q) (ne_eqb q d n))
]

digit : (n at k : ℕ) → suc at ≤ k → n / 256 / 256 ^ (k - suc at) ≡ n / 256 ^ (k - at)
digit n at k h =
    let e : suc (k - suc at) ≡ k - at = omega arith in
    let f : 256 ^ suc (k - suc at) ≡ 256 ^ (k - suc at) * 256 = pow-suc 256 (k - suc at) in
    let g : 256 * 256 ^ (k - suc at) ≡ 256 ^ suc (k - suc at) = omega arith in
    div-div-eq-div-mul n 256 (256 ^ (k - suc at)) ∙ ap (λ m. n / m) (g ∙ ap (λ (e : ℕ). 256 ^ e) e)

first-digit : (n at k : ℕ) → k ≡ at → n / 256 ^ (k - at) % 256 ≡ n % 256
first-digit n at k e = let f : k - at ≡ 0 = omega arith in ap (λ (e : ℕ). n / 256 ^ e % 256) f ∙ (let g : n / 1 % 256 ≡ n % 256 = omega arith in g)

-- the bytes after a number was written
pub bytes-written : (width at n : ℕ) (xs : List ℕ) → at + width ≤ length xs → (k : ℕ) →
    slice_index (with_bytes at width n xs) k ≡ (if is_within at width k then n / 256 ^ (k - at) % 256 else slice_index
    xs k)
bytes-written zero at n xs l k = elim (cases_lt k at) [
  | inl h ↦ sym (cond-false (is_within at 0 k) (n / 256 ^ (k - at) % 256) (slice_index xs k) (before at 0 k h))
  | inr h ↦ sym (cond-false (is_within at 0 k) (n / 256 ^ (k - at) % 256) (slice_index xs k) (behind at 0 k (omega arith)))
]
bytes-written (suc width) at n xs l k =
    let ys = with_bytes (suc at) width (n / 256) xs in
    let more = bytes-written width (suc at) (n / 256) xs (omega arith) k in
    let same : length ys ≡ length xs = length-with_bytes (suc at) width (n / 256) xs in
    set_cond ys at (n % 256) k (omega arith) ∙ elim (cases_eq k at) [
      | inl e ↦ cond-true (k == at) (n % 256) (slice_index ys k) (eq-eqb k at e) ∙ sym (first-digit n at k e)
          ∙ sym (cond-true (is_within at (suc width) k) (n / 256 ^ (k - at) % 256) (slice_index xs k) (within at (suc width) k (omega arith) (omega arith)))
      | inr d ↦ cond-false (k == at) (n % 256) (slice_index ys k) (ne_eqb k at d) ∙ more ∙ elim (cases_lt k at) [
        | inl h ↦ cond-false (is_within (suc at) width k) (n / 256 / 256 ^ (k - suc at) % 256) (slice_index xs k) (before (suc at) width k (omega arith))
            ∙ sym (cond-false (is_within at (suc width) k) (n / 256 ^ (k - at) % 256) (slice_index xs k) (before at (suc width) k h))
        | inr h ↦ elim (cases_lt k (suc at + width)) [
          | inl m ↦ cond-true (is_within (suc at) width k) (n / 256 / 256 ^ (k - suc at) % 256) (slice_index xs k) (within (suc at) width k (beyond h d) m)
              ∙ ap (λ m. m % 256) (digit n at k (beyond h d))
              ∙ sym (cond-true (is_within at (suc width) k) (n / 256 ^ (k - at) % 256) (slice_index xs k) (within at (suc width) k h (omega arith)))
          | inr m ↦ cond-false (is_within (suc at) width k) (n / 256 / 256 ^ (k - suc at) % 256) (slice_index xs k) (behind (suc at) width k m)
              ∙ sym (cond-false (is_within at (suc width) k) (n / 256 ^ (k - at) % 256) (slice_index xs k) (behind at (suc width) k (omega arith)))
        ]
      ]
    ]
  where
    beyond : at ≤ k → k ≢ at → suc at ≤ k
    beyond h d = elim (cases_lt at k) [
      | inl m ↦ m
      | inr m ↦ absurd (d (let z : k ≡ at = omega arith in z))
    ]

-- bytes that are there are a number
pub number-there : (bytes : List ℕ) (width at : ℕ) → at + width ≤ length bytes → (n : ℕ) × (number_at (slice_get bytes) at width ≡ Some n)
number-there bytes zero at l = (0, refl)
number-there bytes (suc width) at l =
    let rest = number-there bytes width (suc at) (omega arith) in
    let low = slice_index bytes at in
    (low + 256 * rest.0, number_more bytes at width low rest.0 (low + 256 * rest.0) (slice_get-get_or bytes at 0 (omega arith)) rest.1 refl)

pub number-read : (bytes : List ℕ) (width at n : ℕ) (z : ℤ) → z ≡ pos at → number_at (slice_get bytes) at width ≡ Some n → number_from bytes width z ≡ n
number-read bytes width at n z e h = ap (number_from bytes width) e ∙ ap (λ o. unwrap_or o 0) h

-- the bytes of an argument
pub argument-bytes : (bases : ℕ → ℕ) (cells : ℕ → Cell) (bytes : List ℕ) →
    ((k : ℕ) → k < length bytes → ByteIs bases (cells k) (slice_index bytes k)) → (len at : ℕ) (found : List ℕ) →
    at + len ≤ length bytes
    → bytes_at cells at len ≡ Some found → take len (drop at bytes) ≡ found
argument-bytes bases cells bytes all zero at found l h = same_Some [] found h
argument-bytes bases cells bytes all (suc len) at found l h =
    let b = first-step (byte_of (cells at)) (λ b. bytes_at cells (suc at) len >>= λ bs. Some (b ∷ bs)) found h in
    let r = first-step (bytes_at cells (suc at) len) (λ bs. Some (b.0 ∷ bs)) found b.2 in
    let first : slice_index bytes at ≡ b.0 = byte_known bases (cells at) (slice_index bytes at) b.0 (all at (omega arith)) b.1 in
    let rest : take len (drop (suc at) bytes) ≡ r.0 = argument-bytes bases cells bytes all len (suc at) r.0 (omega arith) r.1 in
    ap (take (suc len)) (drop-next bytes at (slice_index bytes at) (slice_get-get_or bytes at 0 (omega arith))) ∙
    ap (λ x. x ∷ take len (drop (suc at) bytes)) first ∙ ap (λ xs. b.0 ∷ xs) rest ∙
    same_Some (b.0 ∷ r.0) found r.2
