-- One byte string after another.
use Rattle.bpf_model.proofs.Prelude.{◌≡◌, ◌≢◌, ◌∙◌, ℕ, zero, suc, ◌+◌, ◌-◌, ◌*◌, ◌<◌, ◌≤◌, List, ◌++◌, length, replicate, refl, sym, ap, arith, take, drop}
use Rattle.bpf_model.proofs.Prelude.{take-append-drop, drop-drop, length-append, length-take-le, length-drop, take-replicate, take-append_seam}
use Rattle.bpf_model.proofs.Prelude.{drop-append_seam}
use Rattle.element_store.proofs.Prelude.{block, with_block}
use Rattle.std.proofs.lemmas.List.{append_assoc, drop-replicate}
use Rattle.std.proofs.Math.Seq.{take-append-add, drop-append-add}

pub times-suc : (i n : ℕ) → suc i * n ≡ n + i * n
times-suc i n = omega arith

-- a block below a bound lies inside
pub room : (len i n : ℕ) → i < n → i * len + len ≤ n * len
room len zero zero h = absurd (omega arith)
room len (suc i) zero h = absurd (omega arith)
room len zero (suc n) h = omega arith
room len (suc i) (suc n) h = let r : i * len + len ≤ n * len = room len i n (omega arith) in omega (arith, times-suc i len, times-suc n len)

zero-times : (n : ℕ) → 0 * n ≡ 0
zero-times n = omega arith

pub block-zero : (len : ℕ) (bytes : List ℕ) → block len 0 bytes ≡ take len bytes
block-zero len bytes = ap (λ n. take len (drop n bytes)) (zero-times len)

pub block-suc : (len i : ℕ) (bytes : List ℕ) → block len (suc i) bytes ≡ block len i (drop len bytes)
block-suc len i bytes = ap (λ n. take len (drop n bytes)) (times-suc i len) ∙ ap (take len) (sym (drop-drop (i * len) len bytes))

module _ (new : List ℕ) where
  with_block-zero : (bytes : List ℕ) → with_block 0 new bytes ≡ new ++ drop (length new) bytes
  with_block-zero bytes =
      let e : 0 * length new + length new ≡ length new = omega (arith, zero-times (length new)) in
      ap (λ m. take m bytes ++ new ++ drop (0 * length new + length new) bytes) (zero-times (length new))
      ∙ ap (λ m. new ++ drop m bytes) e

  with_block-past : (a b : List ℕ) (i : ℕ) → length a ≡ length new → with_block (suc i) new (a ++ b) ≡ a ++ with_block i new b
  with_block-past a b i e =
      let from : suc i * length new ≡ length a + i * length new = omega (arith, times-suc i (length new)) in
      let to : suc i * length new + length new ≡ length a + (i * length new + length new) = omega (arith, times-suc i (length new)) in
      ap (λ m. take m (a ++ b) ++ new ++ drop (suc i * length new + length new) (a ++ b)) from
      ∙ (ap (λ m. take (length a + i * length new) (a ++ b) ++ new ++ drop m (a ++ b)) to
      ∙ (ap (λ l. l ++ new ++ drop (length a + (i * length new + length new)) (a ++ b)) (take-append-add a b (i * length new))
      ∙ (ap (λ l. (a ++ take (i * length new) b) ++ new ++ l) (drop-append-add a b (i * length new + length new))
      ∙ (ap (λ l. l ++ drop (i * length new + length new) b) (append_assoc a (take (i * length new) b) new)
      ∙ append_assoc a (take (i * length new) b ++ new) (drop (i * length new + length new) b)))))

  split : (bytes : List ℕ) (i : ℕ) → length new ≤ length bytes →
      with_block (suc i) new bytes ≡ take (length new) bytes ++ with_block i new (drop (length new) bytes)
  split bytes i h =
      ap (with_block (suc i) new) (sym (take-append-drop (length new) bytes))
      ∙ with_block-past (take (length new) bytes) (drop (length new) bytes) i (length-take-le (length new) bytes h)

  pub first-here : (bytes : List ℕ) → take (length new) (with_block 0 new bytes) ≡ new
  first-here bytes = ap (take (length new)) (with_block-zero bytes) ∙ take-append_seam new (drop (length new) bytes)

  pub rest-here : (bytes : List ℕ) → drop (length new) (with_block 0 new bytes) ≡ drop (length new) bytes
  rest-here bytes = ap (drop (length new)) (with_block-zero bytes) ∙ drop-append_seam new (drop (length new) bytes)

  pub first-past : (bytes : List ℕ) (i : ℕ) → length new ≤ length bytes → take (length new) (with_block (suc i) new bytes) ≡ take (length new) bytes
  first-past bytes i h =
      let l : length (take (length new) bytes) ≡ length new = length-take-le (length new) bytes h in
      ap (take (length new)) (split bytes i h)
      ∙ (ap (λ n. take n (take (length new) bytes ++ with_block i new (drop (length new) bytes))) (sym l)
      ∙ take-append_seam (take (length new) bytes) (with_block i new (drop (length new) bytes)))

  pub rest-past : (bytes : List ℕ) (i : ℕ) → length new ≤ length bytes →
      drop (length new) (with_block (suc i) new bytes) ≡ with_block i new (drop (length new) bytes)
  rest-past bytes i h =
      let l : length (take (length new) bytes) ≡ length new = length-take-le (length new) bytes h in
      ap (drop (length new)) (split bytes i h)
      ∙ (ap (λ n. drop n (take (length new) bytes ++ with_block i new (drop (length new) bytes))) (sym l)
      ∙ drop-append_seam (take (length new) bytes) (with_block i new (drop (length new) bytes)))

  pub length-with_block : (bytes : List ℕ) (i : ℕ) → i * length new + length new ≤ length bytes → length (with_block i new bytes) ≡ length bytes
  length-with_block bytes i h =
      let l : length (take (i * length new) bytes) ≡ i * length new = length-take-le (i * length new) bytes (omega arith) in
      let a : length (with_block i new bytes) ≡ length (take (i * length new) bytes ++ new) + length
      (drop (i * length new + length new) bytes) =
      length-append (take (i * length new) bytes ++ new) (drop (i * length new + length new) bytes) in
      let b : length (take (i * length new) bytes ++ new) ≡ length (take (i * length new) bytes) + length new =
      length-append (take (i * length new) bytes) new in
      let c : length (drop (i * length new + length new) bytes) ≡ length bytes - (i * length new + length new) =
      length-drop (i * length new + length new) bytes in
      omega arith

  -- the block that is written, and each other one
  pub block-written : (bytes : List ℕ) (i : ℕ) → i * length new + length new ≤ length bytes → block (length new) i (with_block i new bytes) ≡ new
  block-written bytes zero h = block-zero (length new) (with_block 0 new bytes) ∙ first-here bytes
  block-written bytes (suc i) h =
      let n : length (drop (length new) bytes) ≡ length bytes - length new = length-drop (length new) bytes in
      let t = times-suc i (length new) in
      block-suc (length new) i (with_block (suc i) new bytes) ∙
      (ap (block (length new) i) (rest-past bytes i (omega arith)) ∙
      block-written (drop (length new) bytes) i (omega arith))

  pub block-other : (bytes : List ℕ) (i j : ℕ) → j ≢ i → i * length new + length new ≤ length bytes →
      block (length new) j (with_block i new bytes) ≡ block (length new) j bytes
  block-other bytes zero zero ne h = absurd (ne refl)
  block-other bytes zero (suc j) ne h = block-suc (length new) j (with_block 0 new bytes) ∙
      (ap (block (length new) j) (rest-here bytes) ∙ sym (block-suc (length new) j bytes))
  block-other bytes (suc i) zero ne h =
      let t = times-suc i (length new) in
      block-zero (length new) (with_block (suc i) new bytes) ∙ (first-past bytes i (omega arith) ∙ sym (block-zero (length new) bytes))
  block-other bytes (suc i) (suc j) ne h =
      let n : length (drop (length new) bytes) ≡ length bytes - length new = length-drop (length new) bytes in
      let t = times-suc i (length new) in
      block-suc (length new) j (with_block (suc i) new bytes)
      ∙ (ap (block (length new) j) (rest-past bytes i (omega arith))
      ∙ (block-other (drop (length new) bytes) i j (λ e. ne (ap suc e)) (omega arith)
      ∙ sym (block-suc (length new) j bytes)))

-- each of some zero blocks
pub block-zeros : (len i n : ℕ) → i < n → block len i (replicate (n * len) 0) ≡ replicate len 0
block-zeros len i n less =
    let r : i * len + len ≤ n * len = room len i n less in
    ap (take len) (drop-replicate (i * len) (n * len) 0) ∙ take-replicate len (n * len - i * len) 0 (omega arith)
