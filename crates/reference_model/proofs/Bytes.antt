-- Bytes of the frame, read one by one.
use Rattle.bpf_model.proofs.Prelude.{◌≡◌, ℕ, suc, ◌+◌, ◌<◌, List, [], ◌∷◌, ◌++◌, Option, Some, None, refl, sym, ap, ◌∙◌, arith, ◌-◌, append-nil, byte_of}
use Rattle.bpf_model.proofs.Prelude.{bytes_at, ◌>>=◌}
use Rattle.model_laws.proofs.Prelude.{Cell}
use Rattle.std.proofs.lemmas.List.{append_assoc}

abbrev pub with_front : List ℕ → Option (List ℕ) → Option (List ℕ)
with_front xs o = o >>= λ rest. Some (xs ++ rest)

assoc : (xs : List ℕ) (b : ℕ) (o : Option (List ℕ)) → with_front xs (o >>= λ bs. Some (b ∷ bs)) ≡ with_front (xs ++ b ∷ []) o
assoc xs b None = refl
assoc xs b (Some bs) = ap Some (sym (append_assoc xs (b ∷ []) bs))

pub bytes-next : (frame : ℕ → Cell) (at k len : ℕ) (xs : List ℕ) (b : ℕ) → k < len → byte_of (frame (at + k)) ≡ Some b →
    with_front xs (bytes_at frame (at + k) (len - k)) ≡ with_front (xs ++ b ∷ []) (bytes_at frame (at + (k + 1)) (len - (k + 1)))
bytes-next frame at k len xs b h e =
    let rest : len - k ≡ suc (len - (k + 1)) = omega arith in
    let next : suc (at + k) ≡ at + (k + 1) = omega arith in
    ap (λ n. with_front xs (bytes_at frame (at + k) n)) rest ∙
    ap (λ o. with_front xs (o >>= λ b. bytes_at frame (suc (at + k)) (len - (k + 1)) >>= λ bs. Some (b ∷ bs))) e
    ∙ assoc xs b (bytes_at frame (suc (at + k)) (len - (k + 1))) ∙ ap (λ a. with_front (xs ++ b ∷ []) (bytes_at frame a (len - (k + 1)))) next

pub bytes-stuck : (frame : ℕ → Cell) (at k len : ℕ) (xs : List ℕ) → k < len → byte_of (frame (at + k)) ≡ None →
    with_front xs (bytes_at frame (at + k) (len - k)) ≡ None
bytes-stuck frame at k len xs h e =
    let rest : len - k ≡ suc (len - (k + 1)) = omega arith in
    ap (λ n. with_front xs (bytes_at frame (at + k) n)) rest ∙
    ap (λ o. with_front xs (o >>= λ b. bytes_at frame (suc (at + k)) (len - (k + 1)) >>= λ bs. Some (b ∷ bs))) e

pub bytes-end : (frame : ℕ → Cell) (at k len : ℕ) (xs : List ℕ) → len - k ≡ 0 → with_front xs (bytes_at frame (at + k) (len - k)) ≡ Some xs
bytes-end frame at k len xs h = ap (λ n. with_front xs (bytes_at frame (at + k) n)) h ∙ ap Some (append-nil xs)

pub bytes-begin : (frame : ℕ → Cell) (at len : ℕ) → bytes_at frame at len ≡ with_front [] (bytes_at frame (at + 0) (len - 0))
bytes-begin frame at len =
    let here : at ≡ at + 0 = omega arith in
    let all : len ≡ len - 0 = omega arith in
    whole (bytes_at frame at len) ∙ ap (λ a. with_front [] (bytes_at frame a len)) here ∙ ap (λ n. with_front [] (bytes_at frame (at + 0) n)) all
  where
    whole : (o : Option (List ℕ)) → o ≡ with_front [] o
    whole None = refl
    whole (Some xs) = refl
