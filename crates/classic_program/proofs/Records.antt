-- Structs of eight bytes that are read one by one.
use Rattle.bpf_model.proofs.Prelude.{◌≡◌, ℕ, zero, suc, ◌-◌, ◌/◌, ◌%◌, ◌<◌, ◌≤◌, List, [], ◌∷◌, ◌++◌, length, take, drop, refl, sym, ap, ◌∙◌, subst, arith}
use Rattle.std.proofs.Common.{length-drop}
use Rattle.std.proofs.lemmas.List.{append_assoc}
use Rattle.classic_program.specs.declared.sock_filter.SockFilter.{SockFilter}
use Rattle.classic_program.specs.Reading.{filter_at, filters_from, filters_in}

pub record IsReading (bytes rest : List ℕ) (filters : List SockFilter) : Type 0 where
  pub whole : length rest % 8 ≡ 0
  pub all : filters ++ filters_from (length rest / 8) rest ≡ filters_in bytes

pub take-whole : (n : ℕ) (xs : List ℕ) → length xs ≤ n → take n xs ≡ xs
take-whole zero [] l = refl
take-whole (suc n) [] l = refl
take-whole zero (x ∷ xs) l = absurd (omega arith)
take-whole (suc n) (x ∷ xs) l = ap (λ (ys : List ℕ). x ∷ ys) (take-whole n xs (omega arith))

pub reading-next : (bytes rest more : List ℕ) (filters new : List SockFilter) (f : SockFilter) → IsReading bytes rest filters → 0 < length rest
    → f ≡ filter_at rest → new ≡ filters ++ f ∷ []
    → more ≡ take (length rest - 8) (drop 8 rest) → IsReading bytes more new
reading-next bytes rest more filters new f h some f-is e g =
    let whole = h.whole in
    let cut = length-drop 8 rest in
    let same : more ≡ drop 8 rest = g ∙ take-whole (length rest - 8) (drop 8 rest) (omega arith) in
    let size : length rest / 8 ≡ suc (length (drop 8 rest) / 8) = omega arith in
    let left : length (drop 8 rest) % 8 ≡ 0 = omega arith in
    subst (λ (x : List SockFilter). IsReading bytes more x) (sym (e ∙ ap (λ (f : SockFilter). filters ++ f ∷ []) f-is))
    (subst (λ (x : List ℕ). IsReading bytes x (filters ++ filter_at rest ∷ [])) (sym same) (record {
      whole = left;
      all =
          append_assoc filters (filter_at rest ∷ []) (filters_from (length (drop 8 rest) / 8) (drop 8 rest)) ∙ sym
          (ap (λ (n : ℕ). filters ++ filters_from n rest) size) ∙ h.all;
    }))
