-- The maps of a program, each under its own number.
use Rattle.bpf_model.proofs.Prelude.{arith, ◌≡◌, ℕ, zero, suc, ◌+◌, ◌<◌, List, [], ◌∷◌, ◌++◌, length, map, take, ap, ◌∙◌, range_with_len, Some, slice_get}
use Rattle.bpf_model.proofs.Prelude.{map-take, get-below}
use Rattle.model_laws.proofs.Prelude.{MapShape}

-- one more map under its own number
pub one_more : (shapes : List MapShape) (ns : List ℕ) (n : ℕ) → n < length shapes →
    map (slice_get shapes) ns ≡ map Some (take n shapes) →
    map (slice_get shapes) (ns ++ n ∷ []) ≡ map Some (take (n + 1) shapes)
one_more shapes ns n below h = let m = get-below shapes n below in map-take (slice_get shapes) Some ns shapes n n m.0 h m.1 m.1

last : (a n j : ℕ) → a + n ≡ j → range_with_len a (suc n) ≡ range_with_len a n ++ j ∷ []
last a zero j e = let same : a ≡ j = omega arith in ap (λ k. k ∷ []) same
last a (suc n) j e = ap (λ l. a ∷ l) (last (a + 1) n j (omega arith))

-- one more number
pub range-more : (a n j : ℕ) → a + n ≡ j → range_with_len a (n + 1) ≡ range_with_len a n ++ j ∷ []
range-more a n j e = let on : n + 1 ≡ suc n = omega arith in ap (range_with_len a) on ∙ last a n j e
