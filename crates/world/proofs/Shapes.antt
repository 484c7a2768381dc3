-- Programs that are bound to maps of the shapes that they were verified for, one number of a list after another.
use Rattle.bpf_model.proofs.Prelude.{◌≡◌, ◌∙◌, ℕ, zero, suc, ◌+◌, ◌<◌, ◌≤◌, List, [], ◌∷◌, map, length, take, get_or, Option, Some, sym, ap, subst, arith}
use Rattle.bpf_model.proofs.Prelude.{below_more, slice_get, none-some, same_Some, slice_get_within, get_or_from_slice_get}
use Rattle.model_laws.proofs.Prelude.{MapShape}
use Rattle.world_laws.proofs.Prelude.{IsBoundTo}
use Rattle.world_laws.proofs.Binding.{bound-each}

pub bound-more : (shapes : List MapShape) (numbers : List ℕ) (asked : List MapShape) (i n : ℕ) (s : MapShape) →
    slice_get numbers i ≡ Some n → slice_get asked i ≡ Some s → slice_get shapes n ≡ Some s →
    map (slice_get shapes) (take i numbers) ≡ map Some (take i asked) →
    map (slice_get shapes) (take (suc i) numbers) ≡ map Some (take (suc i) asked)
bound-more shapes [] asked i n s here there is so = absurd (none-some n here)
bound-more shapes (m ∷ numbers) [] i n s here there is so = absurd (none-some s there)
bound-more shapes (m ∷ numbers) (a ∷ asked) zero n s here there is so =
    let first : slice_get shapes m ≡ Some a = cc in
    ap (λ (x : Option MapShape). x ∷ []) first
bound-more shapes (m ∷ numbers) (a ∷ asked) (suc i) n s here there is so =
    let first : slice_get shapes m ≡ Some a = cc in
    let before : map (slice_get shapes) (take i numbers) ≡ map Some (take i asked) = cc in
    let rest = bound-more shapes numbers asked i n s here there is before in
    cc

pub bound-at : (shapes asked : List MapShape) (numbers : List ℕ) (i n : ℕ) (s : MapShape) →
    IsBoundTo shapes asked numbers → slice_get numbers i ≡ Some n → slice_get asked i ≡ Some s →
    slice_get shapes n ≡ Some s
bound-at shapes asked numbers i n s bound here there =
    let found = bound-each shapes asked numbers bound i s there in
    let same : found.0 ≡ n = same_Some found.0 n (sym found.1 ∙ here) in
    subst (λ (k : ℕ). slice_get shapes k ≡ Some s) same found.2

-- What is so of each element before an index, and of the one at it, is so of each up to it.
pub each-more : {X : Type 0} (P : X → Type 0) (xs : List X) (i : ℕ) (e : X) → e ≡ get_or xs i e → P e →
    ((p : ℕ) (x : X) → p < i → slice_get xs p ≡ Some x → P x) → (p : ℕ) (x : X) → p < i + 1 → slice_get xs p ≡ Some x
    → P x
each-more {X} P xs i e is holds before p x h at =
    below_more (λ (k : ℕ). (y : X) → slice_get xs k ≡ Some y → P y) i (λ k l y there. before k y l there)
    (λ y there. subst P (is ∙ get_or_from_slice_get xs i y e there) holds) p h x at

pub each-all : {X : Type 0} (P : X → Type 0) (xs : List X) (i : ℕ) → length xs ≤ i →
    ((p : ℕ) (x : X) → p < i → slice_get xs p ≡ Some x → P x) → (p : ℕ) (x : X) → slice_get xs p ≡ Some x → P x
each-all P xs i end before p x at =
    let within : p < length xs = slice_get_within xs p x at in
    before p x (omega arith) at
