-- Setups that grow by a map or a program.
use Rattle.bpf_model.proofs.Prelude.{◌≡◌, ℕ, inl, inr, List, [], ◌∷◌, ◌++◌, map, Some, refl, sym, subst, slice_get, map-append, MapView, shapes_of_maps}
use Rattle.bpf_model.proofs.Prelude.{get-append, get-append_cases}
use Rattle.model_laws.proofs.Prelude.{MapShape}
use Rattle.world.proofs.Prelude.{IsBound, AreProgramsBound}
use Rattle.world_laws.proofs.Prelude.{IsBoundTo}
use Rattle.world.specs.declared.kept.loaded.Loaded.{Loaded}
use Rattle.bpf_model.proofs.Lists.{map-next}

-- Numbers that are found in a list are found in a longer one.
pub found-more : {A : Type 0} (xs ys : List A) (numbers : List ℕ) (asked : List A) →
    map (slice_get xs) numbers ≡ map Some asked → map (slice_get (xs ++ ys)) numbers ≡ map Some asked
found-more xs ys [] [] e = refl
found-more xs ys [] (a ∷ asked) e = absurd (cc)
found-more xs ys (n ∷ numbers) [] e = absurd (cc)
found-more xs ys (n ∷ numbers) (a ∷ asked) e =
    let first : slice_get xs n ≡ Some a = cc in
    let others : map (slice_get xs) numbers ≡ map Some asked = cc in
    let here = get-append xs ys n a first in
    let there = found-more xs ys numbers asked others in
    cc

-- One more number is found after the others.
pub found-next : {A : Type 0} (xs : List A) (numbers : List ℕ) (asked : List A) (n : ℕ) (a : A) →
    map (slice_get xs) numbers ≡ map Some asked → slice_get xs n ≡ Some a →
    map (slice_get xs) (numbers ++ n ∷ []) ≡ map Some (asked ++ a ∷ [])
found-next xs numbers asked n a e here = map-next (slice_get xs) Some numbers asked n a e here

-- programs stay bound where a map is added
pub bound-still : (maps : List MapView) (v : MapView) (loaded : List Loaded) →
    AreProgramsBound (shapes_of_maps maps) loaded → AreProgramsBound (shapes_of_maps (maps ++ v ∷ [])) loaded
bound-still maps v loaded bound p l at =
    subst (λ s. IsBoundTo s l.verified.shapes l.maps.items) (sym (map-append (λ w. w.shape) maps (v ∷ [])))
    (found-more (shapes_of_maps maps) (v.shape ∷ []) l.maps.items l.verified.shapes (bound p l at))

-- one more program that is bound
pub bound-more : (shapes : List MapShape) (loaded : List Loaded) (l : Loaded) → AreProgramsBound shapes loaded →
    IsBound shapes l → AreProgramsBound shapes (loaded ++ l ∷ [])
bound-more shapes loaded l bound is p x at =
    elim (get-append_cases loaded l p x at) [ inl before ↦ bound p x before | inr last ↦ subst (IsBound shapes) last.1 is ]
