-- The shapes of a registry's maps, and what is told of a program that the verifier refuses.
use Rattle.bpf_model.proofs.Prelude.{◌≡◌, ◌⊎◌, ℕ, ◌+◌, ◌<◌, ◌≤◌, List, [], ◌∷◌, ◌++◌, length, map, take, get_or, ap, sym, subst, ◌∙◌, inl, inr, arith, Option}
use Rattle.bpf_model.proofs.Prelude.{Some, None, slice_get, option_map, take_more, map-append, slice_get_cases, same_Some, none-some, MapView, shapes_of_maps}
use Rattle.model_laws.proofs.Prelude.{MapShape, IsPlainWithMaps}
use Rattle.verifier.proofs.Prelude.{IsToldOf}
use Rattle.bpf_model.specs.View.{shape_of_view as shape_of}
use Rattle.verifier.specs.declared.refusal.ProgramRefusal.{ProgramRefusal}
use Rattle.verifier.specs.declared.refusal.ProgramRefusal.TheVariants.{Memory}
use Rattle.program_files.specs.declared.verdict.Verdict.{Verdict}
use Rattle.program_files.specs.declared.verdict.Verdict.TheVariants.{Program}
use Rattle.program_files.specs.declared.program_file.Source.{Source}
use Rattle.program_files.specs.Checks.{IsSourceOf, IsProgramRefused, IsVerifierVerdict, IsCheckedRefusal}

abbrev IsAt : List MapView → ℕ → Type 0
IsAt maps n =
    ((m : MapView) × (n < length maps) × (slice_get maps n ≡ Some m) × (get_or maps n m ≡ m))
    ⊎ ((length maps ≤ n) × (slice_get maps n ≡ None))

more_by : (maps : List MapView) (n : ℕ) (s : MapShape) → IsAt maps n → option_map shape_of (slice_get maps n) ≡ Some s
    → map shape_of (take n maps) ++ s ∷ [] ≡ map shape_of (take (n + 1) maps)
more_by maps n s (inl (m, inside, found, read)) e =
    let same : m.shape ≡ s = same_Some m.shape s (ap (option_map shape_of) (sym found) ∙ e) in
    let taken : take (n + 1) maps ≡ take n maps ++ m ∷ [] = take_more maps n m inside ∙ ap (λ (x : MapView). take n maps ++ x ∷ []) read in
    let shapes : map shape_of (take (n + 1) maps) ≡ map shape_of (take n maps) ++ m.shape ∷ [] =
    ap (map shape_of) taken ∙ map-append shape_of (take n maps) (m ∷ []) in
    sym (shapes ∙ ap (λ (x : MapShape). map shape_of (take n maps) ++ x ∷ []) same)
more_by maps n s (inr (past, none)) e = absurd (none-some s (ap (option_map shape_of) (sym none) ∙ e))

-- the shape of the map of a number, found or not

pub shape_found : (maps : List MapView) (n id : ℕ) (r : Option MapShape) (s : MapShape) → id ≡ n →
    r ≡ option_map shape_of (slice_get maps id) → r ≡ Some s → map shape_of (take n maps) ++ s
    ∷ [] ≡ map shape_of (take (n + 1) maps)
shape_found maps n id r s same is found =
    more_by maps n s (slice_get_cases maps n).1 (ap (λ (k : ℕ). option_map shape_of (slice_get maps k)) (sym same) ∙ (sym is ∙ found))

none_is_past : (maps : List MapView) (n : ℕ) → IsAt maps n → option_map shape_of (slice_get maps n) ≡ None → n < length maps → ⊥
none_is_past maps n (inl (m, inside, found, read)) e below = none-some m.shape (sym e ∙ ap (option_map shape_of) found)
none_is_past maps n (inr (past, none)) e below = omega arith

pub shape_missing : (maps : List MapView) (n id : ℕ) (r : Option MapShape) → id ≡ n →
    r ≡ option_map shape_of (slice_get maps id) → r ≡ None → n < length maps → ⊥
shape_missing maps n id r same is none below =
    none_is_past maps n (slice_get_cases maps n).1 (ap (λ (k : ℕ). option_map shape_of (slice_get maps k)) (sym same) ∙ (sym is ∙ none)) below

pub verifier_told : (bytes : List ℕ) (s : Source) (r : ProgramRefusal) (v : Verdict) → IsSourceOf bytes s →
    IsToldOf s.program r → (IsPlainWithMaps s.program (shapes_of_maps s.registry.maps) → r ≡ Memory) →
    v ≡ Program r → IsCheckedRefusal bytes v
verifier_told bytes s r v is found with_maps told =
    let refused : IsProgramRefused bytes r = record {
      source = s;
      is = is;
      found = found;
      not_plain_with_maps = λ n p. n (with_maps p);
    } in
    inr (subst (IsVerifierVerdict bytes) (sym told) refused)
