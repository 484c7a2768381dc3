-- The shapes of the maps of a world's only program.
use Rattle.bpf_model.proofs.Prelude.{◌≡◌, List, [], ◌∷◌, map, ap, sym, refl, ◌∙◌, Option, Some, same_Some, cons-nil, heads, tails}
use Rattle.verifier.proofs.Prelude.{Checked}
use Rattle.bpf_model.specs.declared.limits.MapShape.{MapShape}

same-shapes : (xs ys : List MapShape) → map Some xs ≡ map Some ys → xs ≡ ys
same-shapes [] [] e = refl
same-shapes [] (y ∷ ys) e = absurd (cons-nil (Some y) (map Some ys) (sym e))
same-shapes (x ∷ xs) [] e = absurd (cons-nil (Some x) (map Some xs) e)
same-shapes (x ∷ xs) (y ∷ ys) e =
    let first : x ≡ y = same_Some x y (heads (Some x) (Some y) (map Some xs) (map Some ys) e) in
    let rest : xs ≡ ys = same-shapes xs ys (tails (Some x) (Some y) (map Some xs) (map Some ys) e) in
    ap (λ (z : MapShape). z ∷ xs) first ∙ ap (λ (zs : List MapShape). y ∷ zs) rest

-- the shapes by which programs are bound
abbrev asked_of : List Checked → List (List (Option MapShape))
asked_of programs = map (λ (p : Checked). map Some p.shapes) programs

-- the only program is one for the shapes by which it is bound
pub only_shapes : (programs : List Checked) (asked : List MapShape) → asked_of programs ≡ map Some asked ∷ [] →
    map (λ (p : Checked). p.shapes) programs ≡ asked ∷ []
only_shapes [] asked e = absurd (cons-nil (map Some asked) [] (sym e))
only_shapes (p ∷ []) asked e =
    ap (λ (s : List MapShape). s ∷ []) (same-shapes p.shapes asked (heads (map Some p.shapes) (map Some asked) [] [] e))
only_shapes (p ∷ q ∷ rest) asked e =
    absurd (cons-nil (map Some q.shapes) (asked_of rest) (tails (map Some p.shapes) (map Some asked) (asked_of (q ∷ rest)) [] e))
