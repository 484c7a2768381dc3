-- Shapes of a list, each of which a map may have.
use Rattle.bpf_model.proofs.Prelude.{inl, inr, ◌≡◌, ℕ, ◌+◌, ◌<◌, ◌≤◌, List, length, get_or, Some, sym, ap, ◌∙◌, subst, arith, slice_get, cases_lt}
use Rattle.bpf_model.proofs.Prelude.{get_or_from_slice_get, slice_get_within, IsShape}
use Rattle.model_laws.proofs.Prelude.{MapShape}

abbrev pub AreShapesBelow : ℕ → List MapShape → Type 0
AreShapesBelow n shapes = (k : ℕ) (shape : MapShape) → k < n → slice_get shapes k ≡ Some shape → IsShape shape

pub next-shape : (shapes : List MapShape) (n : ℕ) (d : MapShape) → AreShapesBelow n shapes → IsShape (get_or shapes n d) → AreShapesBelow (n + 1) shapes
next-shape shapes n d before now k shape h g = elim (cases_lt k n) [
  | inl b ↦ before k shape b g
  | inr b ↦
      let same : k ≡ n = omega (arith, h, b) in
      subst IsShape (ap (λ (i : ℕ). get_or shapes i d) (sym same) ∙ get_or_from_slice_get shapes k shape d g) now
]

pub all-shapes : (shapes : List MapShape) (n : ℕ) → AreShapesBelow n shapes → length shapes ≤ n → (k : ℕ) (shape : MapShape) →
    slice_get shapes k ≡ Some shape → IsShape shape
all-shapes shapes n before h k shape g = before k shape (omega (arith, slice_get_within shapes k shape g, h)) g
