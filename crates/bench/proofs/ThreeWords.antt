-- Three words.
use Rattle.bpf_model.proofs.Prelude.{◌≡◌, ℕ, ◌<◌, ◌≤◌, sym, ◌∙◌, ap, arith, length, get_or, List, [], ◌∷◌, map}

-- the texts of three words
pub three : {A : Type 0} (f : A → List ℕ) (xs : List A) (a b c : A) → 3 ≤ length xs → length xs < 4 →
    a ≡ get_or xs 0 a → b ≡ get_or xs 1 b → c ≡ get_or xs 2 c → map f xs ≡ f a ∷ f b ∷ f c ∷ []
three f [] a b c l m p q r = absurd (omega arith)
three f (x ∷ []) a b c l m p q r = absurd (omega arith)
three f (x ∷ y ∷ []) a b c l m p q r = absurd (omega arith)
three f (x ∷ y ∷ z ∷ []) a b c l m p q r =
    ap (λ w. f w ∷ f y ∷ f z ∷ []) (sym p) ∙ ap (λ w. f a ∷ f w ∷ f z ∷ []) (sym q) ∙ ap (λ w. f a ∷ f b ∷ f w ∷ []) (sym r)
three f (x ∷ y ∷ z ∷ w ∷ more) a b c l m p q r = absurd (omega arith)
