-- What the methods of text give, by cases on their results.
use Rattle.bpf_model.proofs.Prelude.{ℕ, ◌≡◌, ◌≢◌, ◌<◌, List, ◌∷◌, ◌++◌, length, get_or, Bor, Option, Some, None, IfSome, IfNone, MatchOption}
use Rattle.asm.specs.Reading.{Lacks}

pub split_none : (c : ℕ) (text : List ℕ) (r : Option (Bor (List ℕ) × Bor (List ℕ))) →
    MatchOption r ((i : ℕ) → i < length text → get_or text i 0 ≢ c)
    (λ x. (text ≡ x.0.now ++ (c ∷ x.1.now)) × ((i : ℕ) → i < length x.0.now → get_or x.0.now i 0 ≢ c)) →
    IfNone r (Lacks c text)
split_none c text None h = h
split_none c text (Some x) h = tt

pub split_front : (c : ℕ) (text : List ℕ) (r : Option (Bor (List ℕ) × Bor (List ℕ))) →
    MatchOption r ((i : ℕ) → i < length text → get_or text i 0 ≢ c)
    (λ x. (text ≡ x.0.now ++ (c ∷ x.1.now)) × ((i : ℕ) → i < length x.0.now → get_or x.0.now i 0 ≢ c)) →
    IfSome r (λ x. Lacks c x.0.now)
split_front c text None h = tt
split_front c text (Some x) h = h.1

pub strip_only : (c : ℕ) (text : List ℕ) (r : Option (Bor (List ℕ))) →
    MatchOption r ((rest : List ℕ) → text ≢ c ∷ rest) (λ x. text ≡ c ∷ x.now) → (rest : List ℕ) → text ≡ c ∷ rest →
    MatchOption r ⊥ (λ x. x.now ≡ rest)
strip_only c text None h rest e = h rest e
strip_only c text (Some x) h rest e = cc
