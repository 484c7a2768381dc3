-- Whether two keys are one.
use Rattle.std.proofs.Common.{◌≡◌, ◌≢◌, ◌∙◌, ℕ, List, sym, Bool, true, false}
use Rattle.std.proofs.lemmas.Bool.{false_from_ne_true, false≢true}
use Rattle.std.specs.Cmp.Lexicographic.{slice_cmp, texts_ties, bytes_decides}
use Rattle.std.specs.Ordering.{nat_cmp, eq_by_cmp}

abbrev pub same_key : List ℕ → List ℕ → Bool
same_key a b = eq_by_cmp (slice_cmp nat_cmp) a b

pub same_key-true : (a b : List ℕ) → same_key a b ≡ true → a ≡ b
same_key-true a b h = (bytes_decides a b).0 (texts_ties a b ∙ h)

pub same-same_key : (a b : List ℕ) → a ≡ b → same_key a b ≡ true
same-same_key a b e = sym (texts_ties a b) ∙ (bytes_decides a b).1 e

pub same_key-false : (a b : List ℕ) → same_key a b ≡ false → a ≢ b
same_key-false a b h e = false≢true (sym h ∙ same-same_key a b e)

pub other-same_key : (a b : List ℕ) → a ≢ b → same_key a b ≡ false
other-same_key a b ne = false_from_ne_true (same_key a b) (λ h. ne (same_key-true a b h))
