-- States after a change, register by register and byte by byte.
use Rattle.bpf_model.proofs.Prelude.{◌≡◌, ◌≢◌, ℕ, ◌+◌, ◌<◌, ◌≤◌, List, length, refl, sym, subst, ◌∙◌, arith, inl, inr, below_more, slice_set, slice_index_or}
use Rattle.bpf_model.proofs.Prelude.{cases_lt, get_or-set_same, get_or-set_other, get_or_past}
use Rattle.plan_laws.proofs.Prelude.{Blank}
use Rattle.register_kinds.proofs.Prelude.{learnt_kind}
use Rattle.register_kinds.specs.declared.learn.Lesson.{Lesson}
use Rattle.register_kinds.specs.declared.learn.Lesson.TheVariants.{SectionEnds, IsNull, IsThere}

-- Each item of a list becomes what a function makes of it.
module _ (A : Type 0) (d : A) where
  pub mapped_more : (i : ℕ) (xs : List A) (x : A) (P : ℕ → A → Type 0) → i < length xs →
      ((k : ℕ) → k < i → P k (slice_index_or xs k d)) → P i x → (k : ℕ) → k < i + 1 →
      P k (slice_index_or (slice_set xs i x) k d)
  mapped_more i xs x P l done here = below_more _ i
      (λ k h. let ne : k ≢ i = omega arith in subst (P k) (sym (get_or-set_other xs i k x d ne)) (done k h))
      (subst (P i) (sym (get_or-set_same xs i x d l)) here)

  pub mapped_kept : (i : ℕ) (xs old : List A) (x : A) →
      ((k : ℕ) → i ≤ k → slice_index_or xs k d ≡ slice_index_or old k d) → (k : ℕ) → i + 1 ≤ k →
      slice_index_or (slice_set xs i x) k d ≡ slice_index_or old k d
  mapped_kept i xs old x rest k h = let ne : k ≢ i = omega arith in get_or-set_other xs i k x d ne ∙ rest k (omega arith)

  pub mapped_all : (n : ℕ) (xs : List A) (P : ℕ → A → Type 0) → length xs ≤ n →
      ((k : ℕ) → k < n → P k (slice_index_or xs k d)) → ((k : ℕ) → n ≤ k → P k d) → (k : ℕ) →
      P k (slice_index_or xs k d)
  mapped_all n xs P l all past k = elim (cases_lt k n) [
    | inl h ↦ all k h
    | inr h ↦ subst (P k) (sym (get_or_past xs k d (omega arith))) (past k h)
  ]

pub learnt_unwritten : (lesson : Lesson) → Blank ≡ learnt_kind lesson Blank
learnt_unwritten (SectionEnds shapes) = refl
learnt_unwritten (IsNull id) = refl
learnt_unwritten (IsThere id) = refl
