-- The arguments of a helper's signature, one after another.
use Rattle.bpf_model.proofs.Prelude.{◌≡◌, ℕ, suc, ◌+◌, ◌<◌, List, ◌∷◌, length, sym, ap, subst, ◌∙◌, arith, get_or, drop, slice_get-get_or, drop-next}
use Rattle.effects.proofs.Prelude.{IsArgument, AreArguments}
use Rattle.model_laws.proofs.Prelude.{MapShape, ArgumentKind}
use Rattle.plan_laws.proofs.Prelude.{AbsState}

-- those from one on are it and those behind it
module _ (shapes : List MapShape) (a : AbsState) (shape : MapShape) (kinds : List ArgumentKind) (i : ℕ)
    (default : ArgumentKind) (within : i < length kinds) where
  next : suc i ≡ i + 1
  next = omega arith

  next-register : suc (1 + i) ≡ 1 + (i + 1)
  next-register = omega arith

  split : drop i kinds ≡ get_or kinds i default ∷ drop (i + 1) kinds
  split = drop-next kinds i (get_or kinds i default) (slice_get-get_or kinds i default within) ∙ ap (λ (n : ℕ). get_or kinds i default ∷ drop n kinds) next

  pub from_next : IsArgument shapes a shape (get_or kinds i default) (1 + i) →
      AreArguments shapes a shape (drop (i + 1) kinds) (1 + (i + 1)) →
      AreArguments shapes a shape (drop i kinds) (1 + i)
  from_next x xs = subst (λ (k : List ArgumentKind). AreArguments shapes a shape k (1 + i)) (sym split)
      (x, subst (AreArguments shapes a shape (drop (i + 1) kinds)) (sym next-register) xs)

  pub to_next : AreArguments shapes a shape (drop i kinds) (1 + i) →
      IsArgument shapes a shape (get_or kinds i default) (1 + i) ×
      AreArguments shapes a shape (drop (i + 1) kinds) (1 + (i + 1))
  to_next xs = let both : AreArguments shapes a shape (get_or kinds i default ∷ drop (i + 1) kinds) (1 + i) =
      subst (λ (k : List ArgumentKind). AreArguments shapes a shape k (1 + i)) split
      xs in (both.0, subst (AreArguments shapes a shape (drop (i + 1) kinds)) next-register both.1)
