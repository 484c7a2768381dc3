-- What `==` of two kinds says.
use Rattle.bpf_model.proofs.Prelude.{◌≡◌, ℕ, ◌≤◌, Bool, true, false, ap, ap₂, refl, sym, ◌∙◌, subst, ◌&&◌, false≢true, Decides-eqb, Decides-int_eq}
use Rattle.scalar_domain.proofs.Prelude.{Within}
use Rattle.std.specs.Prelude.{Decides}
use Rattle.std.proofs.Math.Bridge.{le_prop}
use Rattle.std.proofs.Math.Nat.{ℕ_set}
use Rattle.scalar_domain.specs.declared.scalar.Scalar.{Scalar}
use Rattle.scalar_domain.specs.contracts.scalar.ScalarPartialEq.TheImpl as scalar
use Rattle.register_kinds.specs.declared.kind.RegKind.{RegKind}
use Rattle.register_kinds.specs.declared.kind.RegKind.TheVariants as kinds
use Rattle.register_kinds.specs.contracts.kind.RegKindPartialEq.TheImpl as kind

both : (x y : Bool) {P Q : Type 0} → Decides x P → Decides y Q → Decides (x && y) (P × Q)
both true y p q = (λ e. (p.0 refl, q.0 e), λ r. q.1 r.1)
both false y p q = (λ e. absurd (false≢true e), λ r. p.1 r.0)

through : (x : Bool) {P Q : Type 0} → Decides x P → (P → Q) → (Q → P) → Decides x Q
through x d f g = (λ e. f (d.0 e), λ q. d.1 (g q))

made : (l g m k : ℕ) → l ≤ g → Within k m → Scalar
made l g m k o c = record {
  least = l;
  greatest = g;
  may = m;
  must = k;
  ordered = o;
  consistent = c;
}

made_same : (l g m k l' g' m' k' : ℕ) → l ≡ l' → g ≡ g' → m ≡ m' → k ≡ k' → (o : l ≤ g) (c : Within k m) (o' : l' ≤ g') (c' : Within k' m')
    → made l g m k o c ≡ made l' g' m' k' o' c'
unfolding made
made_same l g m k l' g' m' k' p q r t =
    subst (λ l. (o : l ≤ g) (c : Within k m) (o' : l' ≤ g') (c' : Within k' m') → made l g m k o c ≡ made l' g' m' k' o' c') (sym p)
    (subst (λ g. (o : l' ≤ g) (c : Within k m) (o' : l' ≤ g') (c' : Within k' m') → made l' g m k o c ≡ made l' g' m' k' o' c') (sym q)
    (subst (λ m. (o : l' ≤ g') (c : Within k m) (o' : l' ≤ g') (c' : Within k' m') → made l' g' m k o c ≡ made l' g' m' k' o' c') (sym r)
    (subst (λ k. (o : l' ≤ g') (c : Within k m') (o' : l' ≤ g') (c' : Within k' m') → made l' g' m' k o c ≡ made l' g' m' k' o' c') (sym t)
    (λ o c o' c'. ap (λ o. made l' g' m' k' o c) (le_prop o o') ∙ ap (made l' g' m' k' o') (ℕ_set _ _ c c')))))

scalar_same : (s t : Scalar) → s.least ≡ t.least → s.greatest ≡ t.greatest → s.may ≡ t.may → s.must ≡ t.must → s ≡ t
unfolding made
scalar_same s t p q r u = made_same s.least s.greatest s.may s.must t.least t.greatest t.may t.must p q r u s.ordered s.consistent t.ordered t.consistent

pub scalars-decides : (s t : Scalar) → Decides (scalar.eq-value.it s t) (s ≡ t)
scalars-decides s t =
    through _ (both _ _ (Decides-eqb s.least t.least) (both _ _ (Decides-eqb s.greatest t.greatest)
    (both _ _ (Decides-eqb s.may t.may) (Decides-eqb s.must t.must))))
    (λ h. scalar_same s t h.0 h.1.0 h.1.1.0 h.1.1.1)
    (λ h. (ap (λ (x : Scalar). x.least) h, (ap (λ (x : Scalar). x.greatest) h, (ap (λ (x : Scalar). x.may) h, ap (λ (x : Scalar). x.must) h))))

pub kind_same : (a b : RegKind) → kind.eq-value.it a b ≡ true → a ≡ b
kind_same kinds.Unwritten kinds.Unwritten e = refl
kind_same kinds.Ended kinds.Ended e = refl
kind_same kinds.Mixed kinds.Mixed e = refl
kind_same (kinds.Num s) (kinds.Num t) e = ap kinds.Num ((scalars-decides s t).0 e)
kind_same (kinds.Ctx s) (kinds.Ctx t) e = ap kinds.Ctx ((scalars-decides s t).0 e)
kind_same (kinds.Frame o) (kinds.Frame p) e = ap kinds.Frame ((Decides-int_eq o p).0 e)
kind_same (kinds.Map m) (kinds.Map n) e = ap kinds.Map ((Decides-eqb m n).0 e)
kind_same (kinds.Value m s) (kinds.Value n t) e =
    let h = (both _ _ (Decides-eqb m n) (scalars-decides s t)).0 e in
    ap₂ kinds.Value h.0 h.1
kind_same (kinds.MaybeNull m x) (kinds.MaybeNull n y) e =
    let h = (both _ _ (Decides-eqb m n) (Decides-eqb x y)).0 e in
    ap₂ kinds.MaybeNull h.0 h.1
kind_same a b e = absurd (false≢true e)
