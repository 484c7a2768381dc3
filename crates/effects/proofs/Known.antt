-- What operations leave is no wider than the scalar domain's.
use Rattle.bpf_model.proofs.Prelude.{◌≡◌, ◌∙◌, refl, sym, ap, subst}
use Rattle.effects.proofs.Prelude.{RegKind, IsNumbers}
use Rattle.model_laws.proofs.Prelude.{AluOp, Move, Size, Word32, Word64}
use Rattle.plan_laws.proofs.Prelude.{Num}
use Rattle.register_kinds.proofs.Prelude.{kind_of}
use Rattle.scalar_domain.proofs.Prelude.{IsConstant, KeepsFloor}
use Rattle.scalar_domain.specs.declared.scalar.Scalar.{Scalar}
use Rattle.scalar_domain.specs.Floor.{KeepsWideFloor}
use Rattle.scalar_domain.proofs.Edges.{no_wider-refl}
use Rattle.register_kinds.specs.declared.kind.RegKind.TheVariants as kinds
use Rattle.effects.specs.Floor.{CombinesKnown}

pub same_num : (a b : Scalar) → Num a ≡ Num b → a ≡ b
same_num a b e = cc

-- of two numbers the result is known as well as the domain promises
pub numbers_known : (size : Size) (op : AluOp) (x y : RegKind) (a b r : Scalar) → x ≡ kinds.Num a → y ≡ kinds.Num b →
    KeepsFloor size op a b r → CombinesKnown size op (kind_of x) (kind_of y) (Num r)
numbers_known size op x y a b r e f floor p q g h =
    let u : a ≡ p = same_num a p (sym (ap kind_of e) ∙ g) in
    let v : b ≡ q = same_num b q (sym (ap kind_of f) ∙ h) in
    (r, refl, subst (λ p. KeepsFloor size op p q r) u (subst (λ q. KeepsFloor size op a q r) v floor))

-- a move of 64 bits
move_wide : (a b : Scalar) → KeepsWideFloor Move a b b
move_wide a b = record {
  sum = λ e. absurd cc;
  difference = λ e. absurd cc;
  mask = λ k e. absurd cc;
  shift_left = λ k e. absurd cc;
  shift_right = λ k e. absurd cc;
  remainder = λ k e. absurd cc;
  move = λ e. no_wider-refl b;
}

move_known : (a b : Scalar) → KeepsFloor Word64 Move a b b
move_known a b = record { constant = λ x y p q. q; narrow = λ e. absurd cc; wide = λ e. move_wide a b }

pub copied_known : (size : Size) (k : RegKind) (a b : Scalar) → size ≡ Word64 → kind_of k ≡ Num b → IsNumbers (KeepsFloor size Move a b) (kind_of k)
copied_known size k a b s e = (b, e, subst (λ s. KeepsFloor s Move a b b) (sym s) (move_known a b))

-- a move of 32 bits, which is made of the number 0
low_known : (a b z r : Scalar) → IsConstant z 0 → KeepsFloor Word32 Move z b r → KeepsFloor Word32 Move a b r
low_known a b z r zero floor = record {
  constant = λ x y p q. floor.constant 0 y zero q;
  narrow = floor.narrow;
  wide = λ e. absurd cc;
}

pub moved_known : (size : Size) (k : RegKind) (a b low z r : Scalar) → size ≡ Word32 → k ≡ kinds.Num low →
    IsConstant z 0 → KeepsFloor size Move z low r → kind_of k ≡ Num b → IsNumbers (KeepsFloor size Move a b) (Num r)
moved_known size k a b low z r s is zero floor e =
    let same : low ≡ b = same_num low b (sym (ap kind_of is) ∙ e) in
    let at : KeepsFloor Word32 Move z b r = subst (λ s. KeepsFloor s Move z b r) s (subst (λ b. KeepsFloor size Move z b r) same floor) in
    (r, refl, subst (λ s. KeepsFloor s Move a b r) (sym s) (low_known a b z r zero at))
