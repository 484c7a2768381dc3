use Rattle.bpf_model.proofs.Prelude.{◌≡◌, ℕ, Bool, true, false, subst, ◌∙◌, arith, w64}
use Rattle.scalar_domain.proofs.Prelude.{IsConstant, KeepsEdgeFloor}
use Rattle.bpf_model.specs.Arithmetic.{holds}
use Rattle.bpf_model.specs.declared.opcode.Condition.{Condition}
use Rattle.bpf_model.specs.declared.opcode.Size.{Size}
use Rattle.scalar_domain.specs.declared.scalar.Scalar.{Scalar}
use Rattle.scalar_domain.proofs.Edges.{no_wider-refl}
use Rattle.scalar_domain.proofs.scalar.Scalar.refine.Goals as goal

-- a constant stays as it is on either edge
constant_edge : (size : Size) (condition : Condition) (taken : Bool) (a b : Scalar) (n : ℕ) → IsConstant a n
    → KeepsEdgeFloor size condition taken a b a b
constant_edge size condition taken a b n is = record {
  no_wider_left = no_wider-refl a;
  no_wider_right = no_wider-refl b;
  bounds = λ k x s m i j e.
      let low : x ≡ a.least = omega (arith, j.least, j.greatest, is.least, is.greatest) in
      let high : x ≡ a.greatest = omega (arith, j.least, j.greatest, is.least, is.greatest) in
      record {
        least = subst (λ n. holds w64 condition n k ≡ taken) low e;
        greatest = subst (λ n. holds w64 condition n k ≡ taken) high e;
      };
  apart = λ k x s m i j n.
      let low : x ≡ a.least = omega (arith, j.least, j.greatest, is.least, is.greatest) in
      let high : x ≡ a.greatest = omega (arith, j.least, j.greatest, is.least, is.greatest) in
      record { least = λ f. n (low ∙ f); greatest = λ f. n (high ∙ f) };
}

pub returns-in-Some-Some-clause-floor : goal.returns-in-Some-Some-clause-floor
returns-in-Some-Some-clause-floor c =
    constant_edge c.args.size c.args.condition true c.args.a c.args.b c.in-Some-Some.field-0-0 c.in-Some-Some.ensures

pub returns-in-Some-Some-clause-floor_not_taken : goal.returns-in-Some-Some-clause-floor_not_taken
returns-in-Some-Some-clause-floor_not_taken c =
    constant_edge c.args.size c.args.condition false c.args.a c.args.b c.in-Some-Some.field-0-0 c.in-Some-Some.ensures
