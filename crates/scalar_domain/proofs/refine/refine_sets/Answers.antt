use Rattle.bpf_model.proofs.Prelude.{◌≡◌, sym, ◌∙◌, subst, arith, false≢true, compares}
use Rattle.scalar_domain.specs.Relation.{AreHeld}
use Rattle.scalar_domain.proofs.Edges.{no_wider-refl}
use Rattle.scalar_domain.proofs.Pairs.{differ, one_held}
use Rattle.scalar_domain.proofs.refine.refine_sets.Goals as goal
use Rattle.scalar_domain.proofs.refine.refine_sets.Goals.{else-is_inhabited-via-then-is_inhabited+else-is_inhabited-2}
use Rattle.scalar_domain.proofs.refine.refine_sets.Goals.{else-is_inhabited-via-else-is_inhabited}

pub returns-in-None-clause-floor : goal.returns-in-None-clause-floor
returns-in-None-clause-floor c = record {
  no_wider_left = no_wider-refl c.args.a;
  no_wider_right = no_wider-refl c.args.b;
  bounds = λ k x s m i j e. absurd (c.in-None.ensures.bounds k x s m i j e);
  apart = λ k x s m i j n. absurd (c.in-None.ensures.apart k x s m i j n);
}

pub returns-else-is_inhabited-clause-floor : goal.returns-else-is_inhabited-clause-floor
returns-else-is_inhabited-clause-floor c =
    let a = c.args.a in
    let b = c.args.b in
    let none : ((x y : _) → AreHeld x y (c.in-Some.left, c.in-Some.right) → ⊥) = λ x y h. elim c.else-is_inhabited.branch [
      | else-is_inhabited-via-then-is_inhabited+else-is_inhabited-2 w ↦ false≢true
          (sym w.if-is_inhabited-2.false ∙ w.is_inhabited-then-is_inhabited.ensures.1 (record { number = y; held = h.1 }))
      | else-is_inhabited-via-else-is_inhabited w ↦ false≢true
          (sym w.if-is_inhabited.false ∙ c.is_inhabited.ensures.1 (record { number = x; held = h.0 }))
    ] in
    record {
      no_wider_left = no_wider-refl a;
      no_wider_right = no_wider-refl b;
      bounds = λ k x s m i j e. absurd (none x k (c.in-Some.ensures.sound x k (omega (arith, j.greatest)) (omega (arith, i.greatest)) j (one_held b k i)
          (subst (λ z. compares z c.args.condition x k ≡ c.args.taken) (sym s) e)));
      apart = λ k x s m i j n. absurd (none x k (c.in-Some.ensures.sound x k (omega (arith, j.greatest)) (omega (arith, i.greatest)) j (one_held b k i)
          (subst (λ z. compares z c.args.condition x k ≡ c.args.taken) (sym s) (differ c.args.condition c.args.taken x k m n))));
    }
