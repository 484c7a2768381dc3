-- Which sections are awaited, where one more is open or one less, and where a run goes one lock
-- deeper or comes back.
use Rattle.bpf_model.proofs.Prelude.{◌≡◌, ◌∙◌, ℕ, zero, suc, ◌-◌, ◌<◌, refl, sym, ap, arith, inl, inr, List, [], ◌∷◌, ◌==◌, ◌&&◌, Bool, true, false}
use Rattle.bpf_model.proofs.Prelude.{if◌then◌else◌, map, slice_set, cases_eq, cond-false, cond-true, eq-eqb, le-ltb, lt-ltb, ne_eqb, map-set, still_open}
use Rattle.bpf_model.proofs.Prelude.{heads, tails}
use Rattle.element_store.proofs.Prelude.{GraceState, depth_at, is_open_depth, opened_in}
use Rattle.std.proofs.Math.Bool.{and-false, and-true}

-- a section that is opened is awaited no more than before
pub opened_awaits : (fs os : List Bool) (r : ℕ) → still_open fs os ≡ fs → still_open fs (slice_set os r true) ≡ fs
opened_awaits [] os r e = refl
opened_awaits (x ∷ fs) [] r e = e
opened_awaits (x ∷ fs) (o ∷ os) zero e = ap (λ b. b ∷ still_open fs os) (and-true x) ∙ ap (λ l. x ∷ l) (tails (x && o) x (still_open fs os) fs e)
opened_awaits (x ∷ fs) (o ∷ os) (suc r) e =
    ap (λ b. b ∷ still_open fs (slice_set os r true)) (heads (x && o) x (still_open fs os) fs e)
    ∙ ap (λ l. x ∷ l) (opened_awaits fs os r (tails (x && o) x (still_open fs os) fs e))

-- one that is closed is not awaited
pub closed_awaits : (fs os : List Bool) (r : ℕ) → still_open fs os ≡ fs → still_open fs (slice_set os r false) ≡ slice_set fs r false
closed_awaits [] os r e = refl
closed_awaits (x ∷ fs) [] r e = absurd (cc)
closed_awaits (x ∷ fs) (o ∷ os) zero e = ap (λ b. b ∷ still_open fs os) (and-false x) ∙ ap (λ l. false ∷ l) (tails (x && o) x (still_open fs os) fs e)
closed_awaits (x ∷ fs) (o ∷ os) (suc r) e =
    ap (λ b. b ∷ still_open fs (slice_set os r false)) (heads (x && o) x (still_open fs os) fs e)
    ∙ ap (λ l. x ∷ l) (closed_awaits fs os r (tails (x && o) x (still_open fs os) fs e))

-- the parts of two states are the same
pub same-grace : (a b : GraceState) → a.depths ≡ b.depths → a.awaited ≡ b.awaited → a ≡ b
same-grace a b e f = λ j. record { depths = e j; awaited = f j }

module _ (g : GraceState) (r : ℕ) (inside : still_open g.awaited (opened_in g) ≡ g.awaited) where
  -- a run that is inside a section now is awaited as before
  pub inside-awaits : (d : ℕ) → 0 < d → still_open g.awaited (map is_open_depth (slice_set g.depths r d)) ≡ g.awaited
  inside-awaits d some =
      ap (still_open g.awaited) (map-set is_open_depth g.depths r d ∙ ap (slice_set (opened_in g) r) (lt-ltb 0 d some))
      ∙ opened_awaits g.awaited (opened_in g) r inside

  -- one that is in none is awaited no more
  pub outside-awaits : (d : ℕ) → d ≡ 0 → still_open g.awaited (map is_open_depth (slice_set g.depths r d)) ≡ slice_set g.awaited r false
  outside-awaits d none =
      ap (still_open g.awaited) (map-set is_open_depth g.depths r d ∙ ap (slice_set (opened_in g) r) (le-ltb 0 d (omega (arith, none))))
      ∙ closed_awaits g.awaited (opened_in g) r inside

  -- so does an unlock, by the depth that it finds
  pub unlocked-awaits : 0 < depth_at g r
      → (if depth_at g r == 1 then slice_set g.awaited r false else g.awaited) ≡ still_open g.awaited
      (map is_open_depth (slice_set g.depths r (depth_at g r - 1)))
  unlocked-awaits some = elim (cases_eq (depth_at g r) 1) [
    | inl e ↦ cond-true _ _ _ (eq-eqb (depth_at g r) 1 e) ∙ sym (outside-awaits (depth_at g r - 1) (omega (arith, e)))
    | inr ne ↦ cond-false _ _ _ (ne_eqb (depth_at g r) 1 ne) ∙ sym (inside-awaits (depth_at g r - 1) (omega (arith, some, ne)))
  ]
