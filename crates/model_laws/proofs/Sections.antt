-- Runs by their run slots, and the sections that are open.
use Rattle.bpf_model.proofs.Prelude.{◌≡◌, ◌≢◌, ℕ, zero, suc, ◌<◌, List, [], ◌∷◌, Option, Some, None, ◌⊎◌, inl, inr, refl, ap, ◌∙◌, subst, arith, Bool, true}
use Rattle.bpf_model.proofs.Prelude.{false, slice_get, slice_set, if◌then◌else◌, ltb-true, lt-ltb, none-some, same_Some, Section, Has, Run, is_inside}
use Rattle.bpf_model.proofs.Prelude.{section_of, open_sections, run_at}

pub run-set_cases : (runs : List (Option Run)) (r q : ℕ) (new : Option Run) (x : Run) →
    run_at (slice_set runs r new) q ≡ Some x → ((q ≡ r) × (new ≡ Some x)) ⊎ ((q ≢ r) × (run_at runs q ≡ Some x))
run-set_cases [] r q new x h = absurd (none-some x h)
run-set_cases (y ∷ runs) zero zero new x h = inl (refl, h)
run-set_cases (y ∷ runs) zero (suc q) new x h = inr (λ e. absurd (omega arith), h)
run-set_cases (y ∷ runs) (suc r) zero new x h = inr (λ e. absurd (omega arith), h)
run-set_cases (y ∷ runs) (suc r) (suc q) new x h = elim (run-set_cases runs r q new x h)
    [ inl p ↦ inl (ap suc p.0, p.1) | inr p ↦ inr (λ e. p.0 (omega arith), p.1) ]

-- a section that is open is that of a run
pub record OpenAt (runs : List (Option Run)) (s : Section) : Type 0 where
  pub slot : ℕ
  pub run : Run
  pub there : run_at runs slot ≡ Some run
  pub inside : 0 < run.depth
  pub is : section_of run ≡ s

later-slot : (x : Option Run) (runs : List (Option Run)) (s : Section) → OpenAt runs s → OpenAt (x ∷ runs) s
later-slot x runs s o = record { slot = suc o.slot; run = o.run; there = o.there; inside = o.inside; is = o.is }

open_at-first : (b : Bool) (run : Run) (runs : List (Option Run)) (s : Section) (k : ℕ) → is_inside run ≡ b →
    slice_get (if b then section_of run ∷ open_sections runs else open_sections runs) k ≡ Some s →
    ((k : ℕ) → slice_get (open_sections runs) k ≡ Some s → OpenAt runs s) → OpenAt (Some run ∷ runs) s
open_at-first true run runs s zero e h more = record { slot = 0; run = run; there = refl; inside = ltb-true 0 run.depth e; is = same_Some _ _ h }
open_at-first true run runs s (suc k) e h more = later-slot (Some run) runs s (more k h)
open_at-first false run runs s k e h more = later-slot (Some run) runs s (more k h)

open_at-index : (runs : List (Option Run)) (s : Section) (k : ℕ) → slice_get (open_sections runs) k ≡ Some s → OpenAt runs s
open_at-index [] s k h = absurd (none-some s h)
open_at-index (None ∷ runs) s k h = later-slot None runs s (open_at-index runs s k h)
open_at-index (Some run ∷ runs) s k h = open_at-first (is_inside run) run runs s k refl h (λ j g. open_at-index runs s j g)

pub open_at : (runs : List (Option Run)) (s : Section) → Has (open_sections runs) s → OpenAt runs s
open_at runs s h = open_at-index runs s h.0 h.1

-- the section of a run that is inside is open
has-first : (b : Bool) (s : Section) (rest : List Section) → b ≡ true → Has (if b then s ∷ rest else rest) s
has-first true s rest e = (0, refl)
has-first false s rest e = absurd (cc)

has-more : (b : Bool) (x s : Section) (rest : List Section) → Has rest s → Has (if b then x ∷ rest else rest) s
has-more true x s rest h = (suc h.0, h.1)
has-more false x s rest h = h

pub has_open : (runs : List (Option Run)) (r : ℕ) (run : Run) → run_at runs r ≡ Some run → 0 < run.depth → Has (open_sections runs) (section_of run)
has_open [] r run h i = absurd (none-some run h)
has_open (None ∷ runs) zero run h i = absurd (none-some run h)
has_open (Some x ∷ runs) zero run h i =
    let e : x ≡ run = same_Some _ _ h in
    let y : is_inside x ≡ true = ap is_inside e ∙ lt-ltb 0 run.depth i in
    subst (λ z. Has (open_sections (Some x ∷ runs)) (section_of z)) e (has-first (is_inside x) (section_of x) (open_sections runs) y)
has_open (None ∷ runs) (suc r) run h i = has_open runs r run h i
has_open (Some x ∷ runs) (suc r) run h i = has-more (is_inside x) (section_of x) (section_of run) (open_sections runs) (has_open runs r run h i)
