-- The depth of one run changes: what stays true of the depths, of who is inside a section, and of
-- who is awaited.
use Rattle.bpf_model.proofs.Prelude.{◌≡◌, ◌∙◌, ℕ, zero, suc, ◌<◌, ◌≤◌, Bool, true, false, List, length, get_or, Some, refl, sym, ap, subst, inl, inr, arith}
use Rattle.bpf_model.proofs.Prelude.{slice_get, slice_set, map, replicate, cases_eq, lt-ltb, get_or-set_same, get_or-set_other, length-replicate, length-set}
use Rattle.bpf_model.proofs.Prelude.{map-set, slice_get-get_or, slice_get_within, get-map, get-replicate, get-set_cases, get-set_other, get-set_same}
use Rattle.bpf_model.proofs.Prelude.{set-same}
use Rattle.element_store.proofs.Prelude.{GraceState, IsGrace, depth_at, grace_state_of, is_open_depth, opened_in}
use Rattle.std.proofs.Math.Bool.{true≢false}
use Rattle.bpf_model.specs.declared.limits.TheConstants.{MAX_DEPTH, MAX_RUNS}

module _ (g : GraceState) (sound : IsGrace g) (r d : ℕ) (within : r < MAX_RUNS) where
  abbrev now : List ℕ
  now = slice_set g.depths r d

  there : r < length g.depths
  there = subst (λ l. r < l) (sym sound.depths) within

  opened-at : slice_get (opened_in g) r ≡ Some (is_open_depth (depth_at g r))
  opened-at = get-map is_open_depth g.depths r (depth_at g r) (slice_get-get_or g.depths r 0 there)

  -- the flag of the run slot alone may change
  pub opened-now : map is_open_depth now ≡ slice_set (opened_in g) r (is_open_depth d)
  opened-now = map-set is_open_depth g.depths r d

  -- a run that is inside a section before and after
  pub opened-stays : 0 < depth_at g r → 0 < d → map is_open_depth now ≡ opened_in g
  opened-stays before after =
      opened-now
      ∙ (ap (slice_set (opened_in g) r) (lt-ltb 0 d after ∙ sym (lt-ltb 0 (depth_at g r) before))
      ∙ set-same (opened_in g) r (is_open_depth (depth_at g r)) opened-at)

  deep-now : d ≤ MAX_DEPTH → (k : ℕ) → get_or now k 0 ≤ MAX_DEPTH
  deep-now deep k = elim (cases_eq k r) [
    | inl e ↦ subst (λ i. get_or now i 0 ≤ MAX_DEPTH) (sym e) (subst (λ n. n ≤ MAX_DEPTH) (sym (get_or-set_same g.depths r d 0 there)) deep)
    | inr ne ↦ subst (λ n. n ≤ MAX_DEPTH) (sym (get_or-set_other g.depths r k d 0 ne)) (sound.deep k)
  ]

  slot-there : r < length (opened_in g)
  slot-there = slice_get_within (opened_in g) r (is_open_depth (depth_at g r)) opened-at

  -- a run that is inside a section afterwards may be awaited as before
  pub inside-after : d ≤ MAX_DEPTH → 0 < d → IsGrace (grace_state_of now g.awaited)
  inside-after deep some = record {
    depths = length-set g.depths r d ∙ sound.depths;
    awaited = sound.awaited;
    deep = deep-now deep;
    inside = λ k h. subst (λ (os : List Bool). slice_get os k ≡ Some true) (sym opened-now) (elim (cases_eq k r) [
      | inl e ↦ subst (λ i. slice_get (slice_set (opened_in g) r (is_open_depth d)) i ≡ Some true) (sym e)
          (subst (λ b. slice_get (slice_set (opened_in g) r b) r ≡ Some true) (sym (lt-ltb 0 d some)) (get-set_same (opened_in g) r true slot-there))
      | inr ne ↦ get-set_other (opened_in g) r k (is_open_depth d) ne ∙ sound.inside k h
    ]);
  }

  -- a run that is not awaited afterwards may be at any depth
  pub unawaited-after : d ≤ MAX_DEPTH → IsGrace (grace_state_of now (slice_set g.awaited r false))
  unawaited-after deep = record {
    depths = length-set g.depths r d ∙ sound.depths;
    awaited = length-set g.awaited r false ∙ sound.awaited;
    deep = deep-now deep;
    inside = λ k h. subst (λ (os : List Bool). slice_get os k ≡ Some true) (sym opened-now) (elim (get-set_cases g.awaited r k false true h) [
      | inl p ↦ absurd (true≢false (sym p.1))
      | inr p ↦ get-set_other (opened_in g) r k (is_open_depth d) p.0 ∙ sound.inside k p.1
    ]);
  }

zeros : (n k : ℕ) → get_or (replicate {A = ℕ} n 0) k 0 ≡ 0
zeros zero k = refl
zeros (suc n) zero = refl
zeros (suc n) (suc k) = zeros n k

-- the start, in which no lock is open
pub none-inside : (opened awaited : List Bool) → opened ≡ replicate MAX_RUNS false → awaited ≡ replicate MAX_RUNS false
    → let g : GraceState = grace_state_of (replicate MAX_RUNS 0) awaited in IsGrace g × (opened ≡ opened_in g)
none-inside opened awaited o a = (
  record {
    depths = length-replicate {A = ℕ} MAX_RUNS 0;
    awaited = ap length a ∙ length-replicate MAX_RUNS false;
    deep = λ k. subst (λ n. n ≤ MAX_DEPTH) (sym (zeros MAX_RUNS k)) (search arith);
    inside = λ k h. absurd (true≢false (get-replicate MAX_RUNS k false true (ap (λ (fs : List Bool). slice_get fs k) (sym a) ∙ h)));
  },
  o,
)
