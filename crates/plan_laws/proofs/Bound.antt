-- Whatever verifies the program of a run against the shapes of its maps describes the run.
use Rattle.bpf_model.proofs.Prelude.{◌≡◌, ◌∙◌, ℕ, suc, ◌<◌, List, [], ◌∷◌, length, Some, None, refl, sym, ap, subst, arith, slice_get, same_Some}
use Rattle.bpf_model.proofs.Prelude.{slice_get_within, get-below, Machine, Run, run_at, MapState, Store}
use Rattle.model_laws.proofs.Prelude.{MapShape}
use Rattle.plan_laws.proofs.Prelude.{scene_of, AreMapsBound, IsPlanned, IsVerified, IsTyped, IsWell}

same-items : {A : Type 0} (xs ys : List A) → length xs ≡ length ys → ((i : ℕ) (x : A) → slice_get xs i ≡ Some x → slice_get ys i ≡ Some x) → xs ≡ ys
same-items [] [] e h = refl
same-items [] (y ∷ ys) e h = absurd (cc)
same-items (x ∷ xs) [] e h = absurd (cc)
same-items (x ∷ xs) (y ∷ ys) e h =
    let rest : xs ≡ ys = same-items xs ys (omega (arith, e)) (λ i. h (suc i)) in
    ap (λ z. z ∷ xs) (sym (same_Some y x (h 0 x refl))) ∙ ap (λ zs. y ∷ zs) rest

-- the maps of a list have one list of shapes
pub bound-alike : (a b : List MapShape) (maps : List ℕ) (states : List MapState) → AreMapsBound a maps states → AreMapsBound b maps states → a ≡ b
bound-alike a b maps states p q =
    let count : length a ≡ length b = sym p.count ∙ q.count in
    same-items a b count (λ i x at.
    let within : i < length a = slice_get_within a i x at in
    let there = get-below b i (omega (arith, within, count)) in
    let left = p.each i x at in
    let right = q.each i there.0 there.1 in
    let number : right.0 ≡ left.0 = same_Some right.0 left.0 (sym right.2 ∙ left.2) in
    let state : right.1 ≡ left.1 = same_Some right.1 left.1 (sym right.3 ∙ (ap (slice_get states) number ∙ left.3)) in
    there.1 ∙ ap Some (sym right.4 ∙ (ap (λ (m : MapState). m.shape) state ∙ left.4)))

pub described-by : (s : Store) (run : Run) (t : IsTyped s run) (shapes : List MapShape) →
    AreMapsBound shapes run.program.maps s.maps → (v : IsVerified run.program.code shapes run.program.context_len) →
    IsPlanned run.program.code v.plan t.index (scene_of s run) run.state
described-by s run t shapes bound =
    subst (λ (l : List MapShape). (v : IsVerified run.program.code l run.program.context_len) →
    IsPlanned run.program.code v.plan t.index (scene_of s run) run.state)
    (bound-alike t.safe.shapes shapes run.program.maps s.maps t.safe.bound bound) t.planned

pub each_plan_describes : (m : Machine) (r : ℕ) (run : Run) → IsWell m → run_at m.runs r ≡ Some run → run.exit ≡ None
    → (shapes : List MapShape) → AreMapsBound shapes run.program.maps m.store.maps →
    (v : IsVerified run.program.code shapes run.program.context_len) → (k : ℕ) ×
    IsPlanned run.program.code v.plan k (scene_of m.store run) run.state
each_plan_describes m r run w at going shapes bound v = let t = w.runs r run at going in (t.index, described-by m.store run t shapes bound v)
