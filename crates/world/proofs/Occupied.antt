-- What the world knows of a slot that has an element is what a map asks.
use Rattle.bpf_model.proofs.Prelude.{◌≡◌, ◌∙◌, ℕ, ◌+◌, refl, sym, ap, arith, List, [], ◌∷◌, cond, inl, inr, Some, ◌==◌, slice_get, ℤ, ◌+ℤ◌, get, sum_by-cons}
use Rattle.bpf_model.proofs.Prelude.{same_Some, subst, MapView}
use Rattle.model_laws.proofs.Prelude.{Location, InSlot}
use Rattle.world.proofs.Prelude.{ReachesElement}
use Rattle.bpf_model.specs.Refines as refines
use Rattle.element_store.specs.State as state
use Rattle.element_store.proofs.Counts.{one_same}
use Rattle.map_kinds.specs.Shown as shown
use Rattle.world_laws.specs.Reaching as reaching
use Rattle.world_laws.specs.Reaching.{IsElementReached}

same-times : (i : ℕ) (xs : List ℕ) → refines.times i xs ≡ state.times_in i xs
same-times i [] = refl
same-times i (x ∷ xs) = sum_by-cons (λ (y : ℕ). cond {A = ℕ} (y == i) 1 0) x xs ∙ ap (λ n. cond (x == i) 1 0 + n) (same-times i xs)

pub stands : (v : MapView) (i : ℕ) → reaching.HasElement v i → shown.IsOccupied v i
stands v i (inl h) =
    let e : get v.index (state.key_at v.slots i) ≡ Some i = h in
    let n : state.indexed v.index v.slots i ≡ 1 = ap (λ o. state.is_at o i) e ∙ one_same i in
    omega arith
stands v i (inr h) =
    let a = same-times i v.next in
    let b = same-times i v.waiting in
    let d = same-times i v.ready in
    omega arith

-- what an access reaches, where its location is known
pub reached : (maps : List MapView) (width : ℕ) (offset : ℤ) (l : Location) (map slot : ℕ) (o : ℤ) →
    ReachesElement maps width offset l → l ≡ InSlot map slot o → IsElementReached maps width map slot (o +ℤ offset)
reached maps width offset l map slot o h e = subst (ReachesElement maps width offset) e h

pub occupied : (maps : List MapView) (width map slot : ℕ) (offset : ℤ) (v : MapView) →
    IsElementReached maps width map slot offset → slice_get maps map ≡ Some v → shown.IsOccupied v slot
occupied maps width map slot offset v h e = stands v slot
    (subst (λ (u : MapView). reaching.HasElement u slot) (same_Some h.view v (sym h.there ∙ e)) h.occupied)
