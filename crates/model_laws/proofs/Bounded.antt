-- A world reclaims no more elements than its map slots can bear.
use Rattle.bpf_model.proofs.Prelude.{◌≡◌, ℕ, suc, ◌+◌, ◌<◌, ◌≤◌, List, [], ◌∷◌, length, Some, inl, inr, refl, sym, ap, ◌∙◌, arith, subst, slice_get, ◌==◌}
use Rattle.bpf_model.proofs.Prelude.{count_by, sum_by, cases_eq, slice_get_within, length-map, sum_by-cons, Element, is_reclaimed, MapState, most_births}
use Rattle.bpf_model.proofs.Prelude.{Schedule, WorldView, shapes_of, TracksSchedule, get-below}
use Rattle.model_laws.proofs.Prelude.{MapShape, born_count}
use Rattle.bpf_model.specs.View.{shape_of_view as shape}
use Rattle.model_laws.proofs.Counting.{map-back}
use Rattle.model_laws.proofs.Tallies.{of_map, of-same, of-other, count-cons, one-most}
use Rattle.model_laws.proofs.Reached.{tracked_is_scheduled}
use Rattle.model_laws.proofs.Accounting.{births_bounded}

-- the births of all maps of a list, the first of which is map k
abbrev born_from : ℕ → List MapShape → List Element → ℕ
born_from k [] es = 0
born_from k (shape ∷ shapes) es = born_count k es + born_from (suc k) shapes es

born-cons : (k : ℕ) (e : Element) (es : List Element) → born_count k (e ∷ es) ≡ of_map e.map k + born_count k es
born-cons k e es = count-cons (λ (x : Element). x.map == k) e es

born-below : (k : ℕ) (shapes : List MapShape) (e : Element) (es : List Element) → e.map < k → born_from k shapes (e ∷ es) ≡ born_from k shapes es
born-below k [] e es h = refl
born-below k (shape ∷ shapes) e es h =
    let a = born-cons k e es in
    let b = of-other e.map k (λ same. absurd (omega arith)) in
    let rest = born-below (suc k) shapes e es (omega arith) in
    omega arith

born-within : (k : ℕ) (shapes : List MapShape) (e : Element) (es : List Element) → k ≤ e.map →
    e.map < k + length shapes → born_from k shapes (e ∷ es) ≡ 1 + born_from k shapes es
born-within k [] e es low high = absurd (omega arith)
born-within k (shape ∷ shapes) e es low high =
    let a = born-cons k e es in
    elim (cases_eq e.map k) [
      | inl same ↦
          let b : of_map e.map k ≡ 1 = ap (λ m. of_map m k) same ∙ of-same k in
          let rest = born-below (suc k) shapes e es (omega arith) in
          omega arith
      | inr ne ↦
          let b = of-other e.map k ne in
          let above : suc k ≤ e.map = omega (arith, ne) in
          let rest = born-within (suc k) shapes e es above (omega arith) in
          omega arith
    ]

all-born : (shapes : List MapShape) (es : List Element) →
    ((n : ℕ) (e : Element) → slice_get es n ≡ Some e → e.map < length shapes) → length es ≤ born_from 0 shapes es
all-born shapes [] h = omega arith
all-born shapes (e ∷ es) h =
    let high : e.map < length shapes = h 0 e refl in
    let a = born-within 0 shapes e es (omega arith) (omega arith) in
    let rest = all-born shapes es (λ n f at. h (suc n) f at) in
    omega arith

born-most : (k : ℕ) (shapes : List MapShape) (es : List Element) →
    ((i j : ℕ) (shape : MapShape) → slice_get shapes i ≡ Some shape → j ≡ k + i → born_count j es ≤ most_births shape)
    → born_from k shapes es ≤ sum_by most_births shapes
born-most k [] es h = omega arith
born-most k (shape ∷ shapes) es h =
    let a = sum_by-cons most_births shape shapes in
    let first = h 0 k shape refl (omega arith) in
    let rest = born-most (suc k) shapes es (λ i j x at is. h (suc i) j x at (omega arith)) in
    omega arith

reclaimed-most : (es : List Element) → count_by (λ e. is_reclaimed e.life) es ≤ length es
reclaimed-most [] = omega arith
reclaimed-most (e ∷ es) =
    let a = count-cons (λ (x : Element). is_reclaimed x.life) e es in
    let b = one-most (is_reclaimed e.life) in
    let rest = reclaimed-most es in
    omega arith

module _ (w : WorldView) (s : Schedule) (t : TracksSchedule w s) where
  in-map : (n : ℕ) (e : Element) → slice_get s.machine.store.elements n ≡ Some e → e.map < length (shapes_of w)
  in-map n e at =
      let m = (tracked_is_scheduled w s t).consistent.lengths n e at in
      let within : e.map < length s.machine.store.maps = slice_get_within s.machine.store.maps e.map m.0 m.1 in
      let same : length w.maps ≡ length s.machine.store.maps = t.refines.maps.0 in
      let shapes : length (shapes_of w) ≡ length w.maps = length-map w.maps shape in
      omega arith

  map-most : (i : ℕ) (x : MapShape) → slice_get (shapes_of w) i ≡ Some x → born_count i s.machine.store.elements ≤ most_births x
  map-most i x at =
      let v = map-back shape w.maps i x at in
      let within : i < length w.maps = slice_get_within w.maps i v.0 v.1 in
      let same : length w.maps ≡ length s.machine.store.maps = t.refines.maps.0 in
      let lists : length s.queues ≡ length s.machine.store.maps = t.refines.maps.1 in
      let m = get-below s.machine.store.maps i (omega arith) in
      let q = get-below s.queues i (omega arith) in
      let is : m.0.shape ≡ x = ap (λ (z : MapState). z.shape) (t.refines.map i v.0 m.0 q.0 v.1 m.1 q.1).state ∙ v.2 in
      let some : 1 ≤ x.reuse_limit = (t.reached.limits i x at).reuse.0 in
      let limit : m.0.shape.reuse_limit ≡ x.reuse_limit = ap (λ (z : MapShape). z.reuse_limit) is in
      let most : born_count i s.machine.store.elements ≤ most_births m.0.shape = births_bounded (shapes_of w) w.programs s i m.0 t.reached m.1 (omega arith) in
      let births : most_births m.0.shape ≡ most_births x = ap most_births is in
      omega arith

  pub given_bounded : w.given ≤ sum_by most_births (shapes_of w)
  given_bounded =
      let es = s.machine.store.elements in
      let given : w.given ≡ count_by (λ e. is_reclaimed e.life) s.machine.store.elements = t.refines.given in
      let a = reclaimed-most s.machine.store.elements in
      let b = all-born (shapes_of w) s.machine.store.elements in-map in
      let c = born-most 0 (shapes_of w) s.machine.store.elements
      (λ i j x at is. let e : j ≡ i = omega arith in subst
      (λ z. born_count z s.machine.store.elements ≤ most_births x) (sym e) (map-most i x at)) in
      omega arith
