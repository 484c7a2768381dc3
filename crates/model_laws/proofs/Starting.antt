-- The world at the start tracks the schedule at the start.
use Rattle.bpf_model.proofs.Prelude.{◌≡◌, ℕ, zero, suc, ◌+◌, ◌<◌, ◌≤◌, List, [], ◌∷◌, map, length, replicate, Some, None, inl, inr, refl, sym, ap, ◌∙◌, arith}
use Rattle.bpf_model.proofs.Prelude.{subst, false, slice_get, slice_index, count_by, range_with_len, get, get-empty, len-empty, nat_cmp, slice_cmp, cases_eq}
use Rattle.bpf_model.proofs.Prelude.{none-some, same_Some, get_or_from_slice_get, length-map-range_with_len, length-map, length-replicate, Element, Linked}
use Rattle.bpf_model.proofs.Prelude.{is_reclaimed, linked_count, MapState, slots_of_shape, new_bag, new_map, index_key, array_element, all_new_elements}
use Rattle.bpf_model.proofs.Prelude.{AreShapes, Loaded, Queues, open_flags, start_schedule, no_queues, SlotView, MapView, uses_at, unused_slot, index_below}
use Rattle.bpf_model.proofs.Prelude.{array_slot, new_view_of, new_map_view, start_view, times, slot_view, MapRefines, RunSlotRefines, RefinesSchedule}
use Rattle.bpf_model.proofs.Prelude.{TracksSchedule}
use Rattle.model_laws.proofs.Prelude.{MapShape, MAX_RUNS, MAX_ENTRIES, MapKind, Hash, Array}
use Rattle.model_laws.proofs.Tallies.{one_of, count-cons}
use Rattle.model_laws.proofs.NewElements.{range-get, all_new_slots, length-all_new, new-element, new-there, new-single, new-once, fresh-counts, new_count}
use Rattle.model_laws.proofs.NewElements.{born-new}
use Rattle.model_laws.proofs.Indices.{index-got, index-gets, len-index}
use Rattle.model_laws.proofs.Counting.{times-first, times-other, map-back}

-- the free map slots: each once
range-below : (n a i : ℕ) → i < a → times i (range_with_len a n) ≡ 0
range-below zero a i h = refl
range-below (suc n) a i h = times-other i a (range_with_len (a + 1) n) (λ e. absurd (omega arith)) ∙ range-below n (a + 1) i (omega arith)

range-once : (n a i : ℕ) → times i (range_with_len a n) ≤ 1
range-once zero a i = omega arith
range-once (suc n) a i = elim (cases_eq a i) [
  | inl same ↦
      let e = times-first i a (range_with_len (a + 1) n) same in
      let f = range-below n (a + 1) i (omega arith) in
      omega arith
  | inr ne ↦
      let e = times-other i a (range_with_len (a + 1) n) ne in
      let f = range-once n (a + 1) i in
      omega arith
]

range-inside : (n a i : ℕ) → 0 < times i (range_with_len a n) → i < a + n
range-inside zero a i h = absurd (omega arith)
range-inside (suc n) a i h = elim (cases_eq a i) [
  | inl same ↦ omega arith
  | inr ne ↦
      let e = times-other i a (range_with_len (a + 1) n) ne in
      let f : i < (a + 1) + n = range-inside n (a + 1) i (omega arith) in
      omega arith
]

-- no map slot was used
unused : (n i : ℕ) → uses_at (replicate n unused_slot) i ≡ 0
unused zero i = refl
unused (suc n) zero = refl
unused (suc n) (suc i) = unused n i

bag-unused : (slots : List SlotView) → ((i : ℕ) → uses_at slots i ≡ 0) → (n a : ℕ) → replicate n 0 ≡ map (uses_at slots) (range_with_len a n)
bag-unused slots h zero a = refl
bag-unused slots h (suc n) a = ap (λ x. x ∷ replicate n 0) (sym (h a)) ∙ ap (λ l. uses_at slots a ∷ l) (bag-unused slots h n (a + 1))

index-there : (xs : List ℕ) (n x : ℕ) → slice_get xs n ≡ Some x → slice_index xs n ≡ x
index-there xs n x h = get_or_from_slice_get xs n x 0 h

module _ (shapes : List MapShape) (limits : AreShapes shapes) (k : ℕ) (shape : MapShape) (at : slice_get shapes k ≡ Some shape) where
  abbrev es : List Element
  es = all_new_elements 0 shapes

  abbrev slots : List ℕ
  slots = all_new_slots shapes

  linked-all : linked_count k es ≡ new_count shape.kind shape
  linked-all = (fresh-counts k es (new-once 0 shapes)).2 ∙ born-new 0 shapes k k shape at (omega arith)

  -- an element of this map
  pub record IsHere (n : ℕ) (e : Element) : Type 0 where
    pub index : ℕ
    pub array : shape.kind ≡ Array
    pub within : index < shape.entries
    pub is : array_element k shape index ≡ e
    pub slot : slice_index slots n ≡ index

  here : (n : ℕ) (e : Element) → slice_get es n ≡ Some e → e.map ≡ k → IsHere n e
  here n e h in_map =
      let r = new-element 0 shapes n e h in
      let m : 0 + r.offset ≡ e.map = ap (λ (z : Element). z.map) r.is in
      let o : r.offset ≡ k = omega arith in
      let same : r.shape ≡ shape = same_Some r.shape shape (sym r.there ∙ (ap (slice_get shapes) o ∙ at)) in
      let first : array_element k shape r.index ≡ array_element (0 + r.offset) r.shape r.index =
      ap (λ z. array_element z shape r.index) (sym (m ∙ in_map)) ∙
      ap (λ z. array_element (0 + r.offset) z r.index) (sym same) in
      record {
        index = r.index;
        array = ap (λ (z : MapShape). z.kind) (sym same) ∙ r.array;
        within = subst (λ (z : MapShape). r.index < z.entries) same r.within;
        is = first ∙ r.is;
        slot = index-there slots n r.index r.slot;
      }

  hash-array : shape.kind ≡ Hash → shape.kind ≡ Array → ⊥
  hash-array h g = let x : Hash ≡ Array = sym h ∙ g in cc

  hash-map : shape.kind ≡ Hash → MapRefines slots k es no_queues (new_view_of Hash shape) (record { shape = shape; bag = new_bag Hash shape; worn = 0 })
  hash-map is =
      let n = slots_of_shape shape in
      let unused_slots = replicate n unused_slot in
      record {
        state = ap (λ bag. record { shape = shape; bag = bag; worn = 0 }) (bag-unused unused_slots (unused n) n 0);
        lists = refl;
        free = record {
          room = length-replicate n unused_slot;
          once = λ i. range-once n 0 i;
          inside = λ i h.
              let e = length-replicate n unused_slot in
              let f = range-inside n 0 i h in
              omega arith;
        };
        elements = record {
          occupied = λ n e kept. absurd (hash-array is (here n e kept.born kept.in_map).array);
          single = λ a b d e kept other same. absurd (hash-array is (here a d kept.born kept.in_map).array);
          apart = λ n e kept. absurd (hash-array is (here n e kept.born kept.in_map).array);
          found = λ key i h. absurd (none-some i (sym (get-empty (slice_cmp nat_cmp) key) ∙ h));
          finds = λ key n l. absurd (hash-array is (here n l.element l.born l.in_map).array);
          counted = len-empty (slice_cmp nat_cmp) ℕ ∙ sym (linked-all ∙ ap (λ z. new_count z shape) is);
        };
      }

  array-map : shape.kind ≡ Array → MapRefines slots k es no_queues (new_view_of Array shape) (record { shape = shape; bag = new_bag Array shape; worn = 0 })
  array-map is =
      let of_kind = (limits k shape at).array is in
      let most : shape.entries ≤ MAX_ENTRIES = (limits k shape at).entries.1 in
      record {
        state = refl;
        lists = refl;
        free = record {
          room =
              let a = length-map-range_with_len (array_slot shape) 0 shape.entries in
              let spare = of_kind.spare in
              omega arith;
          once = λ i. omega arith;
          inside = λ i h. absurd (omega arith);
        };
        elements = record {
          occupied = λ n e kept.
              let h = here n e kept.born kept.in_map in
              let z : 0 + h.index ≡ h.index = omega arith in
              let got = range-get (array_slot shape) 0 shape.entries h.index h.within in
              ap (slice_get (new_view_of Array shape).slots) h.slot ∙ (got ∙ (ap (λ j. Some (array_slot shape j)) z ∙ ap (λ x. Some (slot_view x)) h.is));
          single = λ a b d e kept other same.
              let h = here a d kept.born kept.in_map in
              let g = here b e other.born other.in_map in
              let indices : h.index ≡ g.index = sym h.slot ∙ (same ∙ g.slot) in
              new-single 0 shapes limits a b d e kept.born other.born (kept.in_map ∙ sym other.in_map)
              (ap (λ (x : Element). x.key) (sym h.is) ∙
              (ap index_key indices ∙ ap (λ (x : Element). x.key) g.is));
          apart = λ n e kept. refl;
          found = λ key i h.
              let r = index-got shape.entries key i h in
              let t = new-there 0 shapes k k shape i at (omega arith) is r.0 in
              (t.n, record { element = array_element k shape i; born = t.there; linked = refl; in_map = refl; under = r.1 }, index-there slots t.n i t.slot);
          finds = λ key n l.
              let h = here n l.element l.born l.in_map in
              ap (get (index_below shape.entries)) (sym l.under ∙ ap (λ (x : Element). x.key) (sym h.is)) ∙
              (index-gets shape.entries h.index most h.within ∙ ap Some (sym h.slot));
          counted = len-index shape.entries most ∙ sym (linked-all ∙ ap (λ z. new_count z shape) is);
        };
      }

  by_kind : (kind : MapKind) → shape.kind ≡ kind → MapRefines slots k es no_queues (new_view_of kind shape)
      (record { shape = shape; bag = new_bag kind shape; worn = 0 })
  by_kind Hash is = hash-map is
  by_kind Array is = array-map is

  pub new-map : MapRefines slots k es no_queues (new_map_view shape) (new_map shape)
  new-map = by_kind shape.kind refl

maps-refine : (shapes : List MapShape) → AreShapes shapes → (k : ℕ) (v : MapView) (m : MapState) (q : Queues) →
    slice_get (map new_map_view shapes) k ≡ Some v → slice_get (map new_map shapes) k ≡ Some m →
    slice_get (map (λ (x : MapShape). no_queues) shapes) k ≡ Some q → MapRefines (all_new_slots shapes) k (all_new_elements 0 shapes) q v m
maps-refine shapes limits k v m q hv hm hq =
    let a = map-back new_map_view shapes k v hv in
    let b = map-back new_map shapes k m hm in
    let c = map-back (λ (x : MapShape). no_queues) shapes k q hq in
    let same : a.0 ≡ b.0 = same_Some a.0 b.0 (sym a.1 ∙ b.1) in
    let slots : List ℕ = all_new_slots shapes in
    let es : List Element = all_new_elements 0 shapes in
    let one : MapRefines slots k es no_queues (new_map_view a.0) m =
    subst (MapRefines slots k es no_queues (new_map_view a.0)) (ap new_map same ∙ b.2)
    (new-map shapes limits k a.0 a.1) in
    let two : MapRefines slots k es no_queues v m = subst (λ x. MapRefines slots k es no_queues x m) a.2 one in
    subst (λ x. MapRefines slots k es x v m) c.2 two

runs-refine : (slots : List ℕ) (es : List Element) (programs : List Loaded) (n r : ℕ) →
    RunSlotRefines slots es programs (slice_get (replicate n None) r) (slice_get (replicate n None) r)
runs-refine slots es programs zero r = tt
runs-refine slots es programs (suc n) zero = tt
runs-refine slots es programs (suc n) (suc r) = runs-refine slots es programs n r

none-reclaimed : (es : List Element) → ((n : ℕ) (e : Element) → slice_get es n ≡ Some e → (e.life ≡ Linked) ×
    (e.uses ≡ 1)) → count_by (λ e. is_reclaimed e.life) es ≡ 0
none-reclaimed [] h = refl
none-reclaimed (e ∷ es) h =
    let a = count-cons (λ (x : Element). is_reclaimed x.life) e es in
    let b : one_of (is_reclaimed e.life) ≡ 0 = ap (λ l. one_of (is_reclaimed l)) (h 0 e refl).0 in
    let rest = none-reclaimed es (λ n f at. h (suc n) f at) in
    omega arith

none-open : (n : ℕ) → replicate n false ≡ open_flags (replicate n None)
none-open zero = refl
none-open (suc n) = ap (λ l. false ∷ l) (none-open n)

start-refined : (names : List (List ℕ)) (shapes : List MapShape) (programs : List Loaded) → AreShapes shapes →
    RefinesSchedule (start_view names shapes programs) (start_schedule shapes programs)
start-refined names shapes programs limits = record {
  slots = all_new_slots shapes;
  named = length-all_new 0 shapes;
  maps = (length-map shapes new_map_view ∙ sym (length-map shapes new_map), length-map shapes (λ (x : MapShape). no_queues) ∙ sym (length-map shapes new_map));
  map = λ k v m q hv hm hq. maps-refine shapes limits k v m q hv hm hq;
  runs = λ r. runs-refine (all_new_slots shapes) (all_new_elements 0 shapes) programs MAX_RUNS r;
  opened = none-open MAX_RUNS;
  awaited = refl;
  flags = ap length (none-open MAX_RUNS);
  programs = refl;
  given = sym (none-reclaimed (all_new_elements 0 shapes) (new-once 0 shapes));
}

-- its maps have the shapes
pub shapes-start : (shapes : List MapShape) → map (λ (v : MapView). v.shape) (map new_map_view shapes) ≡ shapes
shapes-start [] = refl
shapes-start (shape ∷ shapes) = ap (λ z. z ∷ map (λ (v : MapView). v.shape) (map new_map_view shapes))
    (shape-of shape.kind shape) ∙ ap (λ l. shape ∷ l) (shapes-start shapes)
  where
    shape-of : (kind : MapKind) (shape : MapShape) → (new_view_of kind shape).shape ≡ shape
    shape-of Hash shape = refl
    shape-of Array shape = refl

pub start_tracked : (names : List (List ℕ)) (shapes : List MapShape) (programs : List Loaded) → AreShapes shapes →
    TracksSchedule (start_view names shapes programs) (start_schedule shapes programs)
start_tracked names shapes programs h = record {
  refines = start-refined names shapes programs h;
  reached = record {
    limits = subst AreShapes (sym (shapes-start shapes)) h;
    events = [];
    answers = [];
    states = [];
    real = λ k event at. absurd (none-some event at);
    history = tt;
    last =
        ap (λ l. start_schedule l programs) (shapes-start shapes);
  };
}
