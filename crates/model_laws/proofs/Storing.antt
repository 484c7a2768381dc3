-- A store of a run to an element: the value in its map slot changes.
use Rattle.bpf_model.proofs.Prelude.{◌≡◌, ◌≢◌, ◌∙◌, ℕ, ◌<◌, List, length, Option, Some, None, ◌⊎◌, inl, inr, refl, sym, ap, Bool, true, false, subst, ℤ}
use Rattle.bpf_model.proofs.Prelude.{slice_get, slice_set, slice_index, ◌==◌, ◌&&◌, if◌then◌else◌, cases_eq, none-some, same_Some, ◌>>=◌, region_offset}
use Rattle.bpf_model.proofs.Prelude.{Element, is_linked, is_reclaimed, with_value, set_to, changed, unless_reclaimed, accessible, MapState, Store}
use Rattle.bpf_model.proofs.Prelude.{with_elements, stored_in, with_bytes, Queues, Schedule, retired, SlotView, MapView, WorldView, uses_in, uses_at}
use Rattle.bpf_model.proofs.Prelude.{map_state_of, key_in, value_in, slot_view, IsElementKept, SlotsStand, ElementsStand, RefinesSchedule, named, oldest-none}
use Rattle.bpf_model.proofs.Prelude.{length-set, get-set_cases, get-set_other, get-set_there}
use Rattle.model_laws.proofs.Prelude.{written, with_map, Matches, half}
use Rattle.model_laws.proofs.Counting.{retired-back, length-retired}
use Rattle.model_laws.proofs.Stores.{accessible-born}
use Rattle.model_laws.specs.Matching.{StoresHalf}
use Rattle.model_laws.proofs.Lists.{map-same}
use Rattle.model_laws.proofs.ViewsChanging.{link-written, link-unwritten, count-written, changes-value}
use Rattle.model_laws.proofs.Listing.{between-value, more-none}
use Rattle.model_laws.proofs.ViewedWorlds.{Here, here, Turns, turned-world}

-- an element that may be accessed is not reclaimed
pub accessible-kept : (es : List Element) (n : ℕ) (o : Option Element) (e : Element) → slice_get es n ≡ o →
    (o >>= unless_reclaimed) ≡ Some e → is_reclaimed e.life ≡ false
accessible-kept es n None e at h = absurd (none-some e h)
accessible-kept es n (Some x) e at h = choice (is_reclaimed x.life) refl h
  where
    choice : (b : Bool) → is_reclaimed x.life ≡ b → (if b then None else Some x) ≡ Some e → is_reclaimed e.life ≡ false
    choice true is g = absurd (none-some e g)
    choice false is g = ap (λ (z : Element). is_reclaimed z.life) (sym (same_Some x e g)) ∙ is

-- the element that is accessed stands in its map slot
module _ (w : WorldView) (s : Schedule) (m : Matches w s) (n : ℕ) (e : Element) (v : MapView)
    (access : accessible s.machine.store.elements n ≡ Some e) (at : slice_get w.maps e.map ≡ Some v) where
  abbrev es : List Element
  es = s.machine.store.elements

  pub born : slice_get es n ≡ Some e
  born = accessible-born es n (slice_get es n) e refl access

  pub kept : is_reclaimed e.life ≡ false
  kept = accessible-kept es n (slice_get es n) e refl access

  pub shown : slice_get v.slots (slice_index m.refines.slots n) ≡ Some (slot_view e)
  shown = (here w s m.refines e.map v at).stands.elements.occupied n e (record { born = born; in_map = refl; kept = kept })

-- a map slot with another value
uses-kept : (slots : List SlotView) (i : ℕ) (old new : SlotView) → slice_get slots i ≡ Some old → new.uses ≡ old.uses
    → (x : ℕ) → uses_at (slice_set slots i new) x ≡ uses_at slots x
uses-kept slots i old new at same x = elim (cases_eq x i) [
  | inl is ↦ ap (uses_at (slice_set slots i new)) is ∙
      (ap uses_in (get-set_there slots i old new at) ∙ (same ∙ (ap uses_in (sym at) ∙ ap (uses_at slots) (sym is))))
  | inr ne ↦ ap uses_in (get-set_other slots i x new ne)
]

module _ (slots : List ℕ) (k : ℕ) (es : List Element) (v : MapView) (n : ℕ) (e : Element) (value : List ℕ)
    (s : ElementsStand slots k es v) (free : SlotsStand v) (kept : IsElementKept es k n e) where
  abbrev i : ℕ
  i = slice_index slots n

  abbrev new : MapView
  new = written v i value

  abbrev vs : List Element
  vs = slice_set es n (with_value value e)

  stored : slice_get v.slots i ≡ Some (slot_view e)
  stored = s.occupied n e kept

  -- the map slot that the view has is that of the element with the value
  slot-is : new ≡ record {
    shape = v.shape;
    slots = slice_set v.slots i (slot_view (with_value value e));
    free =
        v.free;
    index = v.index;
    next = v.next;
    waiting = v.waiting;
    ready = v.ready;
    worn = v.worn;
  }
  slot-is = ap (λ (o : Option SlotView). let z : MapView =
      record {
        shape = v.shape;
        slots = slice_set v.slots i
            (record { key = key_in o; value = value; uses = uses_in o });
        free = v.free;
        index = v.index;
        next = v.next;
        waiting = v.waiting;
        ready = v.ready;
        worn = v.worn;
      } in z) stored

  cases : (a : ℕ) (f : Element) → IsElementKept vs k a f → ((a ≡ n) × (with_value value e ≡ f)) ⊎ ((a ≢ n) × IsElementKept es k a f)
  cases a f g = elim (get-set_cases es n a (with_value value e) f g.born) [
    | inl x ↦ inl x
    | inr x ↦ inr (x.0, record { born = x.1; in_map = g.in_map; kept = g.kept })
  ]

  before : (a : ℕ) (f : Element) → IsElementKept vs k a f → (old : Element) × IsElementKept es k a old
  before a f g = elim (cases a f g) [
    | inl x ↦ (e, subst (λ b. IsElementKept es k b e) (sym x.0) kept)
    | inr x ↦ (f, x.1)
  ]

  abbrev after : MapView
  after = record {
    shape = v.shape;
    slots = slice_set v.slots i (slot_view (with_value value e));
    free = v.free;
    index = v.index;
    next = v.next;
    waiting = v.waiting;
    ready = v.ready;
    worn = v.worn;
  }

  elements-after : ElementsStand slots k vs after
  elements-after = record {
    occupied = λ a f g. elim (cases a f g) [
      | inl x ↦ ap (λ b. slice_get after.slots (slice_index slots b)) x.0 ∙
          (get-set_there v.slots i (slot_view e) (slot_view (with_value value e)) stored ∙
          ap (λ (z : Element). Some (slot_view z)) x.1)
      | inr x ↦ get-set_other v.slots i (slice_index slots a) (slot_view (with_value value e))
          (λ same. x.0 (s.single a n f e x.1 kept same)) ∙ s.occupied a f x.1
    ];
    single = λ a b d f g h same. let x = before a d g in let y = before b f h in s.single a b x.0 y.0 x.1 y.1 same;
    apart = λ a f g. let x = before a f g in s.apart a x.0 x.1;
    found = λ key j h. let x = s.found key j h in (x.0, link-written k es n e value kept.born kept.in_map k key x.0 x.1, x.2);
    finds = λ key a h. s.finds key a (link-unwritten k es n e value kept.born kept.in_map k key a h);
    counted = s.counted ∙ sym (count-written k es n e value kept.born kept.in_map (λ life map. is_linked life && (map == k)));
  }

  pub elements-written : ElementsStand slots k vs new
  elements-written = subst (ElementsStand slots k vs) (sym slot-is) elements-after

  pub slots-written : SlotsStand new
  slots-written = record {
    room = length-set v.slots i _ ∙ free.room;
    once = free.once;
    inside = λ x h. subst (λ z. x < z) (sym (length-set v.slots i _)) (free.inside x h);
  }

  pub state-written : map_state_of new ≡ map_state_of v
  state-written = ap (λ bag. let z : MapState = record { shape = v.shape; bag = bag; worn = v.worn } in z)
      (map-same (uses_at new.slots) (uses_at v.slots) v.free
      (λ a x g. uses-kept v.slots i (slot_view e) _ stored (ap uses_in stored) x))

-- the half of a step
module _ (w : WorldView) (s : Schedule) (m : Matches w s) (n : ℕ) (e : Element) (v : MapView)
    (is-born : slice_get s.machine.store.elements n ≡ Some e) (is-kept : is_reclaimed e.life ≡ false)
    (at : slice_get w.maps e.map ≡ Some v) (value : List ℕ) where
  abbrev x : RefinesSchedule w s
  x = m.refines

  abbrev all : List Element
  all = s.machine.store.elements

  abbrev fs : List Element
  fs = slice_set all n (with_value value e)

  one : IsElementKept all e.map n e
  one = record { born = is-born; in_map = refl; kept = is-kept }

  h : Here w s x e.map v
  h = here w s x e.map v at

  abbrev view : MapView
  view = written v (slice_index x.slots n) value

  abbrev store : Store
  store = with_elements fs s.machine.store

  abbrev queues : List Queues
  queues = retired 0 all fs s.queues

  lists-same : (j : ℕ) (q : Queues) → slice_get queues j ≡ Some q → slice_get s.queues j ≡ Some q
  lists-same j q g =
      let b = retired-back all fs s.queues j q g in
      b.1 ∙ ap Some (sym (more-none j all fs b.0 (between-value j 0 all n e value is-born)) ∙ b.2)

  turns : Turns w s x e.map view store queues
  turns = record {
    names = x.slots;
    births = x.named ∙ sym (length-set all n _);
    changes = changes-value e.map all n e value is-born refl x.slots is-kept;
    maps = refl;
    others = λ j ne. refl;
    queued = length-retired all fs s.queues 0;
    lists = λ j q ne g. lists-same j q g;
    stands = λ t q there g. record {
      state = same_Some t h.state (sym there ∙ h.there) ∙
          (h.stands.state ∙ sym (state-written x.slots e.map all v n e value h.stands.elements h.stands.free one));
      lists = h.stands.lists ∙ ap (named x.slots) (same_Some h.lists q (sym h.listed ∙ lists-same e.map q g));
      free = slots-written x.slots e.map all v n e value h.stands.elements h.stands.free one;
      elements = elements-written x.slots e.map all v n e value h.stands.elements h.stands.free one;
    };
  }

  pub written-half : RefinesSchedule (with_map e.map view w) (half s store)
  written-half = turned-world w s x m.scheduled e.map view store queues s.awaited w.given turns refl
      (x.given ∙ sym (count-written e.map all n e value is-born refl (λ life map. is_reclaimed life)))

pub store_half : (w : WorldView) (s : Schedule) (m : Matches w s) (n : ℕ) (e : Element) (v : MapView) (offset : ℤ)
    (width start x : ℕ) → accessible s.machine.store.elements n ≡ Some e → slice_get w.maps e.map ≡ Some v →
    region_offset (length e.value) width offset ≡ Some start →
    StoresHalf (with_map e.map (written v (slice_index m.refines.slots n)
    (with_bytes start width x (value_in (slice_get v.slots (slice_index m.refines.slots n))))) w) s n width offset
    x
store_half w s m n e v offset width start x access at inside =
    let es = s.machine.store.elements in
    let new = with_bytes start width x e.value in
    let fs = slice_set es n (with_value new e) in
    let there = born w s m n e v access at in
    let is = shown w s m n e v access at in
    record {
      elements = fs;
      stored = ap (λ o. o >>= stored_in es n width offset x) access ∙
          (ap (λ o. o >>= λ p. Some (changed (with_value (with_bytes p width x e.value)) es n)) inside ∙
          ap (λ o. Some (set_to (with_value new) es n o)) there);
      oldest = oldest-none s.machine.store (with_elements fs s.machine.store) (length-set es n _);
      refines = subst (λ o. RefinesSchedule (with_map e.map
          (written v (slice_index m.refines.slots n) (with_bytes start width x (value_in o))) w)
          (half s (with_elements fs s.machine.store))) (sym is)
          (written-half w s m n e v there (kept w s m n e v access at) at new);
    }
