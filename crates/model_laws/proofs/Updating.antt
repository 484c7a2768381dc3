-- An update: in a hash map what the key had leaves, and an element is born in the map slot that has
-- been free longest; in an array the value in the index's map slot changes.
use Rattle.bpf_model.proofs.Prelude.{◌≡◌, ◌∙◌, ℕ, ◌+◌, ◌-◌, ◌<◌, ◌≤◌, List, [], ◌∷◌, ◌++◌, map, length, Option, Some, None, inl, inr, refl, sym, ap, arith}
use Rattle.bpf_model.proofs.Prelude.{false, subst, Result, Ok, Err, slice_get, slice_set, slice_index, count_by, is_some, cond, not, nat_lt, nat_le, ◌==◌}
use Rattle.bpf_model.proofs.Prelude.{◌&&◌, get, len, none-some, same_Some, length-append, length-set, sum_by_push, Section, Element, IsLinkedAt, IsAbsent}
use Rattle.bpf_model.proofs.Prelude.{linked_count, is_reclaimed, newborn, overwritten, set_to, with_value, MapState, Store, with_bag, with_elements, LooksUp}
use Rattle.bpf_model.proofs.Prelude.{Replaces, Writes, Settles, Updates, hash_error, error_of_kind, update_error, open_sections, with_store, Answers}
use Rattle.bpf_model.proofs.Prelude.{update_refusal, refusal, Queues, Schedule, retired, TakesOldest, SlotView, MapView, WorldView, uses_in, uses_at}
use Rattle.bpf_model.proofs.Prelude.{map_state_of, times, RefinesSchedule, option_cases, oldest-none, get-append_last, get-set_other, get-set_there}
use Rattle.model_laws.proofs.Prelude.{Errno, Ret, EventRefusal, NoMap, MapKind, Hash, Array, IsScheduled, retired_key, filled, filled_from, written}
use Rattle.model_laws.proofs.Prelude.{overwritten_slot, written_by, updated_by, updated, shown_error, shape_shown, with_map, update_at, update_reaction}
use Rattle.model_laws.proofs.Prelude.{Matches, Simulates, half, ChangesHalf}
use Rattle.bpf_model.specs.declared.event.Event.TheVariants as events
use Rattle.arrayvec.specs.ArrayVec.{ArrayVec}
use Rattle.model_laws.proofs.Counting.{length-retired, times-first}
use Rattle.model_laws.specs.Matching.{UpdatesHalf}
use Rattle.model_laws.proofs.ViewsChanging.{Changes, changes-trans, changes-born}
use Rattle.model_laws.proofs.Lists.{map-same, index-append, stands-in}
use Rattle.model_laws.proofs.Mapping.{elements-born, slots-born}
use Rattle.model_laws.proofs.ViewedWorlds.{Here, Turns, turned-world, shapes-agree, refuses, stays-half, half-simulates}
use Rattle.model_laws.proofs.Storing.{written-half}
use Rattle.model_laws.proofs.Deleting.{Dropped, h, drop, lists-left, lists-others}
use Rattle.model_laws.proofs.Choices.{last-false}

free-has : (v : MapView) (free : List ℕ) → v.free ≡ free → (length (map (uses_at v.slots) free) == 0) ≡ false → (i : ℕ) × (rest : List ℕ) × (free ≡ i ∷ rest)
free-has v [] e h = absurd (cc)
free-has v (i ∷ rest) e h = (i, rest, refl)

passes : (v : MapView) (key : List ℕ) (flags : ℕ) → hash_error flags (is_some (get v.index key)) (len v.index)
    (map_state_of v) ≡ None → (i : ℕ) × (rest : List ℕ) × (v.free ≡ i ∷ rest)
passes v key flags h = free-has v v.free refl (last-false (nat_lt 2 flags) ((flags == 1) && is_some (get v.index key))
    ((flags == 2) && not (is_some (get v.index key))) (not (is_some (get v.index key)) && nat_le v.shape.entries
    (len v.index)) (length (map (uses_at v.slots) v.free) == 0) _ _ _ _ _ h)

-- the use counts of the other free map slots
uses-other : (slots : List SlotView) (i : ℕ) (free rest : List ℕ) (new : SlotView) → times i free ≤ 1 → free ≡ i
    ∷ rest → map (uses_at slots) rest ≡ map (uses_at (slice_set slots i new)) rest
uses-other slots i free rest new once first = map-same (uses_at slots) (uses_at (slice_set slots i new)) rest
    (λ a x at. ap uses_in (sym (get-set_other slots i x new (λ same.
    let t : times i free ≡ 1 + times i rest = ap (times i) first ∙ times-first i i rest refl in
    let z : 0 < times x rest = stands-in rest a x at in
    let u : times i rest ≡ times x rest = ap (λ y. times y rest) (sym same) in
    absurd (omega arith)))))

module _ (w : WorldView) (s : Schedule) (x : RefinesSchedule w s) (i : IsScheduled s) (k : ℕ) (v : MapView)
    (at : slice_get w.maps k ≡ Some v) (key value : List ℕ) (flags : ℕ) (d : Dropped w s x i k v at key) where
  abbrev here : Here w s x k v
  here = h w s x i k v at key

  abbrev v' : MapView
  v' = retired_key v key

  error-is : update_error flags (is_some d.found) (linked_count k s.machine.store.elements) here.state ≡ shown_error v key flags
  error-is = ap (λ b. update_error flags b (linked_count k s.machine.store.elements) here.state) (sym d.shown)
      ∙ (ap (λ n. update_error flags (is_some (get v.index key)) n here.state) (sym here.stands.elements.counted)
      ∙ ap (update_error flags (is_some (get v.index key)) (len v.index)) here.stands.state)

  abbrev opened : List Section
  opened = open_sections s.machine.runs

  -- what an update does that no test refuses
  abbrev WritesBy : MapKind → Store → Type 0
  WritesBy kind new = Writes kind s.machine.store opened k here.state key value d.found new

  writes-as : (kind : MapKind) → v.shape.kind ≡ kind → (new : Store) → WritesBy kind new → WritesBy here.state.shape.kind new
  writes-as kind is new h = subst (λ j. WritesBy j new) (sym (ap (λ (m : MapState). m.shape.kind) here.stands.state ∙ is)) h

  updates-as : (o : Option Errno) → shown_error v key flags ≡ o → (ret : Result (Unit {0}) Errno) (new : Store) →
      Settles o ret s.machine.store new (WritesBy here.state.shape.kind new) →
      Updates s.machine.store opened k key value flags ret new
  updates-as o is ret new settled = record {
    state = here.state;
    there = here.there;
    found = d.found;
    lookup =
        d.looks;
    settled = subst (λ z. Settles z ret s.machine.store new (WritesBy here.state.shape.kind new))
        (sym (error-is ∙ is)) settled;
  }

  -- after an error all is as it was
  pub errs-half : (e : Errno) → shown_error v key flags ≡ Some e → UpdatesHalf (with_map k v w) s k key value flags (Err e)
  errs-half e is = stays-half w s x i k v at (Updates s.machine.store opened k key value flags (Err e))
      (updates-as (Some e) is (Err e) s.machine.store (refl, refl))

  -- the value in the map slot of an array's index
  abbrev Overwrites : Option ℕ → Type 0
  Overwrites found = ChangesHalf (with_map k (overwritten_slot v (get v.index key) value) w) s
      (λ new. new ≡ with_elements (overwritten value s.machine.store.elements found) s.machine.store)

  overwrites-none : IsAbsent s.machine.store.elements k key → Overwrites None
  overwrites-none absent =
      let none : get v.index key ≡ None = elim (option_cases (get v.index key)) [
        | inl y ↦ y
        | inr y ↦ let z = here.stands.elements.found key y.0 y.1 in absurd (absent z.0 z.1)
      ] in
      subst (λ o. ChangesHalf (with_map k (overwritten_slot v o value) w) s (λ new. new ≡ s.machine.store)) (sym none)
      (stays-half w s x i k v at (λ new. new ≡ s.machine.store) refl)

  overwrites-some : (n : ℕ) → IsLinkedAt s.machine.store.elements k key n → Overwrites (Some n)
  overwrites-some n g =
      let es = s.machine.store.elements in
      let slot = slice_index x.slots n in
      let fs = slice_set es n (with_value value g.element) in
      let there : slice_get w.maps g.element.map ≡ Some v = ap (slice_get w.maps) g.in_map ∙ at in
      let writes : RefinesSchedule (with_map g.element.map (written v slot value) w) (half s (with_elements fs s.machine.store)) =
      written-half w s (record { refines = x; scheduled = i }) n g.element v g.born (ap is_reclaimed g.linked) there value in
      record {
        store = with_elements fs s.machine.store;
        changes = ap (λ o. with_elements (set_to (with_value value) es n o) s.machine.store) (sym g.born);
        oldest = oldest-none s.machine.store (with_elements fs s.machine.store) (length-set es n _);
        refines = subst (λ o. RefinesSchedule (with_map k (overwritten_slot v o value) w)
            (half s (with_elements fs s.machine.store))) (sym (here.stands.elements.finds key n g))
            (subst (λ j. RefinesSchedule (with_map j (written v slot value) w)
            (half s (with_elements fs s.machine.store))) g.in_map writes);
      }

  overwrites : (found : Option ℕ) → LooksUp s.machine.store k key found → Overwrites found
  overwrites None absent = overwrites-none absent
  overwrites (Some n) h = overwrites-some n h

  pub overwrites-half : v.shape.kind ≡ Array → shown_error v key flags ≡ None →
      UpdatesHalf (with_map k (overwritten_slot v (get v.index key) value) w) s k key value flags (Ok tt)
  overwrites-half kind is =
      let h = overwrites d.found d.looks in
      record {
        store = h.store;
        changes = updates-as None is (Ok tt) h.store (refl, writes-as Array kind h.store h.changes);
        oldest = h.oldest;
        refines = h.refines;
      }

  -- the birth
  module _ (slot : ℕ) (rest : List ℕ) (first : v.free ≡ slot ∷ rest) where
    abbrev count : ℕ
    count = uses_at v'.slots slot

    abbrev child : Element
    child = newborn k key value count

    abbrev bag : List ℕ
    bag = map (uses_at v'.slots) rest

    abbrev state : MapState
    state = with_bag bag here.state

    abbrev after : Store
    after = record { elements = d.left ++ child ∷ []; maps = slice_set s.machine.store.maps k state }

    abbrev names : List ℕ
    names = x.slots ++ slot ∷ []

    abbrev queues : List Queues
    queues = retired 0 s.machine.store.elements (d.left ++ child ∷ []) s.queues

    first' : v'.free ≡ slot ∷ rest
    first' = d.free ∙ first

    state-is : here.state ≡ map_state_of v'
    state-is = here.stands.state ∙ sym d.state

    old-bag : here.state.bag ≡ count ∷ bag
    old-bag = ap (λ (m : MapState). m.bag) state-is ∙ ap (map (uses_at v'.slots)) first'

    births-left : length x.slots ≡ length d.left
    births-left = x.named ∙ sym d.long

    renames : (n : ℕ) → n < length s.machine.store.elements → slice_index names n ≡ slice_index x.slots n
    renames n less = let b : length x.slots ≡ length s.machine.store.elements = x.named in index-append x.slots slot n (omega arith)

    changes : Changes k x.slots names s.machine.store.elements after.elements
    changes = changes-trans k x.slots x.slots names s.machine.store.elements d.left after.elements d.changes
        (changes-born k x.slots d.left births-left slot key value count)

    replaces : Replaces s.machine.store (open_sections s.machine.runs) k here.state key value d.found after
    replaces = record {
      count = count;
      bag = bag;
      taken = record { before = []; after = bag; old_is = old-bag; new_is = refl };
      new_is = ap (λ l. let z : Store = record { elements = l ++ child ∷ []; maps = slice_set s.machine.store.maps k state } in z) d.left_is;
    }

    less-one : (c : ℕ) → c ≡ (c + 1) - 1
    less-one c = omega arith

    oldest : TakesOldest s.machine.store after
    oldest e before later born old new =
        let same : child ≡ e = same_Some child e (sym (get-append_last d.left child) ∙ (ap (slice_get after.elements) d.long ∙ born)) in
        let m : k ≡ e.map = ap (λ (z : Element). z.map) same in
        let b : before ≡ here.state = same_Some before here.state (sym old ∙ (ap (slice_get s.machine.store.maps) (sym m) ∙ here.there)) in
        let a : later ≡ state = same_Some later state (sym new ∙
        (ap (slice_get after.maps) (sym m) ∙ get-set_there s.machine.store.maps k here.state state here.there)) in
        ap (λ (z : MapState). z.bag) b ∙ (old-bag ∙ (ap (λ c. c ∷ bag)
        (less-one count ∙ ap (λ (z : Element). z.uses - 1) same) ∙
        ap (λ (z : MapState). (e.uses - 1) ∷ z.bag) (sym a)))

    next-state : state ≡ map_state_of (filled v' slot rest key value)
    next-state = ap (with_bag bag) state-is ∙ ap (λ l. let z : MapState =
        record { shape = v'.shape; bag = l; worn = v'.worn } in z)
        (uses-other v'.slots slot v'.free rest _ (d.slots_stand.once slot) first')

    turns : Turns w s x k (filled v' slot rest key value) after queues
    turns = record {
      names = names;
      births = (let a : length names ≡ length x.slots + 1 =
          length-append x.slots (slot ∷ []) in let b : length after.elements ≡ length d.left + 1 =
          length-append d.left (child ∷ []) in let c = births-left in omega arith);
      changes = changes;
      maps = length-set s.machine.store.maps k state;
      others = λ j ne. get-set_other s.machine.store.maps k j state ne;
      queued = length-retired s.machine.store.elements after.elements s.queues 0;
      lists = λ j q ne g. lists-others w s x i k v at key d (child ∷ []) j q ne g;
      stands = λ m q there g. record {
        state = same_Some m state (sym there ∙ get-set_there s.machine.store.maps k here.state state here.there) ∙ next-state;
        lists = lists-left w s x i k v at key d (child ∷ []) names renames q g;
        free = slots-born x.slots k d.left v' slot rest key value d.elements d.slots_stand births-left first' d.absent;
        elements = elements-born x.slots k d.left v' slot rest key value d.elements d.slots_stand births-left first' d.absent;
      };
    }

    given-same : count_by (λ e. is_reclaimed e.life) after.elements ≡ count_by (λ e. is_reclaimed e.life) s.machine.store.elements
    given-same = let a : count_by (λ e. is_reclaimed e.life) after.elements ≡ count_by (λ e. is_reclaimed e.life)
        d.left + 0 = sum_by_push (λ (e : Element). cond (is_reclaimed e.life) 1 0) d.left child in let b =
        d.given in omega arith

    pub births-half : v.shape.kind ≡ Hash → shown_error v key flags ≡ None →
        UpdatesHalf (with_map k (filled v' slot rest key value) w) s k key value flags (Ok tt)
    births-half kind is = record {
      store = after;
      changes = updates-as None is (Ok tt) after (refl, writes-as Hash kind after replaces);
      oldest = oldest;
      refines = turned-world w s x i k (filled v' slot rest key value) after queues s.awaited w.given turns refl (x.given ∙ sym given-same);
    }

module _ (w : WorldView) (s : Schedule) (sim : Matches w s) (k : ℕ) (v : MapView) (at : slice_get w.maps k ≡ Some v) (key value : List ℕ) (flags : ℕ) where
  dropped : Dropped w s sim.refines sim.scheduled k v at key
  dropped = drop w s sim.refines sim.scheduled k v at key

  writes-half : (kind : MapKind) → v.shape.kind ≡ kind → shown_error v key flags ≡ None →
      UpdatesHalf (with_map k (written_by kind v key value) w) s k key value flags (Ok tt)
  writes-half Hash is none =
      let f = passes v key flags (ap (λ j. error_of_kind j flags (is_some (get v.index key)) (len v.index) (map_state_of v)) (sym is) ∙ none) in
      subst (λ l. UpdatesHalf (with_map k (filled_from l (retired_key v key) key value) w) s k key value flags (Ok tt)) (sym f.2)
      (births-half w s sim.refines sim.scheduled k v at key value flags dropped f.0 f.1 f.2 is none)
  writes-half Array is none = overwrites-half w s sim.refines sim.scheduled k v at key value flags dropped is none

  pub settled-half : (o : Option Errno) → shown_error v key flags ≡ o →
      UpdatesHalf (with_map k (updated_by o v key value).1 w) s k key value flags (updated_by o v key value).0
  settled-half (Some e) is = errs-half w s sim.refines sim.scheduled k v at key value flags dropped e is
  settled-half None is = writes-half v.shape.kind refl is

pub update_half : (w : WorldView) (s : Schedule) → Matches w s →
    (k : ℕ) (v : MapView) (key value : List ℕ) (flags : ℕ) → slice_get w.maps k ≡ Some v →
    UpdatesHalf (with_map k (updated v key value flags).1 w) s k key value flags (updated v key value flags).0
update_half w s sim k v key value flags at = settled-half w s sim k v at key value flags (shown_error v key flags) refl

module _ (w : WorldView) (s : Schedule) (sim : Matches w s) (k : ℕ) (key value : ArrayVec ℕ) (flags : ℕ) where
  refusal-is : (r : Option EventRefusal) → update_refusal (shape_shown (slice_get w.maps k)) (length key.items)
      (length value.items) ≡ r → refusal s.machine (events.Update k key value flags) ≡ r
  refusal-is r e = ap (λ shape. update_refusal shape (length key.items) (length value.items)) (shapes-agree w s sim.refines k) ∙ e

  updates : (v : MapView) → slice_get w.maps k ≡ Some v → refusal s.machine (events.Update k key value flags) ≡ None →
      Simulates s (events.Update k key value flags) (
        Ret (updated v key.items value.items flags).0,
        with_map k (updated v key.items value.items flags).1 w,
      )
  updates v at pass =
      let event = events.Update k key value flags in
      let new : WorldView = with_map k (updated v key.items value.items flags).1 w in
      let ret = (updated v key.items value.items flags).0 in
      let h : UpdatesHalf new s k key.items value.items flags ret = update_half w s sim k v key.items value.items flags at in
      half-simulates w s sim.refines sim.scheduled new event (Ret ret)
      (Updates s.machine.store (open_sections s.machine.runs) k key.items value.items flags ret) h (record {
        step = subst (λ z. Answers z s.machine event (Ret ret) (with_store s.machine h.store)) (sym pass) (h.store, h.changes, refl);
        first = tt;
        oldest = h.oldest;
        lists = refl;
      })

  update-cases : (r : Option EventRefusal) (o : Option MapView) →
      update_refusal (shape_shown (slice_get w.maps k)) (length key.items) (length value.items) ≡ r →
      slice_get w.maps k ≡ o →
      Simulates s (events.Update k key value flags) (update_at r o w k key.items value.items flags)
  update-cases (Some r) o e at = record {
    next = s;
    does =
        refuses w s sim.refines sim.scheduled r (events.Update k key value flags) (refusal-is (Some r) e);
    matches =
        sim;
  }
  update-cases None None e at = absurd (none-some NoMap (sym e ∙ ap (λ z. update_refusal (shape_shown z) (length key.items) (length value.items)) at))
  update-cases None (Some v) e at = updates v at (refusal-is None e)

  pub update_simulates : Simulates s (events.Update k key value flags) (update_reaction w k key.items value.items flags)
  update_simulates = update-cases (update_refusal (shape_shown (slice_get w.maps k)) (length key.items) (length value.items)) (slice_get w.maps k) refl refl
