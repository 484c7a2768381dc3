-- A key leaves a map: all of a delete, and the first half of an update.
use Rattle.bpf_model.proofs.Prelude.{◌≡◌, ◌≢◌, ◌∙◌, ℕ, ◌+◌, ◌<◌, List, [], ◌∷◌, ◌++◌, map, length, Option, Some, None, refl, sym, ap, arith, subst, Result}
use Rattle.bpf_model.proofs.Prelude.{Err, slice_get, slice_set, slice_index, count_by, is_some, get, none-some, same_Some, slice_get_within, append-nil}
use Rattle.bpf_model.proofs.Prelude.{length-set, Section, Element, Linked, Unlinked, IsLinkedAt, set_to, unlinked, with_life, is_reclaimed, MapState, Store}
use Rattle.bpf_model.proofs.Prelude.{with_elements, LooksUp, Removes, RemovesFrom, Deletes, open_sections, with_store, Answers, key_refusal, refusal, Queues}
use Rattle.bpf_model.proofs.Prelude.{Schedule, retired, retired_in, unlinked_between, MapView, WorldView, map_state_of, lists_of, named, ElementsStand}
use Rattle.bpf_model.proofs.Prelude.{SlotsStand, RefinesSchedule, oldest-none}
use Rattle.model_laws.proofs.Prelude.{Errno, InvalidArgument, MapKind, Hash, Array, Ret, EventRefusal, NoMap, IsScheduled, retired_key, retired_slot}
use Rattle.model_laws.proofs.Prelude.{delete_result, deleted_from, deleted, shape_shown, with_map, delete_at, delete_reaction, Matches, Simulates}
use Rattle.bpf_model.specs.declared.event.Event.TheVariants as events
use Rattle.arrayvec.specs.ArrayVec.{ArrayVec}
use Rattle.model_laws.proofs.Counting.{retired-back, length-retired}
use Rattle.model_laws.specs.Matching.{DeletesHalf}
use Rattle.model_laws.proofs.ViewsChanging.{Changes, changes-same}
use Rattle.model_laws.proofs.Tallies.{count-set, one_of}
use Rattle.model_laws.proofs.Lists.{remove-same}
use Rattle.model_laws.proofs.Mapping.{unlinks, elements-retired}
use Rattle.model_laws.proofs.Listing.{named-kept, between-more, between-one, between-other, more-none, more-one}
use Rattle.model_laws.proofs.ViewedWorlds.{Here, here, Turns, turned-world, key-refusal-is, refuses, stays-half, half-simulates}

-- births below n have the same map slots
abbrev pub Renames : List ℕ → List ℕ → ℕ → Type 0
Renames slots names births = (n : ℕ) → n < births → slice_index names n ≡ slice_index slots n

-- the elements after a key left map k, and what of the view stands for them
pub record Drops (slots : List ℕ) (k : ℕ) (store : Store) (opened : List Section) (q : Queues) (v new : MapView) (key : List ℕ) (o : Option ℕ) : Type 0 where
  pub found : Option ℕ
  pub looks : LooksUp store k key found
  pub shown : is_some o ≡ is_some found
  pub left : List Element
  pub left_is : left ≡ unlinked opened store.elements found
  pub result : Removes found opened (delete_result o) store (with_elements left store)
  pub long : length left ≡ length store.elements
  pub changes : Changes k slots slots store.elements left
  pub given : count_by (λ e. is_reclaimed e.life) left ≡ count_by (λ e. is_reclaimed e.life) store.elements
  pub lists : (more : List Element) (names : List ℕ) → Renames slots names (length store.elements) →
      lists_of new ≡ named names (retired_in k store.elements (left ++ more) q)
  pub others : (j : ℕ) → j ≢ k → (more : List Element) → unlinked_between j 0 store.elements (left ++ more) ≡ []
  pub state : map_state_of new ≡ map_state_of v
  pub free : new.free ≡ v.free
  pub slots_stand : SlotsStand new
  pub elements : ElementsStand slots k left new
  pub absent : get new.index key ≡ None

reclaimed-same : (es : List Element) (n : ℕ) (e : Element) (opened : List Section) → slice_get es n ≡ Some e →
    e.life ≡ Linked → count_by (λ x. is_reclaimed x.life) (slice_set es n (with_life (Unlinked opened) e)) ≡ count_by
    (λ x. is_reclaimed x.life) es
reclaimed-same es n e opened at life =
    let a = count-set (λ (x : Element). is_reclaimed x.life) es n e (with_life (Unlinked opened) e) at in
    let b : one_of (is_reclaimed e.life) ≡ 0 = ap (λ l. one_of (is_reclaimed l)) life in
    omega arith

module _ (slots : List ℕ) (k : ℕ) (store : Store) (opened : List Section) (q : Queues) (v : MapView) (key : List ℕ)
    (s : ElementsStand slots k store.elements v) (free : SlotsStand v)
    (lists : (names : List ℕ) → Renames slots names (length store.elements) → lists_of v ≡ named names q) where
  drops-none : get v.index key ≡ None → Drops slots k store opened q v v key None
  drops-none h = record {
    found = None;
    looks = λ n g. none-some (slice_index slots n) (sym h ∙ s.finds key n g);
    shown = refl;
    left = store.elements;
    left_is = refl;
    result = (refl, refl);
    long = refl;
    changes = changes-same k slots store.elements;
    given = refl;
    lists = λ more names same. lists names same ∙ ap (named names)
        (sym (more-none k store.elements (store.elements ++ more) q (between-more k 0 store.elements more)));
    others = λ j ne more. between-more j 0 store.elements more;
    state = refl;
    free = refl;
    slots_stand = free;
    elements = s;
    absent = h;
  }

  drops-some : (n : ℕ) → (h : IsLinkedAt store.elements k key n) →
      Drops slots k store opened q v (retired_slot v key (Some (slice_index slots n))) key
      (Some (slice_index slots n))
  drops-some n h =
      let left : List Element = slice_set store.elements n (with_life (Unlinked opened) h.element) in
      let is : left ≡ unlinked opened store.elements (Some n) = ap (set_to (with_life (Unlinked opened)) store.elements n) (sym h.born) in
      record {
        found = Some n;
        looks = h;
        shown = refl;
        left = left;
        left_is = is;
        result = (refl, ap (λ es. with_elements es store) is);
        long = length-set store.elements n _;
        changes = unlinks slots k store.elements v key n opened s h;
        given = reclaimed-same store.elements n h.element opened h.born h.linked;
        lists = λ more names same.
            let zero_plus : n ≡ 0 + n = omega arith in
            ap (λ (l : Queues). let z : Queues = record {
              next = l.next ++ slice_index slots n ∷ [];
              waiting =
                  l.waiting;
              ready = l.ready;
            } in z) (lists names same)
            ∙ (ap (λ j. let z : Queues = record {
              next = map (slice_index names) q.next ++ j ∷ [];
              waiting =
                  map (slice_index names) q.waiting;
              ready = map (slice_index names) q.ready;
            } in z)
            (sym (same n (slice_get_within store.elements n h.element h.born)))
            ∙ sym (more-one k n names store.elements (left ++ more) q
            (between-one k 0 store.elements more n n h.element opened h.born h.linked h.in_map zero_plus)));
        others = λ j ne more. between-other j 0 store.elements more n h.element (Unlinked opened) h.born (λ e. ne (sym e ∙ h.in_map));
        state = refl;
        free = refl;
        slots_stand = record { room = free.room; once = free.once; inside = free.inside };
        elements = elements-retired slots k store.elements v key n opened s h;
        absent = remove-same v.index key;
      }

  drops-at : (o : Option ℕ) → get v.index key ≡ o → Drops slots k store opened q v (retired_slot v key o) key o
  drops-at None h = drops-none h
  drops-at (Some i) h =
      let x = s.found key i h in
      subst (λ j. Drops slots k store opened q v (retired_slot v key (Some j)) key (Some j)) x.2 (drops-some x.0 x.1)

  pub drops : Drops slots k store opened q v (retired_key v key) key (get v.index key)
  drops = drops-at (get v.index key) refl

-- a map of a world that stands
module _ (w : WorldView) (s : Schedule) (x : RefinesSchedule w s) (i : IsScheduled s) (k : ℕ) (v : MapView)
    (at : slice_get w.maps k ≡ Some v) (key : List ℕ) where
  abbrev pub h : Here w s x k v
  h = here w s x k v at

  abbrev pub Dropped : Type 0
  Dropped = Drops x.slots k s.machine.store (open_sections s.machine.runs) h.lists v (retired_key v key) key (get v.index key)

  pub drop : Dropped
  drop = drops x.slots k s.machine.store (open_sections s.machine.runs) h.lists v key h.stands.elements h.stands.free
      (λ names same. h.stands.lists ∙ named-kept s i k h.lists h.listed x.slots names same)

  -- the lists of the next schedule, whatever else is born
  pub lists-left : (d : Dropped) (more : List Element) (names : List ℕ) →
      Renames x.slots names (length s.machine.store.elements) → (q : Queues) →
      slice_get (retired 0 s.machine.store.elements (d.left ++ more) s.queues) k ≡ Some q →
      lists_of (retired_key v key) ≡ named names q
  lists-left d more names same q g =
      let b = retired-back s.machine.store.elements (d.left ++ more) s.queues k q g in
      let one : h.lists ≡ b.0 = same_Some h.lists b.0 (sym h.listed ∙ b.1) in
      d.lists more names same ∙ ap (named names) (ap (retired_in k s.machine.store.elements (d.left ++ more)) one ∙ b.2)

  pub lists-others : (d : Dropped) (more : List Element) (j : ℕ) (q : Queues) → j ≢ k →
      slice_get (retired 0 s.machine.store.elements (d.left ++ more) s.queues) j ≡ Some q →
      slice_get s.queues j ≡ Some q
  lists-others d more j q ne g =
      let b = retired-back s.machine.store.elements (d.left ++ more) s.queues j q g in
      b.1 ∙ ap Some (sym (more-none j s.machine.store.elements (d.left ++ more) b.0 (d.others j ne more)) ∙ b.2)

  -- what a delete does to the store
  pub deletes-by : (d : Dropped) (kind : MapKind) → v.shape.kind ≡ kind →
      (ret : Result (Unit {0}) Errno) (new : Store) → RemovesFrom kind d.found (open_sections s.machine.runs) ret
      s.machine.store new → Deletes s.machine.store (open_sections s.machine.runs) k key ret new
  deletes-by d kind is ret new r = record {
    state = h.state;
    there = h.there;
    found = d.found;
    lookup = d.looks;
    removed = subst (λ j. RemovesFrom j d.found (open_sections s.machine.runs) ret s.machine.store new)
        (sym (ap (λ (m : MapState). m.shape.kind) h.stands.state ∙ is)) r;
  }

  -- a delete from a hash map
  module _ (d : Dropped) where
    abbrev after : Store
    after = with_elements d.left s.machine.store

    abbrev queues : List Queues
    queues = retired 0 s.machine.store.elements d.left s.queues

    plain : (j : ℕ) (q : Queues) → slice_get queues j ≡ Some q → slice_get (retired 0 s.machine.store.elements (d.left ++ []) s.queues) j ≡ Some q
    plain j q g = ap (λ l. slice_get (retired 0 s.machine.store.elements l s.queues) j) (append-nil d.left) ∙ g

    pub turns : Turns w s x k (retired_key v key) after queues
    turns = record {
      names = x.slots;
      births = x.named ∙ sym d.long;
      changes = d.changes;
      maps = refl;
      others = λ j ne. refl;
      queued = length-retired s.machine.store.elements d.left s.queues 0;
      lists = λ j q ne g. lists-others d [] j q ne (plain j q g);
      stands = λ m q there g. record {
        state = same_Some m h.state (sym there ∙ h.there) ∙ (h.stands.state ∙ sym d.state);
        lists = lists-left d [] x.slots (λ n less. refl) q (plain k q g);
        free = d.slots_stand;
        elements = d.elements;
      };
    }

    deletes : v.shape.kind ≡ Hash → Deletes s.machine.store (open_sections s.machine.runs) k key (delete_result (get v.index key)) after
    deletes kind = deletes-by d Hash kind (delete_result (get v.index key)) after d.result

    pub deletes-half : v.shape.kind ≡ Hash → DeletesHalf (with_map k (retired_key v key) w) s k key (delete_result (get v.index key))
    deletes-half kind = record {
      store = after;
      changes = deletes kind;
      oldest =
          oldest-none s.machine.store after d.long;
      refines =
          turned-world w s x i k (retired_key v key) after queues s.awaited w.given turns refl (x.given ∙ sym d.given);
    }

module _ (w : WorldView) (s : Schedule) (sim : Matches w s) (k : ℕ) (v : MapView) (key : List ℕ) (at : slice_get w.maps k ≡ Some v) where
  dropped : Dropped w s sim.refines sim.scheduled k v at key
  dropped = drop w s sim.refines sim.scheduled k v at key

  half-by : (kind : MapKind) → v.shape.kind ≡ kind → DeletesHalf (with_map k (deleted_from kind v key).1 w) s k key (deleted_from kind v key).0
  half-by Hash is = deletes-half w s sim.refines sim.scheduled k v at key dropped is
  half-by Array is = stays-half w s sim.refines sim.scheduled k v at
      (Deletes s.machine.store (open_sections s.machine.runs) k key (Err InvalidArgument))
      (deletes-by w s sim.refines sim.scheduled k v at key dropped Array is (Err InvalidArgument) s.machine.store
      (refl, refl))

  pub delete_half : DeletesHalf (with_map k (deleted v key).1 w) s k key (deleted v key).0
  delete_half = half-by v.shape.kind refl

module _ (w : WorldView) (s : Schedule) (sim : Matches w s) (k : ℕ) (key : ArrayVec ℕ) where
  deletes-at : (v : MapView) → slice_get w.maps k ≡ Some v → refusal s.machine (events.Delete k key) ≡ None →
      Simulates s (events.Delete k key) (Ret (deleted v key.items).0, with_map k (deleted v key.items).1 w)
  deletes-at v at pass =
      let event = events.Delete k key in
      let new : WorldView = with_map k (deleted v key.items).1 w in
      let ret = (deleted v key.items).0 in
      let h : DeletesHalf new s k key.items ret = delete_half w s sim k v key.items at in
      half-simulates w s sim.refines sim.scheduled new event (Ret ret) (Deletes s.machine.store (open_sections s.machine.runs) k key.items ret) h (record {
        step = subst (λ z. Answers z s.machine event (Ret ret) (with_store s.machine h.store)) (sym pass) (h.store, h.changes, refl);
        first = tt;
        oldest = h.oldest;
        lists = refl;
      })

  delete-cases : (r : Option EventRefusal) (o : Option MapView) →
      key_refusal (shape_shown (slice_get w.maps k)) (length key.items) ≡ r → slice_get w.maps k ≡ o →
      Simulates s (events.Delete k key) (delete_at r o w k key.items)
  delete-cases (Some r) o e at = record {
    next = s;
    does =
        refuses w s sim.refines sim.scheduled r (events.Delete k key)
        (key-refusal-is w s sim.refines k (length key.items) (Some r) e);
    matches = sim;
  }
  delete-cases None None e at = absurd (none-some NoMap (sym e ∙ ap (λ z. key_refusal (shape_shown z) (length key.items)) at))
  delete-cases None (Some v) e at = deletes-at v at (key-refusal-is w s sim.refines k (length key.items) None e)

  pub delete_simulates : Simulates s (events.Delete k key) (delete_reaction w k key.items)
  delete_simulates = delete-cases (key_refusal (shape_shown (slice_get w.maps k)) (length key.items)) (slice_get w.maps k) refl refl
