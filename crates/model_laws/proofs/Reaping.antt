-- What a world makes of a reap is a step of the schedule.
use Rattle.bpf_model.proofs.Prelude.{◌≡◌, ◌∙◌, ℕ, suc, ◌+◌, ◌<◌, ◌≤◌, List, [], ◌∷◌, map, drop, length, Some, None, ◌⊎◌, inl, inr, refl, sym, ap, arith}
use Rattle.bpf_model.proofs.Prelude.{subst, slice_get, slice_set, slice_index, count_by, cases_eq, same_Some, slice_get_within, map-append, length-set}
use Rattle.bpf_model.proofs.Prelude.{Element, Reclaimed, is_reclaimed, with_life, MapState, Store, with_given, given_of, returned, Reclaims, open_sections}
use Rattle.bpf_model.proofs.Prelude.{with_store, Queues, Schedule, or_first, first_ready, without_first, DoesScheduled, MapView, WorldView, uses_in, uses_at}
use Rattle.bpf_model.proofs.Prelude.{map_state_of, key_in, times, slot_view, IsElementKept, lists_of, named, SlotsStand, MapRefines, RefinesSchedule}
use Rattle.bpf_model.proofs.Prelude.{oldest-none, none-without, get-set_other, get-set_there}
use Rattle.model_laws.proofs.Prelude.{Given, Free, Worn, IsScheduled, slot_given_back, given_at, reaped_view, Pick, or_pick, first_pick, reap_by}
use Rattle.model_laws.proofs.Prelude.{reap_reaction, Matches, Simulates}
use Rattle.bpf_model.specs.declared.event.Event.TheVariants as events
use Rattle.model_laws.proofs.Counting.{times-first, times-other, times-append, shortened, FirstIndex, index-later, index-here, length-without}
use Rattle.model_laws.proofs.Queueing.{Queued, queued-of}
use Rattle.model_laws.specs.Reactions.{with_reaped}
use Rattle.model_laws.proofs.Tallies.{count-set, one_of}
use Rattle.model_laws.proofs.Mapping.{reclaims, elements-given}
use Rattle.model_laws.proofs.ViewedWorlds.{Here, here, Turns, turned-world, steps}

-- What a reap picks: the same in the views of maps, the first of which is map k, and in their lists.
record Picked (slots : List ℕ) (k : ℕ) (vs : List MapView) (qs : List Queues) : Type 0 where
  pub pick : Pick
  pub n : ℕ
  pub index : FirstIndex qs n
  pub is : first_pick k vs ≡ Some pick
  pub number : pick.map ≡ k + index.map_at
  pub at : slice_get vs index.map_at ≡ Some pick.view
  pub slot : slice_index slots n ≡ pick.slot
  pub first : first_ready qs ≡ Some n

abbrev AreReady : List ℕ → List MapView → List Queues → Type 0
AreReady slots vs qs = (j : ℕ) (v : MapView) (q : Queues) → slice_get vs j ≡ Some v → slice_get qs j ≡ Some q → v.ready ≡ map (slice_index slots) q.ready

module _ (slots : List ℕ) where
  pick-later : (k : ℕ) (v : MapView) (q : Queues) (vs : List MapView) (qs : List Queues) → v.ready ≡ [] → q.ready ≡ [] →
      ((first_pick (suc k) vs ≡ None) × (first_ready qs ≡ None)) ⊎ Picked slots (suc k) vs qs →
      ((first_pick k (v ∷ vs) ≡ None) × (first_ready (q ∷ qs) ≡ None)) ⊎ Picked slots k (v ∷ vs) (q ∷ qs)
  pick-later k v q vs qs a b (inl x) = inl (ap (λ l. or_pick l k v (first_pick (suc k) vs)) a ∙ x.0, ap (λ l. or_first l (first_ready qs)) b ∙ x.1)
  pick-later k v q vs qs a b (inr p) = inr (record {
    pick = p.pick;
    n = p.n;
    index = index-later q qs p.n b p.index;
    is = ap (λ l. or_pick l k v (first_pick (suc k) vs)) a ∙ p.is;
    number = (let z : p.pick.map ≡ suc k + p.index.map_at = p.number in let y : p.pick.map ≡ k + suc p.index.map_at = omega arith in y);
    at = p.at;
    slot = p.slot;
    first = ap (λ l. or_first l (first_ready qs)) b ∙ p.first;
  })

  pick-here : (k : ℕ) (v : MapView) (q : Queues) (vs : List MapView) (qs : List Queues) (n : ℕ) (rest : List ℕ) →
      v.ready ≡ map (slice_index slots) q.ready → q.ready ≡ n ∷ rest → Picked slots k (v ∷ vs) (q ∷ qs)
  pick-here k v q vs qs n rest same b = record {
    pick = record { map = k; view = v; slot = slice_index slots n };
    n = n;
    index = index-here q qs n rest b;
    is = ap (λ l. or_pick l k v (first_pick (suc k) vs)) (same ∙ ap (map (slice_index slots)) b);
    number = (let z : k ≡ k + 0 = omega arith in z);
    at = refl;
    slot = refl;
    first = ap (λ l. or_first l (first_ready qs)) b;
  }

  picks-at : (k : ℕ) (v : MapView) (q : Queues) (vs : List MapView) (qs : List Queues) (ready : List ℕ) →
      q.ready ≡ ready → v.ready ≡ map (slice_index slots) q.ready →
      ((first_pick (suc k) vs ≡ None) × (first_ready qs ≡ None)) ⊎ Picked slots (suc k) vs qs →
      ((first_pick k (v ∷ vs) ≡ None) × (first_ready (q ∷ qs) ≡ None)) ⊎ Picked slots k (v ∷ vs) (q ∷ qs)
  picks-at k v q vs qs [] e same more = pick-later k v q vs qs (same ∙ ap (map (slice_index slots)) e) e more
  picks-at k v q vs qs (n ∷ rest) e same more = inr (pick-here k v q vs qs n rest same e)

  picks : (k : ℕ) (vs : List MapView) (qs : List Queues) → length vs ≡ length qs → AreReady slots vs qs →
      ((first_pick k vs ≡ None) × (first_ready qs ≡ None)) ⊎ Picked slots k vs qs
  picks k [] [] l h = inl (refl, refl)
  picks k [] (q ∷ qs) l h = absurd (omega arith)
  picks k (v ∷ vs) [] l h = absurd (omega arith)
  picks k (v ∷ vs) (q ∷ qs) l h = picks-at k v q vs qs q.ready refl (h 0 v q refl refl) (picks (suc k) vs qs (omega arith) (λ j u p a b. h (suc j) u p a b))

-- a map slot that is given back
slots-given : (v : MapView) (i : ℕ) (g : Given) → SlotsStand v → i < length v.slots → times i v.free ≡ 0 → SlotsStand (slot_given_back g i v)
slots-given v i Worn s less none = record { room = s.room; once = s.once; inside = s.inside }
slots-given v i Free s less none = record {
  room = s.room;
  once = λ x. let a = times-append x v.free (i ∷ []) in elim (cases_eq i x) [
    | inl y ↦ let t : times x (i ∷ []) ≡ 1 + times x [] = times-first x i [] y in let n : times x [] ≡ 0 =
        refl in let z : times x v.free ≡ 0 = subst (λ j. times j v.free ≡ 0) y none in omega arith
    | inr ne ↦ let t : times x (i ∷ []) ≡ 0 = times-other x i [] ne in let o : times x v.free ≤ 1 = s.once x in omega arith
  ];
  inside = λ x h. let a = times-append x v.free (i ∷ []) in elim (cases_eq i x) [
    | inl y ↦ subst (λ j. j < length v.slots) y less
    | inr ne ↦ let t : times x (i ∷ []) ≡ 0 = times-other x i [] ne in s.inside x (omega arith)
  ];
}

state-given : (v : MapView) (i : ℕ) (g : Given) → with_given g (uses_at v.slots i) (map_state_of v) ≡ map_state_of (slot_given_back g i v)
state-given v i Worn = refl
state-given v i Free = ap (λ l. let z : MapState = record { shape = v.shape; bag = l; worn = v.worn } in z) (sym (map-append (uses_at v.slots) v.free (i ∷ [])))

lists-given : (v : MapView) (i : ℕ) (g : Given) → lists_of (slot_given_back g i v) ≡ record { next = v.next; waiting = v.waiting; ready = drop 1 v.ready }
lists-given v i Free = refl
lists-given v i Worn = refl

module _ (w : WorldView) (s : Schedule) (x : RefinesSchedule w s) (i : IsScheduled s) (k : ℕ) (v : MapView)
    (at : slice_get w.maps k ≡ Some v) (q : Queues) (listed : slice_get s.queues k ≡ Some q) (n : ℕ) (rest : List ℕ)
    (ready : q.ready ≡ n ∷ rest)
    (first : first_ready s.queues ≡ Some n) (without : without_first s.queues ≡ slice_set s.queues k (shortened rest q)) where
  abbrev es : List Element
  es = s.machine.store.elements

  h : Here w s x k v
  h = here w s x k v at

  is-ready : 0 < times n q.ready
  is-ready = let t : times n q.ready ≡ 1 + times n rest = ap (times n) ready ∙ times-first n n rest refl in omega arith

  abbrev Taken : Type 0
  Taken = Queued es k n

  taken : Taken
  taken = let t = is-ready in queued-of s k n q i listed (omega arith)

  module _ (e : Taken) where
    abbrev slot : ℕ
    slot = slice_index x.slots n

    kept : IsElementKept es k n e.element
    kept = record { born = e.born; in_map = e.in_map; kept = ap is_reclaimed e.life }

    stored : slice_get v.slots slot ≡ Some (slot_view e.element)
    stored = h.stands.elements.occupied n e.element kept

    uses-is : e.element.uses ≡ uses_at v.slots slot
    uses-is = ap uses_in (sym stored)

    abbrev state : MapState
    state = with_given (given_at v slot) (uses_at v.slots slot) (map_state_of v)

    abbrev after : Store
    after = record { elements = slice_set es n (with_life Reclaimed e.element); maps = slice_set s.machine.store.maps k state }

    abbrev next : Schedule
    next = record { machine = with_store s.machine after; queues = without_first s.queues; awaited = s.awaited }

    reclaimed : Reclaims s.machine.store (open_sections s.machine.runs) n e.element (given_at v slot) after
    reclaimed = record {
      state = h.state;
      since = e.since;
      born = e.born;
      unlinked = e.life;
      ended = (i.waits k q listed).ended n e.element e.since is-ready e.born e.life;
      there = ap (slice_get s.machine.store.maps) e.in_map ∙ h.there;
      given_is = λ j. given_of (sym uses-is j) (sym h.stands.state j);
      new_is = λ j. record {
        elements = slice_set es n (with_life Reclaimed e.element);
        maps =
            slice_set s.machine.store.maps (sym e.in_map j) (returned (sym uses-is j) (sym h.stands.state j));
      };
    }

    same-lists : h.lists ≡ q
    same-lists = same_Some h.lists q (sym h.listed ∙ listed)

    lists-left : lists_of (reaped_view v slot) ≡ named x.slots (shortened rest q)
    lists-left =
        let l : lists_of v ≡ named x.slots q = h.stands.lists ∙ ap (named x.slots) same-lists in
        lists-given v slot (given_at v slot)
        ∙ (ap (λ (z : Queues). let y : Queues = record { next = z.next; waiting = z.waiting; ready = drop 1 z.ready } in y) l
        ∙ ap (λ r. let y : Queues = record {
          next = map (slice_index x.slots) q.next;
          waiting =
              map (slice_index x.slots) q.waiting;
          ready = drop 1 (map (slice_index x.slots) r);
        } in y) ready)

    stands : (m : MapState) (p : Queues) → slice_get after.maps k ≡ Some m → slice_get next.queues k ≡ Some p →
        MapRefines x.slots k after.elements p (reaped_view v slot) m
    stands m p there g = record {
      state = same_Some m state (sym there ∙ get-set_there s.machine.store.maps k h.state state h.there) ∙ state-given v slot (given_at v slot);
      lists = lists-left ∙ ap (named x.slots) (same_Some (shortened rest q) p
          (sym (get-set_there s.queues k q (shortened rest q) listed) ∙ (ap (λ l. slice_get l k) (sym without) ∙ g)));
      free = slots-given v slot (given_at v slot) h.stands.free
          (slice_get_within v.slots slot (slot_view e.element) stored) (h.stands.elements.apart n e.element kept);
      elements = elements-given x.slots k es v n e.element e.since h.stands.elements e.born e.life e.in_map (given_at v slot);
    }

    turns : Turns w s x k (reaped_view v slot) after next.queues
    turns = record {
      names = x.slots;
      births = x.named ∙ sym (length-set es n _);
      changes = reclaims x.slots k es v n e.element e.since h.stands.elements e.born e.life e.in_map;
      maps = length-set s.machine.store.maps k state;
      others = λ j ne. get-set_other s.machine.store.maps k j state ne;
      queued = length-without s.queues;
      lists = λ j p ne g. sym (get-set_other s.queues k j (shortened rest q) ne) ∙ (ap (λ l. slice_get l j) (sym without) ∙ g);
      stands = stands;
    }

    given-more : w.given + 1 ≡ count_by (λ e. is_reclaimed e.life) after.elements
    given-more =
        let a = count-set (λ (z : Element). is_reclaimed z.life) es n e.element (with_life Reclaimed e.element) e.born in
        let b : one_of (is_reclaimed e.element.life) ≡ 0 = ap (λ l. one_of (is_reclaimed l)) e.life in
        let c : w.given ≡ count_by (λ e. is_reclaimed e.life) es = x.given in
        omega arith

    abbrev pick : Pick
    pick = record { map = k; view = v; slot = slot }

    does : DoesScheduled s events.Reap (reap_by (Some pick) w).0 next
    does = record {
      step = (n, e.element, after, reclaimed, sym e.in_map, ap key_in stored, refl);
      first = (n, e.since, first, (e.element, e.born, e.life), (with_life Reclaimed e.element, get-set_there es n e.element _ e.born, refl));
      oldest = oldest-none s.machine.store after (length-set es n _);
      lists = refl;
    }

    pub takes : Simulates s events.Reap (reap_by (Some pick) w)
    takes = record {
      next = next;
      does = does;
      matches = steps (with_reaped pick w) s next events.Reap (reap_by (Some pick) w).0 i does
          (turned-world w s x i k (reaped_view v slot) after next.queues s.awaited (w.given + 1) turns refl
          given-more);
    }

module _ (w : WorldView) (s : Schedule) (sim : Matches w s) where
  abbrev x : RefinesSchedule w s
  x = sim.refines

  are-ready : AreReady x.slots w.maps s.queues
  are-ready j v q at listed =
      let h = here w s x j v at in
      ap (λ (z : Queues). z.ready) h.stands.lists ∙ ap (λ (z : Queues). map (slice_index x.slots) z.ready) (same_Some h.lists q (sym h.listed ∙ listed))

  finds-none : first_pick 0 w.maps ≡ None → first_ready s.queues ≡ None → Simulates s events.Reap (reap_by (first_pick 0 w.maps) w)
  finds-none a b = subst (λ o. Simulates s events.Reap (reap_by o w)) (sym a) (record {
    next = s;
    does = record {
      step = refl;
      first = b;
      oldest = oldest-none s.machine.store s.machine.store refl;
      lists = λ j.
          record { machine = s.machine; queues = sym (none-without s.queues b) j; awaited = s.awaited };
    };
    matches = sim;
  })

  finds-one : Picked x.slots 0 w.maps s.queues → Simulates s events.Reap (reap_by (first_pick 0 w.maps) w)
  finds-one p =
      let number : p.pick.map ≡ p.index.map_at = p.number ∙ (let z : 0 + p.index.map_at ≡ p.index.map_at = omega arith in z) in
      let same : p.pick ≡ record { map = p.index.map_at; view = p.pick.view; slot = slice_index x.slots p.n } = λ j.
      record { map = number j; view = p.pick.view; slot = sym p.slot j } in
      subst (λ o. Simulates s events.Reap (reap_by o w)) (sym (p.is ∙ ap Some same))
      (takes w s x sim.scheduled p.index.map_at p.pick.view p.at p.index.lists p.index.there p.n p.index.rest
      p.index.ready_is p.first p.index.without (taken w s x sim.scheduled p.index.map_at p.pick.view p.at
      p.index.lists p.index.there p.n p.index.rest p.index.ready_is p.first p.index.without))

  pub reap_simulates : Simulates s events.Reap (reap_reaction w)
  reap_simulates = elim (picks x.slots 0 w.maps s.queues (x.maps.0 ∙ sym x.maps.1) are-ready) [
    | inl y ↦ finds-none y.0 y.1
    | inr p ↦ finds-one p
  ]
