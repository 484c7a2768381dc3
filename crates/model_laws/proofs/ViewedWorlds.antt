-- A world stands for the schedule after a change of one map.
use Rattle.bpf_model.proofs.Prelude.{◌≡◌, ◌≢◌, ◌∙◌, ℕ, suc, ◌<◌, List, [], ◌∷◌, map, length, Option, Some, None, inl, inr, refl, sym, ap, arith, Bool, subst}
use Rattle.bpf_model.proofs.Prelude.{slice_get, slice_set, count_by, none-some, same_Some, slice_get_within, option_cases, oldest-none, Element, is_reclaimed}
use Rattle.bpf_model.proofs.Prelude.{MapState, Store, shape_in, shape_of, with_store, Answers, key_refusal, refusal, Queues, Schedule, open_flags, still_open}
use Rattle.bpf_model.proofs.Prelude.{retired, scheduled, TakesFirst, DoesScheduled, MapView, WorldView, MapRefines, RefinesSchedule, length-set, get-below}
use Rattle.bpf_model.proofs.Prelude.{get-set_cases, set-same}
use Rattle.model_laws.proofs.Prelude.{Event, Answer, Refused, EventRefusal, IsScheduled, shape_shown, with_map, Matches, Simulates, half, ChangesHalf}
use Rattle.bpf_model.specs.declared.event.Event.TheVariants as events
use Rattle.model_laws.proofs.Scheduling.{stays_scheduled}
use Rattle.model_laws.proofs.ViewsChanging.{Changes}
use Rattle.model_laws.proofs.Mapping.{elements-other}
use Rattle.model_laws.proofs.Wording.{slot-kept}
use Rattle.model_laws.proofs.Listing.{named-kept, between-same, still-same, more-none}

-- what stands at a map's number
pub record Here (w : WorldView) (s : Schedule) (x : RefinesSchedule w s) (k : ℕ) (v : MapView) : Type 0 where
  pub state : MapState
  pub lists : Queues
  pub there : slice_get s.machine.store.maps k ≡ Some state
  pub listed : slice_get s.queues k ≡ Some lists
  pub stands : MapRefines x.slots k s.machine.store.elements lists v state

pub here : (w : WorldView) (s : Schedule) (x : RefinesSchedule w s) (k : ℕ) (v : MapView) → slice_get w.maps k ≡ Some v → Here w s x k v
here w s x k v at =
    let within : k < length w.maps = slice_get_within w.maps k v at in
    let a : length w.maps ≡ length s.machine.store.maps = x.maps.0 in
    let b : length s.queues ≡ length s.machine.store.maps = x.maps.1 in
    let m = get-below s.machine.store.maps k (omega arith) in
    let q = get-below s.queues k (omega arith) in
    record { state = m.0; lists = q.0; there = m.1; listed = q.1; stands = x.map k v m.0 q.0 at m.1 q.1 }

-- the shape that a view shows is the machine's
pub shapes-agree : (w : WorldView) (s : Schedule) → RefinesSchedule w s → (k : ℕ) → shape_of s.machine.store k ≡ shape_shown (slice_get w.maps k)
shapes-agree w s x k = elim (option_cases (slice_get w.maps k)) [
  | inl none ↦ ap shape_in (none-there (slice_get s.machine.store.maps k) refl none) ∙ sym (ap shape_shown none)
  | inr some ↦
      let h = here w s x k some.0 some.1 in
      ap shape_in h.there ∙ (ap (λ (m : MapState). Some m.shape) h.stands.state ∙ sym (ap shape_shown some.1))
]
  where
    none-there : (o : Option MapState) → slice_get s.machine.store.maps k ≡ o → slice_get w.maps k ≡ None → slice_get s.machine.store.maps k ≡ None
    none-there None at none = at
    none-there (Some m) at none =
        let within : k < length s.machine.store.maps = slice_get_within s.machine.store.maps k m at in
        let a : length w.maps ≡ length s.machine.store.maps = x.maps.0 in
        let v = get-below w.maps k (omega arith) in
        absurd (none-some v.0 (sym none ∙ v.1))

-- A read and a delete are refused by the shape that the view shows.
pub key-refusal-is : (w : WorldView) (s : Schedule) → RefinesSchedule w s → (k len : ℕ) (r : Option EventRefusal) →
    key_refusal (shape_shown (slice_get w.maps k)) len ≡ r → key_refusal (shape_of s.machine.store k) len ≡ r
key-refusal-is w s x k len r e = ap (λ shape. key_refusal shape len) (shapes-agree w s x k) ∙ e

-- the awaited flags stay where the runs do
pub awaited-same : (w : WorldView) (s : Schedule) → RefinesSchedule w s → IsScheduled s → still_open s.awaited (open_flags s.machine.runs) ≡ s.awaited
awaited-same w s x i = still-same s.awaited (open_flags s.machine.runs) x.flags i.awaited

pub retired-same : (k : ℕ) (es : List Element) (qs : List Queues) → retired k es es qs ≡ qs
retired-same k es [] = refl
retired-same k es (q ∷ qs) = ap (λ x. x ∷ retired (suc k) es es qs) (more-none k es es q (between-same k 0 es)) ∙ ap (λ l. q ∷ l) (retired-same (suc k) es qs)

-- the schedule where nothing changed
pub unchanged : (w : WorldView) (s : Schedule) → RefinesSchedule w s → IsScheduled s →
    s ≡ record {
      machine = s.machine;
      queues = retired 0 s.machine.store.elements s.machine.store.elements s.queues;
      awaited = still_open s.awaited (open_flags s.machine.runs);
    }
unchanged w s x i = λ j. record {
  machine = s.machine;
  queues =
      sym (retired-same 0 s.machine.store.elements s.queues) j;
  awaited = sym (awaited-same w s x i) j;
}

-- a refused event changes nothing
module _ (w : WorldView) (s : Schedule) (x : RefinesSchedule w s) (i : IsScheduled s) (r : EventRefusal) where
  refuses-at : (o : Option EventRefusal) (event : Event) → o ≡ Some r → Answers o s.machine event (Refused r) s.machine
  refuses-at None event h = absurd (none-some r h)
  refuses-at (Some k) event h = (ap Refused (sym (same_Some k r h)), refl)

  refused : (event : Event) → refusal s.machine event ≡ Some r → TakesFirst s event (Refused r) s.machine →
      s ≡ scheduled s event s.machine → DoesScheduled s event (Refused r) s
  refused event h first lists = record {
    step = refuses-at (refusal s.machine event) event h;
    first = first;
    oldest =
        oldest-none s.machine.store s.machine.store refl;
    lists = lists;
  }

  pub refuses : (event : Event) → refusal s.machine event ≡ Some r → DoesScheduled s event (Refused r) s
  refuses (events.Start prog ctx) h = refused (events.Start prog ctx) h tt (unchanged w s x i)
  refuses (events.Step run) h = refused (events.Step run) h tt (unchanged w s x i)
  refuses (events.Update map key value flags) h = refused (events.Update map key value flags) h tt (unchanged w s x i)
  refuses (events.Delete map key) h = refused (events.Delete map key) h tt (unchanged w s x i)
  refuses (events.Read map key) h = refused (events.Read map key) h tt (unchanged w s x i)
  refuses events.Advance h = absurd (none-some r h)
  refuses events.Reap h = absurd (none-some r h)
  refuses (events.Drop run) h = refused (events.Drop run) h tt (unchanged w s x i)

-- one map changes, and its elements
pub record Turns (w : WorldView) (s : Schedule) (x : RefinesSchedule w s) (k : ℕ) (v : MapView) (store : Store) (queues : List Queues) : Type 0 where
  pub names : List ℕ
  pub births : length names ≡ length store.elements
  pub changes : Changes k x.slots names s.machine.store.elements store.elements
  pub maps : length store.maps ≡ length s.machine.store.maps
  pub others : (j : ℕ) → j ≢ k → slice_get store.maps j ≡ slice_get s.machine.store.maps j
  pub queued : length queues ≡ length s.queues
  pub lists : (j : ℕ) (q : Queues) → j ≢ k → slice_get queues j ≡ Some q → slice_get s.queues j ≡ Some q
  pub stands : (m : MapState) (q : Queues) → slice_get store.maps k ≡ Some m → slice_get queues k ≡ Some q → MapRefines names k store.elements q v m

pub turned-world : (w : WorldView) (s : Schedule) (x : RefinesSchedule w s) (i : IsScheduled s) (k : ℕ) (v : MapView)
    (store : Store) (queues : List Queues) (awaited : List Bool) (given : ℕ) → Turns w s x k v store queues →
    awaited ≡ s.awaited →
    given ≡ count_by (λ e. is_reclaimed e.life) store.elements →
    RefinesSchedule (record {
      names = w.names;
      maps = slice_set w.maps k v;
      runs = w.runs;
      opened = w.opened;
      awaited = w.awaited;
      programs = w.programs;
      given = given;
    })
    (record { machine = with_store s.machine store; queues = queues; awaited = awaited })
turned-world w s x i k v store queues awaited given t same given_is = record {
  slots = t.names;
  named = t.births;
  maps = (length-set w.maps k v ∙ (x.maps.0 ∙ sym t.maps), t.queued ∙ (x.maps.1 ∙ sym t.maps));
  map = λ j u m q at there listed. elim (get-set_cases w.maps k j v u at) [
    | inl y ↦ subst (λ z. MapRefines t.names j store.elements q z m) y.1
        (subst (λ z. MapRefines t.names z store.elements q v m) (sym y.0)
        (t.stands m q (ap (slice_get store.maps) (sym y.0) ∙ there) (ap (slice_get queues) (sym y.0) ∙ listed)))
    | inr y ↦
        let before = t.lists j q y.0 listed in
        let h = x.map j u m q y.1 (sym (t.others j y.0) ∙ there) before in
        record {
          state = h.state;
          lists = h.lists ∙ named-kept s i j q before x.slots t.names t.changes.named;
          free =
              h.free;
          elements = elements-other j k x.slots t.names s.machine.store.elements store.elements u t.changes
              y.0 h.elements;
        }
  ];
  runs = λ r. slot-kept k x.slots t.names s.machine.store.elements store.elements t.changes s.machine.programs
      (slice_get w.runs r) (slice_get s.machine.runs r)
      (λ run at. (λ q. i.consistent.registers r run q at, λ q. i.consistent.cells r run q at)) (x.runs r);
  opened = x.opened;
  awaited = x.awaited ∙ sym same;
  flags = ap length same ∙ x.flags;
  programs = x.programs;
  given = given_is;
}

-- a world that stands after a step is right after it
pub steps : (w : WorldView) (s t : Schedule) (event : Event) (answer : Answer) → IsScheduled s →
    DoesScheduled s event answer t → RefinesSchedule w t → Matches w t
steps w s t event answer i d x = record { refines = x; scheduled = stays_scheduled s t event answer i d }

module _ (w : WorldView) (s : Schedule) (x : RefinesSchedule w s) (i : IsScheduled s) where
  -- the first half of a step that leaves a map and the store as they are
  pub stays-half : (k : ℕ) (v : MapView) → slice_get w.maps k ≡ Some v → (Changes : Store → Type 0) →
      Changes s.machine.store → ChangesHalf (with_map k v w) s Changes
  stays-half k v at Changes h =
      let same : with_map k v w ≡ w = λ j. record {
        names = w.names;
        maps = set-same w.maps k v at j;
        runs = w.runs;
        opened = w.opened;
        awaited = w.awaited;
        programs = w.programs;
        given = w.given;
      } in
      record {
        store = s.machine.store;
        changes = h;
        oldest = oldest-none s.machine.store s.machine.store refl;
        refines = subst (λ z. RefinesSchedule z (half s s.machine.store)) (sym same)
            (subst (RefinesSchedule w) (λ j. record {
              machine = s.machine;
              queues =
                  sym (retired-same 0 s.machine.store.elements s.queues) j;
              awaited = s.awaited;
            }) x);
      }

  -- the schedule after an event that changes the store
  abbrev pub after-event : Store → Schedule
  after-event store = record {
    machine = with_store s.machine store;
    queues =
        retired 0 s.machine.store.elements store.elements s.queues;
    awaited =
        still_open s.awaited (open_flags s.machine.runs);
  }

  -- an event of which the first half is all
  pub half-simulates : (view : WorldView) (event : Event) (answer : Answer) (Changes : Store → Type 0)
      (h : ChangesHalf view s Changes) → DoesScheduled s event answer (after-event h.store) →
      Simulates s event (answer, view)
  half-simulates view event answer Changes h does =
      let later : half s h.store ≡ after-event h.store = λ j.
      record {
        machine = with_store s.machine h.store;
        queues =
            retired 0 s.machine.store.elements h.store.elements s.queues;
        awaited = sym (awaited-same w s x i) j;
      } in
      record {
        next = after-event h.store;
        does = does;
        matches =
            steps view s (after-event h.store) event answer i does (subst (RefinesSchedule view) later h.refines);
      }
