-- A reaction to an event is a step of each schedule that the world matches, and it keeps the names and the shapes of the maps and the programs.
use Rattle.bpf_model.proofs.Prelude.{◌≡◌, ◌∙◌, ℕ, suc, ◌+◌, List, [], ◌∷◌, map, length, Option, Some, None, refl, sym, ap, subst, arith, Bool, true, false}
use Rattle.bpf_model.proofs.Prelude.{◌≤◌, slice_get, slice_set, get, none-some, same_Some, Element, Loaded, Run, lowest_free, IsReal, if_ended, if_running}
use Rattle.bpf_model.proofs.Prelude.{step_refusal, drop_refusal, refusal, key_refusal, update_refusal, start_refusal, Schedule, is_any, AnswersAsScheduled}
use Rattle.bpf_model.proofs.Prelude.{MapView, RunView, WorldView, shapes_of, RunSlotRefines, TracksSchedule, map-set, set-same, option_flatten}
use Rattle.model_laws.proofs.Prelude.{Errno, Event, Answer, EventRefusal, MapKind, Hash, Array, Given, Free, Worn, retired_slot, retired_key, deleted_from}
use Rattle.model_laws.proofs.Prelude.{deleted, filled_from, overwritten_slot, written_by, updated_by, updated, shown_error, turned_view, slot_given_back}
use Rattle.model_laws.proofs.Prelude.{given_at, reaped_view, with_map, shape_shown, refused_as, delete_at, delete_reaction, update_at, update_reaction}
use Rattle.model_laws.proofs.Prelude.{read_at, read_reaction, advanced_by, advance_reaction, Pick, or_pick, first_pick, reap_by, reap_reaction, start_by}
use Rattle.model_laws.proofs.Prelude.{start_reaction, step_refused, drop_refused, drop_by, drop_reaction, step_by, reaction, Matches, Simulates}
use Rattle.bpf_model.specs.declared.event.Event.TheVariants as events
use Rattle.bpf_model.specs.View.{shape_of_view as shape}
use Rattle.model_laws.proofs.Reached.{tracked_is_scheduled}
use Rattle.model_laws.proofs.ViewedWorlds.{refuses}
use Rattle.model_laws.proofs.Deleting.{delete_simulates}
use Rattle.model_laws.proofs.Updating.{update_simulates}
use Rattle.model_laws.proofs.ViewsAdvancing.{advance_simulates}
use Rattle.model_laws.proofs.Reaping.{reap_simulates}
use Rattle.model_laws.proofs.Reading.{read_simulates}
use Rattle.model_laws.proofs.Running.{dropped_run}
use Rattle.model_laws.proofs.ViewsStarting.{start_simulates}
use Rattle.model_laws.proofs.Tracking.{simulates_tracks}

-- the refusals of a step and of a drop
step-refusal_is : (slots : List ℕ) (es : List Element) (programs : List Loaded) (v : Option (Option RunView))
    (run : Option (Option Run)) → RunSlotRefines slots es programs v run →
    step_refusal (option_flatten run) ≡ step_refused (option_flatten v)
step-refusal_is slots es programs None None h = refl
step-refusal_is slots es programs (Some None) (Some None) h = refl
step-refusal_is slots es programs (Some (Some v)) (Some (Some run)) h = ap if_ended (sym h.words.exit)
step-refusal_is slots es programs v run h = absurd h

drop-refusal_is : (slots : List ℕ) (es : List Element) (programs : List Loaded) (v : Option (Option RunView))
    (run : Option (Option Run)) → RunSlotRefines slots es programs v run →
    drop_refusal (option_flatten run) ≡ drop_refused (option_flatten v)
drop-refusal_is slots es programs None None h = refl
drop-refusal_is slots es programs (Some None) (Some None) h = refl
drop-refusal_is slots es programs (Some (Some v)) (Some (Some run)) h = ap if_running (sym h.words.exit)
drop-refusal_is slots es programs v run h = absurd h

module _ (w : WorldView) (s : Schedule) (m : Matches w s) where
  step-refused : (r : ℕ) (k : EventRefusal) → step_refused (option_flatten (slice_get w.runs r)) ≡ Some k → Simulates s (events.Step r) (refused_as k w)
  step-refused r k e = record {
    next = s;
    does = refuses w s m.refines m.scheduled k (events.Step r)
        (step-refusal_is m.refines.slots s.machine.store.elements s.machine.programs (slice_get w.runs r)
        (slice_get s.machine.runs r) (m.refines.runs r) ∙ e);
    matches = m;
  }

  step-by : (r : ℕ) (o : Option EventRefusal) → step_refused (option_flatten (slice_get w.runs r)) ≡ o →
      (x : Answer × WorldView) → step_by o w ≡ Some x → Simulates s (events.Step r) x
  step-by r (Some k) e x h = subst (Simulates s (events.Step r)) (same_Some (refused_as k w) x h) (step-refused r k e)
  step-by r None e x h = absurd (none-some x h)

  ended-shown : (o : Option (Option RunView)) → drop_refused (option_flatten o) ≡ None → (v : RunView) × (n : ℕ) × (o ≡ Some (Some v)) × (v.exit ≡ Some n)
  ended-shown None h = absurd (none-some _ (sym h))
  ended-shown (Some None) h = absurd (none-some _ (sym h))
  ended-shown (Some (Some v)) h = by v.exit refl h
    where
      by : (o : Option ℕ) → v.exit ≡ o → if_running o ≡ None → (u : RunView) × (n : ℕ) × (Some (Some v) ≡ Some (Some u)) × (u.exit ≡ Some n)
      by None e g = absurd (none-some _ (sym g))
      by (Some n) e g = (v, n, refl, e)

  pub drop_simulates : (r : ℕ) → Simulates s (events.Drop r) (drop_reaction w r)
  drop_simulates r = by (drop_refused (option_flatten (slice_get w.runs r))) refl
    where
      by : (o : Option EventRefusal) → drop_refused (option_flatten (slice_get w.runs r)) ≡ o → Simulates s (events.Drop r) (drop_by o w r)
      by (Some k) e = record {
        next = s;
        does = refuses w s m.refines m.scheduled k (events.Drop r)
            (drop-refusal_is m.refines.slots s.machine.store.elements s.machine.programs (slice_get w.runs r)
            (slice_get s.machine.runs r) (m.refines.runs r) ∙ e);
        matches = m;
      }
      by None e = let x = ended-shown (slice_get w.runs r) e in dropped_run w s m r x.1 x.0 x.2 x.3

  pub reaction_simulates : (event : Event) (x : Answer × WorldView) → reaction w event ≡ Some x → Simulates s event x
  reaction_simulates (events.Start prog ctx) x h = subst (Simulates s (events.Start prog ctx)) (same_Some _ x h) (start_simulates w s m prog ctx)
  reaction_simulates (events.Step r) x h = step-by r (step_refused (option_flatten (slice_get w.runs r))) refl x h
  reaction_simulates (events.Update map key value flags) x h =
      subst (Simulates s (events.Update map key value flags)) (same_Some _ x h)
      (update_simulates w s m map key value flags)
  reaction_simulates (events.Delete map key) x h = subst (Simulates s (events.Delete map key)) (same_Some _ x h) (delete_simulates w s m map key)
  reaction_simulates (events.Read map key) x h = subst (Simulates s (events.Read map key)) (same_Some _ x h) (read_simulates w s m map key)
  reaction_simulates events.Advance x h = subst (Simulates s events.Advance) (same_Some _ x h) (advance_simulates w s m)
  reaction_simulates events.Reap x h = subst (Simulates s events.Reap) (same_Some _ x h) (reap_simulates w s m)
  reaction_simulates (events.Drop r) x h = subst (Simulates s (events.Drop r)) (same_Some _ x h) (drop_simulates r)

-- each operation on a view keeps its shape
pub retired-shape : (v : MapView) (key : List ℕ) (o : Option ℕ) → (retired_slot v key o).shape ≡ v.shape
retired-shape v key None = refl
retired-shape v key (Some i) = refl

pub deleted-shape : (kind : MapKind) (v : MapView) (key : List ℕ) → (deleted_from kind v key).1.shape ≡ v.shape
deleted-shape Hash v key = retired-shape v key (get v.index key)
deleted-shape Array v key = refl

pub filled-shape : (free : List ℕ) (v : MapView) (key value : List ℕ) → (filled_from free v key value).shape ≡ v.shape
filled-shape [] v key value = refl
filled-shape (i ∷ rest) v key value = refl

overwritten-shape : (o : Option ℕ) (v : MapView) (value : List ℕ) → (overwritten_slot v o value).shape ≡ v.shape
overwritten-shape None v value = refl
overwritten-shape (Some i) v value = refl

pub written-shape : (kind : MapKind) (v : MapView) (key value : List ℕ) → (written_by kind v key value).shape ≡ v.shape
written-shape Hash v key value = filled-shape v.free (retired_key v key) key value ∙ retired-shape v key (get v.index key)
written-shape Array v key value = overwritten-shape (get v.index key) v value

pub updated-shape : (o : Option Errno) (v : MapView) (key value : List ℕ) → (updated_by o v key value).1.shape ≡ v.shape
updated-shape (Some e) v key value = refl
updated-shape None v key value = written-shape v.shape.kind v key value

given-shape : (g : Given) (i : ℕ) (v : MapView) → (slot_given_back g i v).shape ≡ v.shape
given-shape Free i v = refl
given-shape Worn i v = refl

pub set-shapes : (vs : List MapView) (k : ℕ) (v new : MapView) → slice_get vs k ≡ Some v → new.shape ≡ v.shape → map shape (slice_set vs k new) ≡ map shape vs
set-shapes vs k v new at same = map-set shape vs k new ∙
    (ap (slice_set (map shape vs) k) same ∙ (sym (map-set shape vs k v) ∙ ap (map shape) (set-same vs k v at)))

turned-shapes : (vs : List MapView) → map shape (map turned_view vs) ≡ map shape vs
turned-shapes [] = refl
turned-shapes (v ∷ vs) = ap (λ l. v.shape ∷ l) (turned-shapes vs)

-- the map that a reap picks is there, and has a ready map slot
pub record IsPickedAt (k : ℕ) (vs : List MapView) (p : Pick) : Type 0 where
  pub index : ℕ
  pub number : p.map ≡ k + index
  pub there : slice_get vs index ≡ Some p.view
  pub some : 1 ≤ length p.view.ready

picked-first : (k : ℕ) (v : MapView) (vs : List MapView) (p : Pick) (ready : List ℕ) → v.ready ≡ ready →
    (first_pick (suc k) vs ≡ Some p → IsPickedAt (suc k) vs p) → or_pick ready k v (first_pick (suc k) vs) ≡ Some p →
    IsPickedAt k (v ∷ vs) p
picked-first k v vs p [] e more h =
    let later = more h in
    let number : p.map ≡ suc k + later.index = later.number in record { index = suc later.index; number = omega arith; there = later.there; some = later.some }
picked-first k v vs p (i ∷ rest) e more h =
    let is : record { map = k; view = v; slot = i } ≡ p = same_Some _ p h in
    let number : p.map ≡ k = ap (λ (z : Pick). z.map) (sym is) in
    let view : p.view ≡ v = ap (λ (z : Pick). z.view) (sym is) in
    let n : length p.view.ready ≡ length (i ∷ rest) = ap (λ (z : MapView). length z.ready) view ∙ ap length e in record {
      index = 0;
      number = omega arith;
      there = ap (λ (z : Pick). Some z.view) is;
      some = omega (arith, n);
    }

pub picked-at : (k : ℕ) (vs : List MapView) (p : Pick) → first_pick k vs ≡ Some p → IsPickedAt k vs p
picked-at k [] p h = absurd (none-some p h)
picked-at k (v ∷ vs) p h = picked-first k v vs p v.ready refl (λ g. picked-at (suc k) vs p g) h

abbrev pub Keeps : WorldView → WorldView → Type 0
Keeps w new = (shapes_of new ≡ shapes_of w) × (new.programs ≡ w.programs) × (new.names ≡ w.names)

module _ (w : WorldView) where
  pub map-keeps : (k : ℕ) (v new : MapView) → slice_get w.maps k ≡ Some v → new.shape ≡ v.shape → Keeps w (with_map k new w)
  map-keeps k v new at same = (set-shapes w.maps k v new at same, refl, refl)

  delete-keeps : (r : Option EventRefusal) (o : Option MapView) (k : ℕ) (key : List ℕ) → slice_get w.maps k ≡ o → Keeps w (delete_at r o w k key).1
  delete-keeps (Some refusal) o k key at = (refl, refl, refl)
  delete-keeps None None k key at = (refl, refl, refl)
  delete-keeps None (Some v) k key at = map-keeps k v (deleted v key).1 at (deleted-shape v.shape.kind v key)

  update-keeps : (r : Option EventRefusal) (o : Option MapView) (k : ℕ) (key value : List ℕ) (flags : ℕ) →
      slice_get w.maps k ≡ o → Keeps w (update_at r o w k key value flags).1
  update-keeps (Some refusal) o k key value flags at = (refl, refl, refl)
  update-keeps None None k key value flags at = (refl, refl, refl)
  update-keeps None (Some v) k key value flags at = map-keeps k v (updated v key value flags).1 at (updated-shape (shown_error v key flags) v key value)

  read-keeps : (r : Option EventRefusal) (o : Option MapView) (key : List ℕ) → Keeps w (read_at r o w key).1
  read-keeps (Some refusal) o key = (refl, refl, refl)
  read-keeps None None key = (refl, refl, refl)
  read-keeps None (Some v) key = (refl, refl, refl)

  advance-keeps : (b : Bool) → Keeps w (advanced_by b w)
  advance-keeps true = (refl, refl, refl)
  advance-keeps false = (turned-shapes w.maps, refl, refl)

  reap-keeps : (o : Option Pick) → first_pick 0 w.maps ≡ o → Keeps w (reap_by o w).1
  reap-keeps None h = (refl, refl, refl)
  reap-keeps (Some p) h =
      let x = picked-at 0 w.maps p h in
      let number : p.map ≡ x.index = x.number ∙ (let z : 0 + x.index ≡ x.index = omega arith in z) in (
        set-shapes w.maps p.map p.view (reaped_view p.view p.slot) (ap (slice_get w.maps) number ∙ x.there)
            (given-shape (given_at p.view p.slot) p.slot p.view),
        refl,
        refl,
      )

  start-keeps : (r : Option EventRefusal) (o : Option ℕ) (prog : ℕ) (context : List ℕ) → Keeps w (start_by r o w prog context).1
  start-keeps (Some refusal) o prog context = (refl, refl, refl)
  start-keeps None None prog context = (refl, refl, refl)
  start-keeps None (Some r) prog context = (refl, refl, refl)

  drop-keeps : (o : Option EventRefusal) (r : ℕ) → Keeps w (drop_by o w r).1
  drop-keeps (Some refusal) r = (refl, refl, refl)
  drop-keeps None r = (refl, refl, refl)

  step-keeps : (o : Option EventRefusal) (x : Answer × WorldView) → step_by o w ≡ Some x → Keeps w x.1
  step-keeps (Some refusal) x h = subst (λ (z : Answer × WorldView). Keeps w z.1) (same_Some (refused_as refusal w) x h) (refl, refl, refl)
  step-keeps None x h = absurd (none-some x h)

  same-keeps : (x y : Answer × WorldView) → Some x ≡ Some y → Keeps w x.1 → Keeps w y.1
  same-keeps x y h k = subst (λ (z : Answer × WorldView). Keeps w z.1) (same_Some x y h) k

  pub reaction_keeps : (event : Event) (x : Answer × WorldView) → reaction w event ≡ Some x → Keeps w x.1
  reaction_keeps (events.Start prog ctx) x h = same-keeps (start_reaction w prog ctx.items) x h
      (start-keeps (start_refusal (slice_get w.programs prog) (length ctx.items) (lowest_free w.runs))
      (lowest_free w.runs) prog ctx.items)
  reaction_keeps (events.Step r) x h = step-keeps (step_refused (option_flatten (slice_get w.runs r))) x h
  reaction_keeps (events.Update map key value flags) x h =
      same-keeps (update_reaction w map key.items value.items flags) x h
      (update-keeps (update_refusal (shape_shown (slice_get w.maps map)) (length key.items) (length value.items))
      (slice_get w.maps map) map key.items value.items flags refl)
  reaction_keeps (events.Delete map key) x h = same-keeps (delete_reaction w map key.items) x h
      (delete-keeps (key_refusal (shape_shown (slice_get w.maps map)) (length key.items)) (slice_get w.maps map) map
      key.items refl)
  reaction_keeps (events.Read map key) x h = same-keeps (read_reaction w map key.items) x h
      (read-keeps (key_refusal (shape_shown (slice_get w.maps map)) (length key.items)) (slice_get w.maps map)
      key.items)
  reaction_keeps events.Advance x h = same-keeps (advance_reaction w) x h (advance-keeps (is_any w.awaited))
  reaction_keeps events.Reap x h = same-keeps (reap_reaction w) x h (reap-keeps (first_pick 0 w.maps) refl)
  reaction_keeps (events.Drop r) x h = same-keeps (drop_reaction w r) x h (drop-keeps (drop_refused (option_flatten (slice_get w.runs r))) r)

-- what a world tracks it matches, and it goes on tracking
pub tracked_matches : (w : WorldView) (s : Schedule) → TracksSchedule w s → Matches w s
tracked_matches w s t = record { refines = t.refines; scheduled = tracked_is_scheduled w s t }

pub reaction_tracks : (w : WorldView) (event : Event) (x : Answer × WorldView) → IsReal event →
    reaction w event ≡ Some x → AnswersAsScheduled TracksSchedule w event x.0 x.1
reaction_tracks w event x real h s t =
    let k = reaction_keeps w event x h in
    let d = simulates_tracks w x.1 s event x.0 t real k.0 k.1 (reaction_simulates w s (tracked_matches w s t) event x h) in
    (d.0, d.1, d.2)
