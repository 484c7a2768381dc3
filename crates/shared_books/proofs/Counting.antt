-- Each reaction unlinks or reclaims at most one element, and says so where it reclaims.
use Rattle.bpf_model.proofs.Prelude.{◌≡◌, ◌∙◌, ℕ, ◌+◌, ◌≤◌, List, [], ◌∷◌, map, length, Option, Some, None, refl, ap, subst, arith, Bool, true, false}
use Rattle.bpf_model.proofs.Prelude.{slice_get, ℤ, pos, negsuc, ◌+ℤ◌, sum_by, get, sum_by-cons, none-some, same_Some, byte_count, helper_of}
use Rattle.bpf_model.proofs.Prelude.{kernel_function_of, key_refusal, update_refusal, start_refusal, Loaded, lowest_free, run_at, is_any, insn_at, MapView}
use Rattle.bpf_model.proofs.Prelude.{RunView, WorldView}
use Rattle.model_laws.proofs.Prelude.{Errno, Helper, Lookup, Update, Delete, KernelFunction, ReadLock, ReadUnlock, MapKind, Hash, Array, Answer, Moved, Done}
use Rattle.model_laws.proofs.Prelude.{Event, EventRefusal, Given, Free, Worn, Insn, Store, Call, Location, InContext, InFrame, AtMap, InSlot, retired_slot}
use Rattle.model_laws.proofs.Prelude.{retired_key, deleted, deleted_from, filled_from, overwritten_slot, written_by, updated_by, shown_error, turned_view}
use Rattle.model_laws.proofs.Prelude.{slot_given_back, given_at, reaped_view, with_map, shape_shown, refused_as, delete_at, delete_reaction, update_at}
use Rattle.model_laws.proofs.Prelude.{update_reaction, read_at, read_reaction, advanced_by, advance_reaction, Pick, first_pick, reap_by, reap_reaction}
use Rattle.model_laws.proofs.Prelude.{start_by, start_reaction, step_refused, drop_refused, drop_by, drop_reaction, step_by, reaction}
use Rattle.world_laws.proofs.Prelude.{location_of, word_in, operand_word, stored_slot, stored_at, bytes_in, bound_number, serves, helper_called_on}
use Rattle.world_laws.proofs.Prelude.{helper_called, kernel_called, insn_step, step_at, step_in, run_step_of, or_step, full_reaction}
use Rattle.std.proofs.Common.{length-append, length-drop}
use Rattle.model_laws.proofs.Reacting.{picked-at}
use Rattle.model_laws.proofs.Tallies.{sum-set}
use Rattle.bpf_model.specs.declared.event.Event.TheVariants as events
use Rattle.bpf_model.specs.declared.insn.CallKind.TheVariants as kinds
use Rattle.map_kinds.specs.Counting.{unlinked_in}
use Rattle.shared_books.specs.Totals.{unreclaimed_in}
use Rattle.shared_books.specs.Tally.{CountsOn, reclaimed_by}

-- How many more elements are unlinked in one view of a map than in another: at most one.
record Gains (v new : MapView) : Type 0 where
  pub more : ℕ
  pub one : more ≤ 1
  pub sum : unlinked_in new ≡ unlinked_in v + more

gains-none : (v new : MapView) → unlinked_in new ≡ unlinked_in v → Gains v new
gains-none v new e = record { more = 0; one = omega arith; sum = omega (arith, e) }

retired-gains : (v : MapView) (key : List ℕ) (o : Option ℕ) → Gains v (retired_slot v key o)
retired-gains v key None = gains-none v v refl
retired-gains v key (Some i) = let n = length-append v.next (i ∷ []) in record { more = 1; one = omega arith; sum = omega (arith, n) }

filled-same : (free : List ℕ) (v : MapView) (key value : List ℕ) → unlinked_in (filled_from free v key value) ≡ unlinked_in v
filled-same [] v key value = refl
filled-same (i ∷ rest) v key value = refl

overwritten-same : (v : MapView) (o : Option ℕ) (value : List ℕ) → unlinked_in (overwritten_slot v o value) ≡ unlinked_in v
overwritten-same v None value = refl
overwritten-same v (Some i) value = refl

written-gains : (kind : MapKind) (v : MapView) (key value : List ℕ) → Gains v (written_by kind v key value)
written-gains Hash v key value =
    let g = retired-gains v key (get v.index key) in record { more = g.more; one = g.one; sum = filled-same v.free (retired_key v key) key value ∙ g.sum }
written-gains Array v key value = gains-none v _ (overwritten-same v (get v.index key) value)

deleted-gains : (kind : MapKind) (v : MapView) (key : List ℕ) → Gains v (deleted_from kind v key).1
deleted-gains Hash v key = retired-gains v key (get v.index key)
deleted-gains Array v key = gains-none v v refl

updated-gains : (o : Option Errno) (v : MapView) (key value : List ℕ) → Gains v (updated_by o v key value).1
updated-gains (Some e) v key value = gains-none v v refl
updated-gains None v key value = written-gains v.shape.kind v key value

turned-sum : (vs : List MapView) → sum_by unlinked_in (map turned_view vs) ≡ sum_by unlinked_in vs
turned-sum [] = refl
turned-sum (v ∷ vs) =
    let rest = turned-sum vs in
    let n = length-append v.ready v.waiting in
    let a = sum_by-cons unlinked_in (turned_view v) (map turned_view vs) in
    let b = sum_by-cons unlinked_in v vs in
    omega (arith, rest, n, a, b)

-- what is counted of a reaction
pub record IsCountedOn (w : WorldView) (x : Answer × WorldView) : Type 0 where
  pub counts : CountsOn x.0 (unreclaimed_in w) (unreclaimed_in x.1)
  pub given : x.1.given ≡ w.given + reclaimed_by x.0

returned-count : (g : Given) (i : ℕ) (v : MapView) → 1 ≤ length v.ready → unlinked_in (slot_given_back g i v) + 1 ≡ unlinked_in v
returned-count Free i v some = let n = length-drop 1 v.ready in omega (arith, n, some)
returned-count Worn i v some = let n = length-drop 1 v.ready in omega (arith, n, some)

module _ (w : WorldView) where
  -- nothing is unlinked, nothing reclaimed
  still : (answer : Answer) (new : WorldView) → reclaimed_by answer ≡ 0 → unreclaimed_in new ≡ unreclaimed_in w →
      new.given ≡ w.given → IsCountedOn w (answer, new)
  still answer new none e g = record {
    counts = record {
      unlinked = 0;
      one = omega (arith, none);
      sum =
          omega (arith, none, e);
    };
    given = omega (arith, none, g);
  }

  -- one map has another view
  in-map : (answer : Answer) (k : ℕ) (v new : MapView) → reclaimed_by answer ≡ 0 → slice_get w.maps k ≡ Some v →
      Gains v new → IsCountedOn w (answer, with_map k new w)
  in-map answer k v new none at g =
      let s = sum-set unlinked_in w.maps k v new at in
      let m = g.sum in
      let one = g.one in record {
        counts = record {
          unlinked = g.more;
          one = omega (arith, none, one);
          sum =
              omega (arith, none, s, m);
        };
        given = omega (arith, none);
      }

  delete-counts : (r : Option EventRefusal) (o : Option MapView) (k : ℕ) (key : List ℕ) → slice_get w.maps k ≡ o → IsCountedOn w (delete_at r o w k key)
  delete-counts (Some refusal) o k key at = still _ w refl refl refl
  delete-counts None None k key at = still _ w refl refl refl
  delete-counts None (Some v) k key at = in-map _ k v (deleted v key).1 refl at (deleted-gains v.shape.kind v key)

  update-counts : (r : Option EventRefusal) (o : Option MapView) (k : ℕ) (key value : List ℕ) (flags : ℕ) →
      slice_get w.maps k ≡ o → IsCountedOn w (update_at r o w k key value flags)
  update-counts (Some refusal) o k key value flags at = still _ w refl refl refl
  update-counts None None k key value flags at = still _ w refl refl refl
  update-counts None (Some v) k key value flags at = in-map _ k v _ refl at (updated-gains (shown_error v key flags) v key value)

  read-counts : (r : Option EventRefusal) (o : Option MapView) (key : List ℕ) → IsCountedOn w (read_at r o w key)
  read-counts (Some refusal) o key = still _ w refl refl refl
  read-counts None None key = still _ w refl refl refl
  read-counts None (Some v) key = still _ w refl refl refl

  advance-counts : (b : Bool) → IsCountedOn w (Done, advanced_by b w)
  advance-counts true = still _ w refl refl refl
  advance-counts false = still _ _ refl (turned-sum w.maps) refl

  reap-counts : (o : Option Pick) → first_pick 0 w.maps ≡ o → IsCountedOn w (reap_by o w)
  reap-counts None h = still _ w refl refl refl
  reap-counts (Some p) h =
      let x = picked-at 0 w.maps p h in
      let number : p.map ≡ x.index = x.number ∙ (let z : 0 + x.index ≡ x.index = omega arith in z) in
      let s = sum-set unlinked_in w.maps p.map p.view (reaped_view p.view p.slot) (ap (slice_get w.maps) number ∙ x.there) in
      let n = returned-count (given_at p.view p.slot) p.slot p.view x.some in record {
        counts = record { unlinked = 0; one = omega arith; sum = omega (arith, s, n) };
        given = refl;
      }

  start-counts : (r : Option EventRefusal) (o : Option ℕ) (prog : ℕ) (context : List ℕ) → IsCountedOn w (start_by r o w prog context)
  start-counts (Some refusal) o prog context = still _ w refl refl refl
  start-counts None None prog context = still _ w refl refl refl
  start-counts None (Some r) prog context = still _ _ refl refl refl

  drop-counts : (o : Option EventRefusal) (r : ℕ) → IsCountedOn w (drop_by o w r)
  drop-counts (Some refusal) r = still _ w refl refl refl
  drop-counts None r = still _ _ refl refl refl

  step-counts : (o : Option EventRefusal) (x : Answer × WorldView) → step_by o w ≡ Some x → IsCountedOn w x
  step-counts (Some refusal) x h = subst (IsCountedOn w) (same_Some (refused_as refusal w) x h) (still _ w refl refl refl)
  step-counts None x h = absurd (none-some x h)

  same-counts : (x y : Answer × WorldView) → Some x ≡ Some y → IsCountedOn w x → IsCountedOn w y
  same-counts x y h k = subst (IsCountedOn w) (same_Some x y h) k

  reaction-counts : (event : Event) (x : Answer × WorldView) → reaction w event ≡ Some x → IsCountedOn w x
  reaction-counts (events.Start prog ctx) x h = same-counts (start_reaction w prog ctx.items) x h
      (start-counts (start_refusal (slice_get w.programs prog) (length ctx.items) (lowest_free w.runs))
      (lowest_free w.runs) prog ctx.items)
  reaction-counts (events.Step r) x h = step-counts (step_refused (run_at w.runs r)) x h
  reaction-counts (events.Update map key value flags) x h =
      same-counts (update_reaction w map key.items value.items flags) x h
      (update-counts (update_refusal (shape_shown (slice_get w.maps map)) (length key.items) (length value.items))
      (slice_get w.maps map) map key.items value.items flags refl)
  reaction-counts (events.Delete map key) x h = same-counts (delete_reaction w map key.items) x h
      (delete-counts (key_refusal (shape_shown (slice_get w.maps map)) (length key.items)) (slice_get w.maps map) map
      key.items refl)
  reaction-counts (events.Read map key) x h = same-counts (read_reaction w map key.items) x h
      (read-counts (key_refusal (shape_shown (slice_get w.maps map)) (length key.items)) (slice_get w.maps map)
      key.items)
  reaction-counts events.Advance x h = same-counts (advance_reaction w) x h (advance-counts (is_any w.awaited))
  reaction-counts events.Reap x h = same-counts (reap_reaction w) x h (reap-counts (first_pick 0 w.maps) refl)
  reaction-counts (events.Drop r) x h = same-counts (drop_reaction w r) x h (drop-counts (drop_refused (run_at w.runs r)) r)

  -- a step of a run
  slot-counts : (answer : Answer) (width x : ℕ) (z : ℤ) (k slot : ℕ) (o : Option MapView) → reclaimed_by answer ≡ 0 →
      slice_get w.maps k ≡ o → IsCountedOn w (answer, stored_slot width x z k o slot w)
  slot-counts answer width x (pos at) k slot (Some v) none e = in-map answer k v _ none e (gains-none v _ refl)
  slot-counts answer width x (pos at) k slot None none e = still answer w none refl refl
  slot-counts answer width x (negsuc n) k slot o none e = still answer w none refl refl

  store-counts : (width x : ℕ) (offset : ℤ) (l : Location) (r : ℕ) (v : RunView) → IsCountedOn w (stored_at width x offset l r v w)
  store-counts width x offset (InFrame o) r v = still _ _ refl refl refl
  store-counts width x offset (InContext o) r v = still _ _ refl refl refl
  store-counts width x offset (AtMap k) r v = still _ _ refl refl refl
  store-counts width x offset (InSlot k slot o) r v =
      let c = slot-counts Moved width x (o +ℤ offset) k slot (slice_get w.maps k) refl refl in record { counts = c.counts; given = c.given }

  serves-counts : (helper : Helper) (k r : ℕ) (v : RunView) (o : Option MapView) → slice_get w.maps k ≡ o → IsCountedOn w (serves helper k o r v w)
  serves-counts Lookup k r v (Some m) e = still _ _ refl refl refl
  serves-counts Update k r v (Some m) e =
      let key = bytes_in v 2 m.shape.key_len in
      let c = in-map Moved k m _ refl e (updated-gains (shown_error m key (word_in v 4)) m key
      (bytes_in v 3 m.shape.value_len)) in record { counts = c.counts; given = c.given }
  serves-counts Delete k r v (Some m) e =
      let key = bytes_in v 2 m.shape.key_len in
      let c = in-map Moved k m _ refl e (deleted-gains m.shape.kind m key) in record { counts = c.counts; given = c.given }
  serves-counts helper k r v None e = still _ w refl refl refl

  helped_on-counts : (helper : Helper) (o : Option ℕ) (r : ℕ) (v : RunView) → IsCountedOn w (helper_called_on helper o r v w)
  helped_on-counts helper (Some k) r v = serves-counts helper k r v (slice_get w.maps k) refl
  helped_on-counts helper None r v = still _ w refl refl refl

  helped-counts : (o : Option Helper) (program : Loaded) (r : ℕ) (v : RunView) → IsCountedOn w (helper_called o program r v w)
  helped-counts (Some helper) program r v = helped_on-counts helper (bound_number program v) r v
  helped-counts None program r v = still _ w refl refl refl

  entered-counts : (o : Option KernelFunction) (r : ℕ) (v : RunView) → IsCountedOn w (kernel_called o r v w)
  entered-counts (Some ReadLock) r v = still _ _ refl refl refl
  entered-counts (Some ReadUnlock) r v = still _ _ refl refl refl
  entered-counts None r v = still _ w refl refl refl

  insn-counts : (i : Insn) (program : Loaded) (r : ℕ) (v : RunView) → IsCountedOn w (insn_step i program r v w)
  insn-counts (Call kinds.Helper imm) program r v = helped-counts (helper_of imm) program r v
  insn-counts (Call kinds.Kernel imm) program r v = entered-counts (kernel_function_of imm) r v
  insn-counts (Store width dst offset src) program r v = store-counts (byte_count width) (operand_word v src) offset (location_of (word_in v dst)) r v
  insn-counts i program r v = still _ _ refl refl refl

  at-counts : (o : Option Insn) (program : Loaded) (r : ℕ) (v : RunView) → IsCountedOn w (step_at o program r v w)
  at-counts (Some i) program r v = insn-counts i program r v
  at-counts None program r v = still _ w refl refl refl

  in-counts : (o : Option Loaded) (r : ℕ) (v : RunView) → IsCountedOn w (step_in o r v w)
  in-counts (Some program) r v = at-counts (insn_at program.code v.place) program r v
  in-counts None r v = still _ w refl refl refl

  of-counts : (o : Option RunView) (r : ℕ) → IsCountedOn w (run_step_of o r w)
  of-counts (Some v) r = in-counts (slice_get w.programs v.program) r v
  of-counts None r = still _ w refl refl refl

  left-counts : (event : Event) → IsCountedOn w (or_step None w event)
  left-counts (events.Step r) = of-counts (run_at w.runs r) r
  left-counts event = still _ w refl refl refl

  either-counts : (event : Event) (o : Option (Answer × WorldView)) → reaction w event ≡ o → IsCountedOn w (or_step o w event)
  either-counts event (Some x) e = reaction-counts event x e
  either-counts event None e = left-counts event

  pub full-counts : (event : Event) → IsCountedOn w (full_reaction w event)
  full-counts event = either-counts event (reaction w event) refl
