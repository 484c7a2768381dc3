-- How many slots stand in the lists, or are worn.
use Rattle.bpf_model.proofs.Prelude.{◌≡◌, ◌∙◌, ℕ, ◌+◌, ◌<◌, ◌≤◌, List, [], ◌∷◌, ◌++◌, length, drop, Option, Some, None, sym, ap, subst, arith, slice_get}
use Rattle.bpf_model.proofs.Prelude.{IfNone, len, none-some, IsShape, slots_of_shape}
use Rattle.element_store.proofs.Prelude.{times_in, queued, reaped_lists}
use Rattle.model_laws.proofs.Prelude.{MAX_ENTRIES, MAX_SPARE, Given, Free, Worn, MapShape, given_at, slot_given_back, reaped_view, filled, retired_slot}
use Rattle.std.proofs.Common.{length-append}
use Rattle.element_store.specs.State as arena
use Rattle.element_store.proofs.Counts.{times-append, length_once}
use Rattle.map_kinds.specs.declared.counts.Counts.{Counts}
use Rattle.map_kinds.specs.Counting.{unlinked_in, worn_in, counts_linked, counts_reaped, IsCounted}
use Rattle.map_kinds.specs.Parted.{PartsView, IsParted, standings}
use Rattle.map_kinds.specs.Shown.{map_view, linked_with, IsMap}

module _ (shape : MapShape) (p : PartsView) (n : ℕ) (h : IsParted p) (m : IsMap shape p n) where
  pub few-slots : length p.arena.slots ≤ MAX_ENTRIES + MAX_SPARE
  few-slots = let valid : IsShape shape = m.valid in let long : length p.arena.slots ≡ slots_of_shape shape = m.arena.slots in omega arith

  abbrev listed : List ℕ
  listed = (p.lists.next ++ p.lists.waiting) ++ p.lists.ready

  times-listed : (i : ℕ) → times_in i listed ≡ queued p.lists i
  times-listed i = omega (arith, times-append i (p.lists.next ++ p.lists.waiting) p.lists.ready, times-append i p.lists.next p.lists.waiting)

  pub few-unlinked : unlinked_in (map_view shape p) ≤ MAX_ENTRIES + MAX_SPARE
  few-unlinked =
      let l : length listed ≤ length p.arena.slots = length_once (length p.arena.slots) listed
      (λ i. let o : standings p i ≤ 1 = h.once i in omega (arith, times-listed i))
      (λ i g. h.inside i (omega (arith, times-listed i))) in
      omega (arith, few-slots, length-append (p.lists.next ++ p.lists.waiting) p.lists.ready, length-append p.lists.next p.lists.waiting)

-- the counts after an update
pub put-counted : (shape : MapShape) (p r : PartsView) (i : ℕ) (rest key value : List ℕ) (found : Option ℕ)
    (c : Counts) → IsCounted shape p c → IsMap shape r (linked_with found c.linked) →
    IfNone found (len p.index < shape.entries) → map_view shape r ≡ filled (retired_slot (map_view shape p) key found)
    i rest key value → IsCounted shape r (counts_linked found c)
put-counted shape p r i rest key value None c h k room e = record {
  kept = k;
  few = let n : c.linked ≡ len p.index = h.kept.count in omega arith;
  unlinked = h.unlinked ∙ sym (ap unlinked_in e);
  worn = h.worn ∙ sym (ap worn_in e);
}
put-counted shape p r i rest key value (Some j) c h k room e = record {
  kept = k;
  few = h.few;
  unlinked = (
      let old : c.unlinked ≡ unlinked_in (map_view shape p) = h.unlinked in
      let new : unlinked_in (map_view shape r) ≡ length (p.lists.next ++ j ∷ []) + length p.lists.waiting + length p.lists.ready = ap unlinked_in e in
      omega (arith, length-append p.lists.next (j ∷ [])));
  worn = h.worn ∙ sym (ap worn_in e);
}

length-rest : (xs : List ℕ) (i : ℕ) → slice_get xs 0 ≡ Some i → length xs ≡ length (drop 1 xs) + 1
length-rest [] i e = absurd (none-some i e)
length-rest (x ∷ xs) i e = omega arith

reaped-by : (shape : MapShape) (p r : PartsView) (i : ℕ) (given : Given) (c : Counts) → IsCounted shape p c →
    IsMap shape r c.linked → slice_get p.lists.ready 0 ≡ Some i →
    map_view shape r ≡ slot_given_back given i (map_view shape p) → IsCounted shape r (counts_reaped given c)
reaped-by shape p r i Free c h k first e = record {
  kept = k;
  few = h.few;
  unlinked = (
      let old : c.unlinked ≡ unlinked_in (map_view shape p) = h.unlinked in
      let new : unlinked_in (map_view shape r) ≡ length p.lists.next + length p.lists.waiting + length (drop 1 p.lists.ready) = ap unlinked_in e in
      omega (arith, length-rest p.lists.ready i first));
  worn = h.worn ∙ sym (ap worn_in e);
}
reaped-by shape p r i Worn c h k first e = record {
  kept = k;
  few = h.few;
  unlinked = (
      let old : c.unlinked ≡ unlinked_in (map_view shape p) = h.unlinked in
      let new : unlinked_in (map_view shape r) ≡ length p.lists.next + length p.lists.waiting + length (drop 1 p.lists.ready) = ap unlinked_in e in
      omega (arith, length-rest p.lists.ready i first));
  worn = ap (λ n. n + 1) h.worn ∙ sym (ap worn_in e);
}

-- the counts after a reap
pub reaped-counted : (shape : MapShape) (p r : PartsView) (i : ℕ) (l : List (Option ℕ)) (given : Given) (c : Counts) →
    IsCounted shape p c → slice_get p.lists.ready 0 ≡ Some i →
    r ≡ record {
      index = p.index;
      lists = reaped_lists p.lists;
      arena =
          arena.given_back (record p.arena { links = l }) i;
    } → given ≡ given_at (map_view shape p) i →
    map_view shape r ≡ reaped_view (map_view shape p) i → IsCounted shape r (counts_reaped given c)
reaped-counted shape p r i l given c h first s g e =
    let k : IsMap shape (record {
      index = p.index;
      lists = reaped_lists p.lists;
      arena =
          arena.given_back (record p.arena { links = l }) i;
    }) c.linked = record {
      valid = h.kept.valid;
      hash = h.kept.hash;
      arena = record {
        slots = h.kept.arena.slots;
        key_len = h.kept.arena.key_len;
        value_len = h.kept.arena.value_len;
        limit = h.kept.arena.limit;
        keys = h.kept.arena.keys;
        values = h.kept.arena.values;
      };
      keys = h.kept.keys;
      count = h.kept.count;
    } in
    reaped-by shape p r i given c h (subst (λ (z : PartsView). IsMap shape z c.linked) (sym s) k) first
    (e ∙ ap (λ z. slot_given_back z i (map_view shape p)) (sym g))
