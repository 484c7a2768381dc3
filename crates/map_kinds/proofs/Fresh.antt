-- A new hash map: a new arena, with nothing linked and nothing in a list.
use Rattle.bpf_model.proofs.Prelude.{◌≡◌, ◌∙◌, ℕ, zero, suc, ◌+◌, ◌<◌, ◌≤◌, List, [], length, Option, Some, None, refl, sym, ap, arith, cond, Bool, false}
use Rattle.bpf_model.proofs.Prelude.{replicate, count_by, slice_get, range_with_len, nat_cmp, slice_cmp, get, get-empty, len-empty, sum_by-replicate, IsShape}
use Rattle.bpf_model.proofs.Prelude.{none-some, length-replicate, MapView, SlotView, unused_slot, new_view_of, new_map_view, key_in, value_in, no_queues}
use Rattle.element_store.proofs.Prelude.{times_in, is_at, indexed, key_at, worn_at, new_arena}
use Rattle.model_laws.proofs.Prelude.{Hash, MapShape}
use Rattle.std.specs.FinMap as map
use Rattle.std.proofs.Math.Nat.{mul-zero}
use Rattle.element_store.proofs.Fresh.{times-once, times-below}
use Rattle.map_kinds.specs.Parted.{PartsView, IsParted}
use Rattle.map_kinds.specs.Shown.{map_view, IsMap}

pub none-worn : (n i : ℕ) → worn_at (replicate n false) i ≡ 0
none-worn zero i = refl
none-worn (suc n) zero = refl
none-worn (suc n) (suc i) = none-worn n i

no-key : (key : List ℕ) → get (map.empty {K = List ℕ} {X = ℕ} {R = slice_cmp nat_cmp}) key ≡ None
no-key key = get-empty (slice_cmp nat_cmp) key

abbrev pub fresh : ℕ → ℕ → ℕ → ℕ → PartsView
fresh n key_len value_len limit = record { index = map.empty; lists = no_queues; arena = new_arena n key_len value_len limit }

pub parted-fresh : (n key_len value_len limit : ℕ) → IsParted (fresh n key_len value_len limit)
parted-fresh n key_len value_len limit =
    let unlinked : (i : ℕ) → indexed (map.empty {K = List ℕ} {X = ℕ} {R = slice_cmp nat_cmp})
    (replicate n unused_slot) i ≡ 0 = λ i. ap (λ o. is_at o i) (no-key (key_at (replicate n unused_slot) i)) in
    let long : length (replicate n unused_slot) ≡ n = length-replicate n unused_slot in
    let flags : length (replicate n false) ≡ n = length-replicate n false in
    record {
      once = λ i. let o : times_in i (range_with_len 0 n) ≤ 1 = times-once 0 n i in omega (arith, unlinked i, none-worn n i);
      inside = λ i h. let b : i < 0 + n = times-below 0 n i (omega (arith, unlinked i, none-worn n i)) in omega arith;
      keyed = λ key i h. absurd (none-some i (sym (no-key key) ∙ h));
      flags = omega arith;
    }

none-counted : (n : ℕ) → count_by (λ b. b) (replicate n false) ≡ 0
none-counted n = sum_by-replicate (λ (x : Bool). cond {A = ℕ} x 1 0) n false ∙ mul-zero n

pub fresh-hash : (shape : MapShape) → map_view shape (fresh (shape.entries + shape.spare) shape.key_len
    shape.value_len shape.reuse_limit) ≡ new_view_of Hash shape
fresh-hash shape = ap (λ n. let v : MapView = record {
  shape = shape;
  slots =
      replicate (shape.entries + shape.spare) unused_slot;
  free = range_with_len 0 (shape.entries + shape.spare);
  index = map.empty;
  next = [];
  waiting = [];
  ready = [];
  worn = n;
} in v)
    (none-counted (shape.entries + shape.spare))

pub fresh-view : (shape : MapShape) → shape.kind ≡ Hash →
    map_view shape (fresh (shape.entries + shape.spare) shape.key_len shape.value_len shape.reuse_limit) ≡
    new_map_view shape
fresh-view shape hash = fresh-hash shape ∙ ap (λ kind. new_view_of kind shape) (sym hash)

-- the bytes that are read of a slot, its key or its value
unused-length : (bytes : Option SlotView → List ℕ) → length (bytes None) ≡ 0 → length (bytes (Some unused_slot)) ≡ 0 →
    (n i : ℕ) → length (bytes (slice_get (replicate n unused_slot) i)) ≡ 0
unused-length bytes none unused zero i = none
unused-length bytes none unused (suc n) zero = unused
unused-length bytes none unused (suc n) (suc i) = unused-length bytes none unused n i

pub fresh-map : (shape : MapShape) → IsShape shape → shape.kind ≡ Hash →
    IsMap shape (fresh (shape.entries + shape.spare) shape.key_len shape.value_len shape.reuse_limit) 0
fresh-map shape h hash = record {
  valid = h;
  hash = hash;
  arena = record {
    slots = length-replicate (shape.entries + shape.spare) unused_slot;
    key_len = refl;
    value_len = refl;
    limit = refl;
    keys = λ i. omega (arith, unused-length key_in refl refl (shape.entries + shape.spare) i);
    values = λ i. omega (arith, unused-length value_in refl refl (shape.entries + shape.spare) i);
  };
  keys = λ key i e. absurd (none-some i (sym (no-key key) ∙ e));
  count = sym (len-empty (slice_cmp nat_cmp) ℕ);
}
