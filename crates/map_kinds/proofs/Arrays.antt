-- What is seen of an array, through each change of its values.
use Rattle.bpf_model.proofs.Prelude.{◌≡◌, ◌≢◌, ◌∙◌, ℕ, ◌+◌, ◌*◌, ◌<◌, ◌≤◌, List, [], length, map, replicate, Option, Some, None, Result, Ok, inl, inr, sym}
use Rattle.bpf_model.proofs.Prelude.{ap, arith, subst, slice_get, slice_set, is_some, range_with_len, get, len, cases_eq, cases_lt, same_lists, length-set}
use Rattle.bpf_model.proofs.Prelude.{length-map-range_with_len, get_or-map-range_with_len, slice_get_past, slice_get-get_or, get_or_from_slice_get}
use Rattle.bpf_model.proofs.Prelude.{array_error, error_of_kind, index_key, SlotView, MapView, array_slot, index_below, key_in, value_in, uses_in}
use Rattle.bpf_model.proofs.Prelude.{map_state_of, new_view_of, new_map_view, get-set_other, get-set_there}
use Rattle.element_store.proofs.Prelude.{block, with_block, is_at, key_at, value_at}
use Rattle.model_laws.proofs.Prelude.{Errno, Array, MapShape, updated, updated_by, written_by, overwritten_slot, written}
use Rattle.element_store.proofs.BlockLaws.{room, block-written, block-other, block-zeros, length-with_block}
use Rattle.map_kinds.specs.Arrays.{index_slot, array_view, IsArrayMap}
use Rattle.map_kinds.specs.Shown.{IsOccupied}
use Rattle.model_laws.proofs.Indices.{index-long, index-got}

-- a list that has at each index what a function makes of it
range-as : {A : Type 0} (f : ℕ → A) (n : ℕ) (xs : List A) → length xs ≡ n → ((j : ℕ) → j < n → slice_get xs j ≡ Some (f j)) → map f (range_with_len 0 n) ≡ xs
range-as f n xs long h =
    let l = length-map-range_with_len f 0 n in
    same_lists (map f (range_with_len 0 n)) xs (l ∙ sym long) (λ j d less.
    let in_ : j < n = omega (arith, less, l) in
    let z : 0 + j ≡ j = omega arith in
    get_or-map-range_with_len f 0 n j j d in_ z ∙ sym (get_or_from_slice_get xs j (f j) d (h j in_)))

range-at : {A : Type 0} (f : ℕ → A) (n j : ℕ) → j < n → slice_get (map f (range_with_len 0 n)) j ≡ Some (f j)
range-at f n j less =
    let l = length-map-range_with_len f 0 n in
    let z : 0 + j ≡ j = omega arith in
    slice_get-get_or (map f (range_with_len 0 n)) j (f j) (omega (arith, l)) ∙ ap Some (get_or-map-range_with_len f 0 n j j (f j) less z)

module _ (shape : MapShape) (values : List ℕ) where
  abbrev view : MapView
  view = array_view shape values

  -- the map slot of an index
  pub slot-at : (i : ℕ) → i < shape.entries → slice_get view.slots i ≡ Some (index_slot shape values i)
  slot-at i less = range-at (index_slot shape values) shape.entries i less

  pub value-at : (i : ℕ) → i < shape.entries → value_at view.slots i ≡ block shape.value_len i values
  value-at i less = ap value_in (slot-at i less)

  pub key-is : (i : ℕ) → i < shape.entries → key_at view.slots i ≡ index_key i
  key-is i less = ap key_in (slot-at i less)

  -- a map slot that a key has is that of an index
  pub linked-in : (i : ℕ) → get view.index (key_at view.slots i) ≡ Some i → i < shape.entries
  linked-in i h = (index-got shape.entries (key_at view.slots i) i h).0

  -- a map slot that is occupied is that of an index
  pub occupied-in : (i : ℕ) → IsOccupied view i → i < shape.entries
  occupied-in i h = elim (cases_lt i shape.entries) [
    | inl less ↦ less
    | inr past ↦
        let l = length-map-range_with_len (index_slot shape values) 0 shape.entries in
        let none : key_at view.slots i ≡ [] = ap key_in (slice_get_past view.slots i (omega (arith, past, l))) in
        let absent : get view.index (key_at view.slots i) ≡ None = ap (get view.index) none ∙ index-long shape.entries [] (λ e. cc) in
        let z : is_at (get view.index (key_at view.slots i)) i ≡ 0 = ap (λ o. is_at o i) absent in
        absurd (omega arith)
  ]

  module _ (kept : IsArrayMap shape values) where
    -- its value lies among the values
    pub room-at : (i : ℕ) → i < shape.entries → i * shape.value_len + shape.value_len ≤ length values
    room-at i less = subst (λ n. i * shape.value_len + shape.value_len ≤ n) (sym kept.room) (room shape.value_len i shape.entries less)

    -- the value of an index is written
    module _ (i : ℕ) (new : List ℕ) (less : i < shape.entries) (long : length new ≡ shape.value_len) where
      fits : i * length new + length new ≤ length values
      fits = subst (λ n. i * n + n ≤ length values) (sym long) (room-at i less)

      new-here : block shape.value_len i (with_block i new values) ≡ new
      new-here = ap (λ n. block n i (with_block i new values)) (sym long) ∙ block-written new values i fits

      same-there : (j : ℕ) → j ≢ i → block shape.value_len j (with_block i new values) ≡ block shape.value_len j values
      same-there j ne = ap (λ n. block n j (with_block i new values)) (sym long) ∙ (block-other new values i j ne fits ∙ ap (λ n. block n j values) long)

      abbrev slot : SlotView
      slot = record { key = key_in (slice_get view.slots i); value = new; uses = uses_in (slice_get view.slots i) }

      slot-is : slot ≡ index_slot shape (with_block i new values) i
      slot-is =
          ap (λ o. let z : SlotView = record { key = key_in o; value = new; uses = uses_in o } in z) (slot-at i less)
          ∙ ap (λ bytes. let z : SlotView = record { key = index_key i; value = bytes; uses = 1 } in z) (sym new-here)

      slots-after : (j : ℕ) → j < shape.entries → slice_get (slice_set view.slots i slot) j ≡ Some (index_slot shape (with_block i new values) j)
      slots-after j in_ = elim (cases_eq j i) [
        | inl same ↦
            ap (slice_get (slice_set view.slots i slot)) same
            ∙ (get-set_there view.slots i (index_slot shape values i) slot (slot-at i less)
            ∙ (ap Some slot-is ∙ ap (λ k. Some (index_slot shape (with_block i new values) k)) (sym same)))
        | inr ne ↦
            get-set_other view.slots i j slot ne
            ∙ (slot-at j in_ ∙ ap (λ bytes. let z : Option SlotView =
            Some (record { key = index_key j; value = bytes; uses = 1 }) in z) (sym (same-there j ne)))
      ]

      pub written-view : array_view shape (with_block i new values) ≡ written view i new
      written-view =
          let l = length-set view.slots i slot ∙ length-map-range_with_len (index_slot shape values) 0 shape.entries in
          ap (λ (slots : List SlotView). let v : MapView =
          record {
            shape = shape;
            slots = slots;
            free = [];
            index = index_below shape.entries;
            next = [];
            waiting = [];
            ready = [];
            worn = 0;
          } in v)
          (range-as (index_slot shape (with_block i new values)) shape.entries (slice_set view.slots i slot) l slots-after)

      pub written-kept : IsArrayMap shape (with_block i new values)
      written-kept = record { valid = kept.valid; array = kept.array; room = length-with_block new values i fits ∙ kept.room }

-- a new array
pub fresh-array : (shape : MapShape) → shape.kind ≡ Array → array_view shape (replicate (shape.entries * shape.value_len) 0) ≡ new_map_view shape
fresh-array shape array =
    let zeros : List ℕ = replicate (shape.entries * shape.value_len) 0 in
    let slots = map (array_slot shape) (range_with_len 0 shape.entries) in
    ap (λ (slots : List SlotView). let v : MapView = record {
      shape = shape;
      slots = slots;
      free = [];
      index =
          index_below shape.entries;
      next = [];
      waiting = [];
      ready = [];
      worn = 0;
    } in v)
    (range-as (index_slot shape zeros) shape.entries slots (length-map-range_with_len (array_slot shape) 0 shape.entries) (λ j less.
    range-at (array_slot shape) shape.entries j less ∙
    ap (λ bytes. let z : Option SlotView = Some (record { key = index_key j; value = bytes; uses = 1 }) in z)
    (sym (block-zeros shape.value_len j shape.entries less))))
    ∙ ap (λ kind. new_view_of kind shape) (sym array)

-- an update that no test refuses
pub array-updates : (v : MapView) (key value : List ℕ) (flags i : ℕ) → v.shape.kind ≡ Array →
    array_error flags (is_some (get v.index key)) ≡ None → get v.index key ≡ Some i →
    updated v key value flags ≡ (Ok tt, written v i value)
array-updates v key value flags i array pass found =
    ap (λ kind. updated_by (error_of_kind kind flags (is_some (get v.index key)) (len v.index) (map_state_of v)) v key value) array
    ∙ (ap (λ o. updated_by o v key value) pass
    ∙ (ap (λ kind. let z : Result (Unit {0}) Errno × MapView = (Ok tt, written_by kind v key value) in z) array
    ∙ ap (λ o. let z : Result (Unit {0}) Errno × MapView = (Ok tt, overwritten_slot v o value) in z) found))
