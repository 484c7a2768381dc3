-- What an update and a delete leave of a map.
use Rattle.bpf_model.proofs.Prelude.{◌≡◌, ◌∙◌, ℕ, zero, suc, ◌+◌, ◌-◌, ◌<◌, ◌≤◌, List, [], ◌∷◌, length, Option, Some, None, Result, Ok, ◌⊎◌, inl, inr, refl}
use Rattle.bpf_model.proofs.Prelude.{sym, ap, arith, subst, slice_get, slice_set, is_some, get, insert, remove, len, get-empty, nat_cmp, slice_cmp, cases_eq}
use Rattle.bpf_model.proofs.Prelude.{none-some, hash_error, error_of_kind, SlotView, MapView, uses_at, map_state_of, key_in, value_in, KeyMap, length-set}
use Rattle.element_store.proofs.Prelude.{taken}
use Rattle.model_laws.proofs.Prelude.{Errno, Hash, MapShape, updated, updated_by, written_by, filled, filled_from, retired_key, retired_slot}
use Rattle.std.specs.FinMap.{empty_of_len}
use Rattle.model_laws.proofs.Indices.{len-insert_new}
use Rattle.model_laws.proofs.Lists.{remove-same, len-remove_found}
use Rattle.map_kinds.specs.Parted.{PartsView, without_key}
use Rattle.map_kinds.specs.Updated.{IsPut, replaced, with_taken}
use Rattle.map_kinds.specs.Shown.{map_view, IsMap, IsOfShape, AreKeysLong, linked_with}
use Rattle.map_kinds.proofs.Lengths.{long-inserted, long-removed}

-- an update, by the first test that fails and what the code knows of the map
pub updated-by : (v : MapView) (key value : List ℕ) (flags linked : ℕ) (o : Option Errno) → v.shape.kind ≡ Hash →
    linked ≡ len v.index → hash_error flags (is_some (get v.index key)) linked (map_state_of v) ≡ o →
    updated v key value flags ≡ updated_by o v key value
updated-by v key value flags linked o hash l h =
    ap (λ e. updated_by e v key value)
    (ap (λ kind. error_of_kind kind flags (is_some (get v.index key)) (len v.index) (map_state_of v)) hash
    ∙ (ap (λ n. hash_error flags (is_some (get v.index key)) n (map_state_of v)) (sym l) ∙ h))

-- a list after a write has the new element there, or what it had
set-cases : {A : Type 0} (xs : List A) (i j : ℕ) (y : A) → (slice_get (slice_set xs i y) j ≡ Some y) ⊎ (slice_get (slice_set xs i y) j ≡ slice_get xs j)
set-cases [] i j y = inr refl
set-cases (x ∷ xs) zero zero y = inl refl
set-cases (x ∷ xs) zero (suc j) y = inr refl
set-cases (x ∷ xs) (suc i) zero y = inr refl
set-cases (x ∷ xs) (suc i) (suc j) y = set-cases xs i j y

-- the bytes that are read of a slot, its key or its value
pub set-lengths : (bytes : Option SlotView → List ℕ) (slots : List SlotView) (i : ℕ) (s : SlotView) (n : ℕ) →
    length (bytes (Some s)) ≤ n → ((j : ℕ) → length (bytes (slice_get slots j)) ≤ n) → (j : ℕ) →
    length (bytes (slice_get (slice_set slots i s) j)) ≤ n
set-lengths bytes slots i s n h k j = elim (set-cases slots i j s) [
  | inl e ↦ subst (λ o. length (bytes o) ≤ n) (sym e) h
  | inr e ↦ subst (λ o. length (bytes o) ≤ n) (sym e) (k j)
]

-- a map that has a key is not empty
pub len-some : (m : KeyMap) (k : List ℕ) (i : ℕ) → get m k ≡ Some i → 0 < len m
len-some m k i g = elim (cases_eq (len m) 0) [
  | inl z ↦ absurd (none-some i (sym (get-empty (slice_cmp nat_cmp) k) ∙ (ap (λ (e : KeyMap). get e k) (sym (empty_of_len m z)) ∙ g)))
  | inr n ↦ omega arith
]

filled-view : (shape : MapShape) (p : PartsView) (i : ℕ) (rest key value : List ℕ) (found : Option ℕ)
    (l : List (Option ℕ)) → map_view shape (replaced (with_taken p i rest key value) key found i l) ≡ filled
    (retired_slot (map_view shape p) key found) i rest key value
filled-view shape p i rest key value None l = refl
filled-view shape p i rest key value (Some j) l = refl

module _ (p p2 : PartsView) (i : ℕ) (rest key value : List ℕ) (found : Option ℕ)
    (replaced-is : p2 ≡ replaced (with_taken p i rest key value) key found i p2.arena.links) where
  pub put-view : (shape : MapShape) → map_view shape p2 ≡ filled (retired_slot (map_view shape p) key found) i rest key value
  put-view shape = ap (map_view shape) replaced-is ∙ filled-view shape p i rest key value found p2.arena.links

  put-len : (n : ℕ) (found : Option ℕ) → n ≡ len p.index → get p.index key ≡ found →
      linked_with found n ≡ len (insert (without_key (with_taken p i rest key value) key found).index key i)
  put-len n None c g = ap (λ m. m + 1) c ∙ sym (len-insert_new p.index key i g)
  put-len n (Some j) c g =
      let a : len (remove p.index key) ≡ len p.index - 1 = len-remove_found p.index key j g in
      let b : len (insert (remove p.index key) key i) ≡ len (remove p.index key) + 1 = len-insert_new (remove p.index key) key i (remove-same p.index key) in
      let h : 0 < len p.index = len-some p.index key j g in
      omega arith

  put-arena : (shape : MapShape) → IsOfShape shape p.arena → length key ≡ shape.key_len →
      length value ≡ shape.value_len → IsOfShape shape
      (record (taken p.arena i rest key value) { links = p2.arena.links })
  put-arena shape a hk hv =
      let long : length (slice_set p.arena.slots i (record {
        key = key;
        value = value;
        uses =
            uses_at p.arena.slots i + 1;
      })) ≡ length p.arena.slots = length-set p.arena.slots i _ in
      record {
        slots = long ∙ a.slots;
        key_len = a.key_len;
        value_len = a.value_len;
        limit = a.limit;
        keys = set-lengths key_in p.arena.slots i (record { key = key; value = value; uses = uses_at p.arena.slots i + 1 }) shape.key_len (omega arith) a.keys;
        values = set-lengths value_in p.arena.slots i (record {
          key = key;
          value = value;
          uses =
              uses_at p.arena.slots i + 1;
        }) shape.value_len (omega arith) a.values;
      }

  long-put : (shape : MapShape) → AreKeysLong p.index shape.key_len → length key ≡ shape.key_len → (found : Option ℕ)
      → AreKeysLong (insert (without_key (with_taken p i rest key value) key found).index key i) shape.key_len
  long-put shape h hk None = long-inserted p.index key i shape.key_len hk h
  long-put shape h hk (Some j) = long-inserted (remove p.index key) key i shape.key_len hk (long-removed p.index key shape.key_len h)

  pub put-kept : (shape : MapShape) (n : ℕ) → IsMap shape p n → get p.index key ≡ found → length key ≡ shape.key_len →
      length value ≡ shape.value_len → IsMap shape p2 (linked_with found n)
  put-kept shape n h g hk hv =
      let k : IsMap shape (replaced (with_taken p i rest key value) key found i p2.arena.links) (linked_with found n) = record {
        valid = h.valid;
        hash = h.hash;
        arena = put-arena shape h.arena hk hv;
        keys = long-put shape h.keys hk found;
        count = put-len n found h.count g;
      } in
      subst (λ (z : PartsView). IsMap shape z (linked_with found n)) (sym replaced-is) k

-- an update that no test refuses
pub put-updates : (shape : MapShape) (p r : PartsView) (key value : List ℕ) (found : Option ℕ) → shape.kind ≡ Hash →
    get p.index key ≡ found → IsPut p r key value found →
    updated_by None (map_view shape p) key value ≡ (Ok tt, map_view shape r)
put-updates shape p r key value found hash g h =
    ap (λ w. let z : Result (Unit {0}) Errno × MapView = (Ok tt, w) in z)
    (ap (λ kind. written_by kind (map_view shape p) key value) hash
    ∙ ap (λ fs. filled_from fs (retired_key (map_view shape p) key) key value) h.first
    ∙ (ap (λ o. filled (retired_slot (map_view shape p) key o) h.slot h.rest key value) g
    ∙ sym (put-view p r h.slot h.rest key value found h.new_is shape)))
