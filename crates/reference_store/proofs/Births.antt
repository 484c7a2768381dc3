-- A birth is a replacement by the definition; updates and deletes, by the kind of their map.
use Rattle.bpf_model.proofs.Prelude.{◌≡◌, ℕ, ◌+◌, ◌<◌, List, [], ◌∷◌, ◌++◌, length, Option, Some, None, Ok, Err, refl, sym, ap, subst, ◌∙◌, arith, Bool, true}
use Rattle.bpf_model.proofs.Prelude.{false, Result, slice_get, slice_set, is_some, drop, ◌==◌, ◌&&◌, not, nat_lt, nat_le, if◌then◌else◌, Section, Linked}
use Rattle.bpf_model.proofs.Prelude.{unlinked, linked_count, newborn, overwritten, MapState, Store, with_bag, with_elements, LooksUp, Replaces, Settles}
use Rattle.bpf_model.proofs.Prelude.{Updates, Writes, RemovesFrom, Deletes, Removes, error_of_kind, hash_error, update_error, set-same}
use Rattle.model_laws.proofs.Prelude.{NoEntry, TooBig, NoMemory, Exists, InvalidArgument, Errno, Hash, Array}
use Rattle.reference_store.specs.Births.{uses_after_first, set_first, without_first_free}
use Rattle.reference_store.proofs.Lists.{first-of, drop-none}

pub without_first-at : (ms : List MapState) (k : ℕ) (m : MapState) → slice_get ms k ≡ Some m →
    without_first_free ms k ≡ slice_set ms k (with_bag (drop 1 m.bag) m)
without_first-at ms k m h = ap (set_first ms k) h

pub without_first-none : (ms : List MapState) (k : ℕ) (m : MapState) → slice_get ms k ≡ Some m → length m.bag ≡ 0 → without_first_free ms k ≡ ms
without_first-none ms k m h e =
    without_first-at ms k m h ∙ ap (λ b. slice_set ms k (with_bag b m)) (drop-none m.bag e) ∙ set-same ms k m h

pub replaces : (s : Store) (opened : List Section) (k : ℕ) (m : MapState) (key value : List ℕ) (found : Option ℕ) (new : Store) (use_count : ℕ) →
    slice_get s.maps k ≡ Some m → 0 < length m.bag → use_count ≡ uses_after_first m.bag →
    new.elements ≡ unlinked opened s.elements found ++
    record { map = k; key = key; value = value; uses = use_count; life = Linked } ∷ [] →
    new.maps ≡ without_first_free s.maps k → Replaces s opened k m key value found new
replaces s opened k m key value found new use_count h free e elements maps =
    let f = first-of m.bag free in
    let count = f.0 in
    let rest = f.1 in
    let bag : m.bag ≡ count ∷ rest = f.2 in
    let uses_is : use_count ≡ count + 1 = e ∙ ap uses_after_first bag in
    let elements_is : new.elements ≡ unlinked opened s.elements found ++ newborn k key value count ∷ [] =
    elements ∙ ap (λ u. unlinked opened s.elements found ++ record { map = k; key = key; value = value; uses = u; life = Linked } ∷ []) uses_is in
    let maps_are : new.maps ≡ slice_set s.maps k (with_bag rest m) = maps ∙ without_first-at s.maps k m h ∙
    ap (λ b. slice_set s.maps k (with_bag (drop 1 b) m)) bag in
    record {
      count = count;
      bag = rest;
      taken = record { before = []; after = rest; old_is = bag; new_is = refl };
      new_is = ap (λ es. record { elements = es; maps = new.maps }) elements_is ∙
          ap (λ ms. record {
            elements = unlinked opened s.elements found ++ newborn k key value count ∷ [];
            maps =
                ms;
          }) maps_are;
    }

-- where no test of an update failed, a map slot is free
all_some : {A : Type 0} (a b c d : Bool) (v w x y z : A) →
    (if a then Some v else if b then Some w else if c then Some x else if d then Some y else Some z) ≡ None → ⊥
all_some true b c d v w x y z h = cc
all_some false true c d v w x y z h = cc
all_some false false true d v w x y z h = cc
all_some false false false true v w x y z h = cc
all_some false false false false v w x y z h = cc

free-by : {A : Type 0} (a b c d : Bool) (v w x y z : A) (bag : List ℕ) →
    (if a then Some v else if b then Some w else if c then Some x else if d then Some y else if length bag == 0 then
    Some z else None) ≡ None → 0 < length bag
free-by a b c d v w x y z [] h = absurd (all_some a b c d v w x y z h)
free-by a b c d v w x y z (n ∷ bag) h = omega arith

hash-free : (flags : ℕ) (present : Bool) (linked : ℕ) (m : MapState) → hash_error flags present linked m ≡ None → 0 < length m.bag
hash-free flags present linked m h =
    free-by (nat_lt 2 flags) ((flags == 1) && present) ((flags == 2) && not present)
    (not present && nat_le m.shape.entries linked) InvalidArgument Exists NoEntry TooBig NoMemory m.bag h

pub no_error-free : (flags : ℕ) (present : Bool) (linked : ℕ) (m : MapState) → m.shape.kind ≡ Hash →
    update_error flags present linked m ≡ None → 0 < length m.bag
no_error-free flags present linked m hash h =
    hash-free flags present linked m (ap (λ kind. error_of_kind kind flags present linked m) (sym hash) ∙ h)

pub updates-refused : (s : Store) (opened : List Section) (k : ℕ) (m : MapState) (key value : List ℕ) (flags : ℕ) (found : Option ℕ) (e : Errno) →
    slice_get s.maps k ≡ Some m → LooksUp s k key found →
    update_error flags (is_some found) (linked_count k s.elements) m ≡ Some e →
    Updates s opened k key value flags (Err e) s
updates-refused s opened k m key value flags found e h l error =
    record {
      state = m;
      there = h;
      found = found;
      lookup = l;
      settled =
          subst (λ o. Settles o (Err e) s s (Writes m.shape.kind s opened k m key value found s)) (sym error)
          (refl, refl);
    }

updates-done : (s : Store) (opened : List Section) (k : ℕ) (m : MapState) (key value : List ℕ) (flags : ℕ) (found : Option ℕ) (new : Store) →
    slice_get s.maps k ≡ Some m → LooksUp s k key found →
    update_error flags (is_some found) (linked_count k s.elements) m ≡ None →
    Writes m.shape.kind s opened k m key value found new →
    Updates s opened k key value flags (Ok tt) new
updates-done s opened k m key value flags found new h l error w =
    record {
      state = m;
      there = h;
      found = found;
      lookup = l;
      settled =
          subst (λ o. Settles o (Ok tt) s new (Writes m.shape.kind s opened k m key value found new)) (sym error)
          (refl, w);
    }

-- of a hash map
pub updates-replaced : (s : Store) (opened : List Section) (k : ℕ) (m : MapState) (key value : List ℕ) (flags : ℕ) (found : Option ℕ) (new : Store) →
    m.shape.kind ≡ Hash → slice_get s.maps k ≡ Some m → LooksUp s k key found →
    update_error flags (is_some found) (linked_count k s.elements) m ≡ None →
    Replaces s opened k m key value found new →
    Updates s opened k key value flags (Ok tt) new
updates-replaced s opened k m key value flags found new hash h l error r =
    updates-done s opened k m key value flags found new h l error (subst (λ kind. Writes kind s opened k m key value found new) (sym hash) r)

-- of an array
pub updates-overwritten : (s : Store) (opened : List Section) (k : ℕ) (m : MapState) (key value : List ℕ) (flags : ℕ) (found : Option ℕ) (new : Store) →
    m.shape.kind ≡ Array → slice_get s.maps k ≡ Some m → LooksUp s k key found → update_error flags (is_some found) (linked_count k s.elements) m ≡ None →
    new ≡ with_elements (overwritten value s.elements found) s → Updates s opened k key value flags (Ok tt) new
updates-overwritten s opened k m key value flags found new array h l error w =
    updates-done s opened k m key value flags found new h l error (subst (λ kind. Writes kind s opened k m key value found new) (sym array) w)

pub deletes-hash : (s : Store) (opened : List Section) (k : ℕ) (m : MapState) (key : List ℕ) (found : Option ℕ) (ret : Result (Unit {0}) Errno) (new : Store) →
    m.shape.kind ≡ Hash → slice_get s.maps k ≡ Some m → LooksUp s k key found → Removes found opened ret s new → Deletes s opened k key ret new
deletes-hash s opened k m key found ret new hash h l r =
    record { state = m; there = h; found = found; lookup = l; removed = subst (λ kind. RemovesFrom kind found opened ret s new) (sym hash) r }

pub deletes-array : (s : Store) (opened : List Section) (k : ℕ) (m : MapState) (key : List ℕ) (found : Option ℕ) →
    m.shape.kind ≡ Array → slice_get s.maps k ≡ Some m → LooksUp s k key found → Deletes s opened k key (Err InvalidArgument) s
deletes-array s opened k m key found array h l =
    record {
      state = m;
      there = h;
      found = found;
      lookup = l;
      removed =
          subst (λ kind. RemovesFrom kind found opened (Err InvalidArgument) s s) (sym array) (refl, refl);
    }

-- the map has a free map slot, in the one state that it has
pub free-in : (ms : List MapState) (k : ℕ) (m : MapState) → slice_get ms k ≡ Some m → 0 < length m.bag →
    (n : MapState) → slice_get ms k ≡ Some n → 0 < length n.bag
free-in ms k m h free n g =
    let e : Some m ≡ Some n = sym h ∙ g in
    let same : m ≡ n = cc in
    let P : MapState → Type 0 = λ x. 0 < length x.bag in subst P same free
