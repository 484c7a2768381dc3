-- Names in a list, and their places.
use Rattle.bpf_model.proofs.Prelude.{ℕ, suc, ◌≡◌, ◌+◌, ◌≤◌, Bool, true, false, cond, not, List, [], ◌∷◌, ◌++◌, length, Bor, refl, sym, ap, ◌∙◌, arith, nat_lt}
use Rattle.bpf_model.proofs.Prelude.{nat_eq, Option, Some, None, is_some, option_map, slice_get, bytes_eq, slice_cmp, nat_cmp, find, position_or_len}
use Rattle.bpf_model.proofs.Prelude.{length-append, bytes_eq-Decides}
use Rattle.std.specs.BTreeMap.{BTreeMap, Updates, get_by}
use Rattle.std.specs.List.{position}
use Rattle.std.proofs.lemmas.List.Folds.{find_at, position_or_len_push}
use Rattle.std.proofs.lemmas.List.Sums.{prefix_len-le-length}
use Rattle.std.proofs.lemmas.Map.Text.{btree_map_updates_str}
use Rattle.asm_source.specs.Names.{Binding, named}
use Rattle.asm_source.specs.Index.{IsIndexOf}

one_before : {X : Type 0} (b : Bool) (x : X) (place count : ℕ) (found : Option X) → nat_lt place count ≡ is_some found →
    nat_lt (cond (not b) (1 + place) 0) (suc count) ≡ is_some (cond b (Some x) found)
one_before true x place count found h = grind arith
one_before false x place count found h = let e : nat_lt (1 + place) (suc count) ≡ nat_lt place count = grind arith in e ∙ h

-- an element is found where its place is
pub has_place : {X : Type 0} (p : X → Bool) (xs : List X) → nat_lt (position_or_len p xs) (length xs) ≡ is_some (find p xs)
has_place p [] = refl
has_place p (x ∷ xs) = one_before (p x) x (position_or_len p xs) (length xs) (find p xs) (has_place p xs)

some_place : (b : Bool) (k i : ℕ) → cond b (Some k) None ≡ Some i → k ≡ i
some_place true k i h = cc h
some_place false k i h = cc h

pub found_at : {X : Type 0} (p : X → Bool) (xs : List X) (i : ℕ) → position p xs ≡ Some i → find p xs ≡ slice_get xs i
found_at p xs i h =
    find_at p xs ∙ ap (λ (k : ℕ). slice_get xs k) (some_place (nat_lt (position_or_len p xs) (length xs)) (position_or_len p xs) i h)

no_place : {X : Type 0} (b : Bool) (k : ℕ) (found : Option X) → b ≡ is_some found → cond b (Some k) None ≡ None → found ≡ None
no_place true k found e h = cc h
no_place false k None e h = refl
no_place false k (Some x) e h = cc e

pub found_nowhere : {X : Type 0} (p : X → Bool) (xs : List X) → position p xs ≡ None → find p xs ≡ None
found_nowhere p xs h = no_place (nat_lt (position_or_len p xs) (length xs)) (position_or_len p xs) (find p xs) (has_place p xs) h

-- where an element that is new stands, once it is added
added_place : (place count : ℕ) (b : Bool) → place ≤ count → (b ≡ true → nat_lt place count ≡ false) →
    cond (nat_lt (cond (nat_eq place count) (count + cond b 0 1) place) (count + 1))
    (Some (cond (nat_eq place count) (count + cond b 0 1) place)) None ≡
    cond b (Some count) (cond (nat_lt place count) (Some place) None)
added_place place count true h new = let e = new refl in grind arith
added_place place count false h new = grind arith

none_mapped : {X Y : Type 0} (f : X → Y) (found : Option X) → option_map f found ≡ None → is_some found ≡ false
none_mapped f None h = refl
none_mapped f (Some x) h = cc h

-- a name that no element has is not found by an equal one
new_place : (names : List Binding) (b : Binding) (name : List ℕ) → named names b.name ≡ None → bytes_eq b.name name ≡ true →
    nat_lt (position_or_len (λ c. bytes_eq c.name name) names) (length names) ≡ false
new_place names b name new same =
    let e : b.name ≡ name = (bytes_eq-Decides b.name name).0 same in
    has_place (λ c. bytes_eq c.name name) names ∙
    ap (λ (n : List ℕ). is_some (find (λ c. bytes_eq c.name n) names)) (sym e) ∙
    none_mapped (λ (c : Binding). c.meaning) (find (λ c. bytes_eq c.name b.name) names) new

place_after : (names : List Binding) (b : Binding) (name : List ℕ) → named names b.name ≡ None →
    position (λ c. bytes_eq c.name name) (names ++ b ∷ []) ≡
    cond (bytes_eq b.name name) (Some (length names)) (position (λ c. bytes_eq c.name name) names)
place_after names b name new =
    rw (position_or_len_push (λ (c : Binding). bytes_eq c.name name) names b, length-append names (b ∷ []))
    (added_place (position_or_len (λ c. bytes_eq c.name name) names) (length names) (bytes_eq b.name name)
    (prefix_len-le-length (λ (c : Binding). not (bytes_eq c.name name)) names) (new_place names b name new))

-- a new name behind the others, and in the index
pub index_grown : (names : List Binding) (b : Binding) (key : Bor (List ℕ)) (old new : BTreeMap (Bor (List ℕ)) ℕ) (place : ℕ) →
    named names b.name ≡ None → key.now ≡ b.name → place ≡ length names → IsIndexOf names old →
    Updates (λ x y. slice_cmp nat_cmp x.now y.now) old new key (Some place) → IsIndexOf (names ++ b ∷ []) new
index_grown names b key old new place fresh same at index updates name =
    btree_map_updates_str key.now old new (Some place) updates name ∙
    ap (λ (bs : List ℕ). cond (bytes_eq bs name) (Some place) (get_by (λ k. slice_cmp nat_cmp name k.now) old)) same ∙
    ap (λ (o : Option ℕ). cond (bytes_eq b.name name) (Some place) o) (index name) ∙
    ap (λ (i : ℕ). cond (bytes_eq b.name name) (Some i) (position (λ c. bytes_eq c.name name) names)) at ∙
    sym (place_after names b name fresh)
