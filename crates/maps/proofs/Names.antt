-- Names of maps among the texts that a set keeps.
use Rattle.bpf_model.proofs.Prelude.{◌≡◌, ◌<◌, ℕ, zero, suc, ap, ◌∙◌, refl, sym, arith, Bool, true, List, map, [], ◌∷◌, ◌++◌, ◌||◌, ◌&&◌, Some, None, not}
use Rattle.bpf_model.proofs.Prelude.{◌+◌, position, cond, nat_le, nat_lt, length, slice_get, slice_index, list_all, list_any, position_or_len, prefix_len}
use Rattle.bpf_model.proofs.Prelude.{IsAscii, and_parts, nat_tests, map-append, length-append, length-map}
use Rattle.std.specs.List.{AllZip}
use Rattle.maps.specs.Registry.{begins_with_letter, is_name, is_name_character, longest_name}

pub any_named : {A B : Type 0} (v : A → B) (test : B → Bool) (xs : List A) → list_any (λ x. test (v x)) xs ≡ list_any test (map v xs)
any_named v test [] = refl
any_named v test (x ∷ xs) = ap (λ b. test (v x) || b) (any_named v test xs)

pub prefix_named : {A B : Type 0} (v : A → B) (test : B → Bool) (xs : List A) → prefix_len (λ x. test (v x)) xs ≡ prefix_len test (map v xs)
prefix_named v test [] = refl
prefix_named v test (x ∷ xs) = ap (λ n. cond (test (v x)) (1 + n) 0) (prefix_named v test xs)

or_len_named : {A B : Type 0} (v : A → B) (test : B → Bool) (xs : List A) → position_or_len (λ x. test (v x)) xs ≡ position_or_len test (map v xs)
or_len_named v test xs = prefix_named v (λ y. not (test y)) xs

pub position_named : {A B : Type 0} (v : A → B) (test : B → Bool) (xs : List A) → position (λ x. test (v x)) xs ≡ position test (map v xs)
position_named v test xs =
    ap (λ n. cond (nat_lt n (length xs)) (Some n) None) (or_len_named v test xs)
    ∙ ap (λ l. cond (nat_lt (position_or_len test (map v xs)) l) (Some (position_or_len test (map v xs))) None) (sym (length-map xs v))

pub added : {A B : Type 0} (v : A → B) (keys new : List A) (x : A) (y : B) → new ≡ keys ++ x ∷ [] → v x ≡ y → map v new ≡ map v keys ++ y ∷ []
added v keys new x y e f = ap (map v) e ∙ map-append v keys (x ∷ []) ∙ ap (λ z. map v keys ++ z ∷ []) f

pub one_longer : {A : Type 0} (keys new : List A) (x : A) → new ≡ keys ++ x ∷ [] → length new ≡ length keys + 1
one_longer keys new x e = ap length e ∙ length-append keys (x ∷ [])

pub same_named : {A B : Type 0} (v : A → B) (xs ys : List A) → AllZip (λ x y. v y ≡ v x) xs ys → map v ys ≡ map v xs
same_named v [] [] h = refl
same_named v [] (y ∷ ys) h = absurd h
same_named v (x ∷ xs) [] h = absurd h
same_named v (x ∷ xs) (y ∷ ys) h = ap (λ b. b ∷ map v ys) h.0 ∙ ap (λ bs. v x ∷ bs) (same_named v xs ys h.1)

pub as_long : {A B : Type 0} (v : A → B) (xs ys : List A) → map v ys ≡ map v xs → length ys ≡ length xs
as_long v xs ys e = sym (length-map ys v) ∙ ap length e ∙ length-map xs v

-- a map's name is ASCII
small_character : (c : ℕ) → is_name_character c ≡ true → c < 128
small_character c h = grind (arith, nat_tests)

all_small : (name : List ℕ) → list_all is_name_character name ≡ true → (i : ℕ) → slice_index name i < 128
all_small [] e i = omega arith
all_small (c ∷ name) e zero = small_character c (and_parts (is_name_character c) (list_all is_name_character name) e).0
all_small (c ∷ name) e (suc i) = all_small name (and_parts (is_name_character c) (list_all is_name_character name) e).1 i

pub ascii_name : (name : List ℕ) → is_name name ≡ true → IsAscii name
ascii_name name e =
    let rest = (and_parts (begins_with_letter (slice_get name 0)) (nat_le (length name) longest_name && list_all is_name_character name) e).1 in
    all_small name (and_parts (nat_le (length name) longest_name) (list_all is_name_character name) rest).1
