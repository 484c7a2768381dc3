-- Names in lists.
use Rattle.bpf_model.proofs.Prelude.{ℕ, suc, ◌≡◌, ◌+◌, not, cond, List, [], ◌∷◌, ◌++◌, length, refl, sym, ap, ◌∙◌, Bor, append_assoc, nat_lt, Some, None}
use Rattle.bpf_model.proofs.Prelude.{bytes_eq, prefix_len, map-append, append-nil}
use Rattle.std.specs.List.{position}
use Rattle.std.specs.Option.{option_to_list as names_by}
use Rattle.asm_source.specs.Maps.{texts, map_name_in, map_names_in}

before_in : (names : List (Bor (List ℕ))) (name : List ℕ) →
    prefix_len (λ n. not (bytes_eq n name)) (texts names) ≡ prefix_len (λ n. not (bytes_eq n.now name)) names
before_in [] name = refl
before_in (n ∷ names) name = ap (λ (k : ℕ). cond (not (bytes_eq n.now name)) (1 + k) 0) (before_in names name)

as_many : (names : List (Bor (List ℕ))) → length (texts names) ≡ length names
as_many [] = refl
as_many (n ∷ names) = ap suc (as_many names)

pub position_of_texts : (names : List (Bor (List ℕ))) (name : List ℕ) →
    position (λ n. bytes_eq n name) (texts names) ≡ position (λ n. bytes_eq n.now name) names
position_of_texts names name =
    ap (λ (k : ℕ). cond (nat_lt k (length (texts names))) (Some k) None) (before_in names name) ∙
    ap (λ (k : ℕ). cond (nat_lt (prefix_len (λ n. not (bytes_eq n.now name)) names) k) (Some (prefix_len (λ n. not (bytes_eq n.now name)) names)) None)
    (as_many names)

pub texts_push : (names : List (Bor (List ℕ))) (name : Bor (List ℕ)) → texts (names ++ name ∷ []) ≡ texts names ++ name.now ∷ []
texts_push names name = map-append (λ n. n.now) names (name ∷ [])

pub texts_same : (names : List (Bor (List ℕ))) → (texts names ++ []) ≡ texts names
texts_same names = append-nil (texts names)

-- one more line of a head
pub name_added : (old new : List (Bor (List ℕ))) (line : List ℕ) (lines left all : List (List ℕ)) → left ≡ line ∷ lines →
    texts new ≡ texts old ++ names_by (map_name_in line) → (texts old ++ map_names_in left) ≡ all → (texts new ++ map_names_in lines) ≡ all
name_added old new line lines left all e f h =
    ap (λ (ts : List (List ℕ)). ts ++ map_names_in lines) f ∙
    append_assoc (texts old) (names_by (map_name_in line)) (map_names_in lines) ∙
    ap (λ (ls : List (List ℕ)). texts old ++ map_names_in ls) (sym e) ∙ h

pub names_end : (names : List (Bor (List ℕ))) (left all : List (List ℕ)) → left ≡ [] → (texts names ++ map_names_in left) ≡ all → texts names ≡ all
names_end names left all e h =
    sym (append-nil (texts names)) ∙ ap (λ (ls : List (List ℕ)). texts names ++ map_names_in ls) (sym e) ∙ h
