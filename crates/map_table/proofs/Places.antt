-- Where the words of slots lie.
use Rattle.table_words.proofs.Prelude.{◌≡◌, ℕ, ◌+◌, ◌-◌, ◌*◌, ◌/◌, ◌%◌, ◌<◌, ap, ◌∙◌, sym, subst, arith, div-mul-add, mul-add-lt}
use Rattle.map_table.proofs.Prelude.{Load, Store, TableShape, base_of, width_of, count_of, index_in}
use Rattle.std.proofs.lemmas.Nat.{mod-mul-add, same_from_place}

-- where a word of a slot lies, as an equation
abbrev pub IsAt : TableShape → ℕ → ℕ → ℕ → Type 0
IsAt k i slot place = i ≡ index_in k slot place

-- the slot and the place of a word
pub slot_back : (k : TableShape) (i slot place : ℕ) → IsAt k i slot place → place < width_of k → (i - base_of k) / width_of k ≡ slot
slot_back k i slot place e l = let p : i - base_of k ≡ slot * width_of k + place =
    omega arith in ap (λ z. z / width_of k) p ∙ div-mul-add slot (width_of k) place l

pub place_back : (k : TableShape) (i slot place : ℕ) → IsAt k i slot place → place < width_of k → (i - base_of k) % width_of k ≡ place
place_back k i slot place e l = let p : i - base_of k ≡ slot * width_of k + place =
    omega arith in ap (λ z. z % width_of k) p ∙ mod-mul-add slot (width_of k) place l

pub load_move : (j k : TableShape) (i slot place x : ℕ) → j ≡ k → IsAt k i slot place → place < width_of k →
    Load ((i - base_of j) / width_of j) ((i - base_of j) % width_of j) x ≡ Load slot place x
load_move j k i slot place x is e l =
    let b = subst (λ (z : TableShape). IsAt z i slot place) (sym is) e in
    let w = subst (λ (z : TableShape). place < width_of z) (sym is) l in
    λ a. Load (slot_back j i slot place b w a) (place_back j i slot place b w a) x

pub store_move : (j k : TableShape) (i slot place x : ℕ) → j ≡ k → IsAt k i slot place → place < width_of k →
    Store ((i - base_of j) / width_of j) ((i - base_of j) % width_of j) x ≡ Store slot place x
store_move j k i slot place x is e l =
    let b = subst (λ (z : TableShape). IsAt z i slot place) (sym is) e in
    let w = subst (λ (z : TableShape). place < width_of z) (sym is) l in
    λ a. Store (slot_back j i slot place b w a) (place_back j i slot place b w a) x

-- one index is of one slot and place
pub same_place : (k : TableShape) (s p slot place : ℕ) → p < width_of k → place < width_of k → index_in k slot place ≡ index_in k s p → (s ≡ slot) × (p ≡ place)
same_place k s p slot place l m e = same_from_place s p slot place (width_of k) l m (omega arith)

pub place_within : (k : TableShape) (slot place : ℕ) → slot < k.elements → place < width_of k → index_in k slot place < count_of k
place_within k slot place l m = omega (arith, mul-add-lt slot (width_of k) place k.elements l m)
