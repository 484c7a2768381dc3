-- Where a reader's own value lies.
use Rattle.table_words.proofs.Prelude.{◌≡◌, ◌⊎◌, ℕ, ◌+◌, ◌-◌, ◌*◌, ◌/◌, ◌<◌, ◌≤◌, refl, ap, ◌∙◌, inl, inr, arith, div-mul-add, mul-add-lt, mul-le}
use Rattle.table_words.proofs.Prelude.{IsOpenTo, IsReader}
use Rattle.map_table.proofs.Prelude.{TableShape, most_words, copies_of, first_of, layout_of, width_of, IsSized}
use Rattle.table_words.specs.declared.view.Values.{Values}
use Rattle.table_words.specs.declared.view.Values.TheVariants.{Shared, PerReader}
use Rattle.map_table.specs.Limits.{most_readers}
use Rattle.map_table.specs.Values.{copies_by, first_by, owner_by}

behind_by : (v : Values) (k : TableShape) (who place : ℕ) → first_by v k who ≤ place → k.key_words ≤ place
behind_by Shared k who place from = from
behind_by PerReader k who place from = omega (arith, from)

-- it lies behind the key
pub behind_key : (k : TableShape) (who place : ℕ) → first_of k who ≤ place → k.key_words ≤ place
behind_key k who place from = behind_by k.values k who place from

-- the place in a value, and that it is below its words
in_stored : (v : Values) (k : TableShape) (who place : ℕ) → IsReader (layout_of k) who → first_by v k who ≤ place →
    place < first_by v k who + k.value_words → place < k.key_words + k.value_words * copies_by v k
in_stored Shared k who place reader from below = omega (arith, below)
in_stored PerReader k who place reader from below =
    let at : ℕ = place - first_by PerReader k who in
    let l : (who - 1) * k.value_words + at < k.value_words * k.readers =
    mul-add-lt (who - 1) k.value_words at k.readers (omega (arith, reader.0, reader.1)) (omega (arith, from, below)) in
    omega (arith, l, from)

-- it lies within the element
pub in_element : (k : TableShape) (who place : ℕ) → IsReader (layout_of k) who → first_of k who ≤ place →
    place < first_of k who + k.value_words → place < width_of k
in_element k who place reader from below = in_stored k.values k who place reader from below

owned_by : (v : Values) (k : TableShape) (who place : ℕ) → IsReader (layout_of k) who → first_by v k who ≤ place →
    place < first_by v k who + k.value_words → (owner_by v k place ≡ 0) ⊎ (owner_by v k place ≡ who)
owned_by Shared k who place reader from below = inl refl
owned_by PerReader k who place reader from below =
    let at : ℕ = place - first_by PerReader k who in
    let is : place - k.key_words ≡ (who - 1) * k.value_words + at = omega (arith, from) in
    let row : (place - k.key_words) / k.value_words ≡ who - 1 =
    ap (λ z. z / k.value_words) is ∙ div-mul-add (who - 1) k.value_words at (omega (arith, from, below)) in
    inr (omega (arith, row, reader.0))

-- it's no other reader's
pub is_open : (k : TableShape) (who element place : ℕ) → IsReader (layout_of k) who → first_of k who ≤ place →
    place < first_of k who + k.value_words → IsOpenTo (layout_of k) who element place
is_open k who element place reader from below = owned_by k.values k who place reader from below

copies_few : (v : Values) (k : TableShape) → k.readers ≤ most_readers → copies_by v k ≤ most_readers
copies_few Shared k few = omega arith
copies_few PerReader k few = few

-- there are few values
pub few_copies : (k : TableShape) → k.readers ≤ most_readers → copies_of k ≤ most_readers
few_copies k few = copies_few k.values k few

-- an element has few words
pub few_words : (k : TableShape) → IsSized k → width_of k ≤ most_words + most_words * most_readers
few_words k sized =
    let key = sized.key in
    omega (arith, key, mul-le k.value_words (copies_of k) most_words most_readers sized.value (few_copies k sized.readers))
