-- The entry of an index, among rows that stand for one or several.
use Rattle.bpf_model.proofs.Prelude.{◌≡◌, ◌∙◌, ℕ, zero, suc, ◌+◌, ◌<◌, ◌≤◌, List, [], ◌∷◌, ◌++◌, length, Some, refl, ap, arith, slice_get, option_map}
use Rattle.bpf_model.proofs.Prelude.{replicate, length-replicate}
use Rattle.std.proofs.Common.{length-append}
use Rattle.bpf_model.specs.declared.entry.Entry.{Entry}
use Rattle.journal.specs.declared.row.Row.{Row}
use Rattle.journal.specs.Rows.{all_entries, entries_of, entry_of, span_of, AreStored}
use Rattle.journal.proofs.Storing.{one-at-least}

-- in front of others stand so many equal entries
among : (n i : ℕ) (e : Entry) (rest : List Entry) → i < n → slice_get (replicate n e ++ rest) i ≡ Some e
among zero i e rest h = absurd (omega (arith, h))
among (suc n) zero e rest h = refl
among (suc n) (suc i) e rest h = among n i e rest (omega (arith, h))

behind : (n i j : ℕ) (e : Entry) (rest : List Entry) → i ≡ n + j → slice_get (replicate n e ++ rest) i ≡ slice_get rest j
behind zero i j e rest h = ap (slice_get rest) (let same : i ≡ j = omega (arith, h) in same)
behind (suc n) zero j e rest h = absurd (omega (arith, h))
behind (suc n) (suc i) j e rest h = behind n i j e rest (omega (arith, h))

pub entry-here : (bytes : List ℕ) (row : Row) (rest : List Row) (i : ℕ) → i < span_of row →
    slice_get (all_entries bytes (row ∷ rest)) i ≡ Some (entry_of bytes row)
entry-here bytes row rest i h = among (span_of row) i (entry_of bytes row) (all_entries bytes rest) h

pub entry-later : (bytes : List ℕ) (row : Row) (rest : List Row) (i j : ℕ) → i ≡ span_of row + j →
    slice_get (all_entries bytes (row ∷ rest)) i ≡ slice_get (all_entries bytes rest) j
entry-later bytes row rest i j h = behind (span_of row) i j (entry_of bytes row) (all_entries bytes rest) h

length-here : (bytes : List ℕ) (row : Row) (rest : List Row) →
    length (all_entries bytes (row ∷ rest)) ≡ span_of row + length (all_entries bytes rest)
length-here bytes row rest =
    let a = length-append (entries_of bytes row) (all_entries bytes rest) in
    let b = length-replicate (span_of row) (entry_of bytes row) in
    omega (arith, a, b)

as-many : (bytes : List ℕ) (all : List Row) → AreStored all bytes → length all ≤ length (all_entries bytes all)
as-many bytes [] each = omega arith
as-many bytes (row ∷ rest) each =
    let one = one-at-least (length bytes) row (each 0 row refl) in
    let more = as-many bytes rest (λ k r h. each (suc k) r h) in
    let n = length-here bytes row rest in
    omega (arith, one, more, n)

-- where there are as many entries as rows, each row has one
pub entry-of-row : (bytes : List ℕ) (all : List Row) (i : ℕ) → AreStored all bytes → length all ≡ length (all_entries bytes all) →
    slice_get (all_entries bytes all) i ≡ option_map (entry_of bytes) (slice_get all i)
entry-of-row bytes [] i each same = refl
entry-of-row bytes (row ∷ rest) zero each same =
    let one = one-at-least (length bytes) row (each 0 row refl) in
    entry-here bytes row rest 0 one
entry-of-row bytes (row ∷ rest) (suc i) each same =
    let one = one-at-least (length bytes) row (each 0 row refl) in
    let more = as-many bytes rest (λ k r h. each (suc k) r h) in
    let n = length-here bytes row rest in
    entry-later bytes row rest (suc i) i (omega (arith, one, more, n, same))
    ∙ entry-of-row bytes rest i (λ k r h. each (suc k) r h) (omega (arith, one, more, n, same))
