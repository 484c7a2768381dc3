-- The rows stay counted: with one entry more, and with some equal ones more.
use Rattle.bpf_model.proofs.Prelude.{◌≡◌, ◌∙◌, ℕ, ◌+◌, ◌<◌, ◌≤◌, List, [], ◌∷◌, ◌++◌, length, sym, ap, subst, arith, replicate, length-replicate}
use Rattle.std.proofs.Common.{length-append}
use Rattle.bpf_model.specs.declared.event.Event.TheVariants as events
use Rattle.bpf_model.specs.declared.event.Answer.TheVariants as answers
use Rattle.bpf_model.specs.declared.entry.Entry.{Entry}
use Rattle.journal.specs.declared.row.Row.{Row}
use Rattle.journal.specs.declared.row.Row.TheVariants as rows
use Rattle.journal.specs.Rows.{all_entries, entry_bytes, entry_from, AreCounted, IsRowOf, AreStored}
use Rattle.journal.proofs.Storing.{stored-push, entries-push, stored-moves, entries-moves}

-- rows and bytes that are known by equations
pub entries-pushed : (all more : List Row) (bytes longer : List ℕ) (e : Entry) (row : Row) → AreStored all bytes →
    IsRowOf (length bytes) e row → more ≡ all ++ row ∷ [] → longer ≡ bytes ++ entry_bytes e →
    all_entries longer more ≡ all_entries bytes all ++ e ∷ []
entries-pushed all more bytes longer e row each is rs bs =
    ap (λ (xs : List ℕ). all_entries xs more) bs
    ∙ (ap (all_entries (bytes ++ entry_bytes e)) rs ∙ entries-push all bytes e row each is)

pub counted-push : (all more : List Row) (bytes longer : List ℕ) (e : Entry) (row : Row) (total limit : ℕ) →
    AreCounted all bytes total limit → IsRowOf (length bytes) e row → more ≡ all ++ row ∷ [] →
    longer ≡ bytes ++ entry_bytes e → total < limit → AreCounted more longer (total + 1) limit
counted-push all more bytes longer e row total limit h is rs bs room =
    let kept : AreStored (all ++ row ∷ []) (bytes ++ entry_bytes e) = stored-push all bytes e row h.stored is in
    let n : length (all_entries longer more) ≡ length (all_entries bytes all) + 1 =
    ap length (entries-pushed all more bytes longer e row h.stored is rs bs) ∙ length-append (all_entries bytes all) (e ∷ []) in
    let count = h.count in
    record {
      stored = subst (λ (xs : List ℕ). AreStored more xs) (sym bs) (subst (λ (r : List Row). AreStored r (bytes ++ entry_bytes e)) (sym rs) kept);
      count = omega (arith, n, count);
      short = omega (arith, room);
      few = h.few;
    }

pub entries-moved : (all more : List Row) (bytes : List ℕ) (worker run count : ℕ) → more ≡ all ++ rows.Moved worker run count ∷ [] →
    all_entries bytes more ≡ all_entries bytes all ++ replicate count (entry_from worker (events.Step run) answers.Moved)
entries-moved all more bytes worker run count rs = ap (all_entries bytes) rs ∙ entries-moves all bytes worker run count

pub counted-moves : (all more : List Row) (bytes : List ℕ) (worker run count total limit : ℕ) →
    AreCounted all bytes total limit → more ≡ all ++ rows.Moved worker run count ∷ [] → 1 ≤ count →
    total + count ≤ limit → AreCounted more bytes (total + count) limit
counted-moves all more bytes worker run count total limit h rs some room =
    let e : Entry = entry_from worker (events.Step run) answers.Moved in
    let a : length (all_entries bytes more) ≡ length (all_entries bytes all) + length (replicate count e) =
    ap length (entries-moved all more bytes worker run count rs) ∙ length-append (all_entries bytes all) (replicate count e) in
    let b = length-replicate count e in
    let same = h.count in
    record {
      stored = subst (λ (r : List Row). AreStored r bytes) (sym rs) (stored-moves all bytes worker run count h.stored some);
      count = omega (arith, a, b, same);
      short = room;
      few = h.few;
    }
