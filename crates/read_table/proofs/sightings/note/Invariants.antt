use Rattle.bpf_model.proofs.Prelude.{◌≡◌, ◌≢◌, ℕ, ◌<◌, length, true}
use Rattle.read_table.proofs.Prelude.{most_readers, most_table_slots, noted}
use Rattle.read_table.proofs.sightings.note.Given as goal

abbrev pub invariant-loop-slot : goal.invariant-loop-slot
invariant-loop-slot l = (length l.seen.items ≡ length l.fn.seen.items)
    × ((s : ℕ) → s < l.slot → noted l.seen.items s l.reader ≡ true)
    × ((s r : ℕ) → r ≢ l.reader → s < most_table_slots → r < most_readers → noted l.seen.items s r ≡ noted l.fn.seen.items s r)
