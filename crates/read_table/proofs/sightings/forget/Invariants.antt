use Rattle.bpf_model.proofs.Prelude.{◌≡◌, ◌≢◌, ℕ, ◌<◌, length, false}
use Rattle.read_table.proofs.Prelude.{most_readers, most_table_slots, noted}
use Rattle.read_table.proofs.sightings.forget.Given as goal

abbrev pub invariant-loop-reader : goal.invariant-loop-reader
invariant-loop-reader l = (length l.seen.items ≡ length l.fn.seen.items)
    × ((r : ℕ) → r < l.reader → noted l.seen.items l.slot r ≡ false)
    × ((s r : ℕ) → s ≢ l.slot → s < most_table_slots → r < most_readers → noted l.seen.items s r ≡ noted l.fn.seen.items s r)
