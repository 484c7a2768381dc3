use Rattle.bpf_model.proofs.Prelude.{◌≡◌, drop, slice_get}
use Rattle.journal.specs.Rows.{all_entries}
use Rattle.journal.proofs.finding.find_entry.Given as goal

-- the entry is the one so far behind
abbrev pub invariant-loop-row : goal.invariant-loop-row
invariant-loop-row l =
    slice_get (all_entries l.bytes l.rows) l.index ≡ slice_get (all_entries l.bytes (drop l.row-index l.rows)) l.left
