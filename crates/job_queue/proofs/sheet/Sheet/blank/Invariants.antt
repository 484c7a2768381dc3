use Rattle.std.proofs.Common.{◌≡◌, ◌≢◌, ◌≤◌, ℕ, vec_len, vec_capacity, Some}
use Rattle.std.specs.Prelude.{slice_get}
use Rattle.job_queue.proofs.sheet.Sheet.blank.Given as goal

abbrev pub invariant-loop : goal.invariant-loop
invariant-loop g l = (vec_len l.lines ≡ l.counter) × (l.fn.count ≤ vec_capacity l.lines) ×
    ((k : ℕ) (served : g.row.T.Denot) → slice_get l.lines.items k ≢ Some (Some served))
