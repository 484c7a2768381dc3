use Rattle.std.proofs.Common.{◌≡◌, ◌⊎◌, ℕ, ◌<◌, vec_len, Some}
use Rattle.std.specs.Prelude.{slice_get}
use Rattle.job_queue.specs.Sheet.{HasLine, HasResult, IsAmong}
use Rattle.job_queue.proofs.sheet.Sheet.enter.Given as goal

abbrev pub invariant-loop-one : goal.invariant-loop-one
invariant-loop-one g l = record {
  count : vec_len l.self.lines ≡ vec_len l.fn.self.lines;
  lines : (k : ℕ) (served : g.row.T.Denot) → slice_get l.self.lines.items k ≡ Some (Some served) →
      (slice_get l.fn.self.lines.items k ≡ Some (Some served)) ⊎ IsAmong l.yielded k served;
  stays : (k : ℕ) → HasLine l.fn.self.lines.items k → HasLine l.self.lines.items k;
  entered : (k : ℕ) → k < vec_len l.fn.self.lines → HasResult l.yielded k → HasLine l.self.lines.items k;
}
