-- What is counted of a shared world: steps, and the elements that were unlinked and reclaimed.
use Rattle.std.specs.Prelude.{◌≡◌, ℕ, ◌+◌, ◌^◌, ◌-◌, ◌≤◌, Some, min, if◌then◌else◌}
use Rattle.bpf_model.specs.declared.event.Answer.{Answer}
use Rattle.bpf_model.specs.declared.event.Answer.TheVariants.{Reaped}
use Rattle.bpf_model.specs.View.{WorldView}
use Rattle.shared_books.specs.Totals.{is_step, unlinked_total, unreclaimed_in}
use Rattle.shared_books.specs.declared.tally.Totals.{Totals}
use Rattle.shared_books.specs.declared.tally.Origin.{Origin}
use Rattle.shared_books.specs.declared.tally.Tally.{Tally}

abbrev pub origin_of : WorldView → Origin
origin_of w = record { reclaimed = w.given; unreclaimed = unreclaimed_in w }

-- what an answer adds to the steps, and to the reclaimed elements
abbrev pub steps_by : Answer → ℕ
steps_by answer = if is_step answer then 1 else 0

abbrev pub reclaimed_by : Answer → ℕ
reclaimed_by (Reaped (Some element)) = 1
reclaimed_by answer = 0

-- One answer: at most one element is unlinked or reclaimed.
pub record CountsOn (answer : Answer) (unreclaimed later : ℕ) : Type 0 where
  pub unlinked : ℕ
  pub one : unlinked + reclaimed_by answer ≤ 1
  pub sum : later + reclaimed_by answer ≡ unreclaimed + unlinked

-- Totals since the origin are those of the world now, less those of the world at the origin.
pub record IsTallyOf (t : Tally) (w : WorldView) : Type 0 where
  pub unreclaimed : t.unreclaimed ≡ unreclaimed_in w
  pub unlinked : t.origin.reclaimed + t.origin.unreclaimed + t.totals.unlinked ≡ unlinked_total w
  pub reclaimed : t.origin.reclaimed + t.totals.reclaimed ≡ w.given

-- the greatest number of 64 bits, at which the sums of the counters stop
abbrev pub greatest_count : ℕ
greatest_count = 2 ^ 64 - 1

-- What the counters show: the steps since the sharing, and of the elements of the world, from its
-- making on, how many were unlinked and how many of these reclaimed.
abbrev pub shown_totals : Origin → ℕ → ℕ → ℕ → Totals
shown_totals o steps unlinked reclaimed = record {
  steps = steps;
  unlinked = min (min (o.reclaimed + o.unreclaimed) greatest_count + unlinked) greatest_count;
  reclaimed = min (min (o.reclaimed + reclaimed) greatest_count)
      (min (min (o.reclaimed + o.unreclaimed) greatest_count + unlinked) greatest_count);
}
