-- The counters' cell: one pass writes it and knows its words, and the others know no more than
-- them.
use Rattle.std.specs.Prelude.{◌≡◌, ℕ, ◌≤◌, List, [], ◌∷◌, slice_index, true, false}
use mathlib.Core.Option.{some}
use lib.ListN.{get_elem?}
use Rattle.atomic_table.specs.Seated.{TableId}
use Rattle.shared.specs.declared.meter.MeterView.{MeterView}
use Rattle.shared_books.specs.declared.tally.Totals.{Totals}
use Rattle.shared_books.specs.Books.{TotalsRise}

-- what is known is no more than the words
pub record IsKnownOf (v : MeterView) (words : List ℕ) : Type 0 where
  pub steps : v.steps ≤ slice_index words 0
  pub unlinked : v.unlinked ≤ slice_index words 1
  pub reclaimed : v.reclaimed ≤ slice_index words 2

-- the view of one pass is no more than the words, and the same where it writes, as only one pass
-- does
pub record FitsMeter (writer : ℕ) (words : List ℕ) (by : ℕ) (v : MeterView) : Type 0 where
  pub known : IsKnownOf v words
  pub own : v.writes ≡ true → by ≡ writer
  pub same : v.writes ≡ true → words ≡ v.steps ∷ v.unlinked ∷ v.reclaimed ∷ []

-- one pass writes, and each view fits
pub record IsMetered (words : List ℕ) (views : List MeterView) : Type 0 where
  pub writer : ℕ
  pub each : (by : ℕ) (v : MeterView) → get_elem? views by ≡ some v → FitsMeter writer words by v

abbrev pub meter_writer : ℕ → ℕ → ℕ → MeterView
meter_writer steps unlinked reclaimed =
    record { writes = true; steps = steps; unlinked = unlinked; reclaimed = reclaimed }

abbrev pub writer_at : Totals → MeterView
writer_at t = meter_writer t.steps t.unlinked t.reclaimed

-- a pass that writes, whose words are totals, may write these: none of them is less
pub record MayWrite (v : MeterView) (after : Totals) : Type 0 where
  pub before : Totals
  pub knows : v ≡ writer_at before
  pub rise : TotalsRise before after

abbrev pub meter_reader : MeterView → MeterView
meter_reader v = record v { writes = false }

-- the writer knows what it wrote
abbrev pub HasWrittenMeter : MeterView → List ℕ → List ℕ → MeterView → Type 0
HasWrittenMeter v before after w =
    w ≡ meter_writer (slice_index after 0) (slice_index after 1) (slice_index after 2)

-- the reader knows what it read, which is no less than what it knew
abbrev pub HasReadMeter : MeterView → List ℕ → List ℕ → MeterView → Type 0
HasReadMeter v before after w =
    (w ≡ record {
      writes = v.writes;
      steps = slice_index after 0;
      unlinked = slice_index after 1;
      reclaimed = slice_index after 2;
    })
    × IsKnownOf v after

-- counters: which cell they read, and what they have read last
pub record CountersView : Type 0 where
  pub meter : TableId
  pub shown : Totals
