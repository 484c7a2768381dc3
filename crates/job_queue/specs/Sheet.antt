-- Where a result on the sheet comes from.
use Rattle.std.specs.Prelude.{◌≡◌, ◌≢◌, ℕ, List, slice_get, Option, Some}
use Rattle.job_queue.specs.declared.station.Numbered.{Numbered}
use Rattle.job_queue.specs.declared.station.Station.{Station}

abbrev pub worker_of : {W T : Type 0} → Station W T → W
worker_of s = s.worker

-- one of the results is this, under this number
pub record IsAmong {T : Type 0} (results : List (Numbered T)) (k : ℕ) (served : T) : Type 0 where
  pub index : ℕ
  pub at : slice_get results index ≡ Some (record { number = k; served = served })

-- one of the results is of this number
abbrev pub HasResult : {T : Type 0} → List (Numbered T) → ℕ → Type 0
HasResult {T} results k = (served : T) × IsAmong results k served

-- one of the stations has this result, under this number
pub record StandsIn {W T : Type 0} (stations : List (Station W T)) (k : ℕ) (served : T)
    : Type 0 where
  pub index : ℕ
  pub station : Station W T
  pub at : slice_get stations index ≡ Some station
  pub among : IsAmong station.results.items k served

-- no line has a result yet
abbrev pub IsBlank : {T : Type 0} → List (Option T) → Type 0
IsBlank {T} lines = (k : ℕ) (served : T) → slice_get lines k ≢ Some (Some served)

-- the line of this number has a result
abbrev pub HasLine : {T : Type 0} → List (Option T) → ℕ → Type 0
HasLine {T} lines k = (served : T) × (slice_get lines k ≡ Some (Some served))
