-- What a station has done.
use Rattle.std.specs.Prelude.{◌≡◌, ℕ, ◌<◌, true, List, [], length, map, sum_by, All}
use Rattle.crossbeam_queue.specs.Passes.{Pass, view}
use Rattle.job_queue.specs.Numbers.{taker, times, WasTaken}
use Rattle.job_queue.specs.Serving.{IsRightNumbered}
use Rattle.job_queue.specs.Sheet.{HasResult}
use Rattle.job_queue.specs.Turns.{ServesNumbered}
use Rattle.job_queue.specs.declared.numbers.PassView.{PassView}
use Rattle.job_queue.specs.declared.station.Numbered.{Numbered}
use Rattle.job_queue.specs.declared.station.Station.{Station}

abbrev pub numbers_of : {T : Type 0} → List (Numbered T) → List ℕ
numbers_of {T} = map (λ (one : Numbered T). one.number)

-- how often all stations took a number
abbrev pub times_taken : {W T : Type 0} → ℕ → List (Station W T) → ℕ
times_taken {W} {T} k = sum_by (λ (s : Station W T). times k (view s.pass).taken)

-- a station that has served nothing yet: its pass is the queue's, and its worker may serve
pub record IsNewStation {W T : Type 0} (of_queue : Pass ℕ PassView → Type 0) (ready : W → Type 0)
    (s : Station W T) : Type 0 where
  pub pass : of_queue s.pass
  pub fresh : view s.pass ≡ taker []
  pub ready_now : ready s.worker
  pub nothing : s.results.items ≡ []

-- the station's pass has not come back yet, and each number of so many that it took has a result; each as many as it took
pub record IsKept {W T : Type 0} (of_queue : Pass ℕ PassView → Type 0) (count : ℕ) (s : Station W T)
    : Type 0 where
  pub pass : of_queue s.pass
  pub takes : (view s.pass).takes ≡ true
  pub results : (k : ℕ) → WasTaken k (view s.pass).taken → k < count → HasResult s.results.items k
  pub counted : (k : ℕ) → k < count → times k (numbers_of s.results.items) ≡ times k (view s.pass).taken

-- a station that has served some jobs since its worker was `first`, each result right for the job
-- of its number, and has done nothing else
pub record HasServed {J W T : Type 0} (fits gains : W → W → J → T → Type 0) (later : W → W →
    Type 0) (jobs : List J)
    (of_queue : Pass ℕ PassView → Type 0) (ready : W →
    Type 0) (first : W) (s : Station W T) : Type 0 where
  pub kept : IsKept of_queue (length jobs) s
  pub ready_now : ready s.worker
  pub later_now : later first s.worker
  pub results : All (IsRightNumbered fits jobs first s.worker) s.results.items
  pub turn : ServesNumbered gains jobs first s.results.items s.worker
