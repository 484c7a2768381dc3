-- What a pool's results say.
use Rattle.std.specs.Prelude.{◌≡◌, ◌⊎◌, ℕ, ◌<◌, List, slice_get, Option, Some}
use Rattle.job_queue.specs.declared.station.Numbered.{Numbered}

-- the most jobs of a pool
abbrev pub most_jobs : ℕ
most_jobs = 65536

-- the most threads of a pool
abbrev pub most_threads : ℕ
most_threads = 64

-- no number of threads for a pool that has so many workers
abbrev pub IsBadCount : ℕ → ℕ → Type 0
IsBadCount threads workers = (threads ≡ 0) ⊎ (most_threads < threads) ⊎ (workers < threads)

module _ {J W T : Type 0} (fits : W → W → J → T → Type 0) where
  -- The result is right for the job, by one of the workers, between what that worker was before and
  -- what it is after.
  pub record IsServedByOne (before after : List W) (job : J) (served : T) : Type 0 where
    pub index : ℕ
    pub first : W
    pub last : W
    pub was : slice_get before index ≡ Some first
    pub is : slice_get after index ≡ Some last
    pub right : fits first last job served

  -- the result is right for the job of this number, by one of the workers
  pub record IsServedFor (jobs : List J) (before after : List W) (k : ℕ) (served : T) : Type 0 where
    pub job : J
    pub at : slice_get jobs k ≡ Some job
    pub by_one : IsServedByOne before after job served

  abbrev pub AreRightLines : List J → List W → List W → List (Option T) → Type 0
  AreRightLines jobs before after lines =
      (k : ℕ) (served : T) → slice_get lines k ≡ Some (Some served) →
      IsServedFor jobs before after k served

  -- each result is right for the job of its index
  abbrev pub AreServed : List J → List W → List W → List T → Type 0
  AreServed jobs before after results =
      (k : ℕ) (job : J) (served : T) → slice_get jobs k ≡ Some job →
      slice_get results k ≡ Some served
      → IsServedByOne before after job served

  -- the result is right for the job of this number, by a worker between `first` and `last`
  pub record IsRight (jobs : List J) (first last : W) (k : ℕ) (served : T) : Type 0 where
    pub job : J
    pub at : slice_get jobs k ≡ Some job
    pub right : fits first last job served

  abbrev pub IsRightNumbered : List J → W → W → Numbered T → Type 0
  IsRightNumbered jobs first last one = IsRight jobs first last one.number one.served
