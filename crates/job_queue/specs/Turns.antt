-- How the workers of a pool share its jobs out: which each of them serves, one after another, and that it does nothing else.
use Rattle.std.specs.Prelude.{◌≡◌, ℕ, ◌<◌, List, [], ◌∷◌, length, map, sum_by, slice_get, Some, All}
use Rattle.std.specs.List.{flat_map}
use Rattle.job_queue.specs.declared.station.Numbered.{Numbered}
use Rattle.job_queue.specs.Numbers.{times}
use Rattle.job_queue.specs.Serving.{IsRight}

-- some jobs, one behind another, and their results
pub record Stretch (J T : Type 0) : Type 0 where
  pub jobs : List J
  pub results : List T

-- what a worker was, the numbers of the stretches that it served, in this order, and what it is
pub record Turn (W : Type 0) : Type 0 where
  pub first : W
  pub numbers : List ℕ
  pub last : W

-- how often a stretch was served in all turns
abbrev pub times_served : {W : Type 0} → ℕ → List (Turn W) → ℕ
times_served {W} k = sum_by (λ (t : Turn W). times k t.numbers)

module _ {J W T : Type 0} (gains : W → W → J → T → Type 0) where
  -- From `first` to `last` the worker served each of the jobs once, one after another, and nothing else.
  abbrev pub ServesEach : W → List J → List T → W → Type 0
  ServesEach first [] [] last = last ≡ first
  ServesEach first [] (served ∷ results) last = ⊥
  ServesEach first (job ∷ jobs) [] last = ⊥
  ServesEach first (job ∷ jobs) (served ∷ results) last =
      (next : W) × gains first next job served × ServesEach next jobs results last

  -- the same of the stretches of these numbers
  abbrev pub ServesStretches : List (Stretch J T) → W → List ℕ → W → Type 0
  ServesStretches stretches first [] last = last ≡ first
  ServesStretches stretches first (k ∷ numbers) last =
      (stretch : Stretch J T) × (slice_get stretches k ≡ Some stretch) × (next : W)
      × ServesEach first stretch.jobs stretch.results next × ServesStretches stretches next numbers last

  -- The jobs are cut into stretches. Each stretch was served once, in the turn of one worker, and no worker did
  -- anything else.
  pub record AreSharedOut (jobs : List J) (before after : List W) (results : List T) : Type 0 where
    pub stretches : List (Stretch J T)
    pub cut : flat_map (λ (s : Stretch J T). s.jobs) stretches ≡ jobs
    pub joined : flat_map (λ (s : Stretch J T). s.results) stretches ≡ results
    pub turns : List (Turn W)
    pub befores : map (λ (t : Turn W). t.first) turns ≡ before
    pub afters : map (λ (t : Turn W). t.last) turns ≡ after
    pub each : All (λ (t : Turn W). ServesStretches stretches t.first t.numbers t.last) turns
    pub once : (k : ℕ) → k < length stretches → times_served k turns ≡ 1

  -- from `first` to `last` the worker served the jobs of these numbers, one after another, and nothing else
  abbrev pub ServesNumbered : List J → W → List (Numbered T) → W → Type 0
  ServesNumbered jobs first [] last = last ≡ first
  ServesNumbered jobs first (one ∷ rest) last =
      (next : W) × IsRight gains jobs first next one.number one.served × ServesNumbered jobs next rest last

  -- the same, where each result stands on the line of its number
  abbrev pub ServesLines : List J → (ℕ → T → Type 0) → W → List ℕ → W → Type 0
  ServesLines jobs Line first [] last = last ≡ first
  ServesLines jobs Line first (k ∷ numbers) last =
      (served : T) × Line k served × (next : W) × IsRight gains jobs first next k served
      × ServesLines jobs Line next numbers last

  -- each job was served once, in the turn of one worker, its result stands on its line, and no worker did anything else
  pub record AreTurns (jobs : List J) (before after : List W) (Line : ℕ → T → Type 0) : Type 0 where
    pub turns : List (Turn W)
    pub befores : map (λ (t : Turn W). t.first) turns ≡ before
    pub afters : map (λ (t : Turn W). t.last) turns ≡ after
    pub each : All (λ (t : Turn W). ServesLines jobs Line t.first t.numbers t.last) turns
    pub once : (k : ℕ) → k < length jobs → times_served k turns ≡ 1
