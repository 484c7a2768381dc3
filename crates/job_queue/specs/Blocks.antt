-- Results of blocks of jobs.
use Rattle.std.specs.Prelude.{List, [], Option, Some, None, IfSome}
use Rattle.std.specs.Global.{Vec}
use Rattle.std.specs.List.{AllZip}
use Rattle.std.specs.Borrow.{Bor}
use Rattle.job_queue.specs.Turns.{ServesEach}

abbrev pub jobs_of : {J : Type 0} → Bor (List J) → List J
jobs_of block = block.now

-- the results of a block; none where there was no memory for them
abbrev pub results_of : {T : Type 0} → Option (Vec T) → List T
results_of None = []
results_of (Some results) = results.items

-- each job of a block has its result, at the same place, by a worker between `first` and `last`
abbrev pub AreRightIn : {J W T : Type 0} → (W → W → J → T → Type 0) → W → W → List J →
    Option (Vec T) → Type 0
AreRightIn fits first last jobs served = IfSome served (λ v. AllZip (fits first last) jobs v.items)

-- the same of a block of jobs that stands elsewhere
abbrev pub InBlocks : {J W T : Type 0} → (W → W → J → T → Type 0) → W → W → Bor (List J) →
    Option (Vec T) → Type 0
InBlocks fits first last block served = AreRightIn fits first last block.now served

-- The worker served each job of a block, one after another, and nothing else, where there was memory for the results.
abbrev pub ServesIn : {J W T : Type 0} → (W → W → J → T → Type 0) → W → W → List J → Option (Vec T) → Type 0
ServesIn gains first last jobs served = IfSome served (λ v. ServesEach gains first jobs v.items last)

-- the same of a block of jobs that stands elsewhere
abbrev pub ServesBlock : {J W T : Type 0} → (W → W → J → T → Type 0) → W → W → Bor (List J) →
    Option (Vec T) → Type 0
ServesBlock gains first last block served = ServesIn gains first last block.now served
