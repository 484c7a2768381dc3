-- Read-side critical sections (Linux RCU requirements, "Grace-Period Guarantee").
use Rattle.std.specs.Prelude.{◌≡◌, ℕ, List, Some, slice_get}

-- A section is open from the lock that finds its run at depth 0 to the unlock that leads the run back
-- to depth 0: the locks between only nest. It is named by its run and by how many sections the run
-- had opened with it, so that no two sections have one name. A run is named by the number of its
-- start: the next run of the same run slot is another run.
pub record Section : Type 0 where
  pub run : ℕ
  pub number : ℕ

-- the section is one of them
abbrev pub Has : List Section → Section → Type 0
Has sections s = (k : ℕ) × (slice_get sections k ≡ Some s)

-- each of the first has ended: none of them is among those that are open
abbrev pub AllEnded : List Section → List Section → Type 0
AllEnded sections opened = (s : Section) → Has sections s → Has opened s → ⊥
