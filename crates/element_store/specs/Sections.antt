-- Which runs are inside a section, how deep, and which of them are awaited; and how a few words hold
-- a flag for each run slot.
use Rattle.std.specs.Prelude.{◌≡◌, ℕ, ◌≤◌, ◌==◌, ◌/◌, ◌%◌, Bool, true, nat_lt, List, Some}
use Rattle.std.specs.Prelude.{slice_get, slice_index, map, length}
use Rattle.std.specs.List.{range_with_len}
use Rattle.std.specs.Int.{bit_at}
use Rattle.bpf_model.specs.declared.limits.TheConstants.{MAX_DEPTH, MAX_RUNS}

-- for each run slot how many locks of its run are open, and whether its section is awaited
pub record GraceState : Type 0 where
  pub depths : List ℕ
  pub awaited : List Bool

-- how many locks of the run in a run slot are open
abbrev pub depth_at : GraceState → ℕ → ℕ
depth_at g run = slice_index g.depths run

-- a run at this depth is inside a section: a lock of it is open
abbrev pub is_open_depth : ℕ → Bool
is_open_depth depth = nat_lt 0 depth

-- for each run slot whether its run is inside a section
abbrev pub opened_in : GraceState → List Bool
opened_in g = map is_open_depth g.depths

-- Each run slot has its depth, which is at most MAX_DEPTH, and its flag; and an awaited run is
-- inside a section.
pub record IsGrace (g : GraceState) : Type 0 where
  pub depths : length g.depths ≡ MAX_RUNS
  pub awaited : length g.awaited ≡ MAX_RUNS
  pub deep : (r : ℕ) → depth_at g r ≤ MAX_DEPTH
  pub inside : (r : ℕ) → slice_get g.awaited r ≡ Some true → slice_get (opened_in g) r ≡ Some true

abbrev pub grace_state_of : List ℕ → List Bool → GraceState
grace_state_of depths awaited = record { depths = depths; awaited = awaited }

-- how many flags a word holds
abbrev pub flags_of_word : ℕ
flags_of_word = 64

-- the flag of run slot r is bit r % 64 of word r / 64
unfoldable pub flags_of : List ℕ → List Bool
flags_of words =
    map (λ r. bit_at (slice_index words (r / flags_of_word)) (r % flags_of_word) == 1)
    (range_with_len 0 MAX_RUNS)
