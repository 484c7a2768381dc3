-- What a world is asked outside of events, as C asks it.
use Rattle.std.specs.Prelude.{◌≡◌, ℕ, List, [], ◌∷◌, Option, Some, None}
use Rattle.bpf_model.specs.View.{WorldView}
use Rattle.world.specs.Asking.{stat_of}
use Rattle.bpfrt_c.specs.declared.asked.WorldStat.{WorldStat}

-- The counts are the world's.
pub record AreCountsOf (s : WorldStat) (w : WorldView) : Type 0 where
  pub linked : s.linked ≡ (stat_of w).linked
  pub unlinked : s.unlinked ≡ (stat_of w).unlinked
  pub reclaimed : s.reclaimed ≡ (stat_of w).given
  pub worn : s.worn ≡ (stat_of w).worn
  pub runs : s.runs ≡ (stat_of w).runs
  pub sections : s.sections ≡ (stat_of w).«open»

-- the key above which another is asked for: no bytes are none
abbrev pub bound_in_c : List ℕ → Option (List ℕ)
bound_in_c [] = None
bound_in_c (byte ∷ bytes) = Some (byte ∷ bytes)
