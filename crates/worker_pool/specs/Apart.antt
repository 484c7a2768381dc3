-- Which jobs may be served in worlds apart.
use Rattle.std.specs.Prelude.{◌≡◌, ◌⊎◌, ℕ, ◌+◌, ◌*◌, ◌≤◌, length, Some, slice_get}
use Rattle.bpf_model.specs.declared.insn.Insn.{Insn}
use Rattle.bpf_model.specs.declared.insn.Insn.TheVariants.{Store}
use Rattle.bpf_model.specs.declared.limits.TheConstants.{MAX_JOURNAL}
use Rattle.effects.specs.declared.region.Region.{Region}
use Rattle.shared_runs.specs.Words.{ChangesMap, IsElementRegion}
use Rattle.verifier.specs.Checked.{Checked}

-- the instruction stores, where it reaches this region, to the value of an element
abbrev pub StoresToElement : Region → Insn → Type 0
StoresToElement region (Store width dst offset src) = IsElementRegion region
StoresToElement region i = ⊥

-- the instruction stores to an element, where it reaches this region, or calls a helper that changes a map
abbrev pub ChangesMapAt : Region → Insn → Type 0
ChangesMapAt region i = StoresToElement region i ⊎ ChangesMap i

-- Some instruction of the program stores to an element, or calls a helper that changes a map.
pub record ChangesMaps (c : Checked) : Type 0 where
  pub index : ℕ
  pub insn : Insn
  pub there : slice_get c.program index ≡ Some insn
  pub region : Region
  pub noted : slice_get c.regions index ≡ Some region
  pub changes : ChangesMapAt region insn

-- One journal has room for so many jobs of the program: each makes a start, its steps and a drop.
abbrev pub FitsOneJournal : Checked → ℕ → Type 0
FitsOneJournal c count = (length c.program + 2) * count ≤ MAX_JOURNAL
