use Rattle.bpf_model.proofs.Prelude.{◌≡◌, ◌*◌, ◌≤◌, take, ◌+◌}
use Rattle.model_laws.proofs.Prelude.{MAX_ENTRIES, MAX_SPARE}
use Rattle.map_kinds.specs.Counting.{counts_of_all}
use Rattle.maps.proofs.registry.sum_counts.Given as goal

abbrev pub invariant-loop-chosen : goal.invariant-loop-chosen
invariant-loop-chosen l = record {
  counts : l.sum ≡ counts_of_all (take l.chosen-index l.maps);
  linked : l.sum.linked ≤ (MAX_ENTRIES + MAX_SPARE) * l.chosen-index;
  unlinked : l.sum.unlinked ≤ (MAX_ENTRIES + MAX_SPARE) * l.chosen-index;
  worn : l.sum.worn ≤ (MAX_ENTRIES + MAX_SPARE) * l.chosen-index;
}
