use Rattle.bpf_model.proofs.Prelude.{◌≡◌, ◌≤◌, arith, ◌+◌}
use Rattle.model_laws.proofs.Prelude.{MAX_ENTRIES, MAX_SPARE}
use Rattle.map_kinds.specs.Counting.{unlinked_in}
use Rattle.map_kinds.specs.Shown.{map_view}
use Rattle.map_kinds.proofs.Counting.{few-unlinked}
use Rattle.map_kinds.proofs.hash_map.HashMapMapTable.counts.Goals as goal

pub returns-clause-unlinked : goal.returns-clause-unlinked
returns-clause-unlinked g c =
    let f : unlinked_in (map_view c.self.inside.shape c.self.inside.parts) ≤ MAX_ENTRIES + MAX_SPARE =
    few-unlinked c.self.inside.shape c.self.inside.parts c.self.inside.counts.linked c.is_parted.ensures
    c.self.invariant.kept in
    let e : c.self.inside.counts.unlinked ≡ unlinked_in (map_view c.self.inside.shape c.self.inside.parts) = c.self.invariant.unlinked in
    omega arith
