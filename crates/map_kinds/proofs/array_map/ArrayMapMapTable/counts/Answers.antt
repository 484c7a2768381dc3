use Rattle.bpf_model.proofs.Prelude.{ℕ, ◌∙◌, sym, ap}
use Rattle.map_kinds.specs.declared.counts.Counts.{Counts}
use Rattle.map_kinds.specs.Counting.{counts_of}
use Rattle.model_laws.proofs.Indices.{len-index}
use Rattle.map_kinds.proofs.array_map.ArrayMapMapTable.counts.Goals as goal

pub returns-clause-value : goal.returns-clause-value
returns-clause-value c =
    ap (λ (n : ℕ). let r : Counts = record { linked = n; unlinked = 0; worn = 0 } in r)
    (sym (len-index c.self.inside.shape.entries c.self.invariant.valid.entries.1))
    ∙ ap counts_of c.self.view_is
