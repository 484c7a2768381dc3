use Rattle.bpf_model.proofs.Prelude.{◌∙◌, None, ap, sym, slice_set}
use Rattle.model_laws.proofs.Prelude.{drop_by, with_run}
use Rattle.world.proofs.Runs.{dropped-kept, dropped-view}
use Rattle.world.proofs.SlotFlags.{flags-set}
use Rattle.world.proofs.kept.parts.Parts.dropped.Goals as goal

pub invariant_of-self : goal.invariant_of-self
invariant_of-self c = record {
  kept = record {
    of_runs = dropped-kept c.self.inside.registry.names c.self.inside.registry.maps c.self.inside.runs.items
        c.self.inside.grace c.close_all.new.self c.self.inside.programs.items c.self.inside.given c.index.result
        c.args.run c.index.ensures c.self.invariant.kept.of_runs c.keeps_awaited_open.ensures c.close_all.ensures.depths
        c.close_all.ensures.awaited;
    bound = c.self.invariant.kept.bound;
  };
  flagged = ap (λ n. slice_set c.self.inside.flags.items n 0) (c.index-in-None.ensures ∙ sym c.index.ensures)
      ∙ flags-set c.self.inside.runs.items c.self.inside.flags.items c.index.result None c.self.invariant.flagged;
}

pub returns-in-None-clause-new : goal.returns-in-None-clause-new
returns-in-None-clause-new c =
    dropped-view c.self.inside.registry.names c.self.inside.registry.maps c.self.inside.runs.items c.self.inside.grace
    c.close_all.new.self c.self.inside.programs.items c.self.inside.given c.index.result c.args.run
    c.index.ensures c.self.invariant.kept.of_runs c.keeps_awaited_open.ensures c.close_all.ensures.depths
    c.close_all.ensures.awaited
    ∙ (ap (with_run c.args.run None) c.self.view_is
    ∙ ap (λ o. (drop_by o c.args.self.now c.args.run).1) c.in-None.ensures)
