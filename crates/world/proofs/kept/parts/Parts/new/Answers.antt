use Rattle.bpf_model.proofs.Prelude.{◌∙◌, sym, ap, None, map}
use Rattle.model_laws.proofs.Prelude.{MAX_RUNS}
use Rattle.world.proofs.Prelude.{flag_of}
use Rattle.world.proofs.Runs.{fresh-kept, map-replicate}
use Rattle.world.proofs.kept.parts.Parts.new.Goals as goal

pub invariant_of-result : goal.invariant_of-result
invariant_of-result c = record {
  kept = record {
    of_runs = fresh-kept c.in_ok-runs.runs.items c.new.result c.args.programs.items c.in_ok-runs.ensures c.new.ensures.depths;
    bound = c.requires.bound;
  };
  flagged = c.in_ok-flags.ensures ∙ (sym (map-replicate flag_of MAX_RUNS None) ∙ ap (map flag_of) (sym c.in_ok-runs.ensures));
}
