use Rattle.bpf_model.proofs.Prelude.{w32, to_z-of_z, SFits}
use Rattle.reference_model.specs.RunState.{loaded_of}
use Rattle.reference_store.proofs.Telling.{tells-map}
use Rattle.reference_model.proofs.call.call_helper.Goals as goal

pub returns-clause-steps : goal.returns-clause-steps
returns-clause-steps c =
    let g : SFits w32 c.args.imm = c.ranges.imm in
    let value = simp to_z-of_z at c.in_ok-value.ensures.tells in
    tells-map _ _ _ _ c.returns.result (λ a h. (c.in_ok-value.value, value, h.0, h.1)) (λ none. absurd none)
    (c.returns.ensures.moves (loaded_of c.args.program.now))
