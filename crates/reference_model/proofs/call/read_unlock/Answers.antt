use Rattle.bpf_model.proofs.Prelude.{arith}
use Rattle.reference_store.proofs.Telling.{tells-map}
use Rattle.reference_model.proofs.call.read_unlock.Goals as goal

pub returns-clause-unlocks : goal.returns-clause-unlocks
returns-clause-unlocks c = λ program. tells-map _ _ _ _ c.returns.result (λ a h. ((omega arith, h.1), h.0)) (λ e. absurd e) (c.returns.ensures.moves program)
