use Rattle.bpf_model.proofs.Prelude.{refl, helper_of}
use Rattle.world_laws.proofs.Calling.{helper-simulates}
use Rattle.world_laws.proofs.helper_call_simulates.Goals as goal

pub returns : goal.returns
returns c w s m sound r run v k imm ret new here h = helper-simulates w s m sound r run v k imm ret new (helper_of imm) here refl h
