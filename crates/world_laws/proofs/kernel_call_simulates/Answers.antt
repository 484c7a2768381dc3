use Rattle.bpf_model.proofs.Prelude.{refl, kernel_function_of}
use Rattle.world_laws.proofs.Calling.{kernel-simulates}
use Rattle.world_laws.proofs.kernel_call_simulates.Goals as goal

pub returns : goal.returns
returns c w s m sound r run later v k imm here h = kernel-simulates w s m sound r run v k imm later (kernel_function_of imm) here refl h
