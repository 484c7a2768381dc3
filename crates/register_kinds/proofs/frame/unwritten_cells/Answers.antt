use Rattle.bpf_model.specs.declared.limits.TheConstants.{FRAME_BYTES}
use Rattle.register_kinds.proofs.Pairs.{cells_unwritten}
use Rattle.register_kinds.proofs.frame.unwritten_cells.Goals as goal

pub returns : goal.returns
returns c = cells_unwritten FRAME_BYTES
