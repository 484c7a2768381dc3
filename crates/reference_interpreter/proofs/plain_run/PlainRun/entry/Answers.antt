use Rattle.bpf_model.proofs.Prelude.{entry_value}
use Rattle.bpf_model.specs.declared.value.Cell.TheVariants.{Unwritten}
use Rattle.reference_interpreter.specs.Plain.{cells_of}
use Rattle.reference_interpreter.proofs.Laws.{entry_reg, same_state}
use Rattle.reference_interpreter.proofs.plain_run.PlainRun.entry.Goals as goal

pub returns : goal.returns
returns c = same_state _ entry_value (cells_of c.empty_frame.result) (λ _. Unwritten) 0 entry_reg c.empty_frame.ensures
