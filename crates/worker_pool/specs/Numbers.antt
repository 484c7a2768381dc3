-- The numbers of the causes for which a job stops.
use Rattle.std.specs.Prelude.{ℕ}
use Rattle.bpf_model.specs.EventNumbers.{event_refusal_number}
use Rattle.shared_books.specs.Numbers.{shared_fault_number}
use Rattle.worker_pool.specs.declared.job.StopCause.{StopCause}
use Rattle.worker_pool.specs.declared.job.StopCause.TheVariants.{Refused, Fault, OtherRun, SubWord}

abbrev pub stop_cause_number : StopCause → ℕ
stop_cause_number (Refused refusal) = event_refusal_number refusal
stop_cause_number (Fault fault) = shared_fault_number fault
stop_cause_number OtherRun = 93
stop_cause_number SubWord = 80
