-- The numbers under which the refusals of events are told (this runtime's own).
use Rattle.std.specs.Prelude.{ℕ}
use Rattle.bpf_model.specs.declared.event.EventRefusal.{EventRefusal}
use Rattle.bpf_model.specs.declared.event.EventRefusal.TheVariants.{NoRun, Ended, NoProgram}
use Rattle.bpf_model.specs.declared.event.EventRefusal.TheVariants.{BadContext, RunsFull, NoMap}
use Rattle.bpf_model.specs.declared.event.EventRefusal.TheVariants.{BadLength, StillRunning}

abbrev pub event_refusal_number : EventRefusal → ℕ
event_refusal_number NoRun = 60
event_refusal_number Ended = 61
event_refusal_number NoProgram = 62
event_refusal_number BadContext = 63
event_refusal_number RunsFull = 64
event_refusal_number NoMap = 65
event_refusal_number BadLength = 66
event_refusal_number StillRunning = 67
