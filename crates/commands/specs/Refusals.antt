-- The numbers by which a command refuses its input, and the slot or the line with them.
use Rattle.std.specs.Prelude.{ℕ, List, Option, None}
use Rattle.bpf_model.specs.EventNumbers.{event_refusal_number}
use Rattle.job_queue.specs.Faults.{pool_fault_number}
use Rattle.program_files.specs.Checks.{IsCheckedRefusal}
use Rattle.program_files.specs.Verdicts.{verdict_number, verdict_slot, verdict_line}
use Rattle.commands.specs.declared.refusal.CommandRefusal.{CommandRefusal}
use Rattle.commands.specs.declared.refusal.CommandRefusal.TheVariants.{File, Event, NoPlace, Pool}

-- the number of an element that its map has no place for
abbrev pub no_place_number : ℕ
no_place_number = 98

abbrev pub command_number : CommandRefusal → ℕ
command_number (File verdict) = verdict_number verdict
command_number (Event refusal) = event_refusal_number refusal
command_number NoPlace = no_place_number
command_number (Pool fault) = pool_fault_number fault

abbrev pub command_slot : CommandRefusal → Option ℕ
command_slot (File verdict) = verdict_slot verdict
command_slot (Event refusal) = None
command_slot NoPlace = None
command_slot (Pool fault) = None

abbrev pub command_line : CommandRefusal → Option ℕ
command_line (File verdict) = verdict_line verdict
command_line (Event refusal) = None
command_line NoPlace = None
command_line (Pool fault) = None

-- The refusal is what `check` says of the file.
abbrev pub IsFileRefusal : List ℕ → CommandRefusal → Type 0
IsFileRefusal bytes (File verdict) = IsCheckedRefusal bytes verdict
IsFileRefusal bytes refusal = ⊥
