-- A journal: its entries in order, how many it may have, and whether one more may be added without
-- memory.
use Rattle.std.specs.Prelude.{ℕ, Bool, true, List}
use Rattle.bpf_model.specs.declared.event.Event.{Event}
use Rattle.bpf_model.specs.declared.event.Event.TheVariants as events
use Rattle.bpf_model.specs.declared.event.Answer.{Answer}
use Rattle.bpf_model.specs.declared.event.Answer.TheVariants.{Started, Moved, Exited, Ret, Found}
use Rattle.bpf_model.specs.declared.event.Answer.TheVariants.{Done, Reaped, Refused}
use Rattle.bpf_model.specs.declared.entry.Entry.{Entry}
use Rattle.journal.specs.declared.fault.JournalFault.{JournalFault}
use Rattle.journal.specs.declared.fault.JournalFault.TheVariants.{Full, Memory}

pub record JournalView : Type 0 where
  pub entries : List Entry
  pub limit : ℕ
  pub has_room : Bool

-- the journal with its entries and limit, and with room for one more entry
abbrev pub with_room : JournalView → JournalView
with_room j = record { entries = j.entries; limit = j.limit; has_room = true }

-- The answers that an event may have, by their kind. No advance and no reap is ever refused.
abbrev pub IsAnswerTo : Event → Answer → Type 0
IsAnswerTo (events.Start prog ctx) (Started run) = Unit {0}
IsAnswerTo (events.Start prog ctx) (Refused refusal) = Unit {0}
IsAnswerTo (events.Step run) Moved = Unit {0}
IsAnswerTo (events.Step run) (Exited value) = Unit {0}
IsAnswerTo (events.Step run) (Refused refusal) = Unit {0}
IsAnswerTo (events.Update map key value flags) (Ret ret) = Unit {0}
IsAnswerTo (events.Update map key value flags) (Refused refusal) = Unit {0}
IsAnswerTo (events.Delete map key) (Ret ret) = Unit {0}
IsAnswerTo (events.Delete map key) (Refused refusal) = Unit {0}
IsAnswerTo (events.Read map key) (Found value) = Unit {0}
IsAnswerTo (events.Read map key) (Refused refusal) = Unit {0}
IsAnswerTo events.Advance Done = Unit {0}
IsAnswerTo events.Reap (Reaped element) = Unit {0}
IsAnswerTo (events.Drop run) Done = Unit {0}
IsAnswerTo (events.Drop run) (Refused refusal) = Unit {0}
IsAnswerTo event answer = ⊥

abbrev pub journal_fault_number : JournalFault → ℕ
journal_fault_number Full = 70
journal_fault_number Memory = 13
