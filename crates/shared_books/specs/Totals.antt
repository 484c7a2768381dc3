-- What is counted since a world began, and of whom an entry is.
use Rattle.std.specs.Prelude.{◌≡◌, ℕ, ◌+◌, ◌<◌, ◌==◌, Bool, true, false, not, List, Some, length}
use Rattle.std.specs.Prelude.{slice_get, count_by, is_some}
use Rattle.std.specs.List.{filter, range_with_len, sum_by}
use Rattle.bpf_model.specs.declared.event.Answer.{Answer}
use Rattle.bpf_model.specs.declared.event.Answer.TheVariants.{Moved, Exited}
use Rattle.bpf_model.specs.declared.stat.Stat.{Stat}
use Rattle.bpf_model.specs.Element.{is_linked, is_reclaimed}
use Rattle.bpf_model.specs.Schedule.{is_unlinked}
use Rattle.bpf_model.specs.Machine.{Machine, open_sections}
use Rattle.bpf_model.specs.View.{WorldView}
use Rattle.map_kinds.specs.Counting.{unlinked_in}
use Rattle.bpf_model.specs.declared.entry.Entry.{Entry}

-- the answer is that of a step which a run has taken
abbrev pub is_step : Answer → Bool
is_step Moved = true
is_step (Exited value) = true
is_step answer = false

-- The steps that runs have taken: the entries answered Moved or Exited.
abbrev pub steps_of : List Entry → ℕ
steps_of entries = count_by (λ e. is_step e.answer) entries

-- How many of the machine's elements were ever unlinked, and how many of them reclaimed.
abbrev pub ever_unlinked : Machine → ℕ
ever_unlinked m = count_by (λ e. not (is_linked e.life)) m.store.elements

abbrev pub ever_reclaimed : Machine → ℕ
ever_reclaimed m = count_by (λ e. is_reclaimed e.life) m.store.elements

-- The counts of a machine: elements by their lives, map slots that are worn out, occupied run slots,
-- and open sections.
abbrev pub machine_stat : Machine → Stat
machine_stat m = record {
  linked = count_by (λ e. is_linked e.life) m.store.elements;
  unlinked = count_by (λ e. is_unlinked e.life) m.store.elements;
  given = ever_reclaimed m;
  worn = sum_by (λ s. s.worn) m.store.maps;
  runs = count_by is_some m.runs;
  «open» = length (open_sections m.runs);
}

-- how many elements are unlinked and not yet reclaimed
abbrev pub unreclaimed_in : WorldView → ℕ
unreclaimed_in w = sum_by unlinked_in w.maps

-- How many elements were ever reclaimed, and ever unlinked, as a world knows it, which keeps no
-- reclaimed element: those that it has reclaimed; and these together with those that wait in its
-- lists.
abbrev pub reclaimed_total : WorldView → ℕ
reclaimed_total w = w.given

abbrev pub unlinked_total : WorldView → ℕ
unlinked_total w = w.given + unreclaimed_in w

-- The entries of one worker, in order; its share of the journal is how many they are.
abbrev pub entries_by : ℕ → List Entry → List Entry
entries_by worker entries = filter (λ e. e.worker == worker) entries

abbrev pub share_of : List Entry → ℕ → ℕ
share_of entries worker = length (entries_by worker entries)

-- Each entry is of one of so many workers.
abbrev pub AreOfWorkers : ℕ → List Entry → Type 0
AreOfWorkers workers entries =
    (k : ℕ) (e : Entry) → slice_get entries k ≡ Some e → e.worker < workers

-- the shares of so many workers, added up
abbrev pub shares : ℕ → List Entry → ℕ
shares workers entries = sum_by (share_of entries) (range_with_len 0 workers)
