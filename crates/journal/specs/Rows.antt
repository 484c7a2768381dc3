-- How a journal is kept: rows of fixed size, each for one entry or for several equal ones, and the
-- bytes of all entries in one list.
use Rattle.std.specs.Prelude.{◌≡◌, ℕ, ◌+◌, ◌≤◌, nat_lt, nat_le, Bool, ◌&&◌, List, [], ◌++◌}
use Rattle.std.specs.Prelude.{Some, None, Ok, Err, length, replicate, slice_get, take, drop}
use Rattle.std.specs.List.{flat_map}
use Rattle.arrayvec.specs.ArrayVec.{ArrayVec}
use Rattle.bpf_model.specs.declared.limits.TheConstants.{CTX_BYTES, KEY_BYTES, VALUE_BYTES}
use Rattle.bpf_model.specs.declared.limits.TheConstants.{MAX_JOURNAL}
use Rattle.bpf_model.specs.declared.event.Event.{Event}
use Rattle.bpf_model.specs.declared.event.Event.TheVariants as events
use Rattle.bpf_model.specs.declared.event.Answer.{Answer}
use Rattle.bpf_model.specs.declared.event.Answer.TheVariants as answers
use Rattle.bpf_model.specs.declared.entry.Entry.{Entry}
use Rattle.journal.specs.declared.row.Outcome.{Outcome}
use Rattle.journal.specs.declared.row.Outcome.TheVariants as outcomes
use Rattle.journal.specs.declared.row.Row.{Row}
use Rattle.journal.specs.declared.row.Row.TheVariants as rows

-- the strings of an event, of an answer, and of both
abbrev pub event_bytes : Event → List ℕ
event_bytes (events.Start prog ctx) = ctx.items
event_bytes (events.Step run) = []
event_bytes (events.Update map key value flags) = key.items ++ value.items
event_bytes (events.Delete map key) = key.items
event_bytes (events.Read map key) = key.items
event_bytes events.Advance = []
event_bytes events.Reap = []
event_bytes (events.Drop run) = []

abbrev pub answer_bytes : Answer → List ℕ
answer_bytes (answers.Found (Some value)) = value.items
answer_bytes (answers.Reaped (Some element)) = element.key.items
answer_bytes answer = []

abbrev pub entry_bytes : Entry → List ℕ
entry_bytes e = event_bytes e.event ++ answer_bytes e.answer

-- the string of so many bytes from an offset on
abbrev pub string_in : List ℕ → ℕ → ℕ → ArrayVec ℕ
string_in bytes start len = record { items = take len (drop start bytes) }

abbrev pub answer_of : Outcome → Answer
answer_of outcomes.Done = answers.Ret (Ok tt)
answer_of (outcomes.Failed error) = answers.Ret (Err error)
answer_of (outcomes.Refused refusal) = answers.Refused refusal

-- what an update or a delete may be answered
abbrev pub IsOutcome : Answer → Type 0
IsOutcome (answers.Ret ret) = Unit {0}
IsOutcome (answers.Refused refusal) = Unit {0}
IsOutcome answer = ⊥

-- the entry that a row stands for, once or several times, by these bytes
abbrev pub entry_of : List ℕ → Row → Entry
entry_of bytes (rows.Started worker len prog run start) =
    record {
      worker = worker;
      event = events.Start prog (string_in bytes start len);
      answer = answers.Started run;
    }
entry_of bytes (rows.NotStarted worker refusal len prog start) =
    record {
      worker = worker;
      event = events.Start prog (string_in bytes start len);
      answer = answers.Refused refusal;
    }
entry_of bytes (rows.Moved worker run count) =
    record { worker = worker; event = events.Step run; answer = answers.Moved }
entry_of bytes (rows.Exited worker run value) =
    record { worker = worker; event = events.Step run; answer = answers.Exited value }
entry_of bytes (rows.NotStepped worker refusal run) =
    record { worker = worker; event = events.Step run; answer = answers.Refused refusal }
entry_of bytes (rows.Updated worker outcome key_len value_len map flags start) = record {
  worker = worker;
  event =
      events.Update map (string_in bytes start key_len)
      (string_in bytes (start + key_len) value_len) flags;
  answer = answer_of outcome;
}
entry_of bytes (rows.Deleted worker outcome key_len map start) =
    record {
      worker = worker;
      event = events.Delete map (string_in bytes start key_len);
      answer = answer_of outcome;
    }
entry_of bytes (rows.Found worker key_len value_len map start) = record {
  worker = worker;
  event = events.Read map (string_in bytes start key_len);
  answer = answers.Found (Some (string_in bytes (start + key_len) value_len));
}
entry_of bytes (rows.NotFound worker key_len map start) =
    record {
      worker = worker;
      event = events.Read map (string_in bytes start key_len);
      answer = answers.Found None;
    }
entry_of bytes (rows.NotRead worker refusal key_len map start) =
    record {
      worker = worker;
      event = events.Read map (string_in bytes start key_len);
      answer = answers.Refused refusal;
    }
entry_of bytes (rows.Advanced worker) =
    record { worker = worker; event = events.Advance; answer = answers.Done }
entry_of bytes (rows.Reclaimed worker given key_len map start) = record {
  worker = worker;
  event = events.Reap;
  answer = answers.Reaped (Some (record {
    map = map;
    key = string_in bytes start key_len;
    given = given;
  }));
}
entry_of bytes (rows.NothingReady worker) =
    record { worker = worker; event = events.Reap; answer = answers.Reaped None }
entry_of bytes (rows.Dropped worker run) =
    record { worker = worker; event = events.Drop run; answer = answers.Done }
entry_of bytes (rows.NotDropped worker refusal run) =
    record { worker = worker; event = events.Drop run; answer = answers.Refused refusal }

-- how many entries a row stands for
abbrev pub span_of : Row → ℕ
span_of (rows.Moved worker run count) = count
span_of row = 1

-- the entries that a row stands for, and those of all rows
abbrev pub entries_of : List ℕ → Row → List Entry
entries_of bytes row = replicate (span_of row) (entry_of bytes row)

abbrev pub all_entries : List ℕ → List Row → List Entry
all_entries bytes all = flat_map (entries_of bytes) all

-- the row is of a read
abbrev pub IsReadRow : Row → Type 0
IsReadRow (rows.Found worker key_len value_len map start) = Unit {0}
IsReadRow (rows.NotFound worker key_len map start) = Unit {0}
IsReadRow (rows.NotRead worker refusal key_len map start) = Unit {0}
IsReadRow row = ⊥

-- The strings of a row end before the end of so many bytes, and each is no longer than its kind may
-- be. A row of moves has one at least.
abbrev pub IsStored : ℕ → Row → Type 0
IsStored total (rows.Started worker len prog run start) = (start + len ≤ total) × (len ≤ CTX_BYTES)
IsStored total (rows.NotStarted worker refusal len prog start) =
    (start + len ≤ total) × (len ≤ CTX_BYTES)
IsStored total (rows.Moved worker run count) = 1 ≤ count
IsStored total (rows.Exited worker run value) = Unit {0}
IsStored total (rows.NotStepped worker refusal run) = Unit {0}
IsStored total (rows.Updated worker outcome key_len value_len map flags start) =
    ((start + key_len) + value_len ≤ total) × (key_len ≤ KEY_BYTES) × (value_len ≤ VALUE_BYTES)
IsStored total (rows.Deleted worker outcome key_len map start) =
    (start + key_len ≤ total) × (key_len ≤ KEY_BYTES)
IsStored total (rows.Found worker key_len value_len map start) =
    ((start + key_len) + value_len ≤ total) × (key_len ≤ KEY_BYTES) × (value_len ≤ VALUE_BYTES)
IsStored total (rows.NotFound worker key_len map start) =
    (start + key_len ≤ total) × (key_len ≤ KEY_BYTES)
IsStored total (rows.NotRead worker refusal key_len map start) =
    (start + key_len ≤ total) × (key_len ≤ KEY_BYTES)
IsStored total (rows.Advanced worker) = Unit {0}
IsStored total (rows.Reclaimed worker given key_len map start) =
    (start + key_len ≤ total) × (key_len ≤ KEY_BYTES)
IsStored total (rows.NothingReady worker) = Unit {0}
IsStored total (rows.Dropped worker run) = Unit {0}
IsStored total (rows.NotDropped worker refusal run) = Unit {0}

abbrev pub AreStored : List Row → List ℕ → Type 0
AreStored all bytes = (k : ℕ) (row : Row) → slice_get all k ≡ Some row → IsStored (length bytes) row

-- The row stands for the entry alone where the strings of the entry begin at `start`, behind any
-- others.
pub record IsRowOf (start : ℕ) (e : Entry) (row : Row) : Type 0 where
  pub same : (before : List ℕ) → length before ≡ start → entry_of (before ++ entry_bytes e) row ≡ e
  pub stored : IsStored (start + length (entry_bytes e)) row
  pub one : span_of row ≡ 1

abbrev pub entry_from : ℕ → Event → Answer → Entry
entry_from worker event answer = record { worker = worker; event = event; answer = answer }

-- The rows are stored, the entries are so many, and no more than there may be.
pub record AreCounted (all : List Row) (bytes : List ℕ) (total limit : ℕ) : Type 0 where
  pub stored : AreStored all bytes
  pub count : total ≡ length (all_entries bytes all)
  pub short : total ≤ limit
  pub few : limit ≤ MAX_JOURNAL

-- Room for one more entry: the list is not full, and neither a row nor the most strings of an entry
-- need memory.
abbrev pub is_reserved : ℕ → ℕ → ℕ → ℕ → ℕ → ℕ → Bool
is_reserved count limit row_count row_room total byte_room =
    nat_lt count limit && (nat_lt row_count row_room
    && nat_le (total + (KEY_BYTES + VALUE_BYTES)) byte_room)
