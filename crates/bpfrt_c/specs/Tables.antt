-- What the calls on tables say of the values that handles hold.
use Rattle.std.specs.Prelude.{◌≡◌, ◌⊎◌, ℕ, ◌+◌, ◌==◌, List, Option, Some, None, length, if◌then◌else◌}
use Rattle.host_programs.specs.Opened.{OpenProgram}
use Rattle.host_programs.specs.Packets.{seen}
use Rattle.host_tables.specs.Copies.{StayThere}
use Rattle.host_tables.specs.Reading.{CanServe, RunsOnPacket, RunsOverTable}
use Rattle.host_tables.specs.Tables.{IsNotSet, OpenTable, Sets}
use Rattle.host_tables.specs.declared.fault.How.{How}
use Rattle.host_tables.specs.declared.fault.How.TheVariants.{Any, New, Present}
use Rattle.host_tables.specs.declared.fault.SetFault.{SetFault}
use Rattle.host_tables.specs.declared.fault.SetFault.TheVariants.{Exists, Missing, NoElement, NoWay, Held}
use Rattle.map_table.specs.Held.{Holder, IsNew, IsReady}
use Rattle.map_table.specs.Values.{stored_of}
use Rattle.map_table.specs.Writing.{MakesSeat, WriterView}
use Rattle.table_words.specs.declared.view.TableShape.{TableShape}
use Rattle.table_words.specs.declared.view.Values.{Values}
use Rattle.table_words.specs.declared.view.Values.TheVariants.{Shared, PerReader}
use Rattle.bpfrt_c.specs.declared.tables.TableShape.{TableShape as Written}

-- whose the values are: 0 for all readers', 1 for one for each reader
abbrev pub values_in_c : ℕ → Option Values
values_in_c n = if n == 0 then Some Shared else (if n == 1 then Some PerReader else None)

abbrev pub table_shape_with : Written → Option Values → Option TableShape
table_shape_with s None = None
table_shape_with s (Some values) = Some (record {
  readers = s.readers;
  buckets = s.buckets;
  elements = s.elements;
  key_words = s.key_words;
  value_words = s.value_words;
  values = values;
  secret = record { first = s.first; second = s.second };
})

-- the shape that the numbers are, where there are such values
abbrev pub table_shape_in_c : Written → Option TableShape
table_shape_in_c s = table_shape_with s (values_in_c s.values)

-- which keys an update takes (Linux, include/uapi/linux/bpf.h: BPF_ANY is 0, BPF_NOEXIST 1, BPF_EXIST 2)
abbrev pub how_in_c : ℕ → Option How
how_in_c n =
    if n == 0
    then Some Any
    else (if n == 1 then Some New else (if n == 2 then Some Present else None))

-- The number of errno.h for a key that is not set: EEXIST, ENOENT, ENOSPC where too few elements are free, E2BIG where both buckets of
-- the key are full and no element there can be moved, EAGAIN where one could be, but a reader was inside a section.
abbrev pub set_error : SetFault → ℕ
set_error Exists = 17
set_error Missing = 2
set_error NoElement = 28
set_error NoWay = 7
set_error Held = 11

-- The table's writer did this, and nothing else has changed.
pub record Writes (P : WriterView → WriterView → Type 0) (t u : OpenTable) : Type 0 where
  pub table : u.table ≡ t.table
  pub seats : u.seats ≡ t.seats
  pub writer : P t.writer u.writer

-- The same of the table that is held.
abbrev pub WritesIn : (WriterView → WriterView → Type 0) → Option OpenTable → Option OpenTable → Type 0
WritesIn P None new = ⊥
WritesIn P (Some t) new = (u : OpenTable) × (new ≡ Some u) × Writes P t u

-- The key and the values have the table's lengths, and there are such flags.
pub record CanSet (t : OpenTable) (key value : List ℕ) (how : Option How) : Type 0 where
  pub key_fits : length key ≡ t.table.shape.key_words
  pub value_fits : length value ≡ stored_of t.table.shape
  pub how_is : (h : How) × (how ≡ Some h)

-- The writer set the key, as the flags ask.
abbrev pub SetsAs : List ℕ → List ℕ → Option How → WriterView → WriterView → Type 0
SetsAs key value None v w = ⊥
SetsAs key value (Some how) v w = Sets key value how v w

-- The writer did not, for this reason.
abbrev pub IsNotSetAs : List ℕ → Option How → SetFault → WriterView → WriterView → Type 0
IsNotSetAs key None fault v w = ⊥
IsNotSetAs key (Some how) fault v w = IsNotSet key how v w fault

-- The key that C gives, or none where it gives a null pointer: the number is 0 then.
abbrev pub key_in_c : ℕ → List ℕ → Option (List ℕ)
key_in_c given key = if given == 0 then None else Some key

-- The room has the length of the table's keys, and so has the key if one is given.
pub record CanMeet (t : OpenTable) (given : ℕ) (key next : List ℕ) : Type 0 where
  pub room_fits : length next ≡ t.table.shape.key_words
  pub key_fits : (given ≡ 0) ⊎ (length key ≡ t.table.shape.key_words)

-- The reader got the next seat of the table, which has one fewer. It has done nothing, and its history goes on from the writer's. What was
-- linked still is.
pub record Seats (t u : OpenTable) (r : Holder) : Type 0 where
  pub table : u.table ≡ t.table
  pub seat : t.seats ≡ u.seats + 1
  pub writer : MakesSeat t.writer u.writer
  pub ready : IsReady t.table r
  pub new : IsNew r
  pub shape : r.view.shape ≡ t.table.shape
  pub me : r.view.me ≡ t.writer.view.next
  pub begins : r.view.seen ≡ u.writer.view.seen
  pub stay : StayThere t.table.shape t.writer u.writer

-- The same of the table and the reader that are held.
abbrev pub SeatsIn : Option OpenTable → Option OpenTable → Option Holder → Type 0
SeatsIn (Some t) (Some u) (Some r) = Seats t u r
SeatsIn t u r = ⊥

-- The table serves the program, whose contexts have this length.
pub record Serves (r : Holder) (p : OpenProgram) (long : ℕ) : Type 0 where
  pub long_is : p.checked.ctx_len ≡ long
  pub serves : CanServe r.table.shape p.checked

-- The reader that is held ran the program on the context, and the value is its exit's.
abbrev pub RunsIn : Option OpenProgram → List ℕ → Option Holder → Option Holder → ℕ → Type 0
RunsIn (Some p) context (Some r) (Some s) value = RunsOverTable p.checked context r s value
RunsIn p context r s value = ⊥

-- The same on a packet.
abbrev pub RunsOnPacketIn : Option OpenProgram → List ℕ → ℕ → Option Holder → Option Holder → ℕ → Type 0
RunsOnPacketIn (Some p) packet wire (Some r) (Some s) value = RunsOnPacket p.checked (seen packet wire) r s value
RunsOnPacketIn p packet wire r s value = ⊥
