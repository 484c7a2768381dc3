-- What copying a table's keys into another says of the values that handles hold.
use Rattle.std.specs.Prelude.{◌≡◌, Option, Some}
use Rattle.host_tables.specs.Copies.{AreAllThere, Copies, StayThere, StopsCopying}
use Rattle.host_tables.specs.Tables.{OpenTable}
use Rattle.host_tables.specs.declared.fault.SetFault.{SetFault}
use Rattle.map_table.specs.Law.{ways_of}

-- The keys of the one table were copied into the other, way by way. Each that is linked in the one is linked in the other, and
-- what was linked in either still is.
pub record CopiesTable (t l u m : OpenTable) : Type 0 where
  pub table : u.table ≡ t.table
  pub other : m.table ≡ l.table
  pub seats : u.seats ≡ t.seats
  pub other_seats : m.seats ≡ l.seats
  pub copies : Copies (ways_of t.table.shape) t.writer l.writer u.writer m.writer
  pub linked : AreAllThere t.table.shape l.table.shape u.writer m.writer
  pub stay : StayThere t.table.shape t.writer u.writer
  pub kept : StayThere l.table.shape l.writer m.writer

-- The same of tables that are held: the one and the other before, and both after.
abbrev pub CopiesIn : Option OpenTable → Option OpenTable → Option OpenTable → Option OpenTable → Type 0
CopiesIn (Some t) (Some l) (Some u) (Some m) = CopiesTable t l u m
CopiesIn t l u m = ⊥

-- The keys of the first ways were copied, and for this reason that of the next one was not. What was linked in either table still is.
pub record StopsTable (fault : SetFault) (t l u m : OpenTable) : Type 0 where
  pub table : u.table ≡ t.table
  pub other : m.table ≡ l.table
  pub seats : u.seats ≡ t.seats
  pub other_seats : m.seats ≡ l.seats
  pub stops : StopsCopying t.table.shape t.writer l.writer u.writer m.writer fault
  pub stay : StayThere t.table.shape t.writer u.writer
  pub kept : StayThere l.table.shape l.writer m.writer

-- the same of tables that are held
abbrev pub StopsIn : SetFault → Option OpenTable → Option OpenTable → Option OpenTable → Option OpenTable → Type 0
StopsIn fault (Some t) (Some l) (Some u) (Some m) = StopsTable fault t l u m
StopsIn fault t l u m = ⊥
