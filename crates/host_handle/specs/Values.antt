-- What a handle holds.
use Rattle.std.specs.Prelude.{Option, Some, None}
use Rattle.bpf_model.specs.View.{WorldView}
use Rattle.host_programs.specs.Opened.{OpenProgram}
use Rattle.host_tables.specs.Tables.{OpenTable}
use Rattle.map_table.specs.Held.{Holder}
use Rattle.host_handle.specs.declared.held.Held.{Held}
use Rattle.host_handle.specs.declared.held.Held.TheVariants.{Program, World, Table, Reader}

-- the program, where one is held
abbrev pub program_in : Option Held → Option OpenProgram
program_in (Some (Program p)) = Some p
program_in held = None

-- the world, where one is held
abbrev pub world_in : Option Held → Option WorldView
world_in (Some (World w)) = Some w
world_in held = None

-- the table, where one is held
abbrev pub table_in : Option Held → Option OpenTable
table_in (Some (Table t)) = Some t
table_in held = None

-- what the reader did and saw at its table, where one is held
abbrev pub reader_in : Option Held → Option Holder
reader_in (Some (Reader r)) = Some r
reader_in held = None
