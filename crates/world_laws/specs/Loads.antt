-- A program is added, behind the others: to a machine, to a schedule, and to what a world keeps.
-- Nothing else changes.
use Rattle.std.specs.Prelude.{[], ◌∷◌, ◌++◌}
use Rattle.bpf_model.specs.Machine.{Loaded, Machine}
use Rattle.bpf_model.specs.Schedule.{Schedule}
use Rattle.bpf_model.specs.View.{WorldView}

abbrev pub loads : Loaded → Machine → Machine
loads program m = record m { programs = m.programs ++ program ∷ [] }

abbrev pub schedule_loads : Loaded → Schedule → Schedule
schedule_loads program s = record s { machine = loads program s.machine }

abbrev pub with_program : Loaded → WorldView → WorldView
with_program program w = record w { programs = w.programs ++ program ∷ [] }
