-- What the machine stands for, in the words of the definitions.
use Rattle.std.specs.Prelude.{map}
use Rattle.bpf_model.specs.Machine as machine
use Rattle.bpf_model.specs.Schedule as schedule
use Rattle.reference_store.specs.State.{store_of, queues_of}
use Rattle.reference_model.specs.RunState.{loaded_of, runs_of}
use Rattle.reference_model.specs.declared.machine.Machine.{Machine}

abbrev pub machine_of : Machine → machine.Machine
machine_of m = record {
  store = store_of m.store;
  runs = runs_of m.programs.items m.runs.items;
  started = m.started;
  programs = map loaded_of m.programs.items;
}

-- the machine with the runtime's own lists
abbrev pub schedule_of : Machine → schedule.Schedule
schedule_of m = record {
  machine = machine_of m;
  queues = map queues_of m.queues.items;
  awaited = m.awaited.items;
}
