-- What runs stand for, in the words of the definitions.
use Rattle.std.specs.Prelude.{List, [], map, Option, Some, None, slice_get}
use Rattle.std.specs.Option.{option_map}
use Rattle.bpf_model.specs.Machine as machine
use Rattle.reference_interpreter.specs.Plain.{plain_state_of}
use Rattle.reference_model.specs.declared.run.Run.{Run}
use Rattle.reference_model.specs.declared.run.Loaded.{Loaded}

abbrev pub loaded_of : Loaded → machine.Loaded
loaded_of l = record { code = l.code.items; maps = l.maps.items; context_len = l.context_len }

-- a run's program is named by its index in the list
abbrev pub or_no_program : Option Loaded → machine.Loaded
or_no_program None = record { code = []; maps = []; context_len = 0 }
or_no_program (Some l) = loaded_of l

-- a run of a program
abbrev pub run_with : machine.Loaded → Run → machine.Run
run_with program run =
    record {
      name = run.name;
      program = program;
      context = run.context.items;
      state = plain_state_of run.state;
      depth = run.depth;
      sections = run.sections;
      moved =
          run.moved;
      exit = run.exit;
    }

abbrev pub run_of : List Loaded → Run → machine.Run
run_of programs run = run_with (or_no_program (slice_get programs run.program)) run

abbrev pub runs_of : List Loaded → List (Option Run) → List (Option machine.Run)
runs_of programs runs = map (option_map (run_of programs)) runs
