-- Loaded programs, as a world shows them.
use Rattle.std.specs.Prelude.{List, map}
use Rattle.bpf_model.specs.Machine as machine
use Rattle.world.specs.declared.kept.loaded.Loaded.{Loaded}

-- a loaded program's instructions, the numbers of its maps and the length of its context
abbrev pub program_of : Loaded → machine.Loaded
program_of l = record {
  code = l.verified.program;
  maps = l.maps.items;
  context_len = l.verified.ctx_len;
}

-- the programs, by number
abbrev pub programs_in : List Loaded → List machine.Loaded
programs_in loaded = map program_of loaded
