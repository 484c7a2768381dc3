use Rattle.bpf_model.proofs.Prelude.{◌≡◌, ℕ, List, ◌++◌, take}
use Rattle.commands.specs.Runs.{AreDumps}
use Rattle.commands.proofs.dump.write_maps.Given as goal

-- the lists of the maps so far
abbrev pub invariant-loop-number : goal.invariant-loop-number
invariant-loop-number l =
    (text : List ℕ) × AreDumps (take l.number l.world.maps) text
    × (l.out.items ≡ l.fn.out.items ++ text)
