use Rattle.bpf_model.proofs.Prelude.{◌≡◌, map, take}
use Rattle.commands.specs.Runs.{put_event, AllFit}
use Rattle.commands.proofs.puts.puts_of.Given as goal

abbrev pub invariant-loop-number : goal.invariant-loop-number
invariant-loop-number l =
    AllFit l.registry (take l.number l.elements)
    × (l.puts.items ≡ map (put_event l.registry) (take l.number l.elements))
