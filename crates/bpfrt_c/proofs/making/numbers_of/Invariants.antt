use Rattle.std.proofs.Common.{◌≡◌, take}
use Rattle.bpfrt_c.proofs.making.numbers_of.Given as goal

abbrev pub invariant-loop-map : goal.invariant-loop-map
invariant-loop-map l = l.numbers.items ≡ take l.map l.maps
