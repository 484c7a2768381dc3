-- The numbers by which the faults of a new world are known.
use Rattle.std.specs.Prelude.{ℕ}
use Rattle.world.specs.declared.fault.WorldFault.{WorldFault}
use Rattle.world.specs.declared.fault.WorldFault.TheVariants.{TooManyPrograms, Binding, Memory}

abbrev pub world_fault_number : WorldFault → ℕ
world_fault_number TooManyPrograms = 54
world_fault_number (Binding program) = 55
world_fault_number Memory = 13
