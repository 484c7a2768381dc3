-- The numbers by which the faults of a shared world are known.
use Rattle.std.specs.Prelude.{ℕ}
use Rattle.world.specs.Numbers.{world_fault_number}
use Rattle.shared_books.specs.declared.fault.SharedFault.{SharedFault}
use Rattle.shared_books.specs.declared.fault.SharedFault.TheVariants as act
use Rattle.shared_books.specs.declared.fault.CutFault.{CutFault}
use Rattle.shared_books.specs.declared.fault.CutFault.TheVariants as cut
use Rattle.shared_books.specs.declared.fault.LoadFault.{LoadFault}
use Rattle.shared_books.specs.declared.fault.LoadFault.TheVariants as load

abbrev pub shared_fault_number : SharedFault → ℕ
shared_fault_number act.JournalFull = 70
shared_fault_number act.Memory = 13

abbrev pub cut_fault_number : CutFault → ℕ
cut_fault_number cut.NotQuiet = 71
cut_fault_number cut.Memory = 13

abbrev pub load_fault_number : LoadFault → ℕ
load_fault_number load.NotQuiet = 71
load_fault_number (load.World fault) = world_fault_number fault
