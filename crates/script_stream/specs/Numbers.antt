-- The numbers by which the faults of a script are known.
use Rattle.std.specs.Prelude.{ℕ}
use Rattle.script_stream.specs.declared.fault.ScriptFault.{ScriptFault}
use Rattle.script_stream.specs.declared.fault.ScriptFault.TheVariants.{BadCommand, Read, Write}
use Rattle.script_stream.specs.declared.fault.ScriptFault.TheVariants.{Memory}

abbrev pub script_fault_number : ScriptFault → ℕ
script_fault_number (BadCommand line) = 95
script_fault_number Read = 96
script_fault_number Write = 97
script_fault_number Memory = 13
