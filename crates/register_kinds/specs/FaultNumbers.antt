-- The numbers by which faults are known.
use Rattle.std.specs.Prelude.{ℕ}
use Rattle.register_kinds.specs.declared.fault.InsnFault.{InsnFault}
use Rattle.register_kinds.specs.declared.fault.InsnFault.TheVariants.{UnwrittenRegister}
use Rattle.register_kinds.specs.declared.fault.InsnFault.TheVariants.{FramePointerWritten}
use Rattle.register_kinds.specs.declared.fault.InsnFault.TheVariants.{PointerArithmetic}
use Rattle.register_kinds.specs.declared.fault.InsnFault.TheVariants.{NotAPointer}
use Rattle.register_kinds.specs.declared.fault.InsnFault.TheVariants.{OutOfBounds, Misaligned}
use Rattle.register_kinds.specs.declared.fault.InsnFault.TheVariants.{UnwrittenFrame, PointerLeak}
use Rattle.register_kinds.specs.declared.fault.InsnFault.TheVariants.{MixedRegions, MaybeNull}
use Rattle.register_kinds.specs.declared.fault.InsnFault.TheVariants.{OutsideSection}
use Rattle.register_kinds.specs.declared.fault.InsnFault.TheVariants.{UnpairedSection}
use Rattle.register_kinds.specs.declared.fault.InsnFault.TheVariants.{UnknownCall, WrongArgument}
use Rattle.register_kinds.specs.declared.fault.InsnFault.TheVariants.{NoSuchMap, ContextWrite}
use Rattle.register_kinds.specs.declared.fault.InsnFault.TheVariants.{Memory}

abbrev pub insn_fault_number : InsnFault → ℕ
insn_fault_number UnwrittenRegister = 23
insn_fault_number FramePointerWritten = 24
insn_fault_number PointerArithmetic = 25
insn_fault_number NotAPointer = 26
insn_fault_number OutOfBounds = 27
insn_fault_number Misaligned = 28
insn_fault_number UnwrittenFrame = 29
insn_fault_number PointerLeak = 30
insn_fault_number MixedRegions = 31
insn_fault_number MaybeNull = 32
insn_fault_number OutsideSection = 33
insn_fault_number UnpairedSection = 34
insn_fault_number UnknownCall = 35
insn_fault_number WrongArgument = 36
insn_fault_number NoSuchMap = 37
insn_fault_number ContextWrite = 39
insn_fault_number Memory = 13
