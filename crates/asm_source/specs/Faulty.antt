-- What a fault says of an answer.
use Rattle.std.specs.Prelude.{◌≡◌, ◌⊎◌, ℕ, Option, Some, None, Result, Err}
use Rattle.asm_source.specs.declared.fault.SourceFault.{SourceFault}
use Rattle.asm_source.specs.declared.fault.SourceFault.TheVariants.{BadName, NameTwice, BadConstant, UnknownLabel, UnknownMap, Memory}

-- the answer is this fault, unless memory ran out
abbrev pub IsFaultOf : {T : Type 0} → Result T SourceFault → SourceFault → Type 0
IsFaultOf answer f = (f ≡ Memory) ⊎ (answer ≡ Err f)

-- the line that is at fault, counted from 1
abbrev pub fault_line : SourceFault → Option ℕ
fault_line (BadName n) = Some n
fault_line (NameTwice n) = Some n
fault_line (BadConstant n) = Some n
fault_line (UnknownLabel n) = Some n
fault_line (UnknownMap n) = Some n
fault_line Memory = None
