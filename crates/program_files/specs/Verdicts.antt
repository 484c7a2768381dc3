-- The numbers of verdicts, and the slot or the line with them.
use Rattle.std.specs.Prelude.{ℕ, Option, None}
use Rattle.insn_codec.specs.Faults.{decode_fault_number, decode_fault_slot}
use Rattle.program_files.specs.ProgramFile.{load_fault_number, load_fault_line}
use Rattle.verifier.specs.Numbers.{refusal_number, refusal_slot}
use Rattle.program_files.specs.declared.verdict.Verdict.{Verdict}
use Rattle.program_files.specs.declared.verdict.Verdict.TheVariants.{File, Code, Program, Memory}

-- the number of want of memory
abbrev pub memory_number : ℕ
memory_number = 13

abbrev pub verdict_number : Verdict → ℕ
verdict_number (File fault) = load_fault_number fault
verdict_number (Code fault) = decode_fault_number fault
verdict_number (Program refusal) = refusal_number refusal
verdict_number Memory = memory_number

abbrev pub verdict_slot : Verdict → Option ℕ
verdict_slot (File fault) = None
verdict_slot (Code fault) = decode_fault_slot fault
verdict_slot (Program refusal) = refusal_slot refusal
verdict_slot Memory = None

abbrev pub verdict_line : Verdict → Option ℕ
verdict_line (File fault) = load_fault_line fault
verdict_line (Code fault) = None
verdict_line (Program refusal) = None
verdict_line Memory = None
