use Rattle.bpf_model.proofs.Prelude.{◌≡◌, take}
use Rattle.std.specs.String.{string_bytes}
use Rattle.disasm.specs.Text.{program_text}
use Rattle.disasm.proofs.writing.disassemble.Given as goal

abbrev pub invariant-loop-insn : goal.invariant-loop-insn
invariant-loop-insn l = string_bytes l.out ≡ program_text (take l.insn-index l.insn-items)
