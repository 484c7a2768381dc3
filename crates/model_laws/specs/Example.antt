-- A plain program with one guarded lookup: in a section, the value of key 0 of map 0, or 0.
use Rattle.std.specs.Prelude.{List, [], ◌∷◌, pos, negsuc}
use Rattle.bpf_model.specs.declared.limits.MapShape.{MapShape}
use Rattle.bpf_model.specs.declared.limits.MapKind.TheVariants.{Hash}
use Rattle.bpf_model.specs.declared.insn.Insn.{Insn}
use Rattle.bpf_model.specs.declared.insn.Insn.TheVariants.{Alu, LoadMap, JumpIf, Call, Exit, Load}
use Rattle.bpf_model.specs.declared.insn.Insn.TheVariants.{Store}
use Rattle.bpf_model.specs.declared.insn.AluOp.TheVariants.{Move, Add}
use Rattle.bpf_model.specs.declared.insn.CallKind.TheVariants.{Helper, Kernel}
use Rattle.bpf_model.specs.declared.insn.Operand.TheVariants.{Register, Immediate}
use Rattle.bpf_model.specs.declared.opcode.Size.TheVariants.{Word64}
use Rattle.bpf_model.specs.declared.opcode.Width.TheVariants.{Four, Eight}
use Rattle.bpf_model.specs.declared.opcode.Condition.TheVariants.{Equal}
use Rattle.bpf_model.specs.Machine.{Loaded}

-- keys of 4 bytes, values of 8
abbrev pub example_shape : MapShape
example_shape = record {
  kind = Hash;
  key_len = 4;
  value_len = 8;
  entries = 4;
  spare = 4;
  reuse_limit = 100;
}

-- Slots 0 to 12; the load of the map has two. The guarded lookup is slots 3 to 9.
abbrev pub lookup_and_load : List Insn
lookup_and_load =
    Alu Move Word64 6 (Immediate (pos 0)) ∷
    Call Kernel (pos 1) ∷
    Store Four 10 (negsuc 3) (Immediate (pos 0)) ∷
    Alu Move Word64 2 (Register 10) ∷
    Alu Add Word64 2 (Immediate (negsuc 3)) ∷
    LoadMap 1 (pos 0) ∷
    Call Helper (pos 1) ∷
    JumpIf Equal Word64 0 (Immediate (pos 0)) (pos 1) ∷
    Load Eight 6 0 (pos 0) ∷
    Call Kernel (pos 2) ∷
    Alu Move Word64 0 (Register 6) ∷
    Exit ∷ []

-- the program, with the one map, on an empty context
abbrev pub lookup_program : Loaded
lookup_program = record { code = lookup_and_load; maps = 0 ∷ []; context_len = 0 }
