-- The operation that does the same to words whose sign bit is 0.
use Rattle.bpf_model.specs.declared.insn.AluOp.{AluOp}
use Rattle.bpf_model.specs.declared.insn.AluOp.TheVariants.{Div, SignedDiv, ShiftRight, Mod}
use Rattle.bpf_model.specs.declared.insn.AluOp.TheVariants.{SignedMod, ShiftRightSigned}

abbrev pub unsigned_form : AluOp → AluOp
unsigned_form SignedDiv = Div
unsigned_form SignedMod = Mod
unsigned_form ShiftRightSigned = ShiftRight
unsigned_form op = op
