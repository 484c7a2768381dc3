use Rattle.bpf_model.proofs.Prelude.{◌≡◌, Some, arith, opcode_byte}
use Rattle.bpf_model.specs.declared.opcode.Size.TheVariants.{Word32}
use Rattle.bpf_model.specs.declared.opcode.ByteOrder.TheVariants.{ToLittle}
use Rattle.bpf_model.specs.declared.opcode.Opcode.{Opcode}
use Rattle.bpf_model.specs.declared.opcode.Opcode.TheVariants.{Alu, Negate, ByteSwap, Jump, JumpIf, Load, LoadSigned, Store, Excluded}
use Rattle.bpf_model.specs.declared.opcode.Source.TheVariants.{Immediate}
use Rattle.bpf_model.specs.declared.opcode.Width.TheVariants as width
use Rattle.bpf_model.specs.declared.opcode.SignedWidth.TheVariants as signed
use Rattle.bpf_model.specs.declared.opcode.Excluded.TheVariants as excluded
use Rattle.insn_codec.proofs.opcode.opcode_from.Goals as goal

pub returns-in_default-clause-only : goal.returns-in_default-clause-only
returns-in_default-clause-only c = only
  where
    only : (o : Opcode) → opcode_byte o ≡ c.args.byte → c.with_operands.result ≡ Some o
    only (Alu code size source) e = c.with_operands.ensures.alu code size source e
    only (JumpIf condition size source) e = c.with_operands.ensures.jump condition size source e
    only (Negate Word32) e = grind arith
    only (ByteSwap ToLittle) e = grind arith
    only (Jump Word32) e = grind arith
    only (Load width.One) e = grind arith
    only (LoadSigned signed.One) e = grind arith
    only (Store width.One Immediate) e = grind arith
    only (Excluded excluded.AbsoluteWord) e = grind arith
    only o e = grind arith
