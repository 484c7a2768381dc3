-- No two opcodes have one byte.
use Rattle.bpf_model.proofs.Prelude.{◌≡◌, arith, opcode_byte}
use Rattle.bpf_model.specs.declared.opcode.Size.TheVariants.{Word32, Word64}
use Rattle.bpf_model.specs.declared.opcode.AluCode.TheVariants.{Add}
use Rattle.bpf_model.specs.declared.opcode.Condition.TheVariants.{Equal}
use Rattle.bpf_model.specs.declared.opcode.ByteOrder.TheVariants.{ToLittle, ToBig, Swap}
use Rattle.bpf_model.specs.declared.opcode.Opcode.{Opcode}
use Rattle.bpf_model.specs.declared.opcode.Opcode.TheVariants.{Alu, Negate, ByteSwap, Jump, JumpIf, Call, Exit, Load, LoadSigned, Store, Excluded}
use Rattle.bpf_model.specs.declared.opcode.Source.TheVariants as source
use Rattle.bpf_model.specs.declared.opcode.Width.TheVariants as width
use Rattle.bpf_model.specs.declared.opcode.SignedWidth.TheVariants as signed
use Rattle.bpf_model.specs.declared.opcode.Excluded.TheVariants as excluded

pub injective : (o p : Opcode) → opcode_byte o ≡ opcode_byte p → o ≡ p
injective (Alu Add Word32 source.Immediate) p e = grind arith
injective (Alu code Word32 source.Immediate) p e = grind arith
injective (Alu Add Word32 source.Register) p e = grind arith
injective (Alu code Word32 source.Register) p e = grind arith
injective (Alu Add Word64 source.Immediate) p e = grind arith
injective (Alu code Word64 source.Immediate) p e = grind arith
injective (Alu Add Word64 source.Register) p e = grind arith
injective (Alu code Word64 source.Register) p e = grind arith
injective (Negate Word32) p e = grind arith
injective (Negate Word64) p e = grind arith
injective (ByteSwap ToLittle) p e = grind arith
injective (ByteSwap ToBig) p e = grind arith
injective (ByteSwap Swap) p e = grind arith
injective (Jump Word32) p e = grind arith
injective (Jump Word64) p e = grind arith
injective (JumpIf Equal Word32 source.Immediate) p e = grind arith
injective (JumpIf code Word32 source.Immediate) p e = grind arith
injective (JumpIf Equal Word32 source.Register) p e = grind arith
injective (JumpIf code Word32 source.Register) p e = grind arith
injective (JumpIf Equal Word64 source.Immediate) p e = grind arith
injective (JumpIf code Word64 source.Immediate) p e = grind arith
injective (JumpIf Equal Word64 source.Register) p e = grind arith
injective (JumpIf code Word64 source.Register) p e = grind arith
injective Call p e = grind arith
injective Exit p e = grind arith
injective (Load width.One) p e = grind arith
injective (LoadSigned signed.One) p e = grind arith
injective (Store width.One source.Immediate) p e = grind arith
injective (Store size source.Immediate) p e = grind arith
injective (Store width.One source.Register) p e = grind arith
injective (Store size source.Register) p e = grind arith
injective (Excluded excluded.AbsoluteWord) p e = grind arith
injective o p e = grind arith
