-- The names of this crate that most proofs cite, passed on from one place.
pub use Rattle.classic.specs.Layout.{block, slots, register_of, fetch, check, divides, put_number, load_block, IsInWindow, load_bytes, keeps, starts_from}
pub use Rattle.classic.specs.Layout.{end_from, blocks, word_offset, jump_if, test_operand, test_block, leads_to_tail, AreInWindow, swap_unless, load_halves}
pub use Rattle.classic.specs.Layout.{skip_block, opposite_of, branch_unless, imm_of, alu_of, condition_of, compared, add_bytes, find_end, block_slots}
pub use Rattle.classic.specs.Layout.{tail_slot, IsTailAt, prologue, first_slot}
pub use Rattle.classic.specs.Notes.{claims, left, is_number, is_set, is_near, is_ready, claims_a, claims_x, accumulator_after, index_after, captured_behind}
pub use Rattle.classic.specs.Notes.{AreSound, tested_for, captured_past, start, IsSoundAt, keeps_order, in_order, needed}
pub use Rattle.classic.specs.Translation.{IsTranslation}
pub use Rattle.classic_program.specs.declared.data.Data.{Data}
pub use Rattle.classic_program.specs.declared.data.Data.TheVariants.{Packet, Seccomp}
pub use Rattle.classic_program.specs.declared.insn.ClassicInsn.{ClassicInsn}
pub use Rattle.classic_program.specs.declared.insn.ClassicInsn.TheVariants.{ReturnNumber}
pub use Rattle.classic_program.specs.declared.insn.ClassicOp.{ClassicOp}
pub use Rattle.classic_program.specs.declared.insn.ClassicOperand.{ClassicOperand}
pub use Rattle.classic_program.specs.declared.insn.ClassicReg.{ClassicReg}
pub use Rattle.classic_program.specs.declared.insn.ClassicReg.TheVariants.{A, X}
pub use Rattle.classic_program.specs.declared.insn.ClassicTest.{ClassicTest}
pub use Rattle.classic_program.specs.declared.insn.Datum.{Datum}
pub use Rattle.classic_program.specs.declared.insn.LoadSize.{LoadSize}
pub use Rattle.classic_program.specs.declared.insn.LoadSize.TheVariants.{Byte, Half, Word}
