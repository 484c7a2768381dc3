-- The names of this crate that most proofs cite, passed on from one place.
pub use Rattle.classic_program.specs.Context.{IsPacketContext, packet_bytes, IsContext, seccomp_bytes}
pub use Rattle.classic_program.specs.Faults.{IsSoundAt}
pub use Rattle.classic_program.specs.Machine.{Input, Registers, or_zero, size_of, with_a, operated, with_reg, returned, loaded, passes, performed, went}
pub use Rattle.classic_program.specs.Machine.{big_endian, operand_value, with_x, no_registers, Filters, of_reg}
pub use Rattle.classic_program.specs.Opcode.{AreInsnsOf, IsInsnOf}
pub use Rattle.classic_program.specs.Paths.{IsSkip, AreMarks, stops_at, Marks, skips_of}
pub use Rattle.classic_program.specs.Reading.{parts_at, parts_left, filter_in, Lacks, IsListing}
pub use Rattle.classic_program.specs.WellFormed.{IsWellFormed, MaySkip, stores_to, reads_from, Reaches, FitsClassic, is_of, LeadsInside, divides_by_zero}
pub use Rattle.classic_program.specs.WellFormed.{reaches_next, reaches_first, checked, FitsDatum, is_datum_of}
