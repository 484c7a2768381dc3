-- What is kept of a file's bytes.
use Rattle.std.specs.Prelude.{◌≡◌, ℕ, ◌*◌, ◌<◌, ◌%◌, List, length}
use Rattle.bpf_model.specs.declared.limits.TheConstants.{MAX_SLOTS}
use Rattle.program_files.specs.ProgramFile.{IsRawFile}
use Rattle.program_files.specs.declared.program_file.FileBytes.{FileBytes}
use Rattle.program_files.specs.declared.program_file.FileBytes.TheVariants.{Whole, TooLong}

-- The file's bytes are these: all of them are kept, or they are the bytes of no text and more than
-- any program has, and the remainder of their number by 8 is.
abbrev pub HoldsBytes : FileBytes → List ℕ → Type 0
HoldsBytes (Whole kept) bytes = kept.items ≡ bytes
HoldsBytes (TooLong remainder beginning) bytes =
    (8 * MAX_SLOTS < length bytes) × (remainder ≡ length bytes % 8) × IsRawFile bytes
