-- Why no program is opened. That memory ran out may be said of any.
use Rattle.std.specs.Prelude.{◌≡◌, ◌≢◌, ◌<◌, ◌%◌, ℕ, List, Some, length, slice_get}
use Rattle.std.specs.Str.{IsUtf8}
use Rattle.bpf_model.specs.declared.insn.Insn.{Insn}
use Rattle.bpf_model.specs.declared.limits.MapShape.{MapShape}
use Rattle.bpf_model.specs.declared.limits.TheConstants.{CTX_BYTES, MAX_MAPS}
use Rattle.bpf_model.specs.Shapes.{IsShape}
use Rattle.bpf_model.specs.Spelling.{text}
use Rattle.classic.specs.Faults.{IsTranslateFault}
use Rattle.classic.specs.Translation.{IsTranslation}
use Rattle.classic_program.specs.declared.data.Data.{Data}
use Rattle.classic_program.specs.declared.data.Data.TheVariants.{Packet}
use Rattle.classic_program.specs.declared.insn.ClassicInsn.{ClassicInsn}
use Rattle.classic_program.specs.declared.fault.ReadFault.TheVariants as read_faults
use Rattle.classic_program.specs.declared.sock_filter.SockFilter.{SockFilter}
use Rattle.classic_program.specs.Faults.{IsCheckFault}
use Rattle.classic_program.specs.Opcode.{AreInsnsOf}
use Rattle.classic_program.specs.ReadFaults as reading
use Rattle.classic_program.specs.Reading.{IsListing, filters_in}
use Rattle.classic_program.specs.WellFormed.{checked, IsWellFormed}
use Rattle.insn_codec.specs.Faults.{IsDecodeFault}
use Rattle.program_files.specs.ProgramFile.{FileContent, FileSays, IsLoadFault}
use Rattle.verifier.specs.declared.refusal.ProgramRefusal.{ProgramRefusal}
use Rattle.verifier.specs.Verdict.{IsToldOf}
use Rattle.host_programs.specs.declared.fault.OpenFault.{OpenFault}
use Rattle.host_programs.specs.declared.fault.OpenFault.TheVariants.{ContextLength, TooManyMaps, BadShape, File, Bytes}
use Rattle.host_programs.specs.declared.fault.OpenFault.TheVariants.{Program, NotUtf8, Unread, Flawed, Untranslated}

-- No map may have the shape of this number.
pub record IsBadShape (shapes : List MapShape) (map : ℕ) : Type 0 where
  pub shape : MapShape
  pub there : slice_get shapes map ≡ Some shape
  pub bad : IsShape shape → ⊥

-- The verifier says this of the program that the bytes spell.
pub record IsRefusalOfText (code : List ℕ) (refusal : ProgramRefusal) : Type 0 where
  pub program : List Insn
  pub spelt : code ≡ text program
  pub told : IsToldOf program refusal

-- why raw bytes are not opened
abbrev pub IsBytesFault : List ℕ → ℕ → List MapShape → OpenFault → Type 0
IsBytesFault bytes ctx_len shapes ContextLength = CTX_BYTES < ctx_len
IsBytesFault bytes ctx_len shapes TooManyMaps = MAX_MAPS < length shapes
IsBytesFault bytes ctx_len shapes (BadShape map) = IsBadShape shapes map
IsBytesFault bytes ctx_len shapes (Bytes fault) = IsDecodeFault bytes fault
IsBytesFault bytes ctx_len shapes (Program refusal) = IsRefusalOfText bytes refusal
IsBytesFault bytes ctx_len shapes fault = ⊥

-- The file says code that has this fault.
pub record IsFlawedFile (bytes : List ℕ) (IsFlaw : List ℕ → Type 0) : Type 0 where
  pub content : FileContent
  pub says : FileSays bytes content
  pub flaw : IsFlaw content.code

-- why a program file is not opened
abbrev pub IsFileFault : List ℕ → OpenFault → Type 0
IsFileFault bytes (File fault) = IsLoadFault bytes fault
IsFileFault bytes (Bytes fault) = IsFlawedFile bytes (λ code. IsDecodeFault code fault)
IsFileFault bytes (Program refusal) = IsFlawedFile bytes (λ code. IsRefusalOfText code refusal)
IsFileFault bytes fault = ⊥

-- The instructions are a well-formed program, which is not translated for this reason.
pub record IsUntranslated (kind : Data) (filter : List SockFilter) (IsWhy : List ClassicInsn → Type 0)
    : Type 0 where
  pub instructions : List ClassicInsn
  pub insns_of : AreInsnsOf filter instructions
  pub well_formed : IsWellFormed kind instructions
  pub why : IsWhy instructions

-- The verifier refuses some translation of the program.
pub record RefusesTranslation (kind : Data) (refusal : ProgramRefusal) (classic : List ClassicInsn)
    : Type 0 where
  pub program : List Insn
  pub translation : IsTranslation kind classic program
  pub told : IsToldOf program refusal

-- why a classic program is not opened
abbrev pub IsClassicFault : Data → List SockFilter → OpenFault → Type 0
IsClassicFault kind filter (Flawed fault) = IsCheckFault kind filter fault
IsClassicFault kind filter (Untranslated fault) =
    IsUntranslated kind filter (λ is. IsTranslateFault (checked kind is) fault)
IsClassicFault kind filter (Program refusal) =
    IsUntranslated kind filter (RefusesTranslation kind refusal)
IsClassicFault kind filter fault = ⊥

-- The text lists instructions, which are not opened for this reason.
pub record IsListedFault (bytes : List ℕ) (fault : OpenFault) : Type 0 where
  pub filter : List SockFilter
  pub listed : IsListing bytes filter
  pub fault_is : IsClassicFault Packet filter fault

-- why a listing is not opened
abbrev pub IsListingFault : List ℕ → OpenFault → Type 0
IsListingFault bytes (NotUtf8 line) = IsUtf8 bytes → ⊥
IsListingFault bytes (Unread fault) = reading.IsListingFault bytes fault
IsListingFault bytes fault = IsListedFault bytes fault

-- why an array of instructions is not opened
abbrev pub IsArrayFault : Data → List ℕ → OpenFault → Type 0
IsArrayFault kind bytes (Unread read_faults.Memory) = Unit {0}
IsArrayFault kind bytes (Unread fault) = (fault ≡ read_faults.CutRecord) × (length bytes % 8 ≢ 0)
IsArrayFault kind bytes fault = IsClassicFault kind (filters_in bytes) fault
