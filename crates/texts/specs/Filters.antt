-- The program file of a classic program, and why there is none.
use Rattle.std.specs.Prelude.{◌≡◌, ◌≢◌, ℕ, ◌%◌, List, length}
use Rattle.std.specs.Str.{IsUtf8}
use Rattle.bpf_model.specs.declared.insn.Insn.{Insn}
use Rattle.bpf_model.specs.Spelling.{text}
use Rattle.program_files.specs.ProgramFile.{FileContent, FileSays}
use Rattle.classic_program.specs.declared.data.Data.{Data}
use Rattle.classic_program.specs.declared.data.Data.TheVariants.{Packet, Seccomp}
use Rattle.classic_program.specs.declared.insn.ClassicInsn.{ClassicInsn}
use Rattle.classic_program.specs.declared.sock_filter.SockFilter.{SockFilter}
use Rattle.classic_program.specs.declared.fault.ReadFault.{ReadFault}
use Rattle.classic_program.specs.declared.fault.ReadFault.TheVariants as read_faults
use Rattle.classic_program.specs.declared.fault.ClassicFault.{ClassicFault}
use Rattle.classic_program.specs.declared.fault.ClassicFault.TheVariants as classic_faults
use Rattle.classic_program.specs.Context.{context_bytes}
use Rattle.classic_program.specs.Faults.{IsCheckFault}
use Rattle.classic_program.specs.Opcode.{AreInsnsOf}
use Rattle.classic_program.specs.ReadFaults.{IsListingFault}
use Rattle.classic_program.specs.Reading.{IsListing, filters_in}
use Rattle.classic_program.specs.WellFormed.{IsWellFormed, checked}
use Rattle.classic.specs.declared.fault.TranslateFault.{TranslateFault}
use Rattle.classic.specs.declared.fault.TranslateFault.TheVariants as translate_faults
use Rattle.classic.specs.Faults.{IsTranslateFault}
use Rattle.classic.specs.Translation.{IsTranslation}
use Rattle.texts.specs.declared.translation.FilterFault.{FilterFault}
use Rattle.texts.specs.declared.translation.FilterFault.TheVariants.{NotUtf8, Unread, Flawed, Untranslated, Memory}

-- The bytes list these instructions: of packets as a text, of system calls as an array.
abbrev pub IsListed : Data → List ℕ → List SockFilter → Type 0
IsListed Packet bytes filter = IsListing bytes filter
IsListed Seccomp bytes filter = (filter ≡ filters_in bytes) × (length bytes % 8 ≡ 0)

-- The bytes list nothing.
abbrev pub IsUnlisted : Data → List ℕ → Type 0
IsUnlisted Packet bytes = (filter : List SockFilter) → IsListing bytes filter → ⊥
IsUnlisted Seccomp bytes = length bytes % 8 ≢ 0

-- The file says a program of these bytes, without maps, on a context of these data.
pub record IsFileOfCode (kind : Data) (code file : List ℕ) : Type 0 where
  pub content : FileContent
  pub says : FileSays file content
  pub code_is : content.code ≡ code
  pub context : content.ctx_len ≡ context_bytes kind
  pub no_maps : length content.registry.maps ≡ 0

-- The bytes list a classic program, and the file says its translation: a program whose every run
-- exits with what the classic program returns.
pub record IsFilterFile (kind : Data) (bytes file : List ℕ) : Type 0 where
  pub filter : List SockFilter
  pub listed : IsListed kind bytes filter
  pub classic : List ClassicInsn
  pub insns_of : AreInsnsOf filter classic
  pub well_formed : IsWellFormed kind classic
  pub program : List Insn
  pub translation : IsTranslation kind classic program
  pub file_of : IsFileOfCode kind (text program) file

-- the bytes list instructions that are no program
pub record IsFlawedFilter (kind : Data) (bytes : List ℕ) (fault : ClassicFault) : Type 0 where
  pub filter : List SockFilter
  pub listed : IsListed kind bytes filter
  pub fault_is : IsCheckFault kind filter fault

-- the bytes list a program that has no translation
pub record IsUntranslated (kind : Data) (bytes : List ℕ) (fault : TranslateFault) : Type 0 where
  pub filter : List SockFilter
  pub listed : IsListed kind bytes filter
  pub classic : List ClassicInsn
  pub insns_of : AreInsnsOf filter classic
  pub well_formed : IsWellFormed kind classic
  pub fault_is : IsTranslateFault (checked kind classic) fault

-- why the bytes list nothing: of packets the text's first fault, of system calls that the last instruction is cut
abbrev pub IsReadFault : Data → List ℕ → ReadFault → Type 0
IsReadFault Packet bytes fault = IsUtf8 bytes × IsListingFault bytes fault
IsReadFault Seccomp bytes fault = fault ≡ read_faults.CutRecord

-- why the bytes are refused; that memory ran out may be said of any
abbrev pub IsFilterFault : Data → List ℕ → FilterFault → Type 0
IsFilterFault kind bytes (NotUtf8 line) = (kind ≡ Packet) × (IsUtf8 bytes → ⊥)
IsFilterFault kind bytes (Unread fault) = IsUnlisted kind bytes × (fault ≢ read_faults.Memory) × IsReadFault kind bytes fault
IsFilterFault kind bytes (Flawed fault) = IsFlawedFilter kind bytes fault × (fault ≢ classic_faults.Memory)
IsFilterFault kind bytes (Untranslated fault) = IsUntranslated kind bytes fault × (fault ≢ translate_faults.Memory)
IsFilterFault kind bytes Memory = Unit {0}

-- the bytes are refused, and not for want of memory
abbrev pub IsRefusedByFilter : Data → List ℕ → Type 0
IsRefusedByFilter kind bytes = (fault : FilterFault) × (fault ≢ Memory) × IsFilterFault kind bytes fault
