-- What a program file says once it is decoded, verified or disassembled, and the verdict on one that is refused.
use Rattle.std.specs.Prelude.{◌≡◌, ◌≢◌, ℕ, ◌⊎◌, List, length, ⊤, IfNone, IfSome}
use Rattle.bpf_model.specs.declared.insn.Insn.{Insn}
use Rattle.bpf_model.specs.Spelling.{IsProgram, text}
use Rattle.bpf_model.specs.Places.{slot_total}
use Rattle.model_laws.specs.PlainMaps.{IsPlainWithMaps}
use Rattle.bpf_model.specs.View.{shapes_of_maps}
use Rattle.disasm.specs.Text.{program_text}
use Rattle.insn_codec.specs.declared.fault.DecodeFault.{DecodeFault}
use Rattle.insn_codec.specs.Faults.{IsDecodeFault}
use Rattle.verifier.specs.GraphFlaws.{HasGoodGraph}
use Rattle.program_files.specs.ProgramFile.{FileContent, FileSays, IsLoadFault}
use Rattle.plan_laws.specs.Verified.{IsVerified}
use Rattle.verifier.specs.declared.refusal.ProgramRefusal.{ProgramRefusal}
use Rattle.verifier.specs.declared.refusal.ProgramRefusal.TheVariants as refusals
use Rattle.verifier.specs.Verdict.{IsToldOf}
use Rattle.program_files.specs.declared.verdict.Verdict.{Verdict}
use Rattle.program_files.specs.declared.verdict.Verdict.TheVariants.{File, Code, Program, Memory}
use Rattle.program_files.specs.declared.program_file.Source.{Source}
use Rattle.program_files.specs.declared.file_check.Accepted.{Accepted}
use Rattle.program_files.specs.declared.refused.RefusedFile.{RefusedFile}

-- what a file says whose code is the text of a program
abbrev pub content_with : Source → FileContent
content_with s =
    record { ctx_len = s.ctx_len; registry = s.registry; code = text s.program }

-- The file says this program, with these maps and this context.
pub record IsSourceOf (bytes : List ℕ) (s : Source) : Type 0 where
  pub is : IsProgram s.program
  pub says : FileSays bytes (content_with s)

-- The file says this program, its jump graph has no flaw, and it is verified with the file's maps and context.
pub record IsVerifiedFile (bytes : List ℕ) (program : List Insn) : Type 0 where
  pub content : FileContent
  pub says : FileSays bytes content
  pub is : IsProgram program
  pub text_is : content.code ≡ text program
  pub graph : HasGoodGraph program
  pub verified : IsVerified program (shapes_of_maps content.registry.maps) content.ctx_len

-- The file says a program that is verified with its maps and context, of so many instructions
-- and slots.
pub record IsAcceptedFile (bytes : List ℕ) (a : Accepted) : Type 0 where
  pub program : List Insn
  pub is : IsVerifiedFile bytes program
  pub instructions : a.instructions ≡ length program
  pub slots : a.slots ≡ slot_total program

-- The file says a program, and these lines are its disassembly.
pub record IsTextOf (bytes lines : List ℕ) : Type 0 where
  pub source : Source
  pub is : IsSourceOf bytes source
  pub lines_are : lines ≡ program_text source.program

-- The file says code, and this is its first fault.
pub record IsCodeFault (bytes : List ℕ) (fault : DecodeFault) : Type 0 where
  pub content : FileContent
  pub says : FileSays bytes content
  pub is : IsDecodeFault content.code fault

-- The file says a program, and the verifier refuses it so. Unless memory ran out, the program isn't
-- plain.
pub record IsProgramRefused (bytes : List ℕ) (refusal : ProgramRefusal) : Type 0 where
  pub source : Source
  pub is : IsSourceOf bytes source
  pub found : IsToldOf source.program refusal
  pub not_plain_with_maps : refusal ≢ refusals.Memory →
      ¬ (IsPlainWithMaps source.program (shapes_of_maps source.registry.maps))

-- The verdict is the first line that is wrong, or the first fault of the code that the file says.
-- That memory ran out may be said of any.
abbrev pub IsDecodeRefusal : List ℕ → Verdict → Type 0
IsDecodeRefusal bytes (File fault) = IsLoadFault bytes fault
IsDecodeRefusal bytes (Code fault) = IsCodeFault bytes fault
IsDecodeRefusal bytes (Program refusal) = ⊥
IsDecodeRefusal bytes Memory = ⊤

-- The verdict is the verifier's of the program that the file says.
abbrev pub IsVerifierVerdict : List ℕ → Verdict → Type 0
IsVerifierVerdict bytes (Program refusal) = IsProgramRefused bytes refusal
IsVerifierVerdict bytes v = ⊥

-- What `check` refuses with: want of memory, a fault of the file or of its code, or the
-- verifier's verdict.
abbrev pub IsCheckedRefusal : List ℕ → Verdict → Type 0
IsCheckedRefusal bytes v = IsDecodeRefusal bytes v ⊎ IsVerifierVerdict bytes v

-- The program is handed back, with its maps and its context, where the verifier refuses it; where memory runs out for its
-- shapes, nothing is.
pub record HandsBack (source : Source) (r : RefusedFile) : Type 0 where
  pub whole : IfSome r.program (λ p. (p.source ≡ source) × (r.verdict ≡ Program p.refusal))
  pub none : IfNone r.program (r.verdict ≡ Memory)

-- The file's program is handed back where the verifier refuses it; where the file or its code has a fault, nothing is.
pub record HandsBackFrom (bytes : List ℕ) (r : RefusedFile) : Type 0 where
  pub whole : IfSome r.program (λ p. IsSourceOf bytes p.source × (r.verdict ≡ Program p.refusal))
  pub none : IfNone r.program (IsDecodeRefusal bytes r.verdict)
