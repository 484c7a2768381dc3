-- What a host has opened.
use Rattle.std.specs.Prelude.{◌≡◌, ◌≤◌, ℕ, List, [], Option, Some, None, length}
use Rattle.bpf_model.specs.declared.limits.MapShape.{MapShape}
use Rattle.bpf_model.specs.declared.limits.TheConstants.{CTX_BYTES, MAX_MAPS}
use Rattle.bpf_model.specs.Shapes.{AreShapes}
use Rattle.bpf_model.specs.Spelling.{IsProgram, text}
use Rattle.bpf_model.specs.View.{shapes_of_maps}
use Rattle.classic.specs.Translation.{IsTranslation}
use Rattle.classic_program.specs.declared.data.Data.{Data}
use Rattle.classic_program.specs.declared.insn.ClassicInsn.{ClassicInsn}
use Rattle.classic_program.specs.declared.sock_filter.SockFilter.{SockFilter}
use Rattle.classic_program.specs.Context.{context_bytes}
use Rattle.classic_program.specs.Opcode.{AreInsnsOf}
use Rattle.classic_program.specs.WellFormed.{Checked as Classic, checked, IsWellFormed}
use Rattle.plan_laws.specs.Verified.{IsVerified}
use Rattle.program_files.specs.ProgramFile.{FileContent, FileSays}
use Rattle.verifier.specs.Checked.{Checked}

-- a program with its verification, and the classic program that it translates, where it does
pub record OpenProgram : Type 0 where
  pub checked : Checked
  pub classic : Option Classic

-- Each run of the program, which was verified for no maps, exits with what the classic program returns, on a context of that program's
-- data.
pub record Translates (v : Checked) (c : Classic) : Type 0 where
  pub context : v.ctx_len ≡ context_bytes c.kind
  pub shapes : v.shapes ≡ []
  pub translation : IsTranslation c.kind c.instructions v.program

-- No run of the program is ever stuck, and each exits in time.
abbrev pub IsSafe : Checked → Type 0
IsSafe v = IsVerified v.program v.shapes v.ctx_len

abbrev pub IsTranslationOf : Checked → Option Classic → Type 0
IsTranslationOf v None = Unit {0}
IsTranslationOf v (Some c) = Translates v c

-- the verified program of these bytes, for contexts of this length and maps of these shapes
pub record IsOfBytes (bytes : List ℕ) (ctx_len : ℕ) (shapes : List MapShape) (p : OpenProgram)
    : Type 0 where
  pub is : IsProgram p.checked.program
  pub program : bytes ≡ text p.checked.program
  pub context : p.checked.ctx_len ≡ ctx_len
  pub shapes_are : p.checked.shapes ≡ shapes
  pub within : ctx_len ≤ CTX_BYTES
  pub few : length shapes ≤ MAX_MAPS
  pub valid : AreShapes shapes
  pub verified : IsSafe p.checked
  pub classic : p.classic ≡ None

-- the verified program of a program file, for its context and its maps
pub record IsOfFile (bytes : List ℕ) (p : OpenProgram) : Type 0 where
  pub content : FileContent
  pub says : FileSays bytes content
  pub is : IsProgram p.checked.program
  pub code : content.code ≡ text p.checked.program
  pub context : p.checked.ctx_len ≡ content.ctx_len
  pub shapes : p.checked.shapes ≡ shapes_of_maps content.registry.maps
  pub verified : IsSafe p.checked
  pub classic : p.classic ≡ None

-- a translation of the classic program of these instructions
pub record IsOfClassic (kind : Data) (filter : List SockFilter) (p : OpenProgram) : Type 0 where
  pub instructions : List ClassicInsn
  pub insns_of : AreInsnsOf filter instructions
  pub well_formed : IsWellFormed kind instructions
  pub classic : p.classic ≡ Some (checked kind instructions)
  pub translates : Translates p.checked (checked kind instructions)
  pub verified : IsSafe p.checked
