-- Words of the reader's own contracts.
use Rattle.std.specs.Prelude.{◌≡◌, ℕ, ◌+◌, false, ◌==◌, List, [], ◌∷◌, ◌++◌, length, All, Option}
use Rattle.std.specs.Prelude.{Some, None}
use Rattle.std.specs.Borrow.{Bor}
use Rattle.maps.specs.Registry.{no_maps}
use Rattle.program_files.specs.Lines.{file_words}
use Rattle.program_files.specs.Heads.{AreHeadLines}
use Rattle.program_files.specs.ProgramFile.{FileContent, IsProgramFile, IsFileBeginning}
use Rattle.program_files.specs.declared.loader.fault.LoadFault.{LoadFault}
use Rattle.program_files.specs.declared.loader.fault.LoadFault.TheVariants.{BadFile, Memory}
use Rattle.program_files.specs.declared.loader.lines_read.LinesRead.{LinesRead}
use Rattle.program_files.specs.declared.loader.lines_read.Stage.{Stage}
use Rattle.program_files.specs.declared.loader.lines_read.Stage.TheVariants.{Context, Maps, Code}

-- no byte is this one
abbrev pub HasNoByte : ℕ → List ℕ → Type 0
HasNoByte at bytes = All (λ b. (b == at) ≡ false) bytes

-- the words that are left
abbrev pub words_left : Option (Bor (List ℕ)) → List (List ℕ)
words_left None = []
words_left (Some rest) = file_words rest.now

-- what a reader keeps says, where its lines are a program file
abbrev pub content_of : LinesRead → FileContent
content_of l = record { ctx_len = l.ctx_len; registry = l.registry; code = l.code.items }

-- what the lines before a stage say: nothing, a context and maps, or a program file
abbrev pub IsAtStage : Stage → List (List ℕ) → FileContent → Type 0
IsAtStage Context lines c = (lines ≡ []) × (c.registry ≡ no_maps) × (c.code ≡ [])
IsAtStage Maps lines c = AreHeadLines lines c.ctx_len c.registry × (c.code ≡ [])
IsAtStage Code lines c = IsProgramFile lines c

-- What has been read of these lines.
abbrev pub HasLoaded : List (List ℕ) → LinesRead → Type 0
HasLoaded lines l = IsAtStage l.stage lines (content_of l)

-- Line n, counted from 1 with the heading, is the first of the lines that is wrong, whatever follows them.
pub record HasWrongLine (lines : List (List ℕ)) (n : ℕ) : Type 0 where
  pub front : List (List ℕ)
  pub line : List ℕ
  pub rest : List (List ℕ)
  pub parts : lines ≡ front ++ line ∷ rest
  pub number : n ≡ length front + 2
  pub begins : IsFileBeginning front
  pub wrong : ¬ (IsFileBeginning (front ++ line ∷ []))

-- why the lines begin no program file; that memory ran out may be said of any
abbrev pub IsLineFault : List (List ℕ) → LoadFault → Type 0
IsLineFault lines (BadFile n) = HasWrongLine lines n
IsLineFault lines Memory = Unit {0}
