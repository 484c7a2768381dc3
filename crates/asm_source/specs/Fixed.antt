-- The texts of the fixed language, and what stays of them.
use Rattle.std.specs.Prelude.{◌≡◌, ℕ, false, if◌then◌else◌, List, [], ◌∷◌, ◌++◌}
use Rattle.std.specs.List.{AllByRecursion, flat_map}
use Rattle.disasm.specs.declared.statement.Statement.{Statement}
use Rattle.disasm.specs.Text.{statement_text}
use Rattle.asm.specs.Faults.{is_comment}
use Rattle.asm_source.specs.Tokens.{lines_of}

-- the line is a mnemonic and arguments, whether or not an instruction has them
pub record IsStatement (line : List ℕ) : Type 0 where
  pub statement : Statement
  pub text : line ≡ statement_text statement

-- a comment, or a mnemonic and arguments
abbrev pub IsFixedLine : List ℕ → Type 0
IsFixedLine line = is_comment line ≡ false → IsStatement line

-- the lines of the text are those of the fixed language
abbrev pub IsFixed : List ℕ → Type 0
IsFixed text = AllByRecursion IsFixedLine (lines_of text)

-- a comment is left out, each other line stays
abbrev pub kept : List ℕ → List ℕ
kept line = if is_comment line then [] else line

abbrev pub kept_text : List ℕ → List ℕ
kept_text text = flat_map (λ line. kept line ++ 10 ∷ []) (lines_of text)
