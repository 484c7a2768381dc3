-- What was loaded, as the definitions have it.
use Rattle.std.specs.Prelude.{ℕ, List}
use Rattle.script_stream.specs.Lines.{lines_of}
use Rattle.program_files.specs.ProgramFile.{FileContent, IsFirstWrongLine}
use Rattle.program_files.specs.declared.loader.fault.LoadFault.{LoadFault}
use Rattle.program_files.specs.declared.loader.fault.LoadFault.TheVariants.{BadFile, Memory}
use Rattle.program_files.specs.declared.loader.program_file.ProgramFile.{ProgramFile}

abbrev pub loaded_content : ProgramFile → FileContent
loaded_content f = record { ctx_len = f.ctx_len; registry = f.registry; code = f.code.items }

-- why the lines of a text are no program file
abbrev pub IsFileTextFault : List ℕ → LoadFault → Type 0
IsFileTextFault text (BadFile line) = IsFirstWrongLine (lines_of text) line
IsFileTextFault text Memory = Unit {0}
