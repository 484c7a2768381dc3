-- Words of the reader's own contracts. It keeps numbers up to 2 ^ 64, which is above what any
-- instruction takes.
use Rattle.std.specs.Prelude.{ℕ, ◌≡◌, ◌≢◌, ◌<◌, ◌≤◌, ◌^◌, ℤ, FitsSigned, Option, Some, List, ◌∷◌}
use Rattle.std.specs.Prelude.{length, slice_index, nat_lt, if◌then◌else◌}
use Rattle.std.specs.Int.{w16, w32}
use Rattle.bpf_model.specs.declared.insn.Operand.{Operand}
use Rattle.bpf_model.specs.declared.insn.Operand.TheVariants as operand
use Rattle.bpf_model.specs.declared.insn.UnaryOp.TheVariants as unary
use Rattle.bpf_model.specs.declared.insn.SignExtension.{SignExtension}
use Rattle.bpf_model.specs.declared.insn.Insn.{Insn}
use Rattle.bpf_model.specs.declared.insn.Insn.TheVariants as insn
use Rattle.bpf_model.specs.Spelling.{FitsOperand, FitsInsn, extension_size, extension_bits}
use Rattle.disasm.specs.declared.mnemonic.Mnemonic.{Mnemonic}
use Rattle.disasm.specs.declared.mnemonic.Mnemonic.TheVariants.{Alu, MoveSigned, Negate, ByteSwap}
use Rattle.disasm.specs.declared.mnemonic.Mnemonic.TheVariants.{LoadNumber, LoadMap, Jump, JumpLong}
use Rattle.disasm.specs.declared.mnemonic.Mnemonic.TheVariants.{JumpIf, Call, Exit, Load}
use Rattle.disasm.specs.declared.mnemonic.Mnemonic.TheVariants.{LoadSigned, Store, StoreRegister}
use Rattle.disasm.specs.Text.{argument_text, arguments_text, statement_text, number_argument}
use Rattle.disasm.specs.Text.{offset_argument, memory_argument, source_argument, mnemonic_of}
use Rattle.disasm.specs.Text.{text_arguments}
use Rattle.disasm.specs.declared.statement.Argument.{Argument}
use Rattle.disasm.specs.declared.statement.Argument.TheVariants.{Register, Number, Signed, Memory}
use Rattle.disasm.specs.declared.statement.Arguments.{Arguments}
use Rattle.disasm.specs.declared.statement.Arguments.TheVariants.{Zero, One, Two, Three}
use Rattle.disasm.specs.declared.statement.Statement.{Statement}

-- a number as the reader keeps it: 2 ^ 64 stands for each above
abbrev pub capped : ℕ → ℕ
capped n = if nat_lt n (2 ^ 64) then n else 2 ^ 64

abbrev pub capped_argument : Argument → Argument
capped_argument (Register n) = Register (capped n)
capped_argument (Number n) = Number (capped n)
capped_argument (Signed sign n) = Signed sign (capped n)
capped_argument (Memory base sign offset) = Memory (capped base) sign (capped offset)

abbrev pub capped_arguments : Arguments → Arguments
capped_arguments Zero = Zero
capped_arguments (One a) = One (capped_argument a)
capped_arguments (Two a b) = Two (capped_argument a) (capped_argument b)
capped_arguments (Three a b c) = Three (capped_argument a) (capped_argument b) (capped_argument c)

abbrev pub capped_statement : Statement → Statement
capped_statement s = record { mnemonic = s.mnemonic; arguments = capped_arguments s.arguments }

-- What is read of a text is what the text is of, with its numbers capped, and what the text is of
-- is read.

abbrev pub IsArgumentRead : List ℕ → Argument → Type 0
IsArgumentRead text a = (w : Argument) × (text ≡ argument_text w) × (a ≡ capped_argument w)

abbrev pub ReadsArgument : List ℕ → Option Argument → Type 0
ReadsArgument text r = (w : Argument) → text ≡ argument_text w → r ≡ Some (capped_argument w)

-- the arguments behind a mnemonic and a space, which is byte 32
abbrev pub IsArgumentsRead : List ℕ → Arguments → Type 0
IsArgumentsRead text s = (w : Arguments) × (32 ∷ text ≡ arguments_text w) × (s ≡ capped_arguments w)

abbrev pub ReadsArguments : List ℕ → Option Arguments → Type 0
ReadsArguments text r =
    (w : Arguments) → 32 ∷ text ≡ arguments_text w → r ≡ Some (capped_arguments w)

abbrev pub IsStatementRead : List ℕ → Statement → Type 0
IsStatementRead line s = (w : Statement) × (line ≡ statement_text w) × (s ≡ capped_statement w)

abbrev pub ReadsStatement : List ℕ → Option Statement → Type 0
ReadsStatement line r = (w : Statement) → line ≡ statement_text w → r ≡ Some (capped_statement w)

-- no byte of the text is c
abbrev pub Lacks : ℕ → List ℕ → Type 0
Lacks c text = (i : ℕ) → i < length text → slice_index text i ≢ c

-- the instruction has this mnemonic and these arguments, and its fields are in their ranges
abbrev pub IsInsnOf : Mnemonic → Arguments → Insn → Type 0
IsInsnOf m w i = FitsInsn i × (mnemonic_of i ≡ m) × (text_arguments i ≡ w)

-- What is read of a mnemonic and its arguments is the one instruction that they stand for, where
-- they stand for one.
abbrev pub IsOnlyInsn : Mnemonic → Arguments → Option Insn → Type 0
IsOnlyInsn (Alu op size) w r =
    (dst : ℕ) (src : Operand) → dst ≤ 10 → FitsOperand src →
    w ≡ Two (Register dst) (source_argument src) → r ≡ Some (insn.Alu op size dst src)
IsOnlyInsn (MoveSigned size) w r =
    (extension : SignExtension) (dst src : ℕ) →
    extension_size extension ≡ size → dst ≤ 10 → src ≤ 10 →
    w ≡ Three (Register dst) (Register src) (number_argument (extension_bits extension)) →
    r ≡ Some (insn.Unary (unary.MoveSigned extension src) dst)
IsOnlyInsn (Negate size) w r =
    (dst : ℕ) → dst ≤ 10 → w ≡ One (Register dst) → r ≡ Some (insn.Unary (unary.Negate size) dst)
IsOnlyInsn (ByteSwap order width) w r =
    (dst : ℕ) → dst ≤ 10 →
    w ≡ One (Register dst) → r ≡ Some (insn.Unary (unary.ByteSwap order width) dst)
IsOnlyInsn LoadNumber w r =
    (dst n : ℕ) → dst ≤ 10 → n < 2 ^ 64 →
    w ≡ Two (Register dst) (Number n) → r ≡ Some (insn.LoadNumber dst n)
IsOnlyInsn LoadMap w r =
    (dst : ℕ) (map : ℤ) → dst ≤ 10 → FitsSigned w32 map →
    w ≡ Two (Register dst) (number_argument map) → r ≡ Some (insn.LoadMap dst map)
IsOnlyInsn Jump w r =
    (z : ℤ) → FitsSigned w16 z → w ≡ One (offset_argument z) → r ≡ Some (insn.Jump z)
IsOnlyInsn JumpLong w r =
    (z : ℤ) → FitsSigned w32 z → w ≡ One (offset_argument z) → r ≡ Some (insn.JumpLong z)
IsOnlyInsn (JumpIf condition size) w r =
    (dst : ℕ) (src : Operand) (z : ℤ) → dst ≤ 10 → FitsOperand src → FitsSigned w16 z →
    w ≡ Three (Register dst) (source_argument src) (offset_argument z) →
    r ≡ Some (insn.JumpIf condition size dst src z)
IsOnlyInsn (Call kind) w r =
    (imm : ℤ) → FitsSigned w32 imm → w ≡ One (number_argument imm) → r ≡ Some (insn.Call kind imm)
IsOnlyInsn Exit w r = w ≡ Zero → r ≡ Some (insn.Exit)
IsOnlyInsn (Load width) w r =
    (dst src : ℕ) (z : ℤ) → dst ≤ 10 → src ≤ 10 → FitsSigned w16 z →
    w ≡ Two (Register dst) (memory_argument src z) → r ≡ Some (insn.Load width dst src z)
IsOnlyInsn (LoadSigned width) w r =
    (dst src : ℕ) (z : ℤ) → dst ≤ 10 → src ≤ 10 → FitsSigned w16 z →
    w ≡ Two (Register dst) (memory_argument src z) → r ≡ Some (insn.LoadSigned width dst src z)
IsOnlyInsn (Store width) w r =
    (dst : ℕ) (z imm : ℤ) → dst ≤ 10 → FitsSigned w16 z → FitsSigned w32 imm →
    w ≡ Two (memory_argument dst z) (number_argument imm) →
    r ≡ Some (insn.Store width dst z (operand.Immediate imm))
IsOnlyInsn (StoreRegister width) w r =
    (dst src : ℕ) (z : ℤ) → dst ≤ 10 → src ≤ 10 → FitsSigned w16 z →
    w ≡ Two (memory_argument dst z) (Register src) →
    r ≡ Some (insn.Store width dst z (operand.Register src))
