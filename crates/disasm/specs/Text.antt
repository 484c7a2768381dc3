-- The text of instructions: a line is a mnemonic, and after a space its arguments, parted by `, `.
use Rattle.std.specs.Prelude.{ℕ, ◌+◌, ◌==◌, ℤ, pos, negsuc, List, [], ◌∷◌, ◌++◌, map, codes}
use Rattle.std.specs.Prelude.{if◌then◌else◌}
use Rattle.std.specs.List.{flat_map}
use Rattle.std.specs.Int.Digits.{digits_of}
use Rattle.bpf_model.specs.declared.opcode.Size.{Size}
use Rattle.bpf_model.specs.declared.opcode.Size.TheVariants.{Word32, Word64}
use Rattle.bpf_model.specs.declared.opcode.Width.{Width}
use Rattle.bpf_model.specs.declared.opcode.Width.TheVariants as width
use Rattle.bpf_model.specs.declared.opcode.SignedWidth.{SignedWidth}
use Rattle.bpf_model.specs.declared.opcode.SignedWidth.TheVariants as signed_width
use Rattle.bpf_model.specs.declared.opcode.SwapWidth.{SwapWidth}
use Rattle.bpf_model.specs.declared.opcode.SwapWidth.TheVariants as swap
use Rattle.bpf_model.specs.declared.opcode.ByteOrder.{ByteOrder}
use Rattle.bpf_model.specs.declared.opcode.ByteOrder.TheVariants.{ToLittle, ToBig, Swap}
use Rattle.bpf_model.specs.declared.opcode.Condition.{Condition}
use Rattle.bpf_model.specs.declared.opcode.Condition.TheVariants.{Equal, Greater, GreaterOrEqual}
use Rattle.bpf_model.specs.declared.opcode.Condition.TheVariants.{SharesBits, NotEqual}
use Rattle.bpf_model.specs.declared.opcode.Condition.TheVariants.{SignedGreater}
use Rattle.bpf_model.specs.declared.opcode.Condition.TheVariants.{SignedGreaterOrEqual, Less}
use Rattle.bpf_model.specs.declared.opcode.Condition.TheVariants.{LessOrEqual, SignedLess}
use Rattle.bpf_model.specs.declared.opcode.Condition.TheVariants.{SignedLessOrEqual}
use Rattle.bpf_model.specs.declared.insn.AluOp.{AluOp}
use Rattle.bpf_model.specs.declared.insn.AluOp.TheVariants.{Add, Sub, Mul, Div, SignedDiv, Or, And}
use Rattle.bpf_model.specs.declared.insn.AluOp.TheVariants.{ShiftLeft, ShiftRight, Mod, SignedMod}
use Rattle.bpf_model.specs.declared.insn.AluOp.TheVariants.{Xor, Move, ShiftRightSigned}
use Rattle.bpf_model.specs.declared.insn.UnaryOp.{UnaryOp}
use Rattle.bpf_model.specs.declared.insn.UnaryOp.TheVariants as unary
use Rattle.bpf_model.specs.declared.insn.CallKind.{CallKind}
use Rattle.bpf_model.specs.declared.insn.CallKind.TheVariants.{Helper, Kernel}
use Rattle.bpf_model.specs.declared.insn.Operand.{Operand}
use Rattle.bpf_model.specs.declared.insn.Operand.TheVariants as operand
use Rattle.bpf_model.specs.declared.insn.Insn.{Insn}
use Rattle.bpf_model.specs.declared.insn.Insn.TheVariants as insn
use Rattle.bpf_model.specs.Spelling.{extension_size, extension_bits}
use Rattle.disasm.specs.declared.mnemonic.Mnemonic.{Mnemonic}
use Rattle.disasm.specs.declared.mnemonic.Mnemonic.TheVariants.{Alu, MoveSigned, Negate, ByteSwap}
use Rattle.disasm.specs.declared.mnemonic.Mnemonic.TheVariants.{LoadNumber, LoadMap, Jump, JumpLong}
use Rattle.disasm.specs.declared.mnemonic.Mnemonic.TheVariants.{JumpIf, Call, Exit, Load}
use Rattle.disasm.specs.declared.mnemonic.Mnemonic.TheVariants.{LoadSigned, Store, StoreRegister}
use Rattle.disasm.specs.declared.statement.Sign.{Sign}
use Rattle.disasm.specs.declared.statement.Sign.TheVariants.{Plus, Minus}
use Rattle.disasm.specs.declared.statement.Argument.{Argument}
use Rattle.disasm.specs.declared.statement.Argument.TheVariants.{Register, Number, Signed, Memory}
use Rattle.disasm.specs.declared.statement.Arguments.{Arguments}
use Rattle.disasm.specs.declared.statement.Arguments.TheVariants.{Zero, One, Two, Three}
use Rattle.disasm.specs.declared.statement.Statement.{Statement}

-- Mnemonics: a stem, and a suffix that says how many bits or bytes, or which call.

abbrev pub alu_stem : AluOp → List ℕ
alu_stem Add = codes "add"
alu_stem Sub = codes "sub"
alu_stem Mul = codes "mul"
alu_stem Div = codes "div"
alu_stem SignedDiv = codes "sdiv"
alu_stem Or = codes "or"
alu_stem And = codes "and"
alu_stem ShiftLeft = codes "lsh"
alu_stem ShiftRight = codes "rsh"
alu_stem Mod = codes "mod"
alu_stem SignedMod = codes "smod"
alu_stem Xor = codes "xor"
alu_stem Move = codes "mov"
alu_stem ShiftRightSigned = codes "arsh"

abbrev pub condition_stem : Condition → List ℕ
condition_stem Equal = codes "jeq"
condition_stem Greater = codes "jgt"
condition_stem GreaterOrEqual = codes "jge"
condition_stem SharesBits = codes "jset"
condition_stem NotEqual = codes "jne"
condition_stem SignedGreater = codes "jsgt"
condition_stem SignedGreaterOrEqual = codes "jsge"
condition_stem Less = codes "jlt"
condition_stem LessOrEqual = codes "jle"
condition_stem SignedLess = codes "jslt"
condition_stem SignedLessOrEqual = codes "jsle"

abbrev pub order_stem : ByteOrder → List ℕ
order_stem ToLittle = codes "le"
order_stem ToBig = codes "be"
order_stem Swap = codes "swap"

abbrev pub size_suffix : Size → List ℕ
size_suffix Word32 = codes "32"
size_suffix Word64 = codes "64"

-- a jump of class JMP has no suffix
abbrev pub jump_suffix : Size → List ℕ
jump_suffix Word32 = codes "32"
jump_suffix Word64 = []

abbrev pub swap_suffix : SwapWidth → List ℕ
swap_suffix swap.Two = codes "16"
swap_suffix swap.Four = codes "32"
swap_suffix swap.Eight = codes "64"

abbrev pub width_suffix : Width → List ℕ
width_suffix width.One = codes "b"
width_suffix width.Two = codes "h"
width_suffix width.Four = codes "w"
width_suffix width.Eight = codes "dw"

abbrev pub signed_width_suffix : SignedWidth → List ℕ
signed_width_suffix signed_width.One = codes "b"
signed_width_suffix signed_width.Two = codes "h"
signed_width_suffix signed_width.Four = codes "w"

abbrev pub call_suffix : CallKind → List ℕ
call_suffix Helper = []
call_suffix Kernel = codes "btf"

abbrev pub stem_of : Mnemonic → List ℕ
stem_of (Alu op size) = alu_stem op
stem_of (MoveSigned size) = codes "movsx"
stem_of (Negate size) = codes "neg"
stem_of (ByteSwap order width) = order_stem order
stem_of LoadNumber = codes "lddw"
stem_of LoadMap = codes "ldmap"
stem_of Jump = codes "ja"
stem_of JumpLong = codes "ja"
stem_of (JumpIf condition size) = condition_stem condition
stem_of (Call kind) = codes "call"
stem_of Exit = codes "exit"
stem_of (Load width) = codes "ldx"
stem_of (LoadSigned width) = codes "ldxs"
stem_of (Store width) = codes "st"
stem_of (StoreRegister width) = codes "stx"

abbrev pub suffix_of : Mnemonic → List ℕ
suffix_of (Alu op size) = size_suffix size
suffix_of (MoveSigned size) = size_suffix size
suffix_of (Negate size) = size_suffix size
suffix_of (ByteSwap order width) = swap_suffix width
suffix_of LoadNumber = []
suffix_of LoadMap = []
suffix_of Jump = []
suffix_of JumpLong = codes "32"
suffix_of (JumpIf condition size) = jump_suffix size
suffix_of (Call kind) = call_suffix kind
suffix_of Exit = []
suffix_of (Load width) = width_suffix width
suffix_of (LoadSigned width) = signed_width_suffix width
suffix_of (Store width) = width_suffix width
suffix_of (StoreRegister width) = width_suffix width

abbrev pub mnemonic_text : Mnemonic → List ℕ
mnemonic_text m = stem_of m ++ suffix_of m

-- Arguments, with numbers of any size.

-- the byte of a decimal digit; that of 0 is byte 48
abbrev pub glyph : ℕ → ℕ
glyph digit = 48 + digit

-- the decimal digits of a number as bytes, without leading zeros: none for 0
abbrev pub glyphs : ℕ → List ℕ
glyphs n = map glyph (digits_of 10 n)

-- a number in decimal
abbrev pub numeral : ℕ → List ℕ
numeral n = if n == 0 then codes "0" else glyphs n

abbrev pub sign_text : Sign → List ℕ
sign_text Plus = codes "+"
sign_text Minus = codes "-"

-- `r1`, `4`, `-4`, `[r10-8]`
abbrev pub argument_text : Argument → List ℕ
argument_text (Register number) = codes "r" ++ numeral number
argument_text (Number magnitude) = numeral magnitude
argument_text (Signed sign magnitude) = sign_text sign ++ numeral magnitude
argument_text (Memory base sign offset) =
    codes "[r" ++ numeral base ++ sign_text sign ++ numeral offset ++ codes "]"

abbrev pub arguments_text : Arguments → List ℕ
arguments_text Zero = []
arguments_text (One a) = codes " " ++ argument_text a
arguments_text (Two a b) = codes " " ++ argument_text a ++ codes ", " ++ argument_text b
arguments_text (Three a b c) =
    codes " " ++ argument_text a ++ codes ", " ++ argument_text b ++ codes ", " ++ argument_text c

abbrev pub statement_text : Statement → List ℕ
statement_text s = mnemonic_text s.mnemonic ++ arguments_text s.arguments

-- How each instruction is written.

-- the sign and the magnitude of a number; `negsuc n` is -(n + 1)
abbrev pub sign_of : ℤ → Sign
sign_of (pos n) = Plus
sign_of (negsuc n) = Minus

abbrev pub magnitude : ℤ → ℕ
magnitude (pos n) = n
magnitude (negsuc n) = n + 1

-- a number bears a sign where it is below 0
abbrev pub number_argument : ℤ → Argument
number_argument (pos n) = Number n
number_argument (negsuc n) = Signed Minus (n + 1)

-- an offset always bears its sign
abbrev pub offset_argument : ℤ → Argument
offset_argument z = Signed (sign_of z) (magnitude z)

abbrev pub memory_argument : ℕ → ℤ → Argument
memory_argument base z = Memory base (sign_of z) (magnitude z)

abbrev pub source_argument : Operand → Argument
source_argument (operand.Register src) = Register src
source_argument (operand.Immediate imm) = number_argument imm

abbrev pub unary_mnemonic : UnaryOp → Mnemonic
unary_mnemonic (unary.Negate size) = Negate size
unary_mnemonic (unary.ByteSwap order width) = ByteSwap order width
unary_mnemonic (unary.MoveSigned extension src) = MoveSigned (extension_size extension)

-- a store of the field imm and one of a register have names of their own
abbrev pub store_mnemonic : Width → Operand → Mnemonic
store_mnemonic width (operand.Immediate imm) = Store width
store_mnemonic width (operand.Register src) = StoreRegister width

abbrev pub mnemonic_of : Insn → Mnemonic
mnemonic_of (insn.Alu op size dst src) = Alu op size
mnemonic_of (insn.Unary op dst) = unary_mnemonic op
mnemonic_of (insn.LoadNumber dst n) = LoadNumber
mnemonic_of (insn.LoadMap dst map) = LoadMap
mnemonic_of (insn.Jump z) = Jump
mnemonic_of (insn.JumpLong imm) = JumpLong
mnemonic_of (insn.JumpIf condition size dst src z) = JumpIf condition size
mnemonic_of (insn.Call kind imm) = Call kind
mnemonic_of insn.Exit = Exit
mnemonic_of (insn.Load width dst src z) = Load width
mnemonic_of (insn.LoadSigned width dst src z) = LoadSigned width
mnemonic_of (insn.Store width dst z src) = store_mnemonic width src

abbrev pub unary_arguments : UnaryOp → ℕ → Arguments
unary_arguments (unary.Negate size) dst = One (Register dst)
unary_arguments (unary.ByteSwap order width) dst = One (Register dst)
unary_arguments (unary.MoveSigned extension src) dst =
    Three (Register dst) (Register src) (number_argument (extension_bits extension))

abbrev pub text_arguments : Insn → Arguments
text_arguments (insn.Alu op size dst src) = Two (Register dst) (source_argument src)
text_arguments (insn.Unary op dst) = unary_arguments op dst
text_arguments (insn.LoadNumber dst n) = Two (Register dst) (Number n)
text_arguments (insn.LoadMap dst map) = Two (Register dst) (number_argument map)
text_arguments (insn.Jump z) = One (offset_argument z)
text_arguments (insn.JumpLong imm) = One (offset_argument imm)
text_arguments (insn.JumpIf condition size dst src z) =
    Three (Register dst) (source_argument src) (offset_argument z)
text_arguments (insn.Call kind imm) = One (number_argument imm)
text_arguments insn.Exit = Zero
text_arguments (insn.Load width dst src z) = Two (Register dst) (memory_argument src z)
text_arguments (insn.LoadSigned width dst src z) = Two (Register dst) (memory_argument src z)
text_arguments (insn.Store width dst z src) = Two (memory_argument dst z) (source_argument src)

abbrev pub statement_of : Insn → Statement
statement_of i = record { mnemonic = mnemonic_of i; arguments = text_arguments i }

-- The text of an instruction, without the line feed that ends its line; and of a program.
abbrev pub line_of : Insn → List ℕ
line_of i = statement_text (statement_of i)

abbrev pub program_text : List Insn → List ℕ
program_text is = flat_map (λ i. line_of i ++ 10 ∷ []) is
