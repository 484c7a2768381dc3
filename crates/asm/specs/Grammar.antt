-- The grammar of a line: which arguments each mnemonic takes, with numbers of any size.
use Rattle.std.specs.Prelude.{ℕ, ◌≡◌, ◌==◌, Bool, true, false, not, ◌||◌, ◌&&◌, List}
use Rattle.disasm.specs.declared.mnemonic.Mnemonic.{Mnemonic}
use Rattle.disasm.specs.declared.mnemonic.Mnemonic.TheVariants.{Alu, MoveSigned, Negate, ByteSwap}
use Rattle.disasm.specs.declared.mnemonic.Mnemonic.TheVariants.{LoadNumber, LoadMap, Jump, JumpLong}
use Rattle.disasm.specs.declared.mnemonic.Mnemonic.TheVariants.{JumpIf, Call, Exit, Load}
use Rattle.disasm.specs.declared.mnemonic.Mnemonic.TheVariants.{LoadSigned, Store, StoreRegister}
use Rattle.disasm.specs.declared.statement.Sign.{Sign}
use Rattle.disasm.specs.declared.statement.Sign.TheVariants.{Plus, Minus}
use Rattle.disasm.specs.declared.statement.Argument.{Argument}
use Rattle.disasm.specs.declared.statement.Argument.TheVariants.{Register, Number, Signed, Memory}
use Rattle.disasm.specs.declared.statement.Arguments.{Arguments}
use Rattle.disasm.specs.declared.statement.Arguments.TheVariants as arguments
use Rattle.disasm.specs.declared.statement.Statement.{Statement}
use Rattle.disasm.specs.Text.{statement_text}
use Rattle.asm.specs.declared.form.Class.{Class}
use Rattle.asm.specs.declared.form.Class.TheVariants as class
use Rattle.asm.specs.declared.form.Form.{Form}
use Rattle.asm.specs.declared.form.Form.TheVariants.{Zero, One, Two, Three}

-- whether a magnitude may be written with this sign: `-0` is no number
abbrev pub is_signed : Sign → ℕ → Bool
is_signed Plus magnitude = true
is_signed Minus magnitude = not (magnitude == 0)

abbrev pub is_register : Argument → Bool
is_register (Register n) = true
is_register _ = false

-- digits alone
abbrev pub is_unsigned : Argument → Bool
is_unsigned (Number n) = true
is_unsigned _ = false

-- digits, or a minus and digits
abbrev pub is_number : Argument → Bool
is_number (Number n) = true
is_number (Signed Minus n) = is_signed Minus n
is_number _ = false

-- a sign and digits
abbrev pub is_offset : Argument → Bool
is_offset (Signed sign n) = is_signed sign n
is_offset _ = false

abbrev pub is_memory : Argument → Bool
is_memory (Memory base sign offset) = is_signed sign offset
is_memory _ = false

abbrev pub is_of : Class → Argument → Bool
is_of class.Register a = is_register a
is_of class.Source a = is_register a || is_number a
is_of class.Number a = is_number a
is_of class.Unsigned a = is_unsigned a
is_of class.Offset a = is_offset a
is_of class.Memory a = is_memory a

-- the arguments of each mnemonic
abbrev pub form_of : Mnemonic → Form
form_of (Alu op size) = Two class.Register class.Source
form_of (MoveSigned size) = Three class.Register class.Register class.Unsigned
form_of (Negate size) = One class.Register
form_of (ByteSwap order width) = One class.Register
form_of LoadNumber = Two class.Register class.Unsigned
form_of LoadMap = Two class.Register class.Number
form_of Jump = One class.Offset
form_of JumpLong = One class.Offset
form_of (JumpIf condition size) = Three class.Register class.Source class.Offset
form_of (Call kind) = One class.Number
form_of Exit = Zero
form_of (Load width) = Two class.Register class.Memory
form_of (LoadSigned width) = Two class.Register class.Memory
form_of (Store width) = Two class.Memory class.Number
form_of (StoreRegister width) = Two class.Memory class.Register

abbrev pub takes : Form → Arguments → Bool
takes Zero arguments.Zero = true
takes (One p) (arguments.One a) = is_of p a
takes (Two p q) (arguments.Two a b) = is_of p a && is_of q b
takes (Three p q r) (arguments.Three a b c) = is_of p a && is_of q b && is_of r c
takes _ _ = false

abbrev pub is_formed : Statement → Bool
is_formed s = takes (form_of s.mnemonic) s.arguments

-- the line has one of the forms
pub record IsFormedLine (line : List ℕ) : Type 0 where
  pub statement : Statement
  pub text : line ≡ statement_text statement
  pub formed : is_formed statement ≡ true
