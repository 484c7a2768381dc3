-- Numbers above 2 ^ 64 change no form, and no instruction has one.
use Rattle.bpf_model.proofs.Prelude.{ℕ, ◌≡◌, ◌+◌, ◌<◌, ◌≤◌, ◌^◌, true, not, ◌==◌, refl, ap, subst, arith, ℤ, pos, negsuc, Option, Some, FitsSigned, w16, w32}
use Rattle.bpf_model.proofs.Prelude.{ints, nat_tests, FitsInsn, FitsOperand, extension_bits}
use Rattle.bpf_model.specs.declared.insn.Operand.{Operand}
use Rattle.bpf_model.specs.declared.insn.Operand.TheVariants as operand
use Rattle.bpf_model.specs.declared.insn.SignExtension.{SignExtension}
use Rattle.bpf_model.specs.declared.insn.SignExtension.TheVariants.{ByteTo32, ShortTo32, ByteTo64, ShortTo64, WordTo64}
use Rattle.bpf_model.specs.declared.insn.UnaryOp.TheVariants.{Negate, ByteSwap, MoveSigned}
use Rattle.bpf_model.specs.declared.insn.Insn.{Insn}
use Rattle.bpf_model.specs.declared.insn.Insn.TheVariants.{Alu, Unary, LoadNumber, LoadMap, Jump, JumpLong, JumpIf, Call, Exit, Load, LoadSigned, Store}
use Rattle.disasm.specs.Text.{number_argument, offset_argument, memory_argument, source_argument, mnemonic_of, text_arguments, statement_of}
use Rattle.disasm.specs.declared.mnemonic.Mnemonic.{Mnemonic}
use Rattle.disasm.specs.declared.statement.Sign.{Sign}
use Rattle.disasm.specs.declared.statement.Sign.TheVariants.{Plus, Minus}
use Rattle.disasm.specs.declared.statement.Argument.{Argument}
use Rattle.disasm.specs.declared.statement.Argument.TheVariants.{Register, Number, Signed, Memory}
use Rattle.disasm.specs.declared.statement.Arguments.{Arguments}
use Rattle.disasm.specs.declared.statement.Arguments.TheVariants as arguments
use Rattle.disasm.specs.declared.statement.Statement.{Statement}
use Rattle.asm.specs.declared.form.Class.{Class}
use Rattle.asm.specs.declared.form.Class.TheVariants as class
use Rattle.asm.specs.declared.form.Form.{Form}
use Rattle.asm.specs.declared.form.Form.TheVariants.{Zero, One, Two, Three}
use Rattle.asm.specs.Grammar.{is_signed, is_of, form_of, takes, is_formed}
use Rattle.asm.specs.Reading.{capped, capped_argument, capped_arguments, capped_statement, IsOnlyInsn}

pub capped_small : (n : ℕ) → n < 2 ^ 64 → capped n ≡ n
capped_small n h = grind (arith, nat_tests)

pub capped_back : (n : ℕ) → capped n < 2 ^ 64 → capped n ≡ n
capped_back n h = grind (arith, nat_tests)

zero_capped : (n : ℕ) → (capped n == 0) ≡ (n == 0)
zero_capped n = grind (arith, nat_tests)

signed_capped : (sign : Sign) (n : ℕ) → is_signed sign (capped n) ≡ is_signed sign n
signed_capped Plus n = refl
signed_capped Minus n = ap not (zero_capped n)

of_capped : (p : Class) (a : Argument) → is_of p (capped_argument a) ≡ is_of p a
of_capped class.Register (Register n) = refl
of_capped class.Register (Number n) = refl
of_capped class.Register (Signed sign n) = refl
of_capped class.Register (Memory b sign n) = refl
of_capped class.Source (Register n) = refl
of_capped class.Source (Number n) = refl
of_capped class.Source (Signed Plus n) = refl
of_capped class.Source (Signed Minus n) = signed_capped Minus n
of_capped class.Source (Memory b sign n) = refl
of_capped class.Number (Register n) = refl
of_capped class.Number (Number n) = refl
of_capped class.Number (Signed Plus n) = refl
of_capped class.Number (Signed Minus n) = signed_capped Minus n
of_capped class.Number (Memory b sign n) = refl
of_capped class.Unsigned (Register n) = refl
of_capped class.Unsigned (Number n) = refl
of_capped class.Unsigned (Signed sign n) = refl
of_capped class.Unsigned (Memory b sign n) = refl
of_capped class.Offset (Register n) = refl
of_capped class.Offset (Number n) = refl
of_capped class.Offset (Signed sign n) = signed_capped sign n
of_capped class.Offset (Memory b sign n) = refl
of_capped class.Memory (Register n) = refl
of_capped class.Memory (Number n) = refl
of_capped class.Memory (Signed sign n) = refl
of_capped class.Memory (Memory b sign n) = signed_capped sign n

takes_capped : (f : Form) (w : Arguments) → takes f (capped_arguments w) ≡ takes f w
takes_capped Zero arguments.Zero = refl
takes_capped Zero (arguments.One a) = refl
takes_capped Zero (arguments.Two a b) = refl
takes_capped Zero (arguments.Three a b d) = refl
takes_capped (One p) arguments.Zero = refl
takes_capped (One p) (arguments.One a) = of_capped p a
takes_capped (One p) (arguments.Two a b) = refl
takes_capped (One p) (arguments.Three a b d) = refl
takes_capped (Two p q) arguments.Zero = refl
takes_capped (Two p q) (arguments.One a) = refl
takes_capped (Two p q) (arguments.Two a b) = rw (of_capped p a, of_capped q b) refl
takes_capped (Two p q) (arguments.Three a b d) = refl
takes_capped (Three p q r) arguments.Zero = refl
takes_capped (Three p q r) (arguments.One a) = refl
takes_capped (Three p q r) (arguments.Two a b) = refl
takes_capped (Three p q r) (arguments.Three a b d) = rw (of_capped p a, of_capped q b, of_capped r d) refl

pub formed_capped : (s : Statement) → is_formed (capped_statement s) ≡ is_formed s
formed_capped s = takes_capped (form_of s.mnemonic) s.arguments

-- arguments with numbers below 2 ^ 64

abbrev pub IsSmallArgument : Argument → Type 0
IsSmallArgument (Register n) = n < 2 ^ 64
IsSmallArgument (Number n) = n < 2 ^ 64
IsSmallArgument (Signed sign n) = n < 2 ^ 64
IsSmallArgument (Memory b sign n) = (b < 2 ^ 64) × (n < 2 ^ 64)

abbrev pub IsSmall : Arguments → Type 0
IsSmall arguments.Zero = Unit {0}
IsSmall (arguments.One a) = IsSmallArgument a
IsSmall (arguments.Two a b) = IsSmallArgument a × IsSmallArgument b
IsSmall (arguments.Three a b d) = IsSmallArgument a × IsSmallArgument b × IsSmallArgument d

small_argument : (a : Argument) → IsSmallArgument a → capped_argument a ≡ a
small_argument (Register n) h = ap Register (capped_small n h)
small_argument (Number n) h = ap Number (capped_small n h)
small_argument (Signed sign n) h = ap (Signed sign) (capped_small n h)
small_argument (Memory b sign n) h = rw (capped_small b h.0, capped_small n h.1) refl

pub small_same : (w : Arguments) → IsSmall w → capped_arguments w ≡ w
small_same arguments.Zero h = refl
small_same (arguments.One a) h = ap arguments.One (small_argument a h)
small_same (arguments.Two a b) h = rw (small_argument a h.0, small_argument b h.1) refl
small_same (arguments.Three a b d) h = rw (small_argument a h.0, small_argument b h.1, small_argument d h.2) refl

back_argument : (a : Argument) → IsSmallArgument (capped_argument a) → capped_argument a ≡ a
back_argument (Register n) h = ap Register (capped_back n h)
back_argument (Number n) h = ap Number (capped_back n h)
back_argument (Signed sign n) h = ap (Signed sign) (capped_back n h)
back_argument (Memory b sign n) h = rw (capped_back b h.0, capped_back n h.1) refl

pub back_same : (w : Arguments) → IsSmall (capped_arguments w) → capped_arguments w ≡ w
back_same arguments.Zero h = refl
back_same (arguments.One a) h = ap arguments.One (back_argument a h)
back_same (arguments.Two a b) h = rw (back_argument a h.0, back_argument b h.1) refl
back_same (arguments.Three a b d) h = rw (back_argument a h.0, back_argument b h.1, back_argument d h.2) refl

-- the arguments of an instruction are small, and of its mnemonic's form

small_register : (n : ℕ) → n ≤ 10 → IsSmallArgument (Register n)
small_register n h = omega arith

small_number : (z : ℤ) → FitsSigned w32 z → IsSmallArgument (number_argument z)
small_number (pos n) h = omega (arith, ints)
small_number (negsuc n) h = omega (arith, ints)

small_long : (z : ℤ) → FitsSigned w32 z → IsSmallArgument (offset_argument z)
small_long (pos n) h = omega (arith, ints)
small_long (negsuc n) h = omega (arith, ints)

small_offset : (z : ℤ) → FitsSigned w16 z → IsSmallArgument (offset_argument z)
small_offset (pos n) h = omega (arith, ints)
small_offset (negsuc n) h = omega (arith, ints)

small_memory : (b : ℕ) (z : ℤ) → b ≤ 10 → FitsSigned w16 z → IsSmallArgument (memory_argument b z)
small_memory b z h fits = (omega arith, small_offset z fits)

small_source : (o : Operand) → FitsOperand o → IsSmallArgument (source_argument o)
small_source (operand.Register n) h = small_register n h
small_source (operand.Immediate z) h = small_number z h

small_bits : (x : SignExtension) → IsSmallArgument (number_argument (extension_bits x))
small_bits ByteTo32 = omega arith
small_bits ShortTo32 = omega arith
small_bits ByteTo64 = omega arith
small_bits ShortTo64 = omega arith
small_bits WordTo64 = omega arith

pub small_of : (i : Insn) → FitsInsn i → IsSmall (text_arguments i)
small_of (Alu op size dst src) h = (small_register dst h.0, small_source src h.1)
small_of (Unary (Negate size) dst) h = small_register dst h.0
small_of (Unary (ByteSwap order width) dst) h = small_register dst h.0
small_of (Unary (MoveSigned x src) dst) h = (small_register dst h.0, small_register src h.1, small_bits x)
small_of (LoadNumber dst n) h = (small_register dst h.0, h.1)
small_of (LoadMap dst z) h = (small_register dst h.0, small_number z h.1)
small_of (Jump z) h = small_offset z h
small_of (JumpLong z) h = small_long z h
small_of (JumpIf condition size dst src z) h = (small_register dst h.0, small_source src h.1, small_offset z h.2)
small_of (Call kind z) h = small_number z h
small_of Exit h = tt
small_of (Load width dst src z) h = (small_register dst h.0, small_memory src z h.1 h.2)
small_of (LoadSigned width dst src z) h = (small_register dst h.0, small_memory src z h.1 h.2)
small_of (Store width dst z src) h = (small_memory dst z h.0 h.2, small_source src h.1)

minus_is_signed : (n : ℕ) → is_signed Minus (n + 1) ≡ true
minus_is_signed n = grind (arith, nat_tests)

formed_number : (z : ℤ) → is_of class.Number (number_argument z) ≡ true
formed_number (pos n) = refl
formed_number (negsuc n) = minus_is_signed n

formed_offset : (z : ℤ) → is_of class.Offset (offset_argument z) ≡ true
formed_offset (pos n) = refl
formed_offset (negsuc n) = minus_is_signed n

formed_memory : (b : ℕ) (z : ℤ) → is_of class.Memory (memory_argument b z) ≡ true
formed_memory b (pos n) = refl
formed_memory b (negsuc n) = minus_is_signed n

formed_source : (o : Operand) → is_of class.Source (source_argument o) ≡ true
formed_source (operand.Register n) = refl
formed_source (operand.Immediate (pos n)) = refl
formed_source (operand.Immediate (negsuc n)) = minus_is_signed n

formed_bits : (x : SignExtension) → is_of class.Unsigned (number_argument (extension_bits x)) ≡ true
formed_bits ByteTo32 = refl
formed_bits ShortTo32 = refl
formed_bits ByteTo64 = refl
formed_bits ShortTo64 = refl
formed_bits WordTo64 = refl

pub formed_of : (i : Insn) → is_formed (statement_of i) ≡ true
formed_of (Alu op size dst src) = formed_source src
formed_of (Unary (Negate size) dst) = refl
formed_of (Unary (ByteSwap order width) dst) = refl
formed_of (Unary (MoveSigned x src) dst) = formed_bits x
formed_of (LoadNumber dst n) = refl
formed_of (LoadMap dst z) = formed_number z
formed_of (Jump z) = formed_offset z
formed_of (JumpLong z) = formed_offset z
formed_of (JumpIf condition size dst src z) = rw (formed_source src, formed_offset z) refl
formed_of (Call kind z) = formed_number z
formed_of Exit = refl
formed_of (Load width dst src z) = formed_memory src z
formed_of (LoadSigned width dst src z) = formed_memory src z
formed_of (Store width dst z (operand.Immediate imm)) = rw (formed_memory dst z, formed_number imm) refl
formed_of (Store width dst z (operand.Register src)) = rw (formed_memory dst z) refl

pub capped_of : (i : Insn) → FitsInsn i → capped_statement (statement_of i) ≡ statement_of i
capped_of i h = ap (λ (w : Arguments). let s : Statement = record { mnemonic = mnemonic_of i; arguments = w } in s)
    (small_same (text_arguments i) (small_of i h))

-- the one instruction of a statement

pub told : (m : Mnemonic) (w : Arguments) (r : Option Insn) → IsOnlyInsn m w r → (i : Insn) → FitsInsn i → m ≡ mnemonic_of i → w ≡ text_arguments i → r ≡ Some i
told m w r only (Alu op size dst src) h em ew = (subst (λ (n : Mnemonic). IsOnlyInsn n w r) em only) dst src h.0 h.1 ew
told m w r only (Unary (MoveSigned x src) dst) h em ew = (subst (λ (n : Mnemonic). IsOnlyInsn n w r) em only) x dst src refl h.0 h.1 ew
told m w r only (Unary (Negate size) dst) h em ew = (subst (λ (n : Mnemonic). IsOnlyInsn n w r) em only) dst h.0 ew
told m w r only (Unary (ByteSwap order width) dst) h em ew = (subst (λ (n : Mnemonic). IsOnlyInsn n w r) em only) dst h.0 ew
told m w r only (LoadNumber dst n) h em ew = (subst (λ (n : Mnemonic). IsOnlyInsn n w r) em only) dst n h.0 h.1 ew
told m w r only (LoadMap dst z) h em ew = (subst (λ (n : Mnemonic). IsOnlyInsn n w r) em only) dst z h.0 h.1 ew
told m w r only (Jump z) h em ew = (subst (λ (n : Mnemonic). IsOnlyInsn n w r) em only) z h ew
told m w r only (JumpLong z) h em ew = (subst (λ (n : Mnemonic). IsOnlyInsn n w r) em only) z h ew
told m w r only (JumpIf condition size dst src z) h em ew = (subst (λ (n : Mnemonic). IsOnlyInsn n w r) em only) dst src z h.0 h.1 h.2 ew
told m w r only (Call kind z) h em ew = (subst (λ (n : Mnemonic). IsOnlyInsn n w r) em only) z h ew
told m w r only Exit h em ew = (subst (λ (n : Mnemonic). IsOnlyInsn n w r) em only) ew
told m w r only (Load width dst src z) h em ew = (subst (λ (n : Mnemonic). IsOnlyInsn n w r) em only) dst src z h.0 h.1 h.2 ew
told m w r only (LoadSigned width dst src z) h em ew = (subst (λ (n : Mnemonic). IsOnlyInsn n w r) em only) dst src z h.0 h.1 h.2 ew
told m w r only (Store width dst z (operand.Immediate imm)) h em ew = (subst (λ (n : Mnemonic). IsOnlyInsn n w r) em only) dst z imm h.0 h.2 h.1 ew
told m w r only (Store width dst z (operand.Register src)) h em ew = (subst (λ (n : Mnemonic). IsOnlyInsn n w r) em only) dst src z h.0 h.1 h.2 ew
