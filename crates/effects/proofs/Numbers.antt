-- Registers that are known to be numbers are read as numbers.
use Rattle.bpf_model.proofs.Prelude.{◌≡◌, ℕ, ◌+◌, ◌^◌, ◌≤◌, ap, Ok, Err, ℤ, pos, arith, ints, Result, IsOk, IfOk}
use Rattle.effects.proofs.Prelude.{RegKind, InsnFault}
use Rattle.model_laws.proofs.Prelude.{Immediate}
use Rattle.plan_laws.proofs.Prelude.{HasOffset, Num}
use Rattle.register_kinds.proofs.Prelude.{kind_of}
use Rattle.scalar_domain.proofs.Prelude.{Holds, IsConstant}
use Rattle.register_kinds.proofs.KindLaws.{kind_is}
use Rattle.scalar_domain.specs.declared.scalar.Scalar.{Scalar}
use Rattle.register_kinds.specs.declared.kind.RegKind.TheVariants as kinds
use Rattle.register_kinds.specs.Tests.{held_kind}

pub held_number : (k : RegKind) (s : Scalar) → kind_of k ≡ Num s → held_kind k ≡ Ok (kinds.Num s)
held_number k s e = ap held_kind (kind_is k (Num s) e)

pub same_immediate : (a b : ℤ) → Immediate a ≡ Immediate b → a ≡ b
same_immediate a b e = cc

pub same_frame : (a b : ℤ) → kinds.Frame a ≡ kinds.Frame b → a ≡ b
same_frame a b e = cc

-- one number alone is what the set holds
pub constant_holds : (s : Scalar) (n : ℕ) → IsConstant s n → Holds s n
constant_holds s n e = record { least = omega (arith, e.least); greatest = omega (arith, e.greatest); zeros = e.zeros; ones = e.ones }

pub ok_value : (r : Result ℤ InsnFault) (z : ℤ) → IsOk r → IfOk r (λ p. p ≡ z) → r ≡ Ok z
ok_value (Ok p) z o e = ap Ok e
ok_value (Err f) z o e = absurd cc

-- the offset in the frame that is the one of a set
pub offset_is : (s : Scalar) (at : ℕ) → IsConstant s (at + 2 ^ 29) → at ≤ 2 ^ 29 → HasOffset s (pos at)
offset_is s at e l = record { raised = at + 2 ^ 29; is = omega (arith, ints); limit = omega (arith, l); holds = constant_holds s (at + 2 ^ 29) e }
