-- What a comparison tells of its two sides, in words of the laws.
use Rattle.std.specs.Prelude.{◌≡◌, ℕ, ◌⊎◌, Bool}
use Rattle.bpf_model.specs.declared.insn.Operand.{Operand}
use Rattle.bpf_model.specs.Operand.{operand_value}
use Rattle.model_laws.specs.Plain.{Names}
use Rattle.bpf_model.specs.Step.{State}
use Rattle.model_laws.specs.Replies.{IsNumber}
use Rattle.scalar_domain.specs.declared.scalar.Scalar.{Scalar}
use Rattle.plan_laws.specs.Kinds.{Num, AbsState as Known}
use Rattle.plan_laws.specs.Describes.{Scene, IsOf, Describes}
use Rattle.plan_laws.specs.Effects.{HasNumber}
use Rattle.bpf_model.specs.declared.opcode.Condition.{Condition}
use Rattle.bpf_model.specs.declared.opcode.Size.{Size}
use Rattle.scalar_domain.specs.Floor.{KeepsEdgeFloor}
use Rattle.effects.specs.Floor.{operand_kind}

-- In each described state both sides of the comparison are numbers.
abbrev pub ComparesNumbers : Known → ℕ → Operand → Type 0
ComparesNumbers a dst src =
    (c : Scene) (m : State) → Describes a c m →
    IsNumber (m.regs dst) × IsNumber (operand_value src m.regs)

-- What the first state describes the second does too, where both sides of the comparison are such
-- numbers.
abbrev pub Narrows : ℕ → Operand → Scalar → Scalar → Known → Known → Type 0
Narrows dst src x y a b =
    (c : Scene) (m : State) (d : Describes a c m) → IsOf c d.naming (Num x) (m.regs dst) →
    IsOf c d.naming (Num y) (operand_value src m.regs) → Describes b c m

-- Each side of the comparison that is a register becomes a number, and all else stays as it is.
pub record AreNarrowed (dst : ℕ) (src : Operand) (a b : Known) : Type 0 where
  pub sides : (r : ℕ) → (r ≡ dst) ⊎ Names src r → HasNumber b r
  pub others : (r : ℕ) → ((r ≡ dst) ⊎ Names src r → ⊥) → b.regs r ≡ a.regs r
  pub cells : (k : ℕ) → b.cells k ≡ a.cells k
  pub depth : b.depth ≡ a.depth

-- The first side of the comparison holds these numbers, and the second those, where it is another
-- register.
pub record SetsSides (dst : ℕ) (src : Operand) (x y : Scalar) (b : Known) : Type 0 where
  pub first : b.regs dst ≡ Num x
  pub second : (r : ℕ) → Names src r → (r ≡ dst → ⊥) → b.regs r ≡ Num y

-- Of a comparison of numbers in these two sets: on this edge both sides hold numbers that are as
-- narrow as the scalar domain promises.
pub record KeepsSides (size : Size) (condition : Condition) (taken : Bool) (dst : ℕ) (src : Operand)
    (x y : Scalar) (b : Known) : Type 0 where
  pub left : Scalar
  pub right : Scalar
  pub sides : SetsSides dst src left right b
  pub floor : KeepsEdgeFloor size condition taken x y left right

-- On this edge the second state knows both sides so where they are numbers in the first.
abbrev pub NarrowsKnown : Size → Condition → Bool → ℕ → Operand → Known → Known → Type 0
NarrowsKnown size condition taken dst src a b =
    (x y : Scalar) → a.regs dst ≡ Num x → operand_kind src a ≡ Num y →
    KeepsSides size condition taken dst src x y b
