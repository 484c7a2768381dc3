-- Paths through a program that are followed.
use Rattle.std.specs.Prelude.{◌≡◌, ℕ, ◌+◌, ◌↔◌, Bool, true, false, List, length, slice_get, Option, Some, None, ◌⊎◌}
use Rattle.classic_program.specs.declared.insn.ClassicInsn.{ClassicInsn}
use Rattle.classic_program.specs.declared.insn.ClassicInsn.TheVariants.{Jump, JumpIf, ReturnNumber, ReturnA}
use Rattle.classic_program.specs.declared.paths.Skips.{Skips}
use Rattle.classic_program.specs.declared.paths.Skips.TheVariants.{Nowhere, One, Two}
use Rattle.classic_program.specs.WellFormed.{Reaches, stores_to}

-- what stops a path: a store to the word, if one is given
abbrev pub stops_at : Option ℕ → ClassicInsn → Bool
stops_at None i = false
stops_at (Some w) i = stores_to w i

-- The marks are those of the instructions that are reached.
pub record AreMarks (program : List ClassicInsn) (stops : ClassicInsn → Bool) (marks : List Bool) :
    Type 0 where
  pub size : length marks ≡ length program
  pub exact : (k : ℕ) → (slice_get marks k ≡ Some true) ↔ Reaches program stops k

-- where an instruction leads to, as a value
abbrev pub skips_of : ClassicInsn → Skips
skips_of (Jump skip) = One skip
skips_of (JumpIf test operand if_true if_false) = Two if_true if_false
skips_of (ReturnNumber value) = Nowhere
skips_of ReturnA = Nowhere
skips_of _ = One 0

abbrev pub IsSkip : Skips → ℕ → Type 0
IsSkip Nowhere s = ⊥
IsSkip (One skip) s = s ≡ skip
IsSkip (Two if_true if_false) s = (s ≡ if_true) ⊎ (s ≡ if_false)

-- so many behind are marked, and nothing else
pub record Marks (skips : Skips) (behind : ℕ) (old new : List Bool) : Type 0 where
  pub size : length new ≡ length old
  pub kept : (k : ℕ) → slice_get old k ≡ Some true → slice_get new k ≡ Some true
  pub marked : (s : ℕ) → IsSkip skips s → slice_get new (behind + s) ≡ Some true
  pub only : (k : ℕ) → slice_get new k ≡ Some true →
      (slice_get old k ≡ Some true) ⊎ ((s : ℕ) × IsSkip skips s × (k ≡ behind + s))
