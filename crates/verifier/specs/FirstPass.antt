-- What the first pass keeps: which slots begin an instruction, where jumps land, and which
-- instructions are reached.
use Rattle.std.specs.Prelude.{◌≡◌, ℕ, suc, ◌+◌, ◌<◌, nat_le, List, length, slice_get, Option, Some}
use Rattle.std.specs.Prelude.{None, Result, Ok, Err, ℤ, pos, negsuc, ◌+ℤ◌, Bool, true, ◌⊎◌}
use Rattle.std.specs.Prelude.{if◌then◌else◌}
use Rattle.bpf_model.specs.declared.insn.Insn.{Insn}
use Rattle.bpf_model.specs.Graph.{falls, Reached}
use Rattle.verifier.specs.declared.graph_flaw.GraphFlaw.{GraphFlaw}
use Rattle.verifier.specs.declared.graph_flaw.GraphFlaw.TheVariants.{JumpTarget, BackJump}
use Rattle.bpf_model.specs.Places.{StartsAt}

-- for each slot the index of the instruction that begins there
pub record IsIndexBySlot (program : List Insn) (indexes : List (Option ℕ)) : Type 0 where
  pub found : (index slot : ℕ) → StartsAt program index slot →
      slice_get indexes slot ≡ Some (Some index)
  pub only : (slot index : ℕ) → slice_get indexes slot ≡ Some (Some index) →
      StartsAt program index slot

-- the target, by what the indexes have at a slot
abbrev pub landed : Option (Option ℕ) → Result ℕ GraphFlaw
landed (Some (Some target)) = Ok target
landed (Some None) = Err JumpTarget
landed None = Err JumpTarget

-- where a jump over a distance lands, by the indexes of the slots
abbrev pub landing : List (Option ℕ) → ℕ → ℤ → Result ℕ GraphFlaw
landing indexes slot (negsuc n) = Err BackJump
landing indexes slot (pos to) =
    if nat_le to slot then Err BackJump else landed (slice_get indexes to)

abbrev pub target_at : Result ℕ GraphFlaw → Result (Option ℕ) GraphFlaw
target_at (Ok target) = Ok (Some target)
target_at (Err flaw) = Err flaw

-- the index to which an instruction at this slot jumps over this distance, if it is a jump
abbrev pub target_of : List (Option ℕ) → ℕ → Option ℤ → Result (Option ℕ) GraphFlaw
target_of indexes slot None = Ok None
target_of indexes slot (Some d) = target_at (landing indexes slot (pos (slot + 1) +ℤ d))

-- control may go from an instruction with this target, at one index, to another index
abbrev pub Follows : Insn → Option ℕ → ℕ → ℕ → Type 0
Follows i target k j = ((falls i ≡ true) × (j ≡ suc k)) ⊎ (target ≡ Some j)

-- a path leads to the instruction of this index
abbrev pub IsInsnReached : List Insn → ℕ → Type 0
IsInsnReached program index = (slot : ℕ) → StartsAt program index slot → Reached program slot

abbrev pub AreInsnsReached : List Insn → Type 0
AreInsnsReached program = (index : ℕ) → index < length program → IsInsnReached program index

-- the instruction marks those to which control may go on
pub record Marks (i : Insn) (target : Option ℕ) (k : ℕ) (old new : List Bool) : Type 0 where
  pub stays : (j : ℕ) → slice_get old j ≡ Some true → slice_get new j ≡ Some true
  pub there : (j : ℕ) → Follows i target k j → slice_get new j ≡ Some true
  pub other : (j : ℕ) → slice_get new j ≡ Some true →
      (slice_get old j ≡ Some true) ⊎ Follows i target k j

-- the first instruction that no path reaches
pub record IsFirstUnreached (program : List Insn) (k : ℕ) : Type 0 where
  pub inside : k < length program
  pub unreached : (slot : ℕ) → StartsAt program k slot → Reached program slot → ⊥
  pub first : (j : ℕ) → j < k → IsInsnReached program j
