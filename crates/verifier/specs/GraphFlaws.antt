-- What may be wrong with a program's jump graph, in the order in which it is told: a bad jump, an
-- end that is no EXIT, an instruction that no path reaches.
use Rattle.std.specs.Prelude.{◌≡◌, ◌≢◌, ℕ, ◌+◌, ◌<◌, nat_le, List, [], ◌∷◌, ◌++◌, Option, Some}
use Rattle.std.specs.Prelude.{None, ℤ, pos, negsuc, ◌+ℤ◌, if◌then◌else◌}
use Rattle.bpf_model.specs.declared.insn.Insn.{Insn}
use Rattle.bpf_model.specs.declared.insn.Insn.TheVariants.{Exit}
use Rattle.bpf_model.specs.Graph.{distance, Reached, EndsWithExit}
use Rattle.bpf_model.specs.Places.{slot_total}
use Rattle.bpf_model.specs.Step.{insn_at}
use Rattle.verifier.specs.declared.graph_flaw.GraphFlaw.{GraphFlaw}
use Rattle.verifier.specs.declared.graph_flaw.GraphFlaw.TheVariants.{JumpTarget, BackJump}
use Rattle.verifier.specs.declared.graph_flaw.GraphFlaw.TheVariants.{FallsOff, Unreachable}

abbrev pub missing : Option Insn → Option GraphFlaw
missing None = Some JumpTarget
missing (Some i) = None

-- A jump that leads to its own slot or before it goes back; another that leads to no instruction's
-- start has a bad target.
abbrev pub landing_flaw : List Insn → ℕ → ℤ → Option GraphFlaw
landing_flaw program slot (negsuc n) = Some BackJump
landing_flaw program slot (pos target) =
    if nat_le target slot then Some BackJump else missing (insn_at program target)

abbrev pub distance_flaw : List Insn → ℕ → Option ℤ → Option GraphFlaw
distance_flaw program slot None = None
distance_flaw program slot (Some d) = landing_flaw program slot (pos (slot + 1) +ℤ d)

-- what is wrong with the instruction at a slot as a jump
abbrev pub jump_flaw : List Insn → ℕ → Insn → Option GraphFlaw
jump_flaw program slot i = distance_flaw program slot (distance i)

-- no jump before the slot is bad
abbrev pub JumpsWellBefore : List Insn → ℕ → Type 0
JumpsWellBefore program slot =
    (q : ℕ) (i : Insn) → q < slot → insn_at program q ≡ Some i → jump_flaw program q i ≡ None

abbrev pub JumpsWell : List Insn → Type 0
JumpsWell program = (q : ℕ) (i : Insn) → insn_at program q ≡ Some i → jump_flaw program q i ≡ None

-- the first bad jump
pub record IsFirstBadJump (program : List Insn) (flaw : GraphFlaw) (slot : ℕ) : Type 0 where
  pub insn : Insn
  pub at : insn_at program slot ≡ Some insn
  pub bad : jump_flaw program slot insn ≡ Some flaw
  pub first : JumpsWellBefore program slot

-- the last instruction, where it isn't EXIT
pub record IsBadEnd (program : List Insn) (slot : ℕ) : Type 0 where
  pub jumps : JumpsWell program
  pub front : List Insn
  pub insn : Insn
  pub last : program ≡ front ++ insn ∷ []
  pub other : insn ≢ Exit
  pub slot_is : slot ≡ slot_total front

-- the lowest instruction that no path reaches
pub record IsFirstUnreachable (program : List Insn) (slot : ℕ) : Type 0 where
  pub jumps : JumpsWell program
  pub last : EndsWithExit program
  pub insn : Insn
  pub at : insn_at program slot ≡ Some insn
  pub unreached : Reached program slot → ⊥
  pub first : (q : ℕ) (i : Insn) → q < slot → insn_at program q ≡ Some i → Reached program q

-- the graph has this flaw first, told at this slot
abbrev pub HasGraphFlaw : List Insn → GraphFlaw → ℕ → Type 0
HasGraphFlaw program JumpTarget slot = IsFirstBadJump program JumpTarget slot
HasGraphFlaw program BackJump slot = IsFirstBadJump program BackJump slot
HasGraphFlaw program FallsOff slot = IsBadEnd program slot
HasGraphFlaw program Unreachable slot = IsFirstUnreachable program slot

-- the graph has no flaw
pub record HasGoodGraph (program : List Insn) : Type 0 where
  pub jumps : JumpsWell program
  pub last : EndsWithExit program
  pub reached : (slot : ℕ) (i : Insn) → insn_at program slot ≡ Some i → Reached program slot
