-- The numbers by which flaws of the graph, and its refusals, are known.
use Rattle.std.specs.Prelude.{ℕ}
use Rattle.verifier.specs.declared.graph_flaw.GraphFlaw.{GraphFlaw}
use Rattle.verifier.specs.declared.graph_flaw.GraphFlaw.TheVariants.{JumpTarget, BackJump}
use Rattle.verifier.specs.declared.graph_flaw.GraphFlaw.TheVariants.{FallsOff, Unreachable}
use Rattle.verifier.specs.declared.graph_flaw.GraphRefusal.{GraphRefusal}
use Rattle.verifier.specs.declared.graph_flaw.GraphRefusal.TheVariants.{Flaw, Memory}

abbrev pub graph_flaw_number : GraphFlaw → ℕ
graph_flaw_number JumpTarget = 20
graph_flaw_number BackJump = 21
graph_flaw_number FallsOff = 22
graph_flaw_number Unreachable = 38

abbrev pub graph_refusal_number : GraphRefusal → ℕ
graph_refusal_number (Flaw flaw slot) = graph_flaw_number flaw
graph_refusal_number Memory = 13
