-- What a refusal of a program's jump graph tells.
use Rattle.std.specs.Prelude.{List, Result, IsOkUnless}
use Rattle.bpf_model.specs.declared.insn.Insn.{Insn}
use Rattle.verifier.specs.declared.graph_flaw.GraphRefusal.{GraphRefusal}
use Rattle.verifier.specs.declared.graph_flaw.GraphRefusal.TheVariants.{Flaw, Memory}
use Rattle.verifier.specs.GraphFlaws.{HasGraphFlaw}

-- a flaw is told only where the graph has it
abbrev pub IsFlawToldOf : List Insn → GraphRefusal → Type 0
IsFlawToldOf program (Flaw flaw slot) = HasGraphFlaw program flaw slot
IsFlawToldOf program Memory = Unit {0}

-- no refusal but for want of memory
abbrev pub IsAcceptedGraph : {A : Type 0} → Result A GraphRefusal → Type 0
IsAcceptedGraph r = IsOkUnless r Memory
