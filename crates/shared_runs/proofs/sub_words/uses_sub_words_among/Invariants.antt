use Rattle.bpf_model.proofs.Prelude.{ℕ, ◌≡◌, ◌<◌, ◌⊎◌, Some, slice_get}
use Rattle.model_laws.proofs.Prelude.{Insn}
use Rattle.shared_runs.specs.Words.{ChangesMap, IsSubWordAccess}
use Rattle.shared_runs.proofs.sub_words.uses_sub_words_among.Given as goal

abbrev pub invariant-loop-index : goal.invariant-loop-index
invariant-loop-index l = (k : ℕ) (i : Insn) → k < l.index → slice_get l.verified.program k ≡ Some i → IsSubWordAccess l.among l.verified k i ⊎ ChangesMap i → ⊥
