use Rattle.bpf_model.proofs.Prelude.{◌≡◌, ◌*◌, ◌<◌, ℕ, Some, slice_get, length, drop}
use Rattle.host_programs.specs.Runs.{Gives, context_at}
use Rattle.host_programs.proofs.program.HostProgram.values_on.Given as goal

abbrev pub invariant-loop-at : goal.invariant-loop-at
invariant-loop-at l =
    (l.rest ≡ drop (l.at * l.long) l.contexts) × (length l.results ≡ l.count) × (l.long ≡ l.self.checked.ctx_len)
    × (length l.contexts ≡ l.count * l.long)
    × ((k n : ℕ) → k < l.at → slice_get l.results k ≡ Some n → Gives l.self (context_at l.long k l.contexts) n)
