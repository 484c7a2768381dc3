use Rattle.bpf_model.proofs.Prelude.{◌≡◌, ℕ, ◌≤◌, get_or, false, vec_len, vec_capacity}
use Rattle.read_table.proofs.sightings.no_sightings.Given as goal

abbrev pub invariant-loop : goal.invariant-loop
invariant-loop l = (vec_len l.seen ≡ l.counter) × (l.count ≤ vec_capacity l.seen) × ((j : ℕ) → get_or l.seen.items j false ≡ false)
