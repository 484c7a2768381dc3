-- A new world has no run.
use Rattle.bpf_model.proofs.Prelude.{◌≡◌, ◌⊎◌, ℕ, ◌<◌, ◌≤◌, List, length, replicate, get_or, ap, sym, ◌∙◌, inl, inr, arith, Option, Some, None, slice_get}
use Rattle.bpf_model.proofs.Prelude.{length-replicate, get_or-replicate, slice_get_cases, Loaded, WorldView, RunView, start_view, option_flatten}
use Rattle.bpf_model.specs.declared.limits.MapShape.{MapShape}
use Rattle.bpf_model.specs.declared.limits.TheConstants.{MAX_RUNS}
use Rattle.shared_books.specs.Replay.{HasNoRuns}

no_run_at : (r : ℕ) → (slots : List (Option RunView)) → slots ≡ replicate MAX_RUNS None →
    ((o : Option RunView) × (r < length slots) × (slice_get slots r ≡ Some o) × (get_or slots r o ≡ o))
    ⊎ ((length slots ≤ r) × (slice_get slots r ≡ None)) → option_flatten (slice_get slots r) ≡ None
no_run_at r slots e (inl (o, inside, found, read)) =
    let count : length slots ≡ MAX_RUNS = ap length e ∙ length-replicate {A = Option RunView} MAX_RUNS None in
    let none : get_or slots r o ≡ None = ap (λ (s : List (Option RunView)). get_or s r o) e ∙
    get_or-replicate {A = Option RunView} MAX_RUNS r None o (omega (arith, inside, count)) in
    ap option_flatten found ∙ (sym read ∙ none)
no_run_at r slots e (inr (past, none)) = ap option_flatten none

pub no_runs : (w : WorldView) (names : List (List ℕ)) (shapes : List MapShape) (programs : List Loaded) → w ≡ start_view names shapes programs → HasNoRuns w
no_runs w names shapes programs e r = no_run_at r w.runs (ap (λ (v : WorldView). v.runs) e) (slice_get_cases w.runs r).1
