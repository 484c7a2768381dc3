-- The lines of jobs, and of one job more.
use Rattle.bpf_model.proofs.Prelude.{◌≡◌, ℕ, ◌+◌, ◌<◌, List, [], ◌∷◌, ◌++◌, length, take, get_or, ap, sym, ◌∙◌, append_assoc, arith, length-take-le}
use Rattle.bpf_model.proofs.Prelude.{take_more}
use Rattle.std.proofs.Common.{append-nil}
use Rattle.worker_pool.specs.declared.job.Outcome.{Outcome}
use Rattle.worker_pool.specs.Lines.{job_line, job_lines}

-- the lines of some jobs, and of those after them
pub job_lines-append : (n m : ℕ) (xs ys : List Outcome) → m ≡ n + length xs → job_lines n (xs ++ ys) ≡ job_lines n xs ++ job_lines m ys
job_lines-append n m [] ys e = ap (λ (k : ℕ). job_lines k ys) (let same : n ≡ m = omega (arith, e) in same)
job_lines-append n m (x ∷ xs) ys e =
    ap (λ (l : List ℕ). job_line n x ++ l) (job_lines-append (n + 1) m xs ys (omega (arith, e))) ∙
    sym (append_assoc (job_line n x) (job_lines (n + 1) xs) (job_lines m ys))

-- the lines of the first outcomes, and the next one's
pub next_line : (first : ℕ) (outcomes : List Outcome) (k : ℕ) (o : Outcome) → k < length outcomes →
    get_or outcomes k o ≡ o → job_lines first (take k outcomes) ++ job_line (first + k) o ≡ job_lines first (take (k + 1) outcomes)
next_line first outcomes k o inside at =
    let front = take k outcomes in
    let counted : first + k ≡ first + length front = let n = length-take-le k outcomes (omega (arith, inside)) in omega (arith, n) in
    let taken : take (k + 1) outcomes ≡ front ++ o ∷ [] = take_more outcomes k o inside ∙ ap (λ (x : Outcome). front ++ x ∷ []) at in
    let lines : job_lines first (front ++ o ∷ []) ≡ job_lines first front ++ job_line (first + k) o =
    job_lines-append first (first + k) front (o ∷ []) counted ∙
    ap (λ (l : List ℕ). job_lines first front ++ l) (append-nil (job_line (first + k) o)) in
    sym (ap (job_lines first) taken ∙ lines)
