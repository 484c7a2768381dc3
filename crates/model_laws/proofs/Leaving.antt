-- An event leaves each run as it is but the one that it steps or drops.
use Rattle.bpf_model.proofs.Prelude.{◌≡◌, ◌≢◌, ◌∙◌, ℕ, suc, ◌+◌, List, [], ◌∷◌, Option, Some, None, refl, sym, ap, arith, slice_get, slice_set}
use Rattle.bpf_model.proofs.Prelude.{option_flatten, none-some, same_Some, Run, Machine, fresh_run, lowest_free, run_at, DoesEvent, get-set_other}
use Rattle.model_laws.proofs.Prelude.{Event, Answer}
use Rattle.std.specs.Option.{option_map}
use Rattle.bpf_model.specs.declared.event.Event.TheVariants as events
use Rattle.model_laws.proofs.Changing.{Change, Still, Begins, Steps, Stores, Leaves, change}

plus-one : (o : Option ℕ) (r : ℕ) → option_map (λ r. r + 1) o ≡ Some r → (q : ℕ) × (o ≡ Some q) × (r ≡ suc q)
plus-one None r h = absurd (none-some r h)
plus-one (Some q) r h = (q, refl, let e : q + 1 ≡ r = same_Some (q + 1) r h in omega arith)

-- the lowest free run slot is free
pub free-there : {A : Type 0} (runs : List (Option A)) (r : ℕ) → lowest_free runs ≡ Some r → slice_get runs r ≡ Some None
free-there [] r h = absurd (none-some r h)
free-there (None ∷ runs) r h = ap (slice_get (None ∷ runs)) (sym (same_Some 0 r h))
free-there (Some v ∷ runs) r h = let q = plus-one (lowest_free runs) r h in ap (slice_get (Some v ∷ runs)) q.2 ∙ free-there runs q.0 q.1

not-free : (runs : List (Option Run)) (r q : ℕ) (run : Run) → lowest_free runs ≡ Some q → run_at runs r ≡ Some run → r ≢ q
not-free runs r q run free at same = none-some run (sym (ap option_flatten (free-there runs q free)) ∙ (ap (run_at runs) (sym same) ∙ at))

set-elsewhere : (runs : List (Option Run)) (r q : ℕ) (x : Option Run) → r ≢ q → run_at (slice_set runs q x) r ≡ run_at runs r
set-elsewhere runs r q x ne = ap option_flatten (get-set_other runs q r x ne)

change-leaves : (m new : Machine) (event : Event) (answer : Answer) (r : ℕ) (run : Run) → Change m new event answer →
    run_at m.runs r ≡ Some run → event ≢ events.Step r → event ≢ events.Drop r → run_at new.runs r ≡ Some run
change-leaves m new event answer r run (Still e counts) at s d = ap (λ (x : Machine). run_at x.runs r) e ∙ at
change-leaves m new event answer r run (Begins prog ctx q pass h) at s d =
    ap (λ (x : Machine). run_at x.runs r) h.new_is ∙ (set-elsewhere m.runs r q
    (Some (fresh_run m.started h.program ctx.items)) (not-free m.runs r q run h.lowest at) ∙ at)
change-leaves m new event answer r run (Steps q h) at s d = ap (λ (x : Machine). run_at x.runs r) h.new_is ∙
    (set-elsewhere m.runs r q (Some h.new_run) (λ same. s (ap events.Step (sym same))) ∙ at)
change-leaves m new event answer r run (Stores store pass c e) at s d = ap (λ (x : Machine). run_at x.runs r) e ∙ at
change-leaves m new event answer r run (Leaves q e) at s d = ap (λ (x : Machine). run_at x.runs r) e ∙
    (set-elsewhere m.runs r q None (λ same. d (ap events.Drop (sym same))) ∙ at)

pub others_leave_runs : (m new : Machine) (event : Event) (answer : Answer) (r : ℕ) (run : Run) →
    DoesEvent m event answer new → run_at m.runs r ≡ Some run → event ≢ events.Step r → event ≢ events.Drop r →
    run_at new.runs r ≡ Some run
others_leave_runs m new event answer r run h at s d = change-leaves m new event answer r run (change m new event answer h) at s d
