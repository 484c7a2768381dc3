-- Two advances that met no open section.
use Rattle.bpf_model.proofs.Prelude.{◌≡◌, ℕ, zero, suc, List, [], ◌∷◌, ◌++◌, Option, Some, None, Bool, true, false, refl, ap, ◌∙◌, map, slice_get}
use Rattle.bpf_model.proofs.Prelude.{if◌then◌else◌, Section, Run, Machine, open_sections, is_inside, section_of, PerformsEvent, Queues, Schedule, open_flags}
use Rattle.bpf_model.proofs.Prelude.{is_any, turned, advanced, DoesScheduled}
use Rattle.model_laws.proofs.Prelude.{Advance, Answer, Done}

no_flag-at : (b : Bool) (s : Section) (rest : List Section) (flags : List Bool) → (if b then s ∷ rest else rest) ≡ []
    → (rest ≡ [] → is_any flags ≡ false) → is_any (b ∷ flags) ≡ false
no_flag-at true s rest flags h k = absurd (cc)
no_flag-at false s rest flags h k = k h

pub no_flag : (runs : List (Option Run)) → open_sections runs ≡ [] → is_any (open_flags runs) ≡ false
no_flag [] h = refl
no_flag (None ∷ runs) h = no_flag runs h
no_flag (Some run ∷ runs) h = no_flag-at (is_inside run) (section_of run) (open_sections runs) (open_flags runs) h (no_flag runs)

same-machine : (m new : Machine) (answer : Answer) → PerformsEvent m Advance answer new → new ≡ m
same-machine m new Done h = h
same-machine m new answer h = absurd h

turns : (s t : Schedule) (answer : Answer) → is_any s.awaited ≡ false → DoesScheduled s Advance answer t →
    (t.queues ≡ map turned s.queues) × (t.awaited ≡ open_flags t.machine.runs)
turns s t answer h d =
    let e : t ≡ advanced s t.machine false = d.lists ∙ ap (advanced s t.machine) h in
    (ap (λ x. x.queues) e, ap (λ x. x.awaited) e)

get-turned : (qs : List Queues) (k : ℕ) (q : Queues) → slice_get qs k ≡ Some q → slice_get (map turned qs) k ≡ Some (turned q)
get-turned [] k q h = absurd (cc)
get-turned (x ∷ qs) zero q h = let e : x ≡ q = cc in ap (λ y. Some (turned y)) e
get-turned (x ∷ qs) (suc k) q h = get-turned qs k q h

pub two_quiet_advances : (s t u : Schedule) (a b : Answer) → is_any s.awaited ≡ false →
    open_sections s.machine.runs ≡ [] → DoesScheduled s Advance a t → DoesScheduled t Advance b u →
    (k : ℕ) (q : Queues) → slice_get s.queues k ≡ Some q →
    slice_get u.queues k ≡ Some (record { next = []; waiting = []; ready = (q.ready ++ q.waiting) ++ q.next })
two_quiet_advances s t u a b none quiet first second k q h =
    let m = same-machine s.machine t.machine a first.step in
    let one = turns s t a none first in
    let still : is_any t.awaited ≡ false = ap is_any one.1 ∙ ap (λ x. is_any (open_flags x.runs)) m ∙ no_flag s.machine.runs quiet in
    let two = turns t u b still second in
    let queues : u.queues ≡ map turned (map turned s.queues) = two.0 ∙ ap (map turned) one.0 in
    ap (λ qs. slice_get qs k) queues ∙ get-turned (map turned s.queues) k (turned q) (get-turned s.queues k q h)
