-- What a step of the machine does to its runs.
use Rattle.bpf_model.proofs.Prelude.{◌≡◌, ◌≢◌, ℕ, ◌+◌, ◌<◌, ◌≤◌, List, length, Option, Some, None, ◌⊎◌, inl, inr, refl, sym, ap, ◌∙◌, arith, Bool, true}
use Rattle.bpf_model.proofs.Prelude.{false, subst, slice_set, ◌==◌, if◌then◌else◌, cases_lt, eqb-false, none-some, same_Some, slice_get_within, helper_of}
use Rattle.bpf_model.proofs.Prelude.{kernel_function_of, ret_word, State, Outcome, Moves, Exits, Section, Store, LooksUp, Loaded, Run, Machine, environment}
use Rattle.bpf_model.proofs.Prelude.{open_sections, moves, exits, locked, unlocked, fresh_run, run_at, OutcomeStep, InsnStep, StepsRun, returns, found_value}
use Rattle.bpf_model.proofs.Prelude.{DoesEvent}
use Rattle.model_laws.proofs.Prelude.{MAX_DEPTH, Insn, Call, Helper, KernelFunction, ReadLock, ReadUnlock, Event, Answer, Moved, Exited, Value, Nothing}
use Rattle.model_laws.proofs.Prelude.{Number, IsBornValue, StepsByKind, KernelStep, HelperStep}
use Rattle.bpf_model.specs.declared.insn.CallKind.TheVariants as kinds
use Rattle.bpf_model.specs.declared.call.Helper.TheVariants as helpers
use Rattle.model_laws.proofs.Changing.{Change, Still, Begins, Steps, Stores, Leaves, change}
use Rattle.model_laws.proofs.Born.{IsBornState, IsBornOutcome, born-acts, born-returns, born-returns_as}
use Rattle.model_laws.proofs.Sections.{run-set_cases}
use Rattle.model_laws.proofs.Requests.{by_kind, run_by_kind}

-- what stays of a run in a step of it
pub record GoesOn (run new : Run) : Type 0 where
  pub name : new.name ≡ run.name
  pub sections : run.sections ≤ new.sections
  pub section : 0 < new.depth → ((0 < run.depth) × (new.sections ≡ run.sections)) ⊎ (run.sections < new.sections)
  pub deep : run.depth ≤ MAX_DEPTH → new.depth ≤ MAX_DEPTH
  pub ends : new.exit ≢ None → ((run.exit ≢ None) × (new.depth ≡ run.depth)) ⊎ (new.depth ≡ 0)

pub goes-same : (run : Run) → GoesOn run run
goes-same run = record { name = refl; sections = omega arith; section = λ h. inl (h, refl); deep = λ h. h; ends = λ h. inl (h, refl) }

goes-moves : (run : Run) (next : State) → GoesOn run (moves run next)
goes-moves run next = record { name = refl; sections = omega arith; section = λ h. inl (h, refl); deep = λ h. h; ends = λ h. inl (h, refl) }

goes-exits : (run : Run) (n : ℕ) → run.depth ≡ 0 → GoesOn run (exits run n)
goes-exits run n out = record { name = refl; sections = omega arith; section = λ h. inl (h, refl); deep = λ h. h; ends = λ h. inr out }

goes-unlocked : (run : Run) (next : State) → run.exit ≡ None → 0 < run.depth → GoesOn run (moves (unlocked run) next)
goes-unlocked run next going inside = record {
  name = refl;
  sections = omega arith;
  section = λ h. inl (inside, refl);
  deep = λ h. omega arith;
  ends = λ h. absurd (h going);
}

sections-more : (b : Bool) (l : ℕ) → l ≤ (if b then l + 1 else l)
sections-more true l = omega arith
sections-more false l = omega arith

section-or-more : (b : Bool) (d l : ℕ) → (d == 0) ≡ b → ((0 < d) × ((if b then l + 1 else l) ≡ l)) ⊎ (l < (if b then l + 1 else l))
section-or-more true d l e = inr (omega arith)
section-or-more false d l e = inl (elim (cases_lt 0 d) [ inl y ↦ y | inr z ↦ absurd (eqb-false d 0 e (omega arith)) ], refl)

goes-locked : (run : Run) (next : State) → run.exit ≡ None → run.depth < MAX_DEPTH → GoesOn run (moves (locked run) next)
goes-locked run next going room = record {
  name = refl;
  sections = sections-more (run.depth == 0) run.sections;
  section = λ h. section-or-more (run.depth == 0) run.depth run.sections refl;
  deep = λ h. omega arith;
  ends = λ h. absurd (h going);
}

-- what a step makes of its run: it goes on, and may begin or end a section, or it ends outside every section
pub data Changes (run : Run) (answer : Answer) (new : Run) : Type 0 where
  Goes : (next : State) → answer ≡ Moved → new ≡ moves run next → Changes run answer new
  Locks : (next : State) → run.depth < MAX_DEPTH → answer ≡ Moved → new ≡ moves (locked run) next → Changes run answer new
  Unlocks : (next : State) → 0 < run.depth → answer ≡ Moved → new ≡ moves (unlocked run) next → Changes run answer new
  Ends : (n : ℕ) → run.depth ≡ 0 → answer ≡ Exited n → new ≡ exits run n → Changes run answer new

changed-ends : (out : Outcome) (run : Run) (answer : Answer) (new : Run) → OutcomeStep out run answer new → Changes run answer new
changed-ends (Moves next) run answer new h = Goes next h.0 h.1
changed-ends (Exits n) run answer new h = Ends n h.0 h.1 h.2

changed-kernel : (f : Option KernelFunction) (run : Run) (answer : Answer) (new : Run) → KernelStep f run new → answer ≡ Moved → Changes run answer new
changed-kernel (Some ReadLock) run answer new h e = Locks (returns Nothing run.state) h.0 e h.1
changed-kernel (Some ReadUnlock) run answer new h e = Unlocks (returns Nothing run.state) h.0 e h.1
changed-kernel None run answer new h e = absurd h

changed-kind : (i : Insn) (s : Store) (opened : List Section) (run : Run) (answer : Answer) (new_store : Store)
    (new : Run) → StepsByKind i s opened run answer new_store new → Changes run answer new
changed-kind (Call kinds.Kernel imm) s opened run answer new_store new h = changed-kernel (kernel_function_of imm) run answer new h.0 h.1
changed-kind (Call kinds.Helper imm) s opened run answer new_store new h = Goes (returns h.0 run.state) h.2 h.3
changed-kind i s opened run answer new_store new h = changed-ends h.0 run answer new h.4

pub changed-insn : (i : Insn) (s : Store) (opened : List Section) (run : Run) (answer : Answer) (new_store : Store)
    (new : Run) → InsnStep i s opened run answer new_store new → Changes run answer new
changed-insn i s opened run answer new_store new h = changed-kind i s opened run answer new_store new (by_kind i s opened run answer new_store new h)

goes-changed : (run : Run) (answer : Answer) (new : Run) → run.exit ≡ None → Changes run answer new → GoesOn run new
goes-changed run answer new going (Goes next e f) = subst (GoesOn run) (sym f) (goes-moves run next)
goes-changed run answer new going (Locks next room e f) = subst (GoesOn run) (sym f) (goes-locked run next going room)
goes-changed run answer new going (Unlocks next inside e f) = subst (GoesOn run) (sym f) (goes-unlocked run next going inside)
goes-changed run answer new going (Ends n out e f) = subst (GoesOn run) (sym f) (goes-exits run n out)

-- its registers and its frame
born-ends : (births : ℕ) (out : Outcome) (run : Run) (answer : Answer) (new : Run) → IsBornState births run.state →
    IsBornOutcome births out → OutcomeStep out run answer new → IsBornState births new.state
born-ends births (Moves next) run answer new p q h = subst (λ r. IsBornState births r.state) (sym h.1) q
born-ends births (Exits n) run answer new p q h = subst (λ r. IsBornState births r.state) (sym h.2) p

born-kernel : (births : ℕ) (f : Option KernelFunction) (run new : Run) → IsBornState births run.state → KernelStep f run new → IsBornState births new.state
born-kernel births (Some ReadLock) run new p h = subst (λ r. IsBornState births r.state) (sym h.1) (born-returns births Nothing run.state tt p)
born-kernel births (Some ReadUnlock) run new p h = subst (λ r. IsBornState births r.state) (sym h.1) (born-returns births Nothing run.state tt p)
born-kernel births None run new p h = absurd h

born-looked_up : (s : Store) (map : ℕ) (key : List ℕ) (found : Option ℕ) → LooksUp s map key found → IsBornValue (length s.elements) (found_value found)
born-looked_up s map key None h = tt
born-looked_up s map key (Some n) h = slice_get_within s.elements n h.element h.born

born-helper : (f : Option Helper) (s : Store) (opened : List Section) (run : Run) (ret : Value) (new : Store) →
    IsBornState (length s.elements) run.state → HelperStep f s opened run ret new →
    IsBornState (length s.elements) (returns ret run.state)
born-helper (Some helpers.Lookup) s opened run ret new p h =
    born-returns_as (length s.elements) ret (found_value h.0.found) run.state h.0.ret_is
    (born-looked_up s h.0.map h.0.key h.0.found h.0.looked_up) p
born-helper (Some helpers.Update) s opened run ret new p h = born-returns_as (length s.elements) ret (Number (ret_word h.outcome)) run.state h.ret_is tt p
born-helper (Some helpers.Delete) s opened run ret new p h = born-returns_as (length s.elements) ret (Number (ret_word h.outcome)) run.state h.ret_is tt p
born-helper None s opened run ret new p h = absurd h

born-insn : (i : Insn) (s : Store) (opened : List Section) (run : Run) (answer : Answer) (new_store : Store)
    (new : Run) → StepsByKind i s opened run answer new_store new → IsBornState (length s.elements) run.state →
    IsBornState (length s.elements) new.state
born-insn (Call kinds.Kernel imm) s opened run answer new_store new h p = born-kernel (length s.elements) (kernel_function_of imm) run new p h.0
born-insn (Call kinds.Helper imm) s opened run answer new_store new h p =
    subst (λ r. IsBornState (length s.elements) r.state) (sym h.3)
    (born-helper (helper_of imm) s opened run h.0 new_store p h.1)
born-insn i s opened run answer new_store new h p = born-ends (length s.elements) h.0 run answer new p
    (born-acts (length s.elements) i (environment run) s.elements run.state h.0 h.1 p h.2) h.4

-- the runs stay, one goes on, one begins, or one leaves
pub data RunsMove (m new : Machine) : Type 0 where
  Stay : new.runs ≡ m.runs → new.started ≡ m.started → RunsMove m new
  Go : (r : ℕ) (run later : Run) → run_at m.runs r ≡ Some run → GoesOn run later →
      (IsBornState (length m.store.elements) run.state → IsBornState (length m.store.elements) later.state) →
      new.runs ≡ slice_set m.runs r (Some later) → new.started ≡ m.started → RunsMove m new
  Begin : (r : ℕ) (program : Loaded) (context : List ℕ) →
      new.runs ≡ slice_set m.runs r (Some (fresh_run m.started program context)) → new.started ≡ m.started + 1 →
      RunsMove m new
  Leave : (r : ℕ) → new.runs ≡ slice_set m.runs r None → new.started ≡ m.started → RunsMove m new

stays : (m new : Machine) → new ≡ m → RunsMove m new
stays m new e = Stay (ap (λ q. q.runs) e) (ap (λ q. q.started) e)

goes-run : (m : Machine) (r : ℕ) (answer : Answer) (new : Machine) → StepsRun m r answer new → RunsMove m new
goes-run m r answer new h =
    Go r h.run h.new_run h.there
    (goes-changed h.run answer h.new_run h.going (changed-insn h.step.0 m.store (open_sections m.runs) h.run answer h.new_store h.new_run h.step.2))
    (born-insn h.step.0 m.store (open_sections m.runs) h.run answer h.new_store h.new_run (run_by_kind m r answer new h))
    (ap (λ q. q.runs) h.new_is) (ap (λ q. q.started) h.new_is)

by-change : (m new : Machine) (event : Event) (answer : Answer) → Change m new event answer → RunsMove m new
by-change m new event answer (Still e counts) = stays m new e
by-change m new event answer (Begins prog ctx r pass h) = Begin r h.program ctx.items (ap (λ q. q.runs) h.new_is) (ap (λ q. q.started) h.new_is)
by-change m new event answer (Steps r h) = goes-run m r answer new h
by-change m new event answer (Stores store pass c e) = Stay (ap (λ q. q.runs) e) (ap (λ q. q.started) e)
by-change m new event answer (Leaves r e) = Leave r (ap (λ q. q.runs) e) (ap (λ q. q.started) e)

pub does-move : (m new : Machine) (event : Event) (answer : Answer) → DoesEvent m event answer new → RunsMove m new
does-move m new event answer h = by-change m new event answer (change m new event answer h)

-- a run that is there was there before, or is fresh
pub record Fresh (m new : Machine) (r : ℕ) (run : Run) : Type 0 where
  pub is : (program : Loaded) × (context : List ℕ) × (fresh_run m.started program context ≡ run)
  pub started : new.started ≡ m.started + 1
  pub only : (q : ℕ) (other : Run) → run_at new.runs q ≡ Some other → q ≢ r → run_at m.runs q ≡ Some other

pub record Before (m : Machine) (r : ℕ) (run : Run) : Type 0 where
  pub old : Run
  pub there : run_at m.runs r ≡ Some old
  pub goes : GoesOn old run
  pub born : IsBornState (length m.store.elements) old.state → IsBornState (length m.store.elements) run.state

before-same : (m : Machine) (r : ℕ) (run : Run) → run_at m.runs r ≡ Some run → Before m r run
before-same m r run h = record { old = run; there = h; goes = goes-same run; born = λ p. p }

only-begun : (m new : Machine) (r : ℕ) (fresh : Option Run) → new.runs ≡ slice_set m.runs r fresh → (k : ℕ) → k ≡ r →
    (q : ℕ) (other : Run) → run_at new.runs q ≡ Some other → q ≢ k → run_at m.runs q ≡ Some other
only-begun m new r fresh e k same q other h ne = elim (run-set_cases m.runs r q fresh other (ap (λ l. run_at l q) (sym e) ∙ h)) [
  | inl x ↦ absurd (ne (x.0 ∙ sym same))
  | inr x ↦ x.1
]

before-go : (m : Machine) (r q : ℕ) (old later run : Run) → run_at m.runs r ≡ Some old → GoesOn old later →
    (IsBornState (length m.store.elements) old.state → IsBornState (length m.store.elements) later.state) → q ≡ r →
    later ≡ run → Before m q run
before-go m r q old later run at g b same e = record {
  old = old;
  there = ap (run_at m.runs) same ∙ at;
  goes = subst (GoesOn old) e g;
  born = λ p. subst (λ x. IsBornState (length m.store.elements) x.state) e (b p);
}

pub run-before : (m new : Machine) (q : ℕ) (run : Run) → RunsMove m new → run_at new.runs q ≡ Some run → Before m q run ⊎ Fresh m new q run
run-before m new q run (Stay e s) h = inl (before-same m q run (ap (λ l. run_at l q) (sym e) ∙ h))
run-before m new q run (Go r old later at g b e s) h = elim (run-set_cases m.runs r q (Some later) run (ap (λ l. run_at l q) (sym e) ∙ h)) [
  | inl x ↦ inl (before-go m r q old later run at g b x.0 (same_Some _ _ x.1))
  | inr x ↦ inl (before-same m q run x.1)
]
run-before m new q run (Begin r program context e s) h =
    elim (run-set_cases m.runs r q (Some (fresh_run m.started program context)) run
    (ap (λ l. run_at l q) (sym e) ∙ h)) [
      | inl x ↦ inr (record { is = (program, context, same_Some _ _ x.1); started = s; only = only-begun m new r _ e q x.0 })
      | inr x ↦ inl (before-same m q run x.1)
    ]
run-before m new q run (Leave r e s) h = elim (run-set_cases m.runs r q None run (ap (λ l. run_at l q) (sym e) ∙ h)) [
  | inl x ↦ absurd (none-some run x.1)
  | inr x ↦ inl (before-same m q run x.1)
]

pub started-grows : (m new : Machine) → RunsMove m new → m.started ≤ new.started
started-grows m new (Stay e s) = omega arith
started-grows m new (Go r old later at g b e s) = omega arith
started-grows m new (Begin r program context e s) = omega arith
started-grows m new (Leave r e s) = omega arith
