-- References to maps are to those of the program's list, in every state that is reached.
use Rattle.bpf_model.proofs.Prelude.{◌≡◌, ℕ, ◌+◌, List, length, Option, Some, None, sym, subst, inl, inr, ℤ, pos, negsuc, nat_lt, ◌==◌, ltb-true, false≢true}
use Rattle.bpf_model.proofs.Prelude.{none-some, cond_some, helper_of, kernel_function_of, DoesEvent, IsReal, Loaded, Run, Machine, environment, fresh_run}
use Rattle.bpf_model.proofs.Prelude.{open_sections, OutcomeStep, returns, found_value, Store, IsReachedSchedule, Schedule, start_schedule, Section, State}
use Rattle.bpf_model.proofs.Prelude.{Environment, Outcome, Moves, Exits, put, sets, map_value, after, choice}
use Rattle.model_laws.proofs.Prelude.{Helper, Lookup, Update, Delete, KernelFunction, ReadLock, ReadUnlock, Event, Answer, Insn, LoadMap, Call, MapShape}
use Rattle.model_laws.proofs.Prelude.{MAX_RUNS, Value, Nothing, Pointer, MapRef, StepsByKind, KernelStep, HelperStep, HoldsValue, HoldsState}
use Rattle.world_laws.proofs.Prelude.{IsListed}
use Rattle.bpf_model.specs.declared.insn.CallKind.TheVariants as kinds
use Rattle.model_laws.proofs.Holding.{Closed, HoldsOutcome, holds-entry, holds-acts, holds-returns}
use Rattle.model_laws.proofs.Keeping.{no-run}
use Rattle.plan_laws.proofs.Coming.{Comes, Stands, Starting, Stepping, does-come}
use Rattle.plan_laws.proofs.Reaching.{kept-last}
use Rattle.world_laws.specs.Typed.{AreListed}
use Rattle.world_laws.proofs.Words.{refused}
use Rattle.model_laws.proofs.Computations.{first-step}
use Rattle.model_laws.proofs.Requests.{by_kind}

listed-closed : (count : ℕ) → Closed (IsListed count)
listed-closed count = record { context = λ o. tt; frame = λ o. tt; moved = λ n o p h. h }

abbrev IsListedRun : Run → Type 0
IsListedRun run = HoldsState (IsListed (length run.program.maps)) run.state

-- the maps of the list
map-listed : (env : Environment) (z : ℤ) (u : Value) → map_value env z ≡ Some u → HoldsValue (IsListed env.maps) u
map-listed env (pos n) u e =
    let g = cond_some (nat_lt n env.maps) (Pointer (MapRef n)) u e in
    subst (HoldsValue (IsListed env.maps)) g.1 (ltb-true n env.maps g.0)
map-listed env (negsuc n) u e = absurd (none-some u e)

loads-listed : (dst : ℕ) (map : ℤ) (env : Environment) (m : State) (out : Outcome) → HoldsState (IsListed env.maps) m
    → after (LoadMap dst map) env m ≡ Some out → HoldsOutcome (IsListed env.maps) out
loads-listed dst map env m out p e =
    let f = first-step (map_value env map) (λ u. sets 2 dst u m) out e in
    let next : State = record { regs = put dst f.0 m.regs; frame = m.frame; place = m.place + 2 } in
    subst (HoldsOutcome (IsListed env.maps)) (refused (dst == 10) (Moves next) out f.2) (
      λ q. choice (HoldsValue (IsListed env.maps)) (q == dst) f.0 (m.regs q) (map-listed env map f.0 f.1) (p.0 q),
      p.1,
    )

-- each step of a run keeps that its references are to maps of its program's list
ends-listed : (out : Outcome) (run : Run) (answer : Answer) (new : Run) → IsListedRun run →
    HoldsOutcome (IsListed (length run.program.maps)) out → OutcomeStep out run answer new → IsListedRun new
ends-listed (Moves next) run answer new p q h = subst IsListedRun (sym h.1) q
ends-listed (Exits n) run answer new p q h = subst IsListedRun (sym h.2) p

returns-listed : (run : Run) (ret : Value) → IsListedRun run → HoldsValue (IsListed (length run.program.maps)) ret →
    HoldsState (IsListed (length run.program.maps)) (returns ret run.state)
returns-listed run ret p q = holds-returns (IsListed (length run.program.maps)) (listed-closed (length run.program.maps)) ret run.state q p

kernel-listed : (o : Option KernelFunction) (run new : Run) → IsListedRun run → KernelStep o run new → IsListedRun new
kernel-listed (Some ReadLock) run new p h = subst IsListedRun (sym h.1) (returns-listed run Nothing p tt)
kernel-listed (Some ReadUnlock) run new p h = subst IsListedRun (sym h.1) (returns-listed run Nothing p tt)
kernel-listed None run new p h = absurd h

found-listed : (count : ℕ) (o : Option ℕ) → HoldsValue (IsListed count) (found_value o)
found-listed count None = tt
found-listed count (Some n) = tt

result-listed : (o : Option Helper) (s : Store) (opened : List Section) (run : Run) (ret : Value) (new : Store) →
    HelperStep o s opened run ret new → HoldsValue (IsListed (length run.program.maps)) ret
result-listed (Some Lookup) s opened run ret new h = subst (HoldsValue (IsListed (length run.program.maps)))
    (sym h.0.ret_is) (found-listed (length run.program.maps) h.0.found)
result-listed (Some Update) s opened run ret new h = subst (HoldsValue (IsListed (length run.program.maps))) (sym h.ret_is) tt
result-listed (Some Delete) s opened run ret new h = subst (HoldsValue (IsListed (length run.program.maps))) (sym h.ret_is) tt
result-listed None s opened run ret new h = absurd h

insn-listed : (i : Insn) (s : Store) (opened : List Section) (run : Run) (answer : Answer) (new_store : Store)
    (new : Run) → IsListedRun run → StepsByKind i s opened run answer new_store new → IsListedRun new
insn-listed (Call kinds.Kernel imm) s opened run answer new_store new p h = kernel-listed (kernel_function_of imm) run new p h.0
insn-listed (Call kinds.Helper imm) s opened run answer new_store new p h =
    subst IsListedRun (sym h.3) (returns-listed run h.0 p
    (result-listed (helper_of imm) s opened run h.0 new_store h.1))
insn-listed (LoadMap dst map) s opened run answer new_store new p (out, es, inl h, kept, ends) =
    ends-listed out run answer new p (loads-listed dst map (environment run) run.state out p h.0) ends
insn-listed (LoadMap dst map) s opened run answer new_store new p (out, es, inr h, kept, ends) = absurd h
insn-listed i s opened run answer new_store new p h =
    ends-listed h.0 run answer new p (holds-acts (IsListed (length run.program.maps))
    (listed-closed (length run.program.maps)) i (environment run) s.elements run.state h.0 h.1
    (λ named. absurd (false≢true named)) p h.2) h.4

fresh-listed : (name : ℕ) (program : Loaded) (context : List ℕ) → IsListedRun (fresh_run name program context)
fresh-listed name program context = holds-entry (IsListed (length program.maps)) (listed-closed (length program.maps))

pub stays_listed : (m new : Machine) (event : Event) (answer : Answer) → IsReal event → DoesEvent m event answer new → AreListed m → AreListed new
stays_listed m new event answer real h p r run at = came (does-come m new event answer real h r run at)
  where
    came : Comes m new r run → IsListedRun run
    came (Stands there) = p r run there
    came (Starting f) = subst IsListedRun f.is (fresh-listed m.started f.program f.context)
    came (Stepping g) = insn-listed g.step.0 m.store (open_sections m.runs) g.old g.answer new.store run
        (p r g.old g.there) (by_kind g.step.0 m.store (open_sections m.runs) g.old g.answer new.store run g.step.2)

-- so it is in each reached state
pub reached_is_listed : (shapes : List MapShape) (programs : List Loaded) (s : Schedule) → IsReachedSchedule shapes programs s → AreListed s.machine
reached_is_listed shapes programs s r = subst (λ (x : Schedule). AreListed x.machine) r.last
    (kept-last AreListed stays_listed (start_schedule shapes programs) r.events r.answers r.states
    (λ q run at. absurd (no-run MAX_RUNS q run at)) r.real r.history)
