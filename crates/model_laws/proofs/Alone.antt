-- A run that shares nothing makes its steps whatever the maps are, and leaves them as they are.
use Rattle.bpf_model.proofs.Prelude.{◌≡◌, ℕ, ◌-◌, List, [], ◌∷◌, Option, Some, None, cond, Bool, true, false, inl, inr, refl, sym, ap, ◌∙◌, subst, ℤ, ◌==◌}
use Rattle.bpf_model.proofs.Prelude.{nat_lt, AllByRecursion, false≢true, none-some, same_Some, ◌>>=◌, reference, byte_count, unsigned_width, operand_value}
use Rattle.bpf_model.proofs.Prelude.{slot_count, State, Environment, Outcome, Moves, Exits, after, insn_at, helper_of, kernel_function_of, names_map}
use Rattle.bpf_model.proofs.Prelude.{HasNoMaps, Section, Element, Loaded, Run, environment, fresh_run, OutcomeStep, RunStep}
use Rattle.model_laws.proofs.Prelude.{Insn, Call, Load, LoadSigned, Store, Helper, KernelFunction, ReadLock, ReadUnlock, Answer, Value, Nothing, Number}
use Rattle.model_laws.proofs.Prelude.{Pointer, Ctx, Frame, MapRef, Elem, StepsByKind, Acts, AccessesElement, KernelStep, HelperStep, element_load}
use Rattle.model_laws.proofs.Prelude.{element_store, bound_map, HoldsValue, HoldsState, IsOwn, SharesNothing}
use Rattle.bpf_model.specs.declared.insn.CallKind.TheVariants as kinds
use Rattle.bpf_model.specs.declared.call.Helper.TheVariants as helpers
use Rattle.bpf_model.specs.MapState as map_state
use Rattle.model_laws.proofs.Holding.{Closed, HoldsOutcome, holds-entry, holds-after, holds-returns}
use Rattle.model_laws.proofs.Requests.{by_kind, of_kind}

-- a program without map references has no instruction that loads one
pub first-or : (t : Bool) (P : Insn → Type 0) (i j : Insn) (rest : Option Insn) → P i → (rest ≡ Some j → P j) → cond t (Some i) rest ≡ Some j → P j
first-or true P i j rest p q h = subst P (same_Some i j h) p
first-or false P i j rest p q h = q h

pub none-or : (t : Bool) (P : Insn → Type 0) (j : Insn) (rest : Option Insn) → (rest ≡ Some j → P j) → cond t None rest ≡ Some j → P j
none-or true P j rest q h = absurd (none-some j h)
none-or false P j rest q h = q h

pub insn-all : (P : Insn → Type 0) (code : List Insn) (place : ℕ) (j : Insn) → AllByRecursion P code → insn_at code place ≡ Some j → P j
insn-all P [] place j all h = absurd (none-some j h)
insn-all P (i ∷ is) place j all h =
    first-or (place == 0) P i j _ all.0 (λ rest. none-or (nat_lt place (slot_count i)) P j _
    (λ further. insn-all P is (place - slot_count i) j all.1 further) rest) h

-- what an own reference can't do
pub load-own : (es : List Element) (width : ℕ) (offset : ℤ) (base : Value) (n : ℕ) → HoldsValue IsOwn base → element_load es width offset base ≡ Some n → ⊥
load-own es width offset Nothing n p h = none-some n h
load-own es width offset (Number x) n p h = none-some n h
load-own es width offset (Pointer (Ctx o)) n p h = none-some n h
load-own es width offset (Pointer (Frame o)) n p h = none-some n h
load-own es width offset (Pointer (MapRef m)) n p h = p
load-own es width offset (Pointer (Elem k o)) n p h = p

pub store-own : (es new : List Element) (width : ℕ) (offset : ℤ) (v base : Value) → HoldsValue IsOwn base → element_store es width offset v base ≡ Some new → ⊥
store-own es new width offset Nothing base p h = none-some new h
store-own es new width offset (Pointer r) base p h = none-some new h
store-own es new width offset (Number v) Nothing p h = none-some new h
store-own es new width offset (Number v) (Number x) p h = none-some new h
store-own es new width offset (Number v) (Pointer (Ctx o)) p h = none-some new h
store-own es new width offset (Number v) (Pointer (Frame o)) p h = none-some new h
store-own es new width offset (Number v) (Pointer (MapRef m)) p h = p
store-own es new width offset (Number v) (Pointer (Elem k o)) p h = p

pub access-own : (i : Insn) (es : List Element) (m : State) (out : Outcome) (new : List Element) → HoldsState IsOwn m → AccessesElement i es m out new → ⊥
access-own (Load width dst src offset) es m out new p h = load-own es (byte_count width) offset (m.regs src) h.0 (p.0 src) h.1
access-own (LoadSigned width dst src offset) es m out new p h = load-own es (byte_count (unsigned_width width)) offset (m.regs src) h.0 (p.0 src) h.1
access-own (Store width dst offset src) es m out new p h = store-own es new (byte_count width) offset (operand_value src m.regs) (m.regs dst) (p.0 dst) h.0
access-own i es m out new p h = h

pub map-own : (maps : List ℕ) (v : Value) (map : ℕ) → HoldsValue IsOwn v → (reference v >>= bound_map maps) ≡ Some map → ⊥
map-own maps Nothing map p h = none-some map h
map-own maps (Number n) map p h = none-some map h
map-own maps (Pointer (Ctx o)) map p h = none-some map h
map-own maps (Pointer (Frame o)) map p h = none-some map h
map-own maps (Pointer (MapRef m)) map p h = p
map-own maps (Pointer (Elem n o)) map p h = p

pub helper-own : (f : Option Helper) (s : map_state.Store) (opened : List Section) (run : Run) (ret : Value)
    (new : map_state.Store) → HoldsState IsOwn run.state → HelperStep f s opened run ret new → ⊥
helper-own (Some helpers.Lookup) s opened run ret new p h = map-own run.program.maps (run.state.regs 1) h.0.map (p.0 1) h.0.map_is
helper-own (Some helpers.Update) s opened run ret new p h = map-own run.program.maps (run.state.regs 1) h.map (p.0 1) h.map_is
helper-own (Some helpers.Delete) s opened run ret new p h = map-own run.program.maps (run.state.regs 1) h.map (p.0 1) h.map_is
helper-own None s opened run ret new p h = h

-- the step that it makes by itself
pub acts-own : (i : Insn) (env : Environment) (es : List Element) (m : State) (out : Outcome) (new : List Element) →
    HoldsState IsOwn m → Acts i env es m out new → (after i env m ≡ Some out) × (new ≡ es)
acts-own i env es m out new p (inl h) = h
acts-own i env es m out new p (inr h) = absurd (access-own i es m out new p h)

-- nothing is done to the maps, and the same step is one over any others
abbrev Anywhere : Insn → map_state.Store → Run → Answer → map_state.Store → Run → Type 0
Anywhere i s run answer new new_run = (new ≡ s) × ((t : map_state.Store) (others : List Section) → StepsByKind i t others run answer t new_run)

insn-anywhere : (i : Insn) (s : map_state.Store) (opened : List Section) (run : Run) (answer : Answer)
    (new : map_state.Store) (new_run : Run) → HoldsState IsOwn run.state →
    StepsByKind i s opened run answer new new_run → Anywhere i s run answer new new_run
insn-anywhere (Call kinds.Kernel imm) s opened run answer new new_run p h = (h.2, λ t others. (h.0, h.1, refl))
insn-anywhere (Call kinds.Helper imm) s opened run answer new new_run p h = absurd (helper-own (helper_of imm) s opened run h.0 new p h.1)
insn-anywhere i s opened run answer new new_run p h =
    let a = acts-own i (environment run) s.elements run.state h.0 h.1 p h.2 in
    (h.3 ∙ ap (λ es. map_state.with_elements es s) a.1, λ t others. (h.0, t.elements, inl (a.0, refl), refl, h.4))

pub others_change_nothing : (store new_store : map_state.Store) (opened : List Section) (run new : Run)
    (answer : Answer) → SharesNothing run → RunStep store opened run answer new_store new →
    (new_store ≡ store) × ((other : map_state.Store) (sections : List Section) → RunStep other sections run answer other new)
others_change_nothing store new_store opened run new answer p h =
    let a = insn-anywhere h.0 store opened run answer new_store new p.state (by_kind h.0 store opened run answer new_store new h.2) in
    (a.0, λ other sections. (h.0, h.1, of_kind h.0 other sections run answer other new (a.1 other sections)))

-- it goes on sharing nothing
pub own-closed : Closed IsOwn
own-closed = record { context = λ o. tt; frame = λ o. tt; moved = λ n o p h. h }

ends-own : (out : Outcome) (run : Run) (answer : Answer) (new : Run) → SharesNothing run → HoldsOutcome IsOwn out →
    OutcomeStep out run answer new → SharesNothing new
ends-own (Moves next) run answer new p q h = subst SharesNothing (sym h.1) (record { code = p.code; state = q })
ends-own (Exits n) run answer new p q h = subst SharesNothing (sym h.2) (record { code = p.code; state = p.state })

kernel-own : (f : Option KernelFunction) (run new : Run) → SharesNothing run → KernelStep f run new → SharesNothing new
kernel-own (Some ReadLock) run new p h = subst SharesNothing (sym h.1)
    (record { code = p.code; state = holds-returns IsOwn own-closed Nothing run.state tt p.state })
kernel-own (Some ReadUnlock) run new p h = subst SharesNothing (sym h.1)
    (record { code = p.code; state = holds-returns IsOwn own-closed Nothing run.state tt p.state })
kernel-own None run new p h = absurd h

insn-own : (i : Insn) (s : map_state.Store) (opened : List Section) (run : Run) (answer : Answer)
    (new : map_state.Store) (new_run : Run) → names_map i ≡ false → SharesNothing run →
    StepsByKind i s opened run answer new new_run → SharesNothing new_run
insn-own (Call kinds.Kernel imm) s opened run answer new new_run unnamed p h = kernel-own (kernel_function_of imm) run new_run p h.0
insn-own (Call kinds.Helper imm) s opened run answer new new_run unnamed p h = absurd (helper-own (helper_of imm) s opened run h.0 new p.state h.1)
insn-own i s opened run answer new new_run unnamed p h =
    let a = acts-own i (environment run) s.elements run.state h.0 h.1 p.state h.2 in
    ends-own h.0 run answer new_run p (holds-after IsOwn own-closed i (environment run) run.state h.0
    (λ named. absurd (false≢true (sym unnamed ∙ named))) p.state a.0) h.4

pub starts_sharing_nothing : (name : ℕ) (program : Loaded) (context : List ℕ) → HasNoMaps program.code → SharesNothing (fresh_run name program context)
starts_sharing_nothing name program context h = record { code = h; state = holds-entry IsOwn own-closed }

pub stays_sharing_nothing : (store new_store : map_state.Store) (opened : List Section) (run new : Run)
    (answer : Answer) → SharesNothing run → RunStep store opened run answer new_store new → SharesNothing new
stays_sharing_nothing store new_store opened run new answer p h =
    insn-own h.0 store opened run answer new_store new
    (insn-all (λ i. names_map i ≡ false) run.program.code run.state.place h.0 p.code h.1) p
    (by_kind h.0 store opened run answer new_store new h.2)
