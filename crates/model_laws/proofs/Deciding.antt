-- With the runtime's choices an event has one answer and leads to one state.
use Rattle.bpf_model.proofs.Prelude.{◌≡◌, ℕ, ◌+◌, ◌-◌, List, [], ◌∷◌, ◌++◌, length, Option, Some, None, is_some, inl, inr, refl, sym, ap, ◌∙◌, arith, false}
use Rattle.bpf_model.proofs.Prelude.{subst, Result, ℤ, slice_get, slice_set, none-some, loaded_signed, operand_value, ◌>>=◌, byte_count, unsigned_width}
use Rattle.bpf_model.proofs.Prelude.{helper_of, kernel_function_of, ret_word, State, Environment, Outcome, Moves, Exits, after, sets, load_from, store_to}
use Rattle.bpf_model.proofs.Prelude.{Section, Element, Unlinked, Reclaimed, HasLife, with_life, linked_count, unlinked, newborn, MapState, with_bag}
use Rattle.bpf_model.proofs.Prelude.{with_elements, returned, given_of, LooksUp, Replaces, Settles, Updates, Removes, Deletes, update_error, Writes}
use Rattle.bpf_model.proofs.Prelude.{RemovesFrom, Reclaims, Run, Machine, environment, open_sections, moves, with_store, with_runs, begins, OutcomeStep}
use Rattle.bpf_model.proofs.Prelude.{InsnStep, RunStep, StepsRun, returns, found_value, Starts, PerformsEvent, Answers, refusal, Schedule, first_ready}
use Rattle.bpf_model.proofs.Prelude.{scheduled, TakesFirst, TakesOldest, DoesScheduled, IsScheduledHistory, get-append_last, get-set_there, heads, tails}
use Rattle.bpf_model.proofs.Prelude.{both}
use Rattle.model_laws.proofs.Prelude.{Insn, Call, Load, LoadSigned, Store, Helper, KernelFunction, ReadLock, ReadUnlock, Errno, Event, Answer, EventRefusal}
use Rattle.model_laws.proofs.Prelude.{Given, ReapedElement, Value, Nothing, Number, Pointer, Ctx, Frame, MapRef, Elem, MapKind, Hash, Array, StepsByKind}
use Rattle.model_laws.proofs.Prelude.{Acts, AccessesElement, KernelStep, LookupStep, UpdateStep, DeleteStep, HelperStep, element_load, element_store}
use Rattle.model_laws.proofs.Prelude.{key_argument, value_argument, IsScheduled, IsSingle}
use Rattle.arrayvec.specs.ArrayVec.{ArrayVec}
use Rattle.bpf_model.specs.declared.insn.CallKind.TheVariants as kinds
use Rattle.bpf_model.specs.declared.call.Helper.TheVariants as helpers
use Rattle.bpf_model.specs.declared.event.Event.TheVariants as events
use Rattle.bpf_model.specs.declared.event.Answer.TheVariants as answers
use Rattle.bpf_model.specs.MapState as map_state
use Rattle.bpf_model.specs.Event.{ReadsElement}
use Rattle.model_laws.proofs.Stores.{touches-found}
use Rattle.model_laws.proofs.Scheduling.{same-element, stays_scheduled}
use Rattle.model_laws.proofs.Requests.{by_kind}

never : {A B : Type 0} (o : Option A) (x : A) → o ≡ None → o ≡ Some x → B
never o x h g = absurd (none-some x (sym h ∙ g))

-- two that are equal to a third
pub meet : {A : Type 0} (x y z : A) → x ≡ z → y ≡ z → x ≡ y
meet x y z h g = h ∙ sym g

-- lookups
lookup-one : (s : map_state.Store) (map : ℕ) (key : List ℕ) (f g : Option ℕ) → IsSingle s.elements → LooksUp s map key f → LooksUp s map key g → f ≡ g
lookup-one s map key None None single h k = refl
lookup-one s map key None (Some n) single h k = absurd (h n k)
lookup-one s map key (Some n) None single h k = absurd (k n h)
lookup-one s map key (Some n) (Some j) single h k = ap Some (single map key n j h k)

-- updates
abbrev replaced : map_state.Store → List Section → ℕ → MapState → List ℕ → List ℕ → Option ℕ → ℕ → List ℕ → map_state.Store
replaced s opened map m key value found count bag = record {
  elements =
      unlinked opened s.elements found ++ newborn map key value count ∷ [];
  maps =
      slice_set s.maps map (with_bag bag m);
}

oldest-bag : (s : map_state.Store) (opened : List Section) (map : ℕ) (m : MapState) (key value : List ℕ)
    (found : Option ℕ) (count : ℕ) (bag : List ℕ) → slice_get s.maps map ≡ Some m → LooksUp s map key found →
    TakesOldest s (replaced s opened map m key value found count bag) →
    m.bag ≡ (count + 1 - 1) ∷ bag
oldest-bag s opened map m key value found count bag at l oldest =
    let mid : List Element = unlinked opened s.elements found in
    let births : length mid ≡ length s.elements = (touches-found false opened s map key found l).births in
    oldest (newborn map key value count) m (with_bag bag m)
    (ap (slice_get (mid ++ newborn map key value count ∷ [])) (sym births) ∙
    get-append_last mid (newborn map key value count)) at (get-set_there s.maps map m (with_bag bag m) at)

same-count : (a b : ℕ) → a + 1 - 1 ≡ b + 1 - 1 → a ≡ b
same-count a b h = omega arith

replaces-one : (s : map_state.Store) (opened : List Section) (map : ℕ) (m : MapState) (key value : List ℕ)
    (found : Option ℕ) (new other : map_state.Store) → slice_get s.maps map ≡ Some m → LooksUp s map key found →
    TakesOldest s new → TakesOldest s other →
    Replaces s opened map m key value found new → Replaces s opened map m key value found other → new ≡ other
replaces-one s opened map m key value found new other at l old_new old_other r q =
    let a = oldest-bag s opened map m key value found r.count r.bag at l (subst (TakesOldest s) r.new_is old_new) in
    let b = oldest-bag s opened map m key value found q.count q.bag at l (subst (TakesOldest s) q.new_is old_other) in
    let counts : r.count ≡ q.count = same-count r.count q.count (heads _ _ r.bag q.bag (sym a ∙ b)) in
    let bags : r.bag ≡ q.bag = tails _ _ r.bag q.bag (sym a ∙ b) in
    r.new_is ∙ (ap (λ x. replaced s opened map m key value found x r.bag) counts ∙
    (ap (λ x. replaced s opened map m key value found q.count x) bags ∙ sym q.new_is))

writes-one : (kind : MapKind) (s : map_state.Store) (opened : List Section) (map : ℕ) (m : MapState)
    (key value : List ℕ) (found : Option ℕ) (new other : map_state.Store) → slice_get s.maps map ≡ Some m →
    LooksUp s map key found → TakesOldest s new → TakesOldest s other →
    Writes kind s opened map m key value found new → Writes kind s opened map m key value found other → new ≡ other
writes-one Hash s opened map m key value found new other at l old_new old_other r q =
    replaces-one s opened map m key value found new other at l old_new old_other r q
writes-one Array s opened map m key value found new other at l old_new old_other r q = meet _ _ _ r q

settles-one : (kind : MapKind) (s : map_state.Store) (opened : List Section) (map : ℕ) (m : MapState)
    (key value : List ℕ) (found : Option ℕ) (error : Option Errno) (ret told : Result (Unit {0}) Errno)
    (new other : map_state.Store) → slice_get s.maps map ≡ Some m → LooksUp s map key found → TakesOldest s new →
    TakesOldest s other →
    Settles error ret s new (Writes kind s opened map m key value found new) →
    Settles error told s other (Writes kind s opened map m key value found other) → (ret ≡ told) × (new ≡ other)
settles-one kind s opened map m key value found None ret told new other at l old_new old_other h g =
    (meet _ _ _ h.0 g.0, writes-one kind s opened map m key value found new other at l old_new old_other h.1 g.1)
settles-one kind s opened map m key value found (Some e) ret told new other at l old_new old_other h g = (meet _ _ _ h.0 g.0, meet _ _ _ h.1 g.1)

abbrev Settled : map_state.Store → List Section → ℕ → List ℕ → List ℕ → ℕ → Result (Unit {0}) Errno → map_state.Store → MapState → Option ℕ → Type 0
Settled s opened map key value flags ret new m found =
    Settles (update_error flags (is_some found) (linked_count map s.elements) m) ret s new
    (Writes m.shape.kind s opened map m key value found new)

updates-one : (s : map_state.Store) (opened : List Section) (map : ℕ) (key value : List ℕ) (flags : ℕ)
    (ret told : Result (Unit {0}) Errno) (new other : map_state.Store) → IsSingle s.elements → TakesOldest s new →
    TakesOldest s other →
    Updates s opened map key value flags ret new → Updates s opened map key value flags told other → (ret ≡ told) × (new ≡ other)
updates-one s opened map key value flags ret told new other single old_new old_other u v =
    let states : v.state ≡ u.state = both (slice_get s.maps map) v.state u.state v.there u.there in
    let founds : v.found ≡ u.found = lookup-one s map key v.found u.found single v.lookup u.lookup in
    settles-one u.state.shape.kind s opened map u.state key value u.found _ ret told new other u.there u.lookup old_new old_other u.settled
    (subst (λ f. Settled s opened map key value flags told other u.state f) founds
    (subst (λ x. Settled s opened map key value flags told other x v.found) states v.settled))

-- deletes
removes-one : (s : map_state.Store) (opened : List Section) (found : Option ℕ) (ret told : Result (Unit {0}) Errno)
    (new other : map_state.Store) → Removes found opened ret s new → Removes found opened told s other → (ret ≡ told)
    × (new ≡ other)
removes-one s opened None ret told new other h g = (meet _ _ _ h.0 g.0, meet _ _ _ h.1 g.1)
removes-one s opened (Some n) ret told new other h g = (meet _ _ _ h.0 g.0, meet _ _ _ h.1 g.1)

deletes-one : (s : map_state.Store) (opened : List Section) (map : ℕ) (key : List ℕ)
    (ret told : Result (Unit {0}) Errno) (new other : map_state.Store) → IsSingle s.elements →
    Deletes s opened map key ret new → Deletes s opened map key told other → (ret ≡ told) × (new ≡ other)
deletes-one s opened map key ret told new other single h g =
    let states : g.state ≡ h.state = both (slice_get s.maps map) g.state h.state g.there h.there in
    let founds : g.found ≡ h.found = lookup-one s map key g.found h.found single g.lookup h.lookup in
    by h.state.shape.kind h.removed (subst (λ f. RemovesFrom h.state.shape.kind f opened told s other) founds
    (subst (λ (x : MapState). RemovesFrom x.shape.kind g.found opened told s other) states g.removed))
  where
    by : (kind : MapKind) → RemovesFrom kind h.found opened ret s new → RemovesFrom kind h.found opened told s other → (ret ≡ told) × (new ≡ other)
    by Hash x y = removes-one s opened h.found ret told new other x y
    by Array x y = (meet _ _ _ x.0 y.0, meet _ _ _ x.1 y.1)

-- helpers
lookup_step-one : (s : map_state.Store) (run : Run) (ret told : Value) → IsSingle s.elements → LookupStep s run ret → LookupStep s run told → ret ≡ told
lookup_step-one s run ret told single h g =
    let maps : g.map ≡ h.map = both _ g.map h.map g.map_is h.map_is in
    let keys : g.key ≡ h.key = both _ g.key h.key (ap (λ x. key_argument s run x) (sym maps) ∙ g.key_is) h.key_is in
    let looked : LooksUp s h.map h.key g.found = subst (λ k. LooksUp s h.map k g.found) keys (subst (λ x. LooksUp s x g.key g.found) maps g.looked_up) in
    h.ret_is ∙ (ap found_value (lookup-one s h.map h.key h.found g.found single h.looked_up looked) ∙ sym g.ret_is)

updates-along : (s : map_state.Store) (opened : List Section) (map map' : ℕ) (key key' value value' : List ℕ)
    (flags flags' : ℕ) (ret : Result (Unit {0}) Errno) (new : map_state.Store) → map ≡ map' → key ≡ key' →
    value ≡ value' → flags ≡ flags' →
    Updates s opened map key value flags ret new → Updates s opened map' key' value' flags' ret new
updates-along s opened map map' key key' value value' flags flags' ret new a b c d u =
    subst (λ x. Updates s opened map' key' value' x ret new) d
    (subst (λ x. Updates s opened map' key' x flags ret new) c
    (subst (λ x. Updates s opened map' x value flags ret new) b
    (subst (λ x. Updates s opened x key value flags ret new) a u)))

update_step-one : (s : map_state.Store) (opened : List Section) (run : Run) (ret told : Value)
    (new other : map_state.Store) → IsSingle s.elements → TakesOldest s new → TakesOldest s other →
    UpdateStep s opened run ret new → UpdateStep s opened run told other → (ret ≡ told) × (new ≡ other)
update_step-one s opened run ret told new other single old_new old_other h g =
    let maps : g.map ≡ h.map = both _ g.map h.map g.map_is h.map_is in
    let keys : g.key ≡ h.key = both _ g.key h.key (ap (λ x. key_argument s run x) (sym maps) ∙ g.key_is) h.key_is in
    let values : g.value ≡ h.value = both _ g.value h.value (ap (λ x. value_argument s run x) (sym maps) ∙ g.value_is) h.value_is in
    let flags : g.flags ≡ h.flags = both _ g.flags h.flags g.flags_are h.flags_are in
    let one = updates-one s opened h.map h.key h.value h.flags h.outcome g.outcome new other single old_new old_other
    h.updated (updates-along s opened g.map h.map g.key h.key g.value h.value g.flags h.flags g.outcome other maps
    keys values flags g.updated) in
    (h.ret_is ∙ (ap (λ x. Number (ret_word x)) one.0 ∙ sym g.ret_is), one.1)

deletes-along : (s : map_state.Store) (opened : List Section) (map map' : ℕ) (key key' : List ℕ)
    (ret : Result (Unit {0}) Errno) (new : map_state.Store) → map ≡ map' → key ≡ key' →
    Deletes s opened map key ret new → Deletes s opened map' key' ret new
deletes-along s opened map map' key key' ret new a b d = subst (λ x. Deletes s opened map' x ret new) b (subst (λ x. Deletes s opened x key ret new) a d)

delete_step-one : (s : map_state.Store) (opened : List Section) (run : Run) (ret told : Value)
    (new other : map_state.Store) → IsSingle s.elements → DeleteStep s opened run ret new →
    DeleteStep s opened run told other → (ret ≡ told) × (new ≡ other)
delete_step-one s opened run ret told new other single h g =
    let maps : g.map ≡ h.map = both _ g.map h.map g.map_is h.map_is in
    let keys : g.key ≡ h.key = both _ g.key h.key (ap (λ x. key_argument s run x) (sym maps) ∙ g.key_is) h.key_is in
    let one = deletes-one s opened h.map h.key h.outcome g.outcome new other single h.deleted
    (deletes-along s opened g.map h.map g.key h.key g.outcome other maps keys g.deleted) in
    (h.ret_is ∙ (ap (λ x. Number (ret_word x)) one.0 ∙ sym g.ret_is), one.1)

helper-one : (f : Option Helper) (s : map_state.Store) (opened : List Section) (run : Run) (ret told : Value)
    (new other : map_state.Store) → IsSingle s.elements → TakesOldest s new → TakesOldest s other →
    HelperStep f s opened run ret new → HelperStep f s opened run told other → (ret ≡ told) × (new ≡ other)
helper-one (Some helpers.Lookup) s opened run ret told new other single old_new old_other h g =
    (lookup_step-one s run ret told single h.0 g.0, meet _ _ _ h.1 g.1)
helper-one (Some helpers.Update) s opened run ret told new other single old_new old_other h g =
    update_step-one s opened run ret told new other single old_new old_other h g
helper-one (Some helpers.Delete) s opened run ret told new other single old_new old_other h g = delete_step-one s opened run ret told new other single h g
helper-one None s opened run ret told new other single old_new old_other h g = absurd h

-- locks and unlocks
pub kernel-one : (f : Option KernelFunction) (run new other : Run) → KernelStep f run new → KernelStep f run other → new ≡ other
kernel-one (Some ReadLock) run new other h g = meet _ _ _ h.1 g.1
kernel-one (Some ReadUnlock) run new other h g = meet _ _ _ h.1 g.1
kernel-one None run new other h g = absurd h

-- an access to an element is no step of the run by itself
load-apart : (es : List Element) (env : Environment) (m : State) (width : ℕ) (offset : ℤ) (base : Value)
    (f : Value → Option Outcome) (n : ℕ) (out : Outcome) → element_load es width offset base ≡ Some n →
    (load_from env m width offset base >>= f) ≡ Some out → ⊥
load-apart es env m width offset Nothing f n out h g = none-some n h
load-apart es env m width offset (Number x) f n out h g = none-some n h
load-apart es env m width offset (Pointer (Ctx o)) f n out h g = none-some n h
load-apart es env m width offset (Pointer (Frame o)) f n out h g = none-some n h
load-apart es env m width offset (Pointer (MapRef r)) f n out h g = none-some n h
load-apart es env m width offset (Pointer (Elem k o)) f n out h g = none-some out g

store-apart : (es : List Element) (m : State) (width : ℕ) (offset : ℤ) (v base : Value) (new : List Element)
    (out : Outcome) → element_store es width offset v base ≡ Some new → store_to m width offset v base ≡ Some out → ⊥
store-apart es m width offset Nothing base new out h g = none-some new h
store-apart es m width offset (Pointer r) base new out h g = none-some new h
store-apart es m width offset (Number v) Nothing new out h g = none-some new h
store-apart es m width offset (Number v) (Number x) new out h g = none-some new h
store-apart es m width offset (Number v) (Pointer (Ctx o)) new out h g = none-some new h
store-apart es m width offset (Number v) (Pointer (Frame o)) new out h g = none-some new h
store-apart es m width offset (Number v) (Pointer (MapRef r)) new out h g = none-some new h
store-apart es m width offset (Number v) (Pointer (Elem k o)) new out h g = none-some out g

access-apart : (i : Insn) (env : Environment) (es : List Element) (m : State) (out alone : Outcome)
    (new : List Element) → AccessesElement i es m out new → after i env m ≡ Some alone → ⊥
access-apart (Load width dst src offset) env es m out alone new h g = load-apart es env m (byte_count width) offset (m.regs src) _ h.0 alone h.1 g
access-apart (LoadSigned width dst src offset) env es m out alone new h g =
    load-apart es env m (byte_count (unsigned_width width)) offset (m.regs src) _ h.0 alone h.1 g
access-apart (Store width dst offset src) env es m out alone new h g =
    store-apart es m (byte_count width) offset (operand_value src m.regs) (m.regs dst) new alone h.0 g
access-apart i env es m out alone new h g = h

access-one : (i : Insn) (es : List Element) (m : State) (out told : Outcome) (new other : List Element) →
    AccessesElement i es m out new → AccessesElement i es m told other → (out ≡ told) × (new ≡ other)
access-one (Load width dst src offset) es m out told new other h g =
    let n : h.0 ≡ g.0 = both _ h.0 g.0 h.1 g.1 in
    (both _ out told h.2 (ap (λ x. sets 1 dst (Number x) m) n ∙ g.2), meet _ _ _ h.3 g.3)
access-one (LoadSigned width dst src offset) es m out told new other h g =
    let n : h.0 ≡ g.0 = both _ h.0 g.0 h.1 g.1 in
    (both _ out told h.2 (ap (λ x. sets 1 dst (Number (loaded_signed width x)) m) n ∙ g.2), meet _ _ _ h.3 g.3)
access-one (Store width dst offset src) es m out told new other h g = (meet _ _ _ h.1 g.1, both _ new other h.0 g.0)
access-one i es m out told new other h g = absurd h

acts-one : (i : Insn) (env : Environment) (es : List Element) (m : State) (out told : Outcome)
    (new other : List Element) → Acts i env es m out new → Acts i env es m told other → (out ≡ told) × (new ≡ other)
acts-one i env es m out told new other (inl h) (inl g) = (both _ out told h.0 g.0, meet _ _ _ h.1 g.1)
acts-one i env es m out told new other (inl h) (inr g) = absurd (access-apart i env es m told out other g h.0)
acts-one i env es m out told new other (inr h) (inl g) = absurd (access-apart i env es m out told new h g.0)
acts-one i env es m out told new other (inr h) (inr g) = access-one i es m out told new other h g

-- a step of a run
ends-one : (out : Outcome) (run : Run) (a b : Answer) (new other : Run) → OutcomeStep out run a new → OutcomeStep out run b other → (a ≡ b) × (new ≡ other)
ends-one (Moves next) run a b new other h g = (meet _ _ _ h.0 g.0, meet _ _ _ h.1 g.1)
ends-one (Exits n) run a b new other h g = (meet _ _ _ h.1 g.1, meet _ _ _ h.2 g.2)

called-one : (run : Run) (v w : Value) (new other : Run) → v ≡ w → new ≡ moves run (returns v run.state) → other ≡ moves run (returns w run.state) → new ≡ other
called-one run v w new other e h g = h ∙ (ap (λ x. moves run (returns x run.state)) e ∙ sym g)

pub alone-one : (i : Insn) (s : map_state.Store) (run : Run) (a b : Answer) (new other : map_state.Store)
    (new_run other_run : Run) (out told : Outcome) (es fs : List Element) →
    Acts i (environment run) s.elements run.state out es → Acts i (environment run) s.elements run.state told fs →
    new ≡ with_elements es s → other ≡ with_elements fs s → OutcomeStep out run a new_run →
    OutcomeStep told run b other_run → (a ≡ b) × (new ≡ other) × (new_run ≡ other_run)
alone-one i s run a b new other new_run other_run out told es fs h g new_is other_is ends ended =
    let one = acts-one i (environment run) s.elements run.state out told es fs h g in
    let last = ends-one out run a b new_run other_run ends (subst (λ x. OutcomeStep x run b other_run) (sym one.0) ended) in
    (last.0, new_is ∙ (ap (λ x. with_elements x s) one.1 ∙ sym other_is), last.1)

insn-one : (i : Insn) (s : map_state.Store) (opened : List Section) (run : Run) (a b : Answer)
    (new other : map_state.Store) (new_run other_run : Run) → IsSingle s.elements → TakesOldest s new →
    TakesOldest s other →
    StepsByKind i s opened run a new new_run → StepsByKind i s opened run b other other_run → (a ≡ b) × (new ≡ other) × (new_run ≡ other_run)
insn-one (Call kinds.Kernel imm) s opened run a b new other new_run other_run single old_new old_other h g =
    (meet _ _ _ h.1 g.1, meet _ _ _ h.2 g.2, kernel-one (kernel_function_of imm) run new_run other_run h.0 g.0)
insn-one (Call kinds.Helper imm) s opened run a b new other new_run other_run single old_new old_other h g =
    let one = helper-one (helper_of imm) s opened run h.0 g.0 new other single old_new old_other h.1 g.1 in
    (meet _ _ _ h.2 g.2, one.1, called-one run h.0 g.0 new_run other_run one.0 h.3 g.3)
insn-one i s opened run a b new other new_run other_run single old_new old_other h g =
    alone-one i s run a b new other new_run other_run h.0 g.0 h.1 g.1 h.2 g.2 h.3 g.3 h.4 g.4

pub run-one : (s : map_state.Store) (opened : List Section) (run : Run) (a b : Answer) (new other : map_state.Store)
    (new_run other_run : Run) → IsSingle s.elements → TakesOldest s new → TakesOldest s other →
    RunStep s opened run a new new_run → RunStep s opened run b other other_run → (a ≡ b) × (new ≡ other) × (new_run ≡ other_run)
run-one s opened run a b new other new_run other_run single old_new old_other h g =
    let insns : g.0 ≡ h.0 = both _ g.0 h.0 g.1 h.1 in
    insn-one h.0 s opened run a b new other new_run other_run single old_new old_other
    (by_kind h.0 s opened run a new new_run h.2) (by_kind h.0 s opened run b other other_run
    (subst (λ i. InsnStep i s opened run b other other_run) insns g.2))

abbrev stepped : Machine → ℕ → map_state.Store → Run → Machine
stepped m r store run = with_runs (with_store m store) (slice_set m.runs r (Some run))

steps-one : (m : Machine) (r : ℕ) (a b : Answer) (t u : Machine) → IsSingle m.store.elements →
    TakesOldest m.store t.store → TakesOldest m.store u.store → StepsRun m r a t → StepsRun m r b u → (a ≡ b) ×
    (t ≡ u)
steps-one m r a b t u single old_t old_u h g =
    let runs : g.run ≡ h.run = both _ g.run h.run g.there h.there in
    let one = run-one m.store (open_sections m.runs) h.run a b h.new_store g.new_store h.new_run g.new_run single
    (subst (λ x. TakesOldest m.store x.store) h.new_is old_t)
    (subst (λ x. TakesOldest m.store x.store) g.new_is old_u) h.step
    (subst (λ x. RunStep m.store (open_sections m.runs) x b g.new_store g.new_run) runs g.step) in
    (one.0, h.new_is ∙ (ap (λ x. stepped m r x h.new_run) one.1 ∙ (ap (stepped m r g.new_store) one.2 ∙ sym g.new_is)))

-- a start
start-one : (m : Machine) (prog : ℕ) (context : List ℕ) (q r : ℕ) (t u : Machine) → Starts m prog context q t →
    Starts m prog context r u → (answers.Started q ≡ answers.Started r) × (t ≡ u)
start-one m prog context q r t u h g =
    let slots : q ≡ r = both _ q r h.lowest g.lowest in
    let programs : h.program ≡ g.program = both _ h.program g.program h.there g.there in
    (ap answers.Started slots, h.new_is ∙ (ap (λ x. begins m x h.program context) slots ∙ (ap (λ x. begins m r x context) programs ∙ sym g.new_is)))

-- a read
items-one : (v w : ArrayVec ℕ) → v.items ≡ w.items → v ≡ w
items-one v w h = ap (λ xs. array_of xs) h
  where
    array_of : List ℕ → ArrayVec ℕ
    array_of xs = record { items = xs }

read-one : (m : Machine) (map : ℕ) (key v w : List ℕ) → IsSingle m.store.elements → ReadsElement m map key v → ReadsElement m map key w → v ≡ w
read-one m map key v w single h g =
    let births : h.n ≡ g.n = single map key h.n g.n h.linked g.linked in
    let elements : h.linked.element ≡ g.linked.element =
    both _ h.linked.element g.linked.element h.linked.born
    (ap (slice_get m.store.elements) births ∙ g.linked.born) in
    h.value_is ∙ (ap (λ x. x.value) elements ∙ sym g.value_is)

-- a reap
taken-is : (es new : List Element) (n a : ℕ) (e : Element) (since : List Section) →
    new ≡ slice_set es a (with_life Reclaimed e) → HasLife es n (Unlinked since) → HasLife new n Reclaimed → n ≡ a
taken-is es new n a e since is h life = same-element es new h.0.map n a e
    (record { element = h.0; since = since; born = h.1; life = h.2; in_map = refl }) is life

abbrev reclaimed : map_state.Store → ℕ → Element → MapState → map_state.Store
reclaimed s n e state = record { elements = slice_set s.elements n (with_life Reclaimed e); maps = slice_set s.maps e.map (returned e.uses state) }

-- the element that was reclaimed, and the state of its map
pub record Taken (m : Machine) (n : ℕ) (taken : ReapedElement) (t : Machine) : Type 0 where
  pub element : Element
  pub state : MapState
  pub born : slice_get m.store.elements n ≡ Some element
  pub there : slice_get m.store.maps element.map ≡ Some state
  pub map_is : taken.map ≡ element.map
  pub key_is : taken.key.items ≡ element.key
  pub given_is : taken.given ≡ given_of element.uses state
  pub new_is : t ≡ with_store m (reclaimed m.store n element state)

reaped-one : (v w : ReapedElement) → v.map ≡ w.map → v.key ≡ w.key → v.given ≡ w.given → v ≡ w
reaped-one v w a b c = ap (λ x. reaped_of x v.key v.given) a ∙ (ap (λ x. reaped_of w.map x v.given) b ∙ ap (λ x. reaped_of w.map w.key x) c)
  where
    reaped_of : ℕ → ArrayVec ℕ → Given → ReapedElement
    reaped_of a b c = record { map = a; key = b; given = c }

taken-one : (m : Machine) (n : ℕ) (v w : ReapedElement) (t u : Machine) → Taken m n v t → Taken m n w u → (v ≡ w) × (t ≡ u)
taken-one m n v w t u h g =
    let elements : h.element ≡ g.element = both _ h.element g.element h.born g.born in
    let states : h.state ≡ g.state = both _ h.state g.state h.there (ap (λ x. slice_get m.store.maps x.map) elements ∙ g.there) in (
      reaped-one v w (h.map_is ∙ (ap (λ x. x.map) elements ∙ sym g.map_is)) (items-one v.key w.key (h.key_is ∙ (ap (λ x. x.key) elements ∙ sym g.key_is)))
          (h.given_is ∙ (ap (λ x. given_of x.uses h.state) elements ∙ (ap (given_of g.element.uses) states ∙ sym g.given_is))),
      h.new_is ∙ (ap (λ x. with_store m (reclaimed m.store n x h.state)) elements ∙
          (ap (λ x. with_store m (reclaimed m.store n g.element x)) states ∙ sym g.new_is)),
    )

taken-at : (m : Machine) (n a : ℕ) (e : Element) (v : ReapedElement) (store : map_state.Store) (t : Machine) → n ≡ a →
    Reclaims m.store (open_sections m.runs) a e v.given store → v.map ≡ e.map → v.key.items ≡ e.key →
    t ≡ with_store m store → Taken m n v t
taken-at m n a e v store t same r map_is key_is new_is = record {
  element = e;
  state = r.state;
  born = ap (slice_get m.store.elements) same ∙ r.born;
  there = r.there;
  map_is = map_is;
  key_is = key_is;
  given_is = r.given_is;
  new_is = new_is ∙ (ap (with_store m) r.new_is ∙ ap (λ x. with_store m (reclaimed m.store x e r.state)) (sym same));
}

taken : (s : Schedule) (v : ReapedElement) (t : Machine) →
    PerformsEvent s.machine events.Reap (answers.Reaped (Some v)) t →
    (f : TakesFirst s events.Reap (answers.Reaped (Some v)) t) → Taken s.machine f.0 v t
taken s v t h f =
    let same : f.0 ≡ h.0 = taken-is s.machine.store.elements t.store.elements f.0 h.0 h.1 f.1
    (ap (λ x. x.store.elements) h.6 ∙ ap (λ x. x.elements) h.3.new_is) f.3 f.4 in
    taken-at s.machine f.0 h.0 h.1 v h.2 t same h.3 h.4 h.5 h.6

reap-some : (s : Schedule) (v w : ReapedElement) (t u : Machine) (n k : ℕ) → first_ready s.queues ≡ Some n →
    first_ready s.queues ≡ Some k → Taken s.machine n v t → Taken s.machine k w u →
    (answers.Reaped (Some v) ≡ answers.Reaped (Some w)) × (t ≡ u)
reap-some s v w t u n k h g a b =
    let one = taken-one s.machine n v w t u a (subst (λ x. Taken s.machine x w u) (both _ k n g h) b) in
    (ap (λ x. answers.Reaped (Some x)) one.0, one.1)

-- what one event does
module _ (s : Schedule) (w : IsScheduled s) (t u : Machine) where
  start-does_one : (prog : ℕ) (ctx : ArrayVec ℕ) (a b : Answer) → PerformsEvent s.machine (events.Start prog ctx) a t
      → PerformsEvent s.machine (events.Start prog ctx) b u → (a ≡ b) × (t ≡ u)
  start-does_one prog ctx (answers.Started q) (answers.Started r) h g = start-one s.machine prog ctx.items q r t u h g
  start-does_one prog ctx (answers.Started q) b h g = absurd g
  start-does_one prog ctx a b h g = absurd h

  update-does_one : (map : ℕ) (key value : ArrayVec ℕ) (flags : ℕ) (a b : Answer) →
      TakesOldest s.machine.store t.store → TakesOldest s.machine.store u.store →
      PerformsEvent s.machine (events.Update map key value flags) a t →
      PerformsEvent s.machine (events.Update map key value flags) b u → (a ≡ b) × (t ≡ u)
  update-does_one map key value flags (answers.Ret ret) (answers.Ret told) old_t old_u h g =
      let one = updates-one s.machine.store (open_sections s.machine.runs) map key.items value.items flags ret told h.0 g.0 w.consistent.single
      (subst (λ x. TakesOldest s.machine.store x.store) h.2 old_t) (subst (λ x. TakesOldest s.machine.store x.store) g.2 old_u) h.1 g.1 in
      (ap answers.Ret one.0, h.2 ∙ (ap (with_store s.machine) one.1 ∙ sym g.2))
  update-does_one map key value flags (answers.Ret ret) b old_t old_u h g = absurd g
  update-does_one map key value flags a b old_t old_u h g = absurd h

  delete-does_one : (map : ℕ) (key : ArrayVec ℕ) (a b : Answer) → PerformsEvent s.machine (events.Delete map key) a t
      → PerformsEvent s.machine (events.Delete map key) b u → (a ≡ b) × (t ≡ u)
  delete-does_one map key (answers.Ret ret) (answers.Ret told) h g =
      let one = deletes-one s.machine.store (open_sections s.machine.runs) map key.items ret told h.0 g.0 w.consistent.single h.1 g.1 in
      (ap answers.Ret one.0, h.2 ∙ (ap (with_store s.machine) one.1 ∙ sym g.2))
  delete-does_one map key (answers.Ret ret) b h g = absurd g
  delete-does_one map key a b h g = absurd h

  read-does_one : (map : ℕ) (key : ArrayVec ℕ) (a b : Answer) → PerformsEvent s.machine (events.Read map key) a t →
      PerformsEvent s.machine (events.Read map key) b u → (a ≡ b) × (t ≡ u)
  read-does_one map key (answers.Found (Some v)) (answers.Found (Some x)) h g = (
    ap (λ y. answers.Found (Some y)) (items-one v x
        (read-one s.machine map key.items v.items x.items w.consistent.single h.0 g.0)),
    meet _ _ _ h.1 g.1,
  )
  read-does_one map key (answers.Found None) (answers.Found None) h g = (refl, meet _ _ _ h.1 g.1)
  read-does_one map key (answers.Found (Some v)) (answers.Found None) h g = absurd (g.0 h.0.n h.0.linked)
  read-does_one map key (answers.Found None) (answers.Found (Some x)) h g = absurd (h.0 g.0.n g.0.linked)
  read-does_one map key (answers.Found (Some v)) b h g = absurd g
  read-does_one map key (answers.Found None) b h g = absurd g
  read-does_one map key a b h g = absurd h

  advance-does_one : (a b : Answer) → PerformsEvent s.machine events.Advance a t → PerformsEvent s.machine events.Advance b u → (a ≡ b) × (t ≡ u)
  advance-does_one answers.Done answers.Done h g = (refl, meet _ _ _ h g)
  advance-does_one answers.Done b h g = absurd g
  advance-does_one a b h g = absurd h

  drop-does_one : (r : ℕ) (a b : Answer) → PerformsEvent s.machine (events.Drop r) a t → PerformsEvent s.machine (events.Drop r) b u → (a ≡ b) × (t ≡ u)
  drop-does_one r answers.Done answers.Done h g = (refl, meet _ _ _ h g)
  drop-does_one r answers.Done b h g = absurd g
  drop-does_one r a b h g = absurd h

  reap-does_one : (a b : Answer) → TakesFirst s events.Reap a t → TakesFirst s events.Reap b u →
      PerformsEvent s.machine events.Reap a t → PerformsEvent s.machine events.Reap b u → (a ≡ b) × (t ≡ u)
  reap-does_one (answers.Reaped (Some v)) (answers.Reaped (Some x)) f k h g = reap-some s v x t u f.0 k.0 f.2 k.2 (taken s v t h f) (taken s x u g k)
  reap-does_one (answers.Reaped None) (answers.Reaped None) f k h g = (refl, meet _ _ _ h g)
  reap-does_one (answers.Reaped (Some v)) (answers.Reaped None) f k h g = never (first_ready s.queues) f.0 k f.2
  reap-does_one (answers.Reaped None) (answers.Reaped (Some x)) f k h g = never (first_ready s.queues) k.0 f k.2
  reap-does_one (answers.Reaped (Some v)) b f k h g = absurd g
  reap-does_one (answers.Reaped None) b f k h g = absurd g
  reap-does_one a b f k h g = absurd h

  performs-one : (event : Event) (a b : Answer) → TakesFirst s event a t → TakesFirst s event b u →
      TakesOldest s.machine.store t.store → TakesOldest s.machine.store u.store → PerformsEvent s.machine event a t →
      PerformsEvent s.machine event b u → (a ≡ b) × (t ≡ u)
  performs-one (events.Start prog ctx) a b f k old_t old_u h g = start-does_one prog ctx a b h g
  performs-one (events.Step r) a b f k old_t old_u h g = steps-one s.machine r a b t u w.consistent.single old_t old_u h g
  performs-one (events.Update map key value flags) a b f k old_t old_u h g = update-does_one map key value flags a b old_t old_u h g
  performs-one (events.Delete map key) a b f k old_t old_u h g = delete-does_one map key a b h g
  performs-one (events.Read map key) a b f k old_t old_u h g = read-does_one map key a b h g
  performs-one events.Advance a b f k old_t old_u h g = advance-does_one a b h g
  performs-one events.Reap a b f k old_t old_u h g = reap-does_one a b f k h g
  performs-one (events.Drop r) a b f k old_t old_u h g = drop-does_one r a b h g

  answers-one : (o : Option EventRefusal) (event : Event) (a b : Answer) → TakesFirst s event a t →
      TakesFirst s event b u → TakesOldest s.machine.store t.store → TakesOldest s.machine.store u.store →
      Answers o s.machine event a t → Answers o s.machine event b u → (a ≡ b) × (t ≡ u)
  answers-one None event a b f k old_t old_u h g = performs-one event a b f k old_t old_u h g
  answers-one (Some r) event a b f k old_t old_u h g = (meet _ _ _ h.0 g.0, meet _ _ _ h.1 g.1)

pub one_answer : (s t u : Schedule) (event : Event) (a b : Answer) → IsScheduled s → DoesScheduled s event a t → DoesScheduled s event b u → (a ≡ b) × (t ≡ u)
one_answer s t u event a b w h g =
    let one = answers-one s w t.machine u.machine (refusal s.machine event) event a b h.first g.first h.oldest g.oldest h.step g.step in
    (one.0, h.lists ∙ (ap (scheduled s event) one.1 ∙ sym g.lists))

-- a whole history
same-cons : {A : Type 0} (x y : A) (xs ys : List A) → x ≡ y → xs ≡ ys → x ∷ xs ≡ y ∷ ys
same-cons x y xs ys h g = ap (λ z. z ∷ xs) h ∙ ap (λ zs. y ∷ zs) g

pub one_history : (s : Schedule) (events : List Event) (answers others : List Answer) (states rest : List Schedule) →
    IsScheduled s → IsScheduledHistory s events answers states → IsScheduledHistory s events others rest →
    (answers ≡ others) × (states ≡ rest)
one_history s [] [] [] [] [] w h g = (refl, refl)
one_history s (event ∷ events) (a ∷ answers) (b ∷ others) (t ∷ states) (u ∷ rest) w h g =
    let one = one_answer s t u event a b w h.0 g.0 in
    let more = one_history t events answers others states rest (stays_scheduled s t event a w h.0) h.1
    (subst (λ x. IsScheduledHistory x events others rest) (sym one.1) g.1) in
    (same-cons a b answers others one.0 more.0, same-cons t u states rest one.1 more.1)
one_history s [] [] (b ∷ others) [] rest w h g = absurd g
one_history s [] [] [] [] (u ∷ rest) w h g = absurd g
one_history s (event ∷ events) (a ∷ answers) [] (t ∷ states) rest w h g = absurd g
one_history s (event ∷ events) (a ∷ answers) (b ∷ others) (t ∷ states) [] w h g = absurd g
one_history s events answers others states rest w h g = absurd h
