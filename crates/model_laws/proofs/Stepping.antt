-- Each step of the machine lets the elements grow.
use Rattle.bpf_model.proofs.Prelude.{◌≡◌, ℕ, zero, suc, List, [], ◌∷◌, length, Option, Some, None, inl, inr, sym, ap, subst, slice_get, ℤ, ◌+ℤ◌, Result}
use Rattle.bpf_model.proofs.Prelude.{operand_value, byte_count, region_offset, helper_of, State, Environment, Outcome, Section, Element, with_value}
use Rattle.bpf_model.proofs.Prelude.{with_life, accessible, changed, unlinked, LooksUp, Replaces, Writes, Settles, Updates, Removes, RemovesFrom, Deletes}
use Rattle.bpf_model.proofs.Prelude.{Reclaims, Run, Machine, environment, open_sections, with_store, StepsRun, stored_in, with_bytes, DoesEvent, IsHistory}
use Rattle.bpf_model.proofs.Prelude.{Reclaimed, HasLife}
use Rattle.model_laws.proofs.Prelude.{Insn, Call, Load, LoadSigned, Store, Helper, Errno, Event, Answer, Value, Nothing, Number, Pointer, Ctx, Frame, MapRef}
use Rattle.model_laws.proofs.Prelude.{Elem, MapKind, Hash, Array, StepsByKind, AccessesElement, Acts, HelperStep, element_store, ElementsGrow}
use Rattle.bpf_model.specs.declared.insn.CallKind.TheVariants as kinds
use Rattle.bpf_model.specs.declared.call.Helper.TheVariants as helpers
use Rattle.bpf_model.specs.MapState as map_state
use Rattle.model_laws.proofs.Changing.{StoreChange, ByUpdate, ByDelete, ByReclaim, Change, Still, Begins, Steps, Stores, Leaves, change}
use Rattle.model_laws.proofs.Computations.{first-step}
use Rattle.model_laws.proofs.Growing.{grows-same, grows-along, grows-append, grows-set, grows-changed, grows-overwritten, grows-unlinked, follows-value}
use Rattle.model_laws.proofs.Growing.{follows-reclaimed, stays-reclaimed}
use Rattle.model_laws.proofs.Requests.{run_by_kind}

-- a store to an element
grows-stored : (es new : List Element) (n width : ℕ) (offset : ℤ) (v : ℕ) (e : Element) → stored_in es n width offset v e ≡ Some new → ElementsGrow es new
grows-stored es new n width offset v e h =
    let s = first-step (region_offset (length e.value) width offset) (λ at. Some (changed (with_value (with_bytes at width v e.value)) es n)) new h in
    let same : changed (with_value (with_bytes s.0 width v e.value)) es n ≡ new = cc in
    subst (ElementsGrow es) same (grows-changed (with_value (with_bytes s.0 width v e.value)) es n (λ x g. follows-value (with_bytes s.0 width v e.value) x))

grows-store : (es new : List Element) (width : ℕ) (offset : ℤ) (v base : Value) → element_store es width offset v base ≡ Some new → ElementsGrow es new
grows-store es new width offset Nothing base h = absurd (cc)
grows-store es new width offset (Pointer r) base h = absurd (cc)
grows-store es new width offset (Number v) Nothing h = absurd (cc)
grows-store es new width offset (Number v) (Number n) h = absurd (cc)
grows-store es new width offset (Number v) (Pointer (Ctx o)) h = absurd (cc)
grows-store es new width offset (Number v) (Pointer (Frame o)) h = absurd (cc)
grows-store es new width offset (Number v) (Pointer (MapRef m)) h = absurd (cc)
grows-store es new width offset (Number v) (Pointer (Elem n o)) h =
    let s = first-step (accessible es n) (stored_in es n width (o +ℤ offset) v) new h in
    grows-stored es new n width (o +ℤ offset) v s.0 s.2

-- an access to an element
grows-access : (i : Insn) (es : List Element) (m : State) (out : Outcome) (new : List Element) → AccessesElement i es m out new → ElementsGrow es new
grows-access (Load width dst src offset) es m out new h = grows-along es new h.3
grows-access (LoadSigned width dst src offset) es m out new h = grows-along es new h.3
grows-access (Store width dst offset src) es m out new h = grows-store es new (byte_count width) offset (operand_value src m.regs) (m.regs dst) h.0
grows-access i es m out new h = absurd h

grows-act : (i : Insn) (env : Environment) (es : List Element) (m : State) (out : Outcome) (new : List Element) → Acts i env es m out new → ElementsGrow es new
grows-act i env es m out new (inl h) = grows-along es new h.1
grows-act i env es m out new (inr h) = grows-access i es m out new h

-- what was found, or nothing
grows-found : (s : map_state.Store) (opened : List Section) (map : ℕ) (key : List ℕ) (found : Option ℕ) →
    LooksUp s map key found → ElementsGrow s.elements (unlinked opened s.elements found)
grows-found s opened map key None h = grows-same s.elements
grows-found s opened map key (Some n) h = grows-unlinked opened s.elements map key n h

grows-replaces : (s : map_state.Store) (opened : List Section) (map : ℕ) (m : map_state.MapState) (key value : List ℕ)
    (found : Option ℕ) (new : map_state.Store) → LooksUp s map key found → Replaces s opened map m key value found new
    → ElementsGrow s.elements new.elements
grows-replaces s opened map m key value found new l r =
    subst (λ x. ElementsGrow s.elements x) (sym (ap (λ x. x.elements) r.new_is))
    (grows-append s.elements (unlinked opened s.elements found) _ (grows-found s opened map key found l))

grows-writes : (kind : MapKind) (s : map_state.Store) (opened : List Section) (map : ℕ) (m : map_state.MapState)
    (key value : List ℕ) (found : Option ℕ) (new : map_state.Store) → LooksUp s map key found →
    Writes kind s opened map m key value found new → ElementsGrow s.elements new.elements
grows-writes Hash s opened map m key value found new l h = grows-replaces s opened map m key value found new l h
grows-writes Array s opened map m key value found new l h =
    subst (λ x. ElementsGrow s.elements x) (sym (ap (λ x. x.elements) h)) (grows-overwritten value s.elements found)

grows-settles : (kind : MapKind) (s : map_state.Store) (opened : List Section) (map : ℕ) (m : map_state.MapState)
    (key value : List ℕ) (found : Option ℕ) (new : map_state.Store) (error : Option Errno)
    (ret : Result (Unit {0}) Errno) →
    LooksUp s map key found → Settles error ret s new (Writes kind s opened map m key value found new) → ElementsGrow s.elements new.elements
grows-settles kind s opened map m key value found new None ret l h = grows-writes kind s opened map m key value found new l h.1
grows-settles kind s opened map m key value found new (Some e) ret l h = grows-along s.elements new.elements (ap (λ x. x.elements) h.1)

grows-updates : (s : map_state.Store) (opened : List Section) (map : ℕ) (key value : List ℕ) (flags : ℕ)
    (ret : Result (Unit {0}) Errno) (new : map_state.Store) → Updates s opened map key value flags ret new →
    ElementsGrow s.elements new.elements
grows-updates s opened map key value flags ret new u = grows-settles u.state.shape.kind s opened map u.state key value u.found new _ ret u.lookup u.settled

grows-removes : (s : map_state.Store) (opened : List Section) (map : ℕ) (key : List ℕ) (ret : Result (Unit {0}) Errno)
    (new : map_state.Store) (found : Option ℕ) → LooksUp s map key found → Removes found opened ret s new →
    ElementsGrow s.elements new.elements
grows-removes s opened map key ret new None l h = grows-along s.elements new.elements (ap (λ x. x.elements) h.1)
grows-removes s opened map key ret new (Some n) l h = subst (λ x. ElementsGrow s.elements x)
    (sym (ap (λ x. x.elements) h.1)) (grows-unlinked opened s.elements map key n l)

grows-deletes : (s : map_state.Store) (opened : List Section) (map : ℕ) (key : List ℕ) (ret : Result (Unit {0}) Errno)
    (new : map_state.Store) → Deletes s opened map key ret new → ElementsGrow s.elements new.elements
grows-deletes s opened map key ret new d = by d.state.shape.kind d.removed
  where
    by : (kind : MapKind) → RemovesFrom kind d.found opened ret s new → ElementsGrow s.elements new.elements
    by Hash h = grows-removes s opened map key ret new d.found d.lookup h
    by Array h = grows-along s.elements new.elements (ap (λ x. x.elements) h.1)

grows-reclaims : (s : map_state.Store) (opened : List Section) (n : ℕ) (e : Element) (given : _)
    (new : map_state.Store) → Reclaims s opened n e given new → ElementsGrow s.elements new.elements
grows-reclaims s opened n e given new r = subst (λ x. ElementsGrow s.elements x) (sym (ap (λ x. x.elements) r.new_is))
    (grows-set s.elements n e (with_life Reclaimed e) r.born (follows-reclaimed e r.since r.unlinked))

grows-helper : (h : Option Helper) (s : map_state.Store) (opened : List Section) (run : Run) (ret : Value)
    (new : map_state.Store) → HelperStep h s opened run ret new → ElementsGrow s.elements new.elements
grows-helper (Some helpers.Lookup) s opened run ret new h = grows-along s.elements new.elements (ap (λ x. x.elements) h.1)
grows-helper (Some helpers.Update) s opened run ret new h = grows-updates s opened h.map h.key h.value h.flags h.outcome new h.updated
grows-helper (Some helpers.Delete) s opened run ret new h = grows-deletes s opened h.map h.key h.outcome new h.deleted
grows-helper None s opened run ret new h = absurd h

grows-alone : (i : Insn) (s : map_state.Store) (run : Run) (env : Environment) (out : Outcome) (es : List Element)
    (new : map_state.Store) → Acts i env s.elements run.state out es → new ≡ map_state.with_elements es s →
    ElementsGrow s.elements new.elements
grows-alone i s run env out es new a h = subst (λ x. ElementsGrow s.elements x) (sym (ap (λ x. x.elements) h)) (grows-act i env s.elements run.state out es a)

grows-insn : (i : Insn) (s : map_state.Store) (opened : List Section) (run : Run) (answer : Answer)
    (new : map_state.Store) (new_run : Run) → StepsByKind i s opened run answer new new_run →
    ElementsGrow s.elements new.elements
grows-insn (Call kinds.Kernel imm) s opened run answer new new_run h = grows-along s.elements new.elements (ap (λ x. x.elements) h.2)
grows-insn (Call kinds.Helper imm) s opened run answer new new_run h = grows-helper (helper_of imm) s opened run h.0 new h.1
grows-insn i s opened run answer new new_run h = grows-alone i s run (environment run) h.0 h.1 new h.2 h.3

grows-run : (m : Machine) (r : ℕ) (answer : Answer) (new : Machine) → StepsRun m r answer new → ElementsGrow m.store.elements new.store.elements
grows-run m r answer new h =
    subst (λ x. ElementsGrow m.store.elements x) (sym (ap (λ x. x.store.elements) h.new_is))
    (grows-insn h.step.0 m.store (open_sections m.runs) h.run answer h.new_store h.new_run
    (run_by_kind m r answer new h))

grows-at : (m new : Machine) → new ≡ m → ElementsGrow m.store.elements new.store.elements
grows-at m new h = grows-along m.store.elements new.store.elements (ap (λ x. x.store.elements) h)

grows-store_in : (m new : Machine) (store : map_state.Store) → ElementsGrow m.store.elements store.elements →
    new ≡ with_store m store → ElementsGrow m.store.elements new.store.elements
grows-store_in m new store g h = subst (λ x. ElementsGrow m.store.elements x) (sym (ap (λ x. x.store.elements) h)) g

grows-store_change : (s : map_state.Store) (opened : List Section) (new : map_state.Store) (event : Event) → StoreChange s opened new event →
    ElementsGrow s.elements new.elements
grows-store_change s opened new event (ByUpdate map key value flags ret u) = grows-updates s opened map key.items value.items flags ret new u
grows-store_change s opened new event (ByDelete map key ret d) = grows-deletes s opened map key.items ret new d
grows-store_change s opened new event (ByReclaim n e given r) = grows-reclaims s opened n e given new r

grows-change : (m new : Machine) (event : Event) (answer : Answer) → Change m new event answer → ElementsGrow m.store.elements new.store.elements
grows-change m new event answer (Still e counts) = grows-at m new e
grows-change m new event answer (Begins prog ctx r pass h) = grows-along m.store.elements new.store.elements (ap (λ x. x.store.elements) h.new_is)
grows-change m new event answer (Steps r h) = grows-run m r answer new h
grows-change m new event answer (Stores store pass c e) = grows-store_in m new store (grows-store_change m.store (open_sections m.runs) store event c) e
grows-change m new event answer (Leaves r e) = grows-along m.store.elements new.store.elements (ap (λ x. x.store.elements) e)

pub elements_only_grow : (m new : Machine) (event : Event) (answer : Answer) → DoesEvent m event answer new → ElementsGrow m.store.elements new.store.elements
elements_only_grow m new event answer h = grows-change m new event answer (change m new event answer h)

pub reclaimed_for_ever : (m later : Machine) (events : List Event) (answers : List Answer) (states : List Machine)
    (j n : ℕ) → IsHistory m events answers states → slice_get states j ≡ Some later →
    HasLife m.store.elements n Reclaimed → HasLife later.store.elements n Reclaimed
reclaimed_for_ever m later [] [] [] j n h at life = absurd (cc)
reclaimed_for_ever m later (event ∷ events) (answer ∷ answers) (next ∷ states) zero n h at life =
    let same : next ≡ later = cc in
    subst (λ x. HasLife x.store.elements n Reclaimed) same
    (stays-reclaimed m.store.elements next.store.elements n (elements_only_grow m next event answer h.0) life)
reclaimed_for_ever m later (event ∷ events) (answer ∷ answers) (next ∷ states) (suc j) n h at life =
    reclaimed_for_ever next later events answers states j n h.1 at
    (stays-reclaimed m.store.elements next.store.elements n (elements_only_grow m next event answer h.0) life)
reclaimed_for_ever m later events answers states j n h at life = absurd h
