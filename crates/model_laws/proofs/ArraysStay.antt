-- The elements of arrays stay linked in each step of the machine.
use Rattle.bpf_model.proofs.Prelude.{◌≡◌, ℕ, false, List, ◌++◌, length, ◌<◌, arith, Option, Some, None, inl, inr, refl, sym, ap, ◌∙◌, subst, Result, ℤ, ◌+ℤ◌}
use Rattle.bpf_model.proofs.Prelude.{slice_get, slice_set, none-some, same_Some, slice_get_within, operand_value, byte_count, region_offset, helper_of, State}
use Rattle.bpf_model.proofs.Prelude.{Environment, Outcome, Section, Element, Unlinked, Reclaimed, with_value, with_life, set_to, accessible, changed}
use Rattle.bpf_model.proofs.Prelude.{overwritten, unlinked, MapState, LooksUp, Writes, Settles, Updates, RemovesFrom, Deletes, Reclaims, Run, Machine}
use Rattle.bpf_model.proofs.Prelude.{environment, open_sections, stored_in, with_bytes, DoesEvent, get-append, get-below, get-set_cases}
use Rattle.model_laws.proofs.Prelude.{Insn, Call, Load, LoadSigned, Store, Helper, Errno, Event, Answer, Given, MapKind, Hash, Array, Value, Nothing, Number}
use Rattle.model_laws.proofs.Prelude.{Pointer, Ctx, Frame, MapRef, Elem, StepsByKind, AccessesElement, Acts, HelperStep, element_store, StaysLinked}
use Rattle.bpf_model.specs.declared.insn.CallKind.TheVariants as kinds
use Rattle.bpf_model.specs.declared.call.Helper.TheVariants as helpers
use Rattle.bpf_model.specs.MapState as map_state
use Rattle.model_laws.proofs.Changing.{StoreChange, ByUpdate, ByDelete, ByReclaim, Change, Still, Begins, Steps, Stores, Leaves, change}
use Rattle.model_laws.proofs.Computations.{first-step}
use Rattle.model_laws.proofs.Lives.{linked≢unlinked}
use Rattle.model_laws.proofs.Stores.{touches-found}
use Rattle.model_laws.proofs.Requests.{run_by_kind}

-- each element that was there and is of no array, or linked, is so afterwards
abbrev Fixed : List MapState → List Element → List Element → Type 0
Fixed maps es fs = (n : ℕ) (e f : Element) → slice_get es n ≡ Some e → slice_get fs n ≡ Some f → StaysLinked maps e → StaysLinked maps f

fixed-same : (maps : List MapState) (es fs : List Element) → fs ≡ es → Fixed maps es fs
fixed-same maps es fs h n e f at bt stays = subst (StaysLinked maps) (same_Some e f (sym at ∙ (ap (λ l. slice_get l n) (sym h) ∙ bt))) stays

-- a change of one element that doesn't end it
fixed-set : (maps : List MapState) (es : List Element) (k : ℕ) (new : Element) →
    ((e : Element) → slice_get es k ≡ Some e → StaysLinked maps e → StaysLinked maps new) →
    Fixed maps es (slice_set es k new)
fixed-set maps es k new h n e f at bt stays = elim (get-set_cases es k n new f bt) [
  | inl x ↦ subst (StaysLinked maps) x.1 (h e (ap (slice_get es) (sym x.0) ∙ at) stays)
  | inr x ↦ subst (StaysLinked maps) (same_Some e f (sym at ∙ x.1)) stays
]

fixed-set_to : (maps : List MapState) (g : Element → Element) (es : List Element) (k : ℕ) (o : Option Element) →
    slice_get es k ≡ o → ((e : Element) → slice_get es k ≡ Some e → StaysLinked maps e → StaysLinked maps (g e)) →
    Fixed maps es (set_to g es k o)
fixed-set_to maps g es k None is h = fixed-same maps es es refl
fixed-set_to maps g es k (Some x) is h = fixed-set maps es k (g x) (λ e at stays. h x is (subst (StaysLinked maps) (same_Some e x (sym at ∙ is)) stays))

fixed-changed : (maps : List MapState) (g : Element → Element) (es : List Element) (k : ℕ) →
    ((e : Element) → slice_get es k ≡ Some e → StaysLinked maps e → StaysLinked maps (g e)) →
    Fixed maps es (changed g es k)
fixed-changed maps g es k h = fixed-set_to maps g es k (slice_get es k) refl h

fixed-value : (maps : List MapState) (value : List ℕ) (es : List Element) (k : ℕ) → Fixed maps es (changed (with_value value) es k)
fixed-value maps value es k = fixed-changed maps (with_value value) es k (λ e at stays. stays)

fixed-overwritten : (maps : List MapState) (value : List ℕ) (es : List Element) (found : Option ℕ) → Fixed maps es (overwritten value es found)
fixed-overwritten maps value es None = fixed-same maps es es refl
fixed-overwritten maps value es (Some n) = fixed-value maps value es n

-- an unlinking, in a map that is no array
fixed-unlinked : (opened : List Section) (s : map_state.Store) (map : ℕ) (m : MapState) (key : List ℕ)
    (found : Option ℕ) → slice_get s.maps map ≡ Some m → Hash ≡ m.shape.kind → LooksUp s map key found →
    Fixed s.maps s.elements (unlinked opened s.elements found)
fixed-unlinked opened s map m key None at kind l = fixed-same s.maps s.elements s.elements refl
fixed-unlinked opened s map m key (Some n) at kind l = fixed-changed s.maps (with_life (Unlinked opened)) s.elements n (λ e bt stays state there array.
    let e_is : l.element ≡ e = same_Some l.element e (sym l.born ∙ bt) in
    let in_map : e.map ≡ map = ap (λ (x : Element). x.map) (sym e_is) ∙ l.in_map in
    let same : m ≡ state = same_Some m state (sym at ∙ (ap (slice_get s.maps) (sym in_map) ∙ there)) in
    absurd (hash-array (kind ∙ (ap (λ x. x.shape.kind) same ∙ array))))
  where
    hash-array : Hash ≡ Array → ⊥
    hash-array h = cc

fixed-append : (maps : List MapState) (es fs more : List Element) → Fixed maps es fs → length fs ≡ length es → Fixed maps es (fs ++ more)
fixed-append maps es fs more h same n e f at bt stays =
    let less : n < length es = slice_get_within es n e at in
    let g = get-below fs n (omega arith) in
    h n e f at (g.1 ∙ ap Some (same_Some g.0 f (sym (get-append fs more n g.0 g.1) ∙ bt))) stays

-- a store to an element
fixed-stored : (maps : List MapState) (es new : List Element) (n width : ℕ) (offset : ℤ) (v : ℕ) (e : Element) →
    stored_in es n width offset v e ≡ Some new → Fixed maps es new
fixed-stored maps es new n width offset v e h =
    let s = first-step (region_offset (length e.value) width offset) (λ at. Some (changed (with_value (with_bytes at width v e.value)) es n)) new h in
    subst (Fixed maps es) (same_Some _ _ s.2) (fixed-value maps (with_bytes s.0 width v e.value) es n)

fixed-store : (maps : List MapState) (es new : List Element) (width : ℕ) (offset : ℤ) (v base : Value) →
    element_store es width offset v base ≡ Some new → Fixed maps es new
fixed-store maps es new width offset Nothing base h = absurd (none-some new h)
fixed-store maps es new width offset (Pointer r) base h = absurd (none-some new h)
fixed-store maps es new width offset (Number v) Nothing h = absurd (none-some new h)
fixed-store maps es new width offset (Number v) (Number n) h = absurd (none-some new h)
fixed-store maps es new width offset (Number v) (Pointer (Ctx o)) h = absurd (none-some new h)
fixed-store maps es new width offset (Number v) (Pointer (Frame o)) h = absurd (none-some new h)
fixed-store maps es new width offset (Number v) (Pointer (MapRef m)) h = absurd (none-some new h)
fixed-store maps es new width offset (Number v) (Pointer (Elem n o)) h =
    let s = first-step (accessible es n) (stored_in es n width (o +ℤ offset) v) new h in
    fixed-stored maps es new n width (o +ℤ offset) v s.0 s.2

fixed-access : (i : Insn) (maps : List MapState) (es : List Element) (m : State) (out : Outcome) (new : List Element)
    → AccessesElement i es m out new → Fixed maps es new
fixed-access (Load width dst src offset) maps es m out new h = fixed-same maps es new h.3
fixed-access (LoadSigned width dst src offset) maps es m out new h = fixed-same maps es new h.3
fixed-access (Store width dst offset src) maps es m out new h = fixed-store maps es new (byte_count width) offset (operand_value src m.regs) (m.regs dst) h.0
fixed-access i maps es m out new h = absurd h

fixed-acts : (i : Insn) (maps : List MapState) (env : Environment) (es : List Element) (m : State) (out : Outcome)
    (new : List Element) → Acts i env es m out new → Fixed maps es new
fixed-acts i maps env es m out new (inl h) = fixed-same maps es new h.1
fixed-acts i maps env es m out new (inr h) = fixed-access i maps es m out new h

-- what a step does
abbrev Fixes : map_state.Store → map_state.Store → Type 0
Fixes s new = Fixed s.maps s.elements new.elements

fixes-at : (s new : map_state.Store) → new ≡ s → Fixes s new
fixes-at s new h = fixed-same s.maps s.elements new.elements (ap (λ x. x.elements) h)

fixes-with : (s new : map_state.Store) (es : List Element) → Fixed s.maps s.elements es → new.elements ≡ es → Fixes s new
fixes-with s new es h e = subst (Fixed s.maps s.elements) (sym e) h

fixes-writes : (kind : MapKind) (s : map_state.Store) (opened : List Section) (map : ℕ) (m : MapState)
    (key value : List ℕ) (found : Option ℕ) (new : map_state.Store) → kind ≡ m.shape.kind →
    slice_get s.maps map ≡ Some m → LooksUp s map key found → Writes kind s opened map m key value found new →
    Fixes s new
fixes-writes Hash s opened map m key value found new is at l r =
    fixes-with s new _ (fixed-append s.maps s.elements (unlinked opened s.elements found) _
    (fixed-unlinked opened s map m key found at is l) (touches-found false opened s map key found l).births)
    (ap (λ x. x.elements) r.new_is)
fixes-writes Array s opened map m key value found new is at l r = fixes-with s new _ (fixed-overwritten s.maps value s.elements found) (ap (λ x. x.elements) r)

fixes-settles : (error : Option Errno) (s : map_state.Store) (opened : List Section) (map : ℕ) (m : MapState)
    (key value : List ℕ) (found : Option ℕ) (ret : Result (Unit {0}) Errno) (new : map_state.Store) →
    slice_get s.maps map ≡ Some m → LooksUp s map key found →
    Settles error ret s new (Writes m.shape.kind s opened map m key value found new) → Fixes s new
fixes-settles None s opened map m key value found ret new at l h = fixes-writes m.shape.kind s opened map m key value found new refl at l h.1
fixes-settles (Some e) s opened map m key value found ret new at l h = fixes-at s new h.1

fixes-updates : (s : map_state.Store) (opened : List Section) (map : ℕ) (key value : List ℕ) (flags : ℕ)
    (ret : Result (Unit {0}) Errno) (new : map_state.Store) → Updates s opened map key value flags ret new →
    Fixes s new
fixes-updates s opened map key value flags ret new u = fixes-settles _ s opened map u.state key value u.found ret new u.there u.lookup u.settled

fixes-removes : (kind : MapKind) (s : map_state.Store) (opened : List Section) (map : ℕ) (m : MapState) (key : List ℕ)
    (found : Option ℕ) (ret : Result (Unit {0}) Errno) (new : map_state.Store) → kind ≡ m.shape.kind →
    slice_get s.maps map ≡ Some m → LooksUp s map key found → RemovesFrom kind found opened ret s new → Fixes s new
fixes-removes Hash s opened map m key None ret new is at l h = fixes-at s new h.1
fixes-removes Hash s opened map m key (Some n) ret new is at l h =
    fixes-with s new _ (fixed-unlinked opened s map m key (Some n) at is l) (ap (λ x. x.elements) h.1)
fixes-removes Array s opened map m key found ret new is at l h = fixes-at s new h.1

fixes-deletes : (s : map_state.Store) (opened : List Section) (map : ℕ) (key : List ℕ) (ret : Result (Unit {0}) Errno)
    (new : map_state.Store) → Deletes s opened map key ret new → Fixes s new
fixes-deletes s opened map key ret new d = fixes-removes d.state.shape.kind s opened map d.state key d.found ret new refl d.there d.lookup d.removed

fixes-reclaims : (s : map_state.Store) (opened : List Section) (n : ℕ) (e : Element) (given : Given)
    (new : map_state.Store) → Reclaims s opened n e given new → Fixes s new
fixes-reclaims s opened n e given new r = fixes-with s new _ (fixed-set s.maps s.elements n (with_life Reclaimed e) (λ x at stays state there array.
    let same : x ≡ e = same_Some x e (sym at ∙ r.born) in
    absurd (linked≢unlinked r.since (sym (stays state (ap (λ (y : Element). slice_get s.maps y.map) same ∙ there)
    array) ∙ (ap (λ (y : Element). y.life) same ∙ r.unlinked))))) (ap (λ x. x.elements) r.new_is)

fixes-helper : (h : Option Helper) (s : map_state.Store) (opened : List Section) (run : Run) (ret : Value)
    (new : map_state.Store) → HelperStep h s opened run ret new → Fixes s new
fixes-helper (Some helpers.Lookup) s opened run ret new h = fixes-at s new h.1
fixes-helper (Some helpers.Update) s opened run ret new h = fixes-updates s opened h.map h.key h.value h.flags h.outcome new h.updated
fixes-helper (Some helpers.Delete) s opened run ret new h = fixes-deletes s opened h.map h.key h.outcome new h.deleted
fixes-helper None s opened run ret new h = absurd h

fixes-insn : (i : Insn) (s : map_state.Store) (opened : List Section) (run : Run) (answer : Answer)
    (new : map_state.Store) (new_run : Run) → StepsByKind i s opened run answer new new_run → Fixes s new
fixes-insn (Call kinds.Kernel imm) s opened run answer new new_run h = fixes-at s new h.2
fixes-insn (Call kinds.Helper imm) s opened run answer new new_run h = fixes-helper (helper_of imm) s opened run h.0 new h.1
fixes-insn i s opened run answer new new_run h = fixes-with s new h.1
    (fixed-acts i s.maps (environment run) s.elements run.state h.0 h.1 h.2) (ap (λ x. x.elements) h.3)

fixes-then : (s mid new : map_state.Store) → Fixes s mid → new ≡ mid → Fixes s new
fixes-then s mid new h e = subst (Fixes s) (sym e) h

fixes-store_change : (s : map_state.Store) (opened : List Section) (new : map_state.Store) (event : Event) → StoreChange s opened new event → Fixes s new
fixes-store_change s opened new event (ByUpdate map key value flags ret u) = fixes-updates s opened map key.items value.items flags ret new u
fixes-store_change s opened new event (ByDelete map key ret d) = fixes-deletes s opened map key.items ret new d
fixes-store_change s opened new event (ByReclaim n e given r) = fixes-reclaims s opened n e given new r

fixes-change : (m new : Machine) (event : Event) (answer : Answer) → Change m new event answer → Fixes m.store new.store
fixes-change m new event answer (Still e counts) = fixes-at m.store new.store (ap (λ x. x.store) e)
fixes-change m new event answer (Begins prog ctx r pass h) = fixes-at m.store new.store (ap (λ x. x.store) h.new_is)
fixes-change m new event answer (Steps r h) = fixes-then m.store h.new_store new.store
    (fixes-insn h.step.0 m.store (open_sections m.runs) h.run answer h.new_store h.new_run
    (run_by_kind m r answer new h)) (ap (λ x. x.store) h.new_is)
fixes-change m new event answer (Stores store pass c e) =
    fixes-then m.store store new.store (fixes-store_change m.store (open_sections m.runs) store event c) (ap (λ x. x.store) e)
fixes-change m new event answer (Leaves r e) = fixes-at m.store new.store (ap (λ x. x.store) e)

pub does-fix : (m new : Machine) (event : Event) (answer : Answer) → DoesEvent m event answer new →
    (n : ℕ) (e f : Element) → slice_get m.store.elements n ≡ Some e → slice_get new.store.elements n ≡ Some f →
    StaysLinked m.store.maps e → StaysLinked m.store.maps f
does-fix m new event answer h = fixes-change m new event answer (change m new event answer h)
