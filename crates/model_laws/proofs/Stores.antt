-- What a step of the machine does to its elements and maps.
use Rattle.bpf_model.proofs.Prelude.{◌≡◌, ℕ, zero, suc, ◌+◌, List, [], ◌∷◌, ◌++◌, length, Option, Some, None, ◌⊎◌, inl, inr, refl, sym, ap, ◌∙◌, Bool, true}
use Rattle.bpf_model.proofs.Prelude.{false, subst, Result, ℤ, pos, negsuc, ◌+ℤ◌, slice_get, slice_set, ◌==◌, ◌&&◌, nat_le, if◌then◌else◌, cases_eq, eqb-true}
use Rattle.bpf_model.proofs.Prelude.{none-some, same_Some, operand_value, ◌>>=◌, byte_count, region_offset, byte_of, helper_of, State, Environment, Outcome}
use Rattle.bpf_model.proofs.Prelude.{Section, AllEnded, Element, Life, Linked, Unlinked, Reclaimed, IsLinkedAt, IsAbsent, with_value, with_life, set_to}
use Rattle.bpf_model.proofs.Prelude.{changed, unlinked, unless_reclaimed, accessible, newborn, overwritten, MapState, with_bag, with_elements, with_given}
use Rattle.bpf_model.proofs.Prelude.{given_of, returned, shape_in, shape_of, LooksUp, Replaces, Settles, Updates, Removes, Deletes, Writes, RemovesFrom}
use Rattle.bpf_model.proofs.Prelude.{Reclaims, Run, Machine, environment, open_sections, stored_in, with_bytes, bytes_at, bytes_from, frame_bytes, DoesEvent}
use Rattle.bpf_model.proofs.Prelude.{refusal, update_refusal, length-with_bytes, length-set, get-append, get-append_cases, get-set_cases, get-set_other}
use Rattle.bpf_model.proofs.Prelude.{get-set_there, InsnStep}
use Rattle.model_laws.proofs.Prelude.{FRAME_BYTES, Insn, Call, Load, LoadSigned, Store, Helper, Errno, Event, Answer, BadLength, Given, Free, Worn, MapShape}
use Rattle.model_laws.proofs.Prelude.{Value, Nothing, Number, Pointer, Ctx, Frame, MapRef, Elem, Cell, MapKind, Hash, Array, HasLengths, IsSingle}
use Rattle.model_laws.proofs.Prelude.{StepsByKind, AccessesElement, Acts, HelperStep, element_store, key_argument, value_argument}
use Rattle.bpf_model.specs.declared.insn.CallKind.TheVariants as kinds
use Rattle.bpf_model.specs.declared.call.Helper.TheVariants as helpers
use Rattle.bpf_model.specs.MapState as map_state
use Rattle.model_laws.proofs.Changing.{is_reap, StoreChange, ByUpdate, ByDelete, ByReclaim, Change, Still, Begins, Steps, Stores, Leaves, change}
use Rattle.model_laws.proofs.Computations.{first-step}
use Rattle.model_laws.proofs.Lives.{linked≢unlinked}
use Rattle.model_laws.proofs.Requests.{by_kind}

-- How a life goes on in one step: it stays, the element is unlinked, or (in a reap) its sections have ended.
pub data LifeMoves (reap : Bool) (opened : List Section) (old new : Life) : Type 0 where
  Stays : new ≡ old → LifeMoves reap opened old new
  Unlinks : old ≡ Linked → new ≡ Unlinked opened → LifeMoves reap opened old new
  Ends : (since : List Section) → reap ≡ true → old ≡ Unlinked since → AllEnded since opened → new ≡ Reclaimed → LifeMoves reap opened old new

pub record Alters (reap : Bool) (opened : List Section) (old new : Element) : Type 0 where
  pub in_map : new.map ≡ old.map
  pub under : new.key ≡ old.key
  pub uses : new.uses ≡ old.uses
  pub size : length new.value ≡ length old.value
  pub life : LifeMoves reap opened old.life new.life

alters-same : (reap : Bool) (opened : List Section) (e : Element) → Alters reap opened e e
alters-same reap opened e = record { in_map = refl; under = refl; uses = refl; size = refl; life = Stays refl }

-- elements that only alter
pub record Touches (reap : Bool) (opened : List Section) (old new : List Element) : Type 0 where
  pub forth : (n : ℕ) (e : Element) → slice_get old n ≡ Some e → (f : Element) × (slice_get new n ≡ Some f) × Alters reap opened e f
  pub back : (n : ℕ) (f : Element) → slice_get new n ≡ Some f → (e : Element) × (slice_get old n ≡ Some e)
  pub births : length new ≡ length old

touches-same : (reap : Bool) (opened : List Section) (es : List Element) → Touches reap opened es es
touches-same reap opened es = record { forth = λ n e h. (e, h, alters-same reap opened e); back = λ n f h. (f, h); births = refl }

forth-set : (reap : Bool) (opened : List Section) (es : List Element) (n : ℕ) (old new : Element) → slice_get es n ≡ Some old → Alters reap opened old new →
    (k : ℕ) (e : Element) → slice_get es k ≡ Some e → (f : Element) × (slice_get (slice_set es n new) k ≡ Some f) × Alters reap opened e f
forth-set reap opened es n old new h a k e at = elim (cases_eq k n) [
  | inl same ↦
      let equal : old ≡ e = same_Some old e (sym h ∙ (ap (slice_get es) (sym same) ∙ at)) in
      (new, ap (slice_get (slice_set es n new)) same ∙ get-set_there es n old new h, subst (λ x. Alters reap opened x new) equal a)
  | inr other ↦ (e, get-set_other es n k new other ∙ at, alters-same reap opened e)
]

back-set : (es : List Element) (n : ℕ) (old new : Element) → slice_get es n ≡ Some old → (k : ℕ) (f : Element) →
    slice_get (slice_set es n new) k ≡ Some f → (e : Element) × (slice_get es k ≡ Some e)
back-set es n old new h k f at = elim (get-set_cases es n k new f at) [
  | inl x ↦ (old, ap (slice_get es) x.0 ∙ h)
  | inr x ↦ (f, x.1)
]

touches-set : (reap : Bool) (opened : List Section) (es : List Element) (n : ℕ) (old new : Element) →
    slice_get es n ≡ Some old → Alters reap opened old new → Touches reap opened es (slice_set es n new)
touches-set reap opened es n old new h a = record {
  forth = forth-set reap opened es n old new h a;
  back =
      back-set es n old new h;
  births = length-set es n new;
}

touches-changed : (reap : Bool) (opened : List Section) (f : Element → Element) (es : List Element) (n : ℕ)
    (e : Element) → slice_get es n ≡ Some e → Alters reap opened e (f e) → Touches reap opened es (changed f es n)
touches-changed reap opened f es n e h a = subst (Touches reap opened es) (sym (ap (set_to f es n) h)) (touches-set reap opened es n e (f e) h a)

pub touches-found : (reap : Bool) (opened : List Section) (s : map_state.Store) (map : ℕ) (key : List ℕ)
    (found : Option ℕ) → LooksUp s map key found → Touches reap opened s.elements (unlinked opened s.elements found)
touches-found reap opened s map key None h = touches-same reap opened s.elements
touches-found reap opened s map key (Some n) h = touches-changed reap opened (with_life (Unlinked opened)) s.elements
    n h.element h.born (record {
      in_map = refl;
      under = refl;
      uses = refl;
      size = refl;
      life =
          Unlinks h.linked refl;
    })

-- what was found gets another value of the same length
pub touches-overwritten : (reap : Bool) (opened : List Section) (s : map_state.Store) (map : ℕ) (key value : List ℕ)
    (found : Option ℕ) → LooksUp s map key found → ((n : ℕ) (e : Element) → slice_get s.elements n ≡ Some e →
    e.map ≡ map → length value ≡ length e.value) → Touches reap opened s.elements (overwritten value s.elements found)
touches-overwritten reap opened s map key value None h sizes = touches-same reap opened s.elements
touches-overwritten reap opened s map key value (Some n) h sizes =
    touches-changed reap opened (with_value value) s.elements n h.element h.born
    (record { in_map = refl; under = refl; uses = refl; size = sizes n h.element h.born h.in_map; life = Stays refl })

-- An element that is born in a step: the last one, linked, alone under its key, of the lengths of its map.
pub record Born (s new : map_state.Store) (n : ℕ) (f : Element) : Type 0 where
  pub last : n ≡ length s.elements
  pub linked : f.life ≡ Linked
  pub only : (a : ℕ) → IsLinkedAt new.elements f.map f.key a → a ≡ n
  pub fits : HasLengths s.maps f

abbrev pub KeepsShapes : List MapState → List MapState → Type 0
KeepsShapes old new = (k : ℕ) (state : MapState) → slice_get old k ≡ Some state → (next : MapState) × (slice_get new k ≡ Some next) × (next.shape ≡ state.shape)

pub record StoreMoves (reap : Bool) (opened : List Section) (s new : map_state.Store) : Type 0 where
  pub forth : (n : ℕ) (e : Element) → slice_get s.elements n ≡ Some e → (f : Element) × (slice_get new.elements n ≡ Some f) × Alters reap opened e f
  pub back : (n : ℕ) (f : Element) → slice_get new.elements n ≡ Some f → ((e : Element) × (slice_get s.elements n ≡ Some e)) ⊎ Born s new n f
  pub shapes : KeepsShapes s.maps new.maps
  pub maps : length new.maps ≡ length s.maps

shapes-same : (maps : List MapState) → KeepsShapes maps maps
shapes-same maps k state h = (state, h, refl)

shapes-set : (maps : List MapState) (n : ℕ) (old new : MapState) → slice_get maps n ≡ Some old → new.shape ≡ old.shape → KeepsShapes maps (slice_set maps n new)
shapes-set maps n old new h e k state at = elim (cases_eq k n) [
  | inl same ↦
      let equal : old ≡ state = same_Some old state (sym h ∙ (ap (slice_get maps) (sym same) ∙ at)) in
      (new, ap (slice_get (slice_set maps n new)) same ∙ get-set_there maps n old new h, e ∙ ap (λ x. x.shape) equal)
  | inr other ↦ (state, get-set_other maps n k new other ∙ at, refl)
]

moves-touches : (reap : Bool) (opened : List Section) (s new : map_state.Store) →
    Touches reap opened s.elements new.elements → KeepsShapes s.maps new.maps → length new.maps ≡ length s.maps →
    StoreMoves reap opened s new
moves-touches reap opened s new t shapes maps = record { forth = t.forth; back = λ n f h. inl (t.back n f h); shapes = shapes; maps = maps }

pub moves-same : (reap : Bool) (opened : List Section) (s new : map_state.Store) → new ≡ s → StoreMoves reap opened s new
moves-same reap opened s new e = subst (StoreMoves reap opened s) (sym e)
    (moves-touches reap opened s s (touches-same reap opened s.elements) (shapes-same s.maps) refl)

moves-elements : (reap : Bool) (opened : List Section) (s new : map_state.Store) (es : List Element) →
    Touches reap opened s.elements es → new ≡ with_elements es s → StoreMoves reap opened s new
moves-elements reap opened s new es t e = subst (StoreMoves reap opened s) (sym e)
    (moves-touches reap opened s (with_elements es s) t (shapes-same s.maps) refl)

pub accessible-born : (es : List Element) (n : ℕ) (o : Option Element) (e : Element) → slice_get es n ≡ o →
    (o >>= unless_reclaimed) ≡ Some e → slice_get es n ≡ Some e
accessible-born es n None e at h = absurd (none-some e h)
accessible-born es n (Some x) e at h = at ∙ ap Some (unless-same x e h)
  where
    choice : (b : Bool) (x e : Element) → (if b then None else Some x) ≡ Some e → x ≡ e
    choice true x e h = absurd (none-some e h)
    choice false x e h = same_Some x e h

    unless-same : (x e : Element) → unless_reclaimed x ≡ Some e → x ≡ e
    unless-same x e h = choice _ x e h

pub touches-stored : (opened : List Section) (es new : List Element) (n width : ℕ) (offset : ℤ) (v : ℕ) (e : Element)
    → slice_get es n ≡ Some e → stored_in es n width offset v e ≡ Some new → Touches false opened es new
touches-stored opened es new n width offset v e at h =
    let s = first-step (region_offset (length e.value) width offset) (λ at. Some (changed (with_value (with_bytes at width v e.value)) es n)) new h in
    let same : changed (with_value (with_bytes s.0 width v e.value)) es n ≡ new = same_Some _ _ s.2 in
    subst (Touches false opened es) same (touches-changed false opened (with_value (with_bytes s.0 width v e.value))
    es n e at (record {
      in_map = refl;
      under = refl;
      uses = refl;
      size = length-with_bytes s.0 width v e.value;
      life = Stays refl;
    }))

touches-store : (opened : List Section) (es new : List Element) (width : ℕ) (offset : ℤ) (v base : Value) →
    element_store es width offset v base ≡ Some new → Touches false opened es new
touches-store opened es new width offset Nothing base h = absurd (none-some new h)
touches-store opened es new width offset (Pointer r) base h = absurd (none-some new h)
touches-store opened es new width offset (Number v) Nothing h = absurd (none-some new h)
touches-store opened es new width offset (Number v) (Number n) h = absurd (none-some new h)
touches-store opened es new width offset (Number v) (Pointer (Ctx o)) h = absurd (none-some new h)
touches-store opened es new width offset (Number v) (Pointer (Frame o)) h = absurd (none-some new h)
touches-store opened es new width offset (Number v) (Pointer (MapRef m)) h = absurd (none-some new h)
touches-store opened es new width offset (Number v) (Pointer (Elem n o)) h =
    let s = first-step (accessible es n) (stored_in es n width (o +ℤ offset) v) new h in
    touches-stored opened es new n width (o +ℤ offset) v s.0 (accessible-born es n (slice_get es n) s.0 refl s.1) s.2

touches-along : (opened : List Section) (es new : List Element) → new ≡ es → Touches false opened es new
touches-along opened es new e = subst (Touches false opened es) (sym e) (touches-same false opened es)

touches-access : (i : Insn) (opened : List Section) (es : List Element) (m : State) (out : Outcome)
    (new : List Element) → AccessesElement i es m out new → Touches false opened es new
touches-access (Load width dst src offset) opened es m out new h = touches-along opened es new h.3
touches-access (LoadSigned width dst src offset) opened es m out new h = touches-along opened es new h.3
touches-access (Store width dst offset src) opened es m out new h =
    touches-store opened es new (byte_count width) offset (operand_value src m.regs) (m.regs dst) h.0
touches-access i opened es m out new h = absurd h

pub touches-acts : (i : Insn) (opened : List Section) (env : Environment) (es : List Element) (m : State)
    (out : Outcome) (new : List Element) → Acts i env es m out new → Touches false opened es new
touches-acts i opened env es m out new (inl h) = touches-along opened es new h.1
touches-acts i opened env es m out new (inr h) = touches-access i opened es m out new h

-- a birth
abbrev Fits : map_state.Store → ℕ → List ℕ → List ℕ → Type 0
Fits s map key value = (state : MapState) → slice_get s.maps map ≡ Some state → (length key ≡ state.shape.key_len) × (length value ≡ state.shape.value_len)

-- the elements have the lengths of their maps
abbrev pub AllLengths : map_state.Store → Type 0
AllLengths s = (n : ℕ) (e : Element) → slice_get s.elements n ≡ Some e → HasLengths s.maps e

pub same-size : (s : map_state.Store) (map : ℕ) (m : MapState) (value : List ℕ) → slice_get s.maps map ≡ Some m →
    length value ≡ m.shape.value_len → AllLengths s → (n : ℕ) (e : Element) → slice_get s.elements n ≡ Some e →
    e.map ≡ map → length value ≡ length e.value
same-size s map m value at size lengths n e born in_map =
    let h = lengths n e born in
    let same : m ≡ h.0 = same_Some m h.0 (sym at ∙ (ap (slice_get s.maps) (sym in_map) ∙ h.1)) in
    size ∙ (ap (λ x. x.shape.value_len) same ∙ sym h.3)

absent-set : (opened : List Section) (es : List Element) (map : ℕ) (key : List ℕ) (n : ℕ) (e : Element) → IsSingle es
    → IsLinkedAt es map key n → IsAbsent (slice_set es n (with_life (Unlinked opened) e)) map key
absent-set opened es map key n e single l a found = elim (get-set_cases es n a (with_life (Unlinked opened) e) found.element found.born) [
  | inl x ↦ absurd (linked≢unlinked opened (sym found.linked ∙ ap (λ z. z.life) (sym x.1)))
  | inr x ↦ x.0 (single map key a n (record { element = found.element; born = x.1; linked = found.linked; in_map = found.in_map; under = found.under }) l)
]

absent-found : (opened : List Section) (s : map_state.Store) (map : ℕ) (key : List ℕ) (found : Option ℕ) →
    IsSingle s.elements → LooksUp s map key found → IsAbsent (unlinked opened s.elements found) map key
absent-found opened s map key None single h = h
absent-found opened s map key (Some n) single h =
    subst (λ es. IsAbsent es map key) (sym (ap (set_to (with_life (Unlinked opened)) s.elements n) h.born))
    (absent-set opened s.elements map key n h.element single h)

only-last : (mid : List Element) (nb : Element) (a : ℕ) → IsAbsent mid nb.map nb.key → IsLinkedAt (mid ++ nb ∷ []) nb.map nb.key a → a ≡ length mid
only-last mid nb a absent l = elim (get-append_cases mid nb a l.element l.born) [
  | inl x ↦ absurd (absent a (record { element = l.element; born = x; linked = l.linked; in_map = l.in_map; under = l.under }))
  | inr x ↦ x.0
]

born-last : (s new : map_state.Store) (n : ℕ) (nb f : Element) → nb ≡ f → Born s new n nb → Born s new n f
born-last s new n nb f e h = subst (Born s new n) e h

moves-birth : (opened : List Section) (s new : map_state.Store) (mid : List Element) (maps : List MapState)
    (nb : Element) → Touches false opened s.elements mid → IsAbsent mid nb.map nb.key →
    HasLengths s.maps nb → nb.life ≡ Linked →
    KeepsShapes s.maps maps → length maps ≡ length s.maps → new ≡ record { elements = mid ++ nb ∷ []; maps = maps } → StoreMoves false opened s new
moves-birth opened s new mid maps nb t absent fits linked shapes count e =
    let all : map_state.Store = record { elements = mid ++ nb ∷ []; maps = maps } in
    let moves : StoreMoves false opened s all = record {
      forth = λ n e h. let f = t.forth n e h in (f.0, get-append mid (nb ∷ []) n f.0 f.1, f.2);
      back = λ n f h. elim (get-append_cases mid nb n f h) [
        | inl x ↦ inl (t.back n f x)
        | inr x ↦ inr (born-last s all n nb f x.1 (record {
          last = x.0 ∙ t.births;
          linked = linked;
          only = λ a l.
              only-last mid nb a absent l ∙ sym x.0;
          fits = fits;
        }))
      ];
      shapes = shapes;
      maps = count;
    } in
    subst (StoreMoves false opened s) (sym e) moves

moves-replaces : (s : map_state.Store) (opened : List Section) (map : ℕ) (m : MapState) (key value : List ℕ)
    (found : Option ℕ) (new : map_state.Store) → IsSingle s.elements → Fits s map key value →
    slice_get s.maps map ≡ Some m → LooksUp s map key found →
    Replaces s opened map m key value found new → StoreMoves false opened s new
moves-replaces s opened map m key value found new single fits at l r =
    moves-birth opened s new (unlinked opened s.elements found) (slice_set s.maps map (with_bag r.bag m)) (newborn map key value r.count)
    (touches-found false opened s map key found l) (absent-found opened s map key found single l) (m, at, (fits m at).0, (fits m at).1) refl
    (shapes-set s.maps map m (with_bag r.bag m) at refl) (length-set s.maps map (with_bag r.bag m)) r.new_is

moves-writes : (kind : MapKind) (s : map_state.Store) (opened : List Section) (map : ℕ) (m : MapState)
    (key value : List ℕ) (found : Option ℕ) (new : map_state.Store) → IsSingle s.elements → AllLengths s →
    Fits s map key value → slice_get s.maps map ≡ Some m → LooksUp s map key found →
    Writes kind s opened map m key value found new → StoreMoves false opened s new
moves-writes Hash s opened map m key value found new single lengths fits at l h = moves-replaces s opened map m key value found new single fits at l h
moves-writes Array s opened map m key value found new single lengths fits at l h =
    moves-elements false opened s new (overwritten value s.elements found)
    (touches-overwritten false opened s map key value found l (same-size s map m value at (fits m at).1 lengths)) h

moves-settles : (kind : MapKind) (s : map_state.Store) (opened : List Section) (map : ℕ) (m : MapState)
    (key value : List ℕ) (found : Option ℕ) (new : map_state.Store) (error : Option Errno)
    (ret : Result (Unit {0}) Errno) → IsSingle s.elements → AllLengths s → Fits s map key value →
    slice_get s.maps map ≡ Some m →
    LooksUp s map key found → Settles error ret s new (Writes kind s opened map m key value found new) → StoreMoves false opened s new
moves-settles kind s opened map m key value found new None ret single lengths fits at l h =
    moves-writes kind s opened map m key value found new single lengths fits at l h.1
moves-settles kind s opened map m key value found new (Some e) ret single lengths fits at l h = moves-same false opened s new h.1

moves-updates : (s : map_state.Store) (opened : List Section) (map : ℕ) (key value : List ℕ) (flags : ℕ)
    (ret : Result (Unit {0}) Errno) (new : map_state.Store) → IsSingle s.elements → AllLengths s →
    Fits s map key value → Updates s opened map key value flags ret new → StoreMoves false opened s new
moves-updates s opened map key value flags ret new single lengths fits u =
    moves-settles u.state.shape.kind s opened map u.state key value u.found new _ ret single lengths fits u.there
    u.lookup u.settled

moves-removes : (s : map_state.Store) (opened : List Section) (map : ℕ) (key : List ℕ) (ret : Result (Unit {0}) Errno)
    (new : map_state.Store) (found : Option ℕ) → LooksUp s map key found → Removes found opened ret s new →
    StoreMoves false opened s new
moves-removes s opened map key ret new None l h = moves-same false opened s new h.1
moves-removes s opened map key ret new (Some n) l h = moves-elements false opened s new
    (unlinked opened s.elements (Some n)) (touches-found false opened s map key (Some n) l) h.1

moves-deletes : (s : map_state.Store) (opened : List Section) (map : ℕ) (key : List ℕ) (ret : Result (Unit {0}) Errno)
    (new : map_state.Store) → Deletes s opened map key ret new → StoreMoves false opened s new
moves-deletes s opened map key ret new d = by d.state.shape.kind d.removed
  where
    by : (kind : MapKind) → RemovesFrom kind d.found opened ret s new → StoreMoves false opened s new
    by Hash h = moves-removes s opened map key ret new d.found d.lookup h
    by Array h = moves-same false opened s new h.1

-- a reclamation
pub shape-given : (given : Given) (uses : ℕ) (m : MapState) → (with_given given uses m).shape ≡ m.shape
shape-given Free uses m = refl
shape-given Worn uses m = refl

moves-reclaims : (s : map_state.Store) (opened : List Section) (n : ℕ) (e : Element) (given : Given)
    (new : map_state.Store) → Reclaims s opened n e given new → StoreMoves true opened s new
moves-reclaims s opened n e given new r =
    let maps : List MapState = slice_set s.maps e.map (returned e.uses r.state) in
    let all : map_state.Store = record { elements = slice_set s.elements n (with_life Reclaimed e); maps = maps } in
    subst (StoreMoves true opened s) (sym r.new_is) (moves-touches true opened s all
    (touches-set true opened s.elements n e (with_life Reclaimed e) r.born
    (record {
      in_map = refl;
      under = refl;
      uses = refl;
      size = refl;
      life =
          Ends r.since refl r.unlinked r.ended refl;
    }))
    (shapes-set s.maps e.map r.state (returned e.uses r.state) r.there
    (shape-given (given_of e.uses r.state) e.uses r.state)) (length-set s.maps e.map (returned e.uses r.state)))

-- the lengths of keys and values
length-bytes_at : (frame : ℕ → Cell) (at n : ℕ) (bytes : List ℕ) → bytes_at frame at n ≡ Some bytes → length bytes ≡ n
length-bytes_at frame at zero bytes h = ap length (sym (same_Some _ _ h))
length-bytes_at frame at (suc n) bytes h =
    let s = first-step (byte_of (frame at)) (λ b. bytes_at frame (suc at) n >>= λ bs. Some (b ∷ bs)) bytes h in
    let t = first-step (bytes_at frame (suc at) n) (λ bs. Some (s.0 ∷ bs)) bytes s.2 in
    ap length (sym (same_Some _ _ t.2)) ∙ ap suc (length-bytes_at frame (suc at) n t.0 t.1)

length-inside : (b : Bool) (frame : ℕ → Cell) (at len : ℕ) (bytes : List ℕ) → (if b then bytes_at frame at len else None) ≡ Some bytes → length bytes ≡ len
length-inside true frame at len bytes h = length-bytes_at frame at len bytes h
length-inside false frame at len bytes h = absurd (none-some bytes h)

length-from : (frame : ℕ → Cell) (len : ℕ) (o : ℤ) (bytes : List ℕ) → bytes_from frame len o ≡ Some bytes → length bytes ≡ len
length-from frame len (pos at) bytes h = length-inside (nat_le (at + len) FRAME_BYTES) frame at len bytes h
length-from frame len (negsuc n) bytes h = absurd (none-some bytes h)

length-frame : (frame : ℕ → Cell) (len : ℕ) (v : Value) (bytes : List ℕ) → frame_bytes frame len v ≡ Some bytes → length bytes ≡ len
length-frame frame len Nothing bytes h = absurd (none-some bytes h)
length-frame frame len (Number n) bytes h = absurd (none-some bytes h)
length-frame frame len (Pointer (Ctx o)) bytes h = absurd (none-some bytes h)
length-frame frame len (Pointer (Frame o)) bytes h = length-from frame len o bytes h
length-frame frame len (Pointer (MapRef m)) bytes h = absurd (none-some bytes h)
length-frame frame len (Pointer (Elem n o)) bytes h = absurd (none-some bytes h)

-- an argument has the length that the map's shape names
length-argument : (o : Option MapShape) (len : MapShape → ℕ) (frame : ℕ → Cell) (v : Value) (bytes : List ℕ)
    (shape : MapShape) → (o >>= λ x. frame_bytes frame (len x) v) ≡ Some bytes → o ≡ Some shape →
    length bytes ≡ len shape
length-argument None len frame v bytes shape h e = absurd (none-some bytes h)
length-argument (Some x) len frame v bytes shape h e = length-frame frame (len x) v bytes h ∙ ap len (same_Some x shape e)

fits-arguments : (s : map_state.Store) (run : Run) (map : ℕ) (key value : List ℕ) → key_argument s run map ≡ Some key
    → value_argument s run map ≡ Some value → Fits s map key value
fits-arguments s run map key value hk hv state at = (
  length-argument (shape_of s map) (λ x. x.key_len) run.state.frame (run.state.regs 2) key state.shape hk
      (ap shape_in at),
  length-argument (shape_of s map) (λ x. x.value_len) run.state.frame (run.state.regs 3) value
      state.shape hv (ap shape_in at),
)

lengths-pass : (a b : Bool) → (if a && b then None else Some BadLength) ≡ None → (a ≡ true) × (b ≡ true)
lengths-pass true true h = (refl, refl)
lengths-pass true false h = absurd (cc)
lengths-pass false b h = absurd (cc)

fits-event : (s : map_state.Store) (map : ℕ) (key value : List ℕ) → update_refusal (shape_of s map) (length key) (length value) ≡ None → Fits s map key value
fits-event s map key value h state at =
    let e : update_refusal (Some state.shape) (length key) (length value) ≡ None =
    ap (λ o. update_refusal (shape_in o) (length key) (length value)) (sym at) ∙ h in
    let b = lengths-pass (length key == state.shape.key_len) (length value == state.shape.value_len) e in
    (eqb-true _ _ b.0, eqb-true _ _ b.1)

-- a step
moves-helper : (h : Option Helper) (s : map_state.Store) (opened : List Section) (run : Run) (ret : Value)
    (new : map_state.Store) → IsSingle s.elements → AllLengths s → HelperStep h s opened run ret new →
    StoreMoves false opened s new
moves-helper (Some helpers.Lookup) s opened run ret new single lengths h = moves-same false opened s new h.1
moves-helper (Some helpers.Update) s opened run ret new single lengths h =
    moves-updates s opened h.map h.key h.value h.flags h.outcome new single lengths
    (fits-arguments s run h.map h.key h.value h.key_is h.value_is) h.updated
moves-helper (Some helpers.Delete) s opened run ret new single lengths h = moves-deletes s opened h.map h.key h.outcome new h.deleted
moves-helper None s opened run ret new single lengths h = absurd h

moves-kind : (i : Insn) (s : map_state.Store) (opened : List Section) (run : Run) (answer : Answer)
    (new : map_state.Store) (new_run : Run) → IsSingle s.elements → AllLengths s →
    StepsByKind i s opened run answer new new_run → StoreMoves false opened s new
moves-kind (Call kinds.Kernel imm) s opened run answer new new_run single lengths h = moves-same false opened s new h.2
moves-kind (Call kinds.Helper imm) s opened run answer new new_run single lengths h = moves-helper (helper_of imm) s opened run h.0 new single lengths h.1
moves-kind i s opened run answer new new_run single lengths h =
    moves-elements false opened s new h.1 (touches-acts i opened (environment run) s.elements run.state h.0 h.1 h.2)
    h.3

pub moves-insn : (i : Insn) (s : map_state.Store) (opened : List Section) (run : Run) (answer : Answer)
    (new : map_state.Store) (new_run : Run) → IsSingle s.elements → AllLengths s →
    InsnStep i s opened run answer new new_run → StoreMoves false opened s new
moves-insn i s opened run answer new new_run single lengths h =
    moves-kind i s opened run answer new new_run single lengths (by_kind i s opened run answer new new_run h)

-- what the machine's store does in a step
abbrev pub MachineMoves : Bool → Machine → Machine → Type 0
MachineMoves reap m new = StoreMoves reap (open_sections m.runs) m.store new.store

moves-at : (reap : Bool) (m new : Machine) → new ≡ m → MachineMoves reap m new
moves-at reap m new h = moves-same reap (open_sections m.runs) m.store new.store (ap (λ x. x.store) h)

moves-with : (reap : Bool) (m new : Machine) (store : map_state.Store) →
    StoreMoves reap (open_sections m.runs) m.store store → new.store ≡ store → MachineMoves reap m new
moves-with reap m new store h e = subst (StoreMoves reap (open_sections m.runs) m.store) (sym e) h

moves-store_change : (m : Machine) (event : Event) (store : map_state.Store) → IsSingle m.store.elements → AllLengths m.store →
    refusal m event ≡ None → StoreChange m.store (open_sections m.runs) store event →
    StoreMoves (is_reap event) (open_sections m.runs) m.store store
moves-store_change m event store single lengths pass (ByUpdate map key value flags ret u) =
    moves-updates m.store (open_sections m.runs) map key.items value.items flags ret store single lengths
    (fits-event m.store map key.items value.items pass) u
moves-store_change m event store single lengths pass (ByDelete map key ret d) =
    moves-deletes m.store (open_sections m.runs) map key.items ret store d
moves-store_change m event store single lengths pass (ByReclaim n e given r) =
    moves-reclaims m.store (open_sections m.runs) n e given store r

moves-change : (m new : Machine) (event : Event) (answer : Answer) → IsSingle m.store.elements → AllLengths m.store →
    Change m new event answer → MachineMoves (is_reap event) m new
moves-change m new event answer single lengths (Still e counts) = moves-at (is_reap event) m new e
moves-change m new event answer single lengths (Begins prog ctx r pass h) =
    moves-same false (open_sections m.runs) m.store new.store (ap (λ x. x.store) h.new_is)
moves-change m new event answer single lengths (Steps r h) =
    moves-with false m new h.new_store (moves-insn h.step.0 m.store (open_sections m.runs) h.run answer h.new_store
    h.new_run single lengths h.step.2) (ap (λ x. x.store) h.new_is)
moves-change m new event answer single lengths (Stores store pass c e) =
    moves-with (is_reap event) m new store (moves-store_change m event store single lengths pass c) (ap (λ x. x.store) e)
moves-change m new event answer single lengths (Leaves r e) =
    moves-same false (open_sections m.runs) m.store new.store (ap (λ x. x.store) e)

pub does-moves : (m new : Machine) (event : Event) (answer : Answer) → IsSingle m.store.elements → AllLengths m.store
    → DoesEvent m event answer new → MachineMoves (is_reap event) m new
does-moves m new event answer single lengths h = moves-change m new event answer single lengths (change m new event answer h)
