-- What the plan says of a run among the elements alone that it has learnt in the section that is open, and that a step keeps it so.
use Rattle.bpf_model.proofs.Prelude.{◌≡◌, ℕ, ◌+◌, ◌^◌, ◌<◌, ◌≤◌, ◌⊎◌, inl, inr, refl, sym, ap, subst, ◌∙◌, arith, List, [], ◌∷◌, length, map, Option, Some}
use Rattle.bpf_model.proofs.Prelude.{None, Bool, true, false, slice_get, slice_set, ℤ, pos, ◌==◌, if◌then◌else◌, same_Some, slice_get_within, false≢true}
use Rattle.bpf_model.proofs.Prelude.{eq-eqb, eqb-true, ne_eqb, region_offset, number_at, Element, Linked, Unlinked, IsLinkedAt, IsAbsent, accessible, changed}
use Rattle.bpf_model.proofs.Prelude.{is_reclaimed, set_to, with_value, AreBytes, Run, environment, locked, moves, section_of, unlocked, InsnStep, loaded_from}
use Rattle.bpf_model.proofs.Prelude.{stored_in, with_bytes, MapState, Store, new_map, Request, LoadElement, StoreElement, CallHelper, Enter, Leave}
use Rattle.bpf_model.proofs.Prelude.{MapArgument, BytesArgument, ServesRequest, asks, bound_shape, resumed, StepsAlone, Resumes, Section, State, Moves, after}
use Rattle.bpf_model.proofs.Prelude.{insn_at, ◌>>=◌, length-with_bytes, get-below, get-map, get-set_cases, length-map, length-replicate}
use Rattle.model_laws.proofs.Prelude.{Lookup, Insn, Moved, MapKind, Array, Hash, MapShape, Value, Nothing, Number, Pointer, Elem, IsSingle}
use Rattle.plan_laws.proofs.Prelude.{scene_of, IsArrayMap, IsGuarded, Plan, IsClosed, IsPlanned, IsPlannedAfter, StaysKept, is_array_in}
use Rattle.world_laws.proofs.Prelude.{map_of, region_of, regions, element_in_region, key_length, value_length, elements_by, births, store_of, IsDescribed}
use Rattle.model_laws.proofs.Computations.{first-step}
use Rattle.plan_laws.proofs.Arrays.{array-there, kind-there}
use Rattle.plan_laws.proofs.Elements.{offset_some, with-bytes}
use Rattle.plan_laws.proofs.Kept.{Keeps, describes-kept}
use Rattle.world_laws.proofs.StandingBytes.{number-back}
use Rattle.world_laws.proofs.Contents.{get-by, by-below, by-is, IsContent, zero-bytes, single-one, Guards, keeps-by, keeps-list, changed_at, changed-here}
use Rattle.world_laws.proofs.Contents.{changed-all, linked-at, touch}
use Rattle.world_laws.proofs.Described.{surrounds}
use Rattle.shared_runs.specs.Learnt.{learnt_element, learnt_elements, life_of}

never-linked : (b : Bool) (s : Section) → life_of b s ≡ Linked → ⊥
never-linked true s e = absurd (cc)
never-linked false s e = absurd (cc)

-- what was learnt is guarded
pub learnt-guarded : (b : Bool) (s t : Section) → IsGuarded (life_of b s) t → b ≡ true
learnt-guarded true s t g = refl
learnt-guarded false s t g = absurd g

guarded-learnt : (b : Bool) (s : Section) → b ≡ true → IsGuarded (life_of b s) s
guarded-learnt true s e = (0, refl)
guarded-learnt false s e = absurd (false≢true e)

kept-alive : (b : Bool) (s : Section) → b ≡ true → is_reclaimed (life_of b s) ≡ false
kept-alive true s e = refl
kept-alive false s e = absurd (false≢true e)

-- one slot more
abbrev pub also : ℕ → (ℕ → Bool) → ℕ → Bool
also slot learnt r = if r == slot then true else learnt r

also-by : (a b : Bool) → b ≡ true → (if a then true else b) ≡ true
also-by true b e = refl
also-by false b e = e

pub also-before : (slot : ℕ) (learnt : ℕ → Bool) (r : ℕ) → learnt r ≡ true → also slot learnt r ≡ true
also-before slot learnt r e = also-by (r == slot) (learnt r) e

pub also-here : (slot : ℕ) (learnt : ℕ → Bool) → also slot learnt slot ≡ true
also-here slot learnt = ap (λ b. if b then true else learnt slot) (eq-eqb slot slot refl)

also-split : (slot : ℕ) (learnt : ℕ → Bool) (r : ℕ) (b : Bool) → (r == slot) ≡ b → (if b then true else learnt r) ≡ true → (r ≡ slot) ⊎ (learnt r ≡ true)
also-split slot learnt r true is h = inl (eqb-true r slot is)
also-split slot learnt r false is h = inr h

-- what is learnt with one slot more is that slot, or was learnt before
pub also-cases : (slot : ℕ) (learnt : ℕ → Bool) (r : ℕ) → also slot learnt r ≡ true → (r ≡ slot) ⊎ (learnt r ≡ true)
also-cases slot learnt r h = also-split slot learnt r (r == slot) refl h

-- all maps are hash maps
abbrev pub AreHash : List MapShape → Type 0
AreHash shapes = (i : ℕ) (shape : MapShape) → slice_get shapes i ≡ Some shape → shape.kind ≡ Hash

hash-array : (kind : MapKind) → kind ≡ Hash → kind ≡ Array → ⊥
hash-array kind h a = let e : Hash ≡ Array = sym h ∙ a in absurd (cc)

-- and none of them is an array
pub none-array : (shapes : List MapShape) → AreHash shapes → (n : ℕ) (state : MapState) →
    slice_get (map new_map shapes) n ≡ Some state → state.shape.kind ≡ Array → ⊥
none-array shapes hash n state at is =
    let l : n < length (map new_map shapes) = slice_get_within (map new_map shapes) n state at in
    let long : length (map new_map shapes) ≡ length shapes = length-map shapes new_map in
    let x = get-below shapes n (omega (arith, l, long)) in
    let same : new_map x.0 ≡ state = same_Some (new_map x.0) state (sym (get-map new_map shapes n x.0 x.1) ∙ at) in
    hash-array x.0.kind (hash n x.0 x.1) (ap (λ (m : MapState). m.shape.kind) same ∙ is)

pub not-array : (shapes : List MapShape) → AreHash shapes → (es : List Element) (run : Run) (index : ℕ) →
    IsArrayMap (scene_of (store_of shapes es) run) index → ⊥
not-array shapes hash es run index a = let x = kind-there (map new_map shapes) a.number Array a.array in none-array shapes hash a.number x.0 x.1 x.2

pub no-array : (shapes : List MapShape) → AreHash shapes → (index : ℕ) → is_array_in shapes index ≡ true → ⊥
no-array shapes hash index e = let x = array-there shapes index e in hash-array x.0.kind (hash index x.0 x.1) x.2

-- where an access to an element reaches
pub record Reached (shapes : List MapShape) (n : ℕ) (o : ℤ) (width : ℕ) : Type 0 where
  pub below : n < births shapes
  pub at : ℕ
  pub region : region_offset (value_length (slice_get shapes (map_of n))) width o ≡ Some at

abbrev pub none : ℕ → Bool
none r = false

module _ (code : List Insn) (shapes : List MapShape) (ctx_len : ℕ) (hash : AreHash shapes) (plan : Plan)
    (closed : IsClosed code shapes ctx_len plan) (run : Run) (x : IsDescribed code shapes ctx_len plan shapes run)
    (learnt : ℕ → Bool) (index : ℕ)
    (p : IsPlanned code plan index (scene_of (store_of shapes (learnt_elements shapes (section_of run) learnt)) run) run.state) where
  abbrev sec : Section
  sec = section_of run

  abbrev base : ℕ → Element
  base = learnt_element shapes sec learnt

  abbrev listed : (ℕ → Element) → List Element
  listed f = elements_by (births shapes) f

  abbrev over : (ℕ → Element) → Store
  over f = store_of shapes (listed f)

  content : (learnt : ℕ → Bool) → IsContent shapes (learnt_element shapes sec learnt)
  content learnt = record {
    in_map = λ n. refl;
    key = λ n. length-replicate (key_length (slice_get shapes (map_of n))) 0;
    value = λ n. length-replicate (value_length (slice_get shapes (map_of n))) 0;
    bytes = λ n. zero-bytes (value_length (slice_get shapes (map_of n)));
    arrays = λ n state at is. absurd (none-array shapes hash (map_of n) state at is);
  }

  single : (learnt : ℕ → Bool) → IsSingle (listed (learnt_element shapes sec learnt))
  single learnt = single-one (births shapes) (learnt_element shapes sec learnt) 0 (λ n e. absurd (never-linked (learnt (region_of n)) sec e))

  -- the plan describes the run after a step, among what it has learnt then
  abbrev pub Planned : (ℕ → Bool) → Run → Type 0
  Planned later new = (k : ℕ) × IsPlanned code plan k (scene_of (store_of shapes (learnt_elements shapes (section_of new) later)) new) new.state

  -- a step over some contents
  stepped : (f : ℕ → Element) → IsContent shapes f → IsSingle (listed f) →
      Keeps (scene_of (over base) run) (scene_of (over f) run) → (i : Insn) → insn_at code run.state.place ≡ Some i →
      (es : List Element) (new : Run)
      → InsnStep i (over f) (sec ∷ []) run Moved (store_of shapes es) new → new.exit ≡ None → (later : ℕ → Bool) →
      Keeps (scene_of (store_of shapes es) new) (scene_of
      (store_of shapes (learnt_elements shapes (section_of new) later)) new) → Planned later new
  stepped f c one keeps i here es new step going later onward =
      let before : IsPlanned code plan index (scene_of (over f) run) run.state = record {
        at = p.at;
        known = p.known;
        planned = p.planned;
        describes = describes-kept (scene_of (over base) run) (scene_of (over f) run) keeps p.known run.state p.describes;
      } in
      let l = closed.leads index i (over f) (sec ∷ []) run Moved (store_of shapes es) new
      (surrounds code shapes ctx_len plan closed shapes run x f c one) before here step in
      let q : IsPlannedAfter code plan index (scene_of (store_of shapes es) new) new.state = l.1 going in (
        q.index,
        record {
          at = q.planned.at;
          known = q.planned.known;
          planned = q.planned.planned;
          describes = describes-kept (scene_of (store_of shapes es) new)
              (scene_of (store_of shapes (learnt_elements shapes (section_of new) later)) new) onward q.planned.known
              new.state q.planned.describes;
        },
      )

  same-keeps : (es : List Element) (r : Run) → Keeps (scene_of (store_of shapes es) r) (scene_of (store_of shapes es) r)
  same-keeps es r = record { held = λ map n h. h; depth = refl }

  -- a step that the run makes by itself
  pub alone-learnt : (i : Insn) (next : State) → insn_at code run.state.place ≡ Some i →
      after i (environment run) run.state ≡ Some (Moves next) → (moves run next).exit ≡ None →
      Planned learnt (moves run next)
  alone-learnt i next here e going =
      let s = over base in
      let alone : StepsAlone i s run Moved s (moves run next) = (Moves next, e, refl, (refl, refl)) in
      stepped base (content learnt) (single learnt) (same-keeps (listed base) run) i here (listed base) (moves run next)
      (inl alone) going learnt (same-keeps (listed base) (moves run next))

  abbrev shown : Store
  shown = store_of shapes []

  module _ (i : Insn) (here : insn_at code run.state.place ≡ Some i) where
    abbrev Asked : Request → Type 0
    Asked request = asks i (bound_shape shown run.program.maps) run.state ≡ Some request

    -- a reply that some contents give
    replied : (f : ℕ → Element) → IsContent shapes f → IsSingle (listed f) →
        Keeps (scene_of (over base) run) (scene_of (over f) run) → (request : Request) → Asked request →
        (reply : Value) (es : List Element) (new : Run)
        → ServesRequest run.program.maps request (over f) (sec ∷ []) reply (store_of shapes es) →
        Resumes request i reply run new → new.exit ≡ None → (later : ℕ → Bool) →
        Keeps (scene_of (store_of shapes es) new) (scene_of
        (store_of shapes (learnt_elements shapes (section_of new) later)) new) → Planned later new
    replied f c one keeps request asked reply es new serves resumes going later onward =
        stepped f c one keeps i here es new
        (inr (record { request = request; reply = reply; asked = asked; served = serves; answer_is = refl; resumes = resumes })) going later onward

    -- other contents at one number
    special-content : (n : ℕ) (e : Element) → e.map ≡ map_of n →
        length e.key ≡ key_length (slice_get shapes (map_of n)) →
        length e.value ≡ value_length (slice_get shapes (map_of n)) → AreBytes e.value →
        IsContent shapes (changed_at n e base)
    special-content n e in_map key value bytes =
        let c = content learnt in
        record {
          in_map = changed-all (λ k y. y.map ≡ map_of k) n e base in_map c.in_map;
          key = changed-all (λ k y. length y.key ≡ key_length (slice_get shapes (map_of k))) n e base key c.key;
          value = changed-all (λ k y. length y.value ≡ value_length (slice_get shapes (map_of k))) n e base value c.value;
          bytes = changed-all (λ k y. AreBytes y.value) n e base bytes c.bytes;
          arrays = changed-all (λ k y. StaysKept (map new_map shapes) y) n e base (λ state at is. absurd (none-array shapes hash e.map state at is)) c.arrays;
        }

    special-guards : (n : ℕ) (e : Element) → e.map ≡ map_of n → (IsGuarded (base n).life sec → IsGuarded e.life sec) → Guards sec base (changed_at n e base)
    special-guards n e in_map guard = record {
      same = changed-all (λ k y. y.map ≡ (base k).map) n e base in_map (λ k. refl);
      guard = changed-all (λ k y. IsGuarded (base k).life sec → IsGuarded y.life sec) n e base guard (λ k g. g);
    }

    back-guards : (later : ℕ → Bool) (n : ℕ) (e : Element) → e.map ≡ map_of n → later (region_of n) ≡ true →
        ((r : ℕ) → learnt r ≡ true → later r ≡ true) →
        Guards sec (changed_at n e base) (learnt_element shapes sec later)
    back-guards later n e in_map there more = record {
      same = changed-all (λ k y. map_of k ≡ y.map) n e base (sym in_map) (λ k. refl);
      guard = changed-all (λ k y. IsGuarded y.life sec → IsGuarded (life_of (later (region_of k)) sec) sec) n e base
          (λ g. guarded-learnt (later (region_of n)) sec there)
          (λ k g. guarded-learnt (later (region_of k)) sec (more (region_of k) (learnt-guarded (learnt (region_of k)) sec sec g)));
    }

    unlinked-all : (n : ℕ) (e : Element) → e.life ≡ Unlinked (sec ∷ []) → (k : ℕ) → (changed_at n e base k).life ≡ Linked → ⊥
    unlinked-all n e is k = changed-all (λ j y. y.life ≡ Linked → ⊥) n e base
        (λ l. never-linked true sec (sym is ∙ l)) (λ j. never-linked (learnt (region_of j)) sec) k

    zeros-long : (n : ℕ) → length (base n).value ≡ value_length (slice_get shapes (map_of n))
    zeros-long n = (content learnt).value n

    -- a load finds any number
    pub load-learnt : (n : ℕ) (o : ℤ) (width v : ℕ) → v < 256 ^ width → Asked (LoadElement n o width) →
        Reached shapes n o width → learnt (region_of n) ≡ true → (new : Run) →
        new ≡ moves run (resumed i (Number v) run.state) → new.exit ≡ None → Planned learnt new
    load-learnt n o width v small asked r known new is going =
        let zeros = (base n).value in
        let q = offset_some (value_length (slice_get shapes (map_of n))) width o r.at r.region in
        let inside : r.at + width ≤ length zeros = omega (arith, q.1, zeros-long n) in
        let long : length (with_bytes r.at width v zeros) ≡ length zeros = length-with_bytes r.at width v zeros in
        let c = content learnt in
        let e : Element = record { map = map_of n; key = (base n).key; value = with_bytes r.at width v zeros; uses = 1; life = Unlinked (sec ∷ []) } in
        let all = changed_at n e base in
        let region : region_offset (length e.value) width o ≡ Some r.at = ap (λ len. region_offset len width o) (long ∙ zeros-long n) ∙ r.region in
        let loads : (accessible (listed all) n >>= loaded_from width o) ≡ Some v =
        ap (λ y. y >>= loaded_from width o) (touch (births shapes) all n e r.below (changed-here n e base) refl)
        ∙ ap (λ z. z >>= λ at. number_at (slice_get e.value) at width) region ∙ number-back width r.at v zeros inside small in
        let later = moves run (resumed i (Number v) run.state) in
        subst (Planned learnt) (sym is)
        (replied all (special-content n e refl (c.key n) (long ∙ c.value n) (with-bytes r.at width v zeros (c.bytes n)))
        (single-one (births shapes) all n (λ k l. absurd (unlinked-all n e refl k l)))
        (keeps-by shapes base all run (special-guards n e refl (λ g. (0, refl))))
        (LoadElement n o width) asked (Number v) (listed all) later (v, loads, refl, refl) refl (subst (λ (z : Run). z.exit ≡ None) is going) learnt
        (keeps-by shapes all base later (back-guards learnt n e refl known (λ j h. h))))

    -- a store is made
    set-at : (n width : ℕ) (o : ℤ) (v : ℕ) (es : List Element) → n < births shapes → stored_in (listed base) n width o v (base n) ≡ Some es
        → (k : ℕ) (e : Element) → slice_get es k ≡ Some e → (k < births shapes) × ((base k).map ≡ e.map) × (IsGuarded e.life sec → IsGuarded (base k).life sec)
    set-at n width o v es below h k e at =
        let all = listed base in
        let y = base n in
        let g = first-step (region_offset (length y.value) width o) (λ p. Some (changed (with_value (with_bytes p width v y.value)) all n)) es h in
        let one : Element → Element = with_value (with_bytes g.0 width v y.value) in
        let is : slice_set all n (one (base n)) ≡ es =
        ap (λ (z : Option Element). set_to one all n z) (sym (get-by (births shapes) base n below)) ∙
        same_Some (changed one all n) es g.2 in
        elim (get-set_cases all n k (one (base n)) e (ap (λ (l : List Element). slice_get l k) is ∙ at)) [
          | inl z ↦ subst (λ (j : ℕ). (j < births shapes) × ((base j).map ≡ e.map) ×
              (IsGuarded e.life sec → IsGuarded (base j).life sec)) (sym z.0)
              (below, ap (λ (w : Element). w.map) z.1, λ q. subst (λ (w : Element). IsGuarded w.life sec) (sym z.1) q)
          | inr z ↦ (let w = by-is (births shapes) base k e
              z.1 in (
                by-below (births shapes) base k e z.1,
                ap (λ (u : Element). u.map) w,
                λ q.
                    subst (λ (u : Element). IsGuarded u.life sec) (sym w) q,
              ))
        ]

    pub store-learnt : (n : ℕ) (o : ℤ) (width v : ℕ) → Asked (StoreElement n o width v) → Reached shapes n o width →
        learnt (region_of n) ≡ true → (new : Run) → new ≡ moves run (resumed i Nothing run.state) → new.exit ≡ None →
        Planned learnt new
    store-learnt n o width v asked r known new is going =
        let all = listed base in
        let y = base n in
        let es = changed (with_value (with_bytes r.at width v y.value)) all n in
        let region : region_offset (length y.value) width o ≡ Some r.at = ap (λ len. region_offset len width o) (zeros-long n) ∙ r.region in
        let stores : stored_in all n width o v y ≡ Some es = ap (λ z. z >>= λ p. Some (changed (with_value (with_bytes p width v y.value)) all n)) region in
        let there : (accessible all n >>= stored_in all n width o v) ≡ Some es =
        ap (λ z. z >>= stored_in all n width o v) (touch (births shapes) base n y r.below refl
        (kept-alive (learnt (region_of n)) sec known)) ∙ stores in
        let later = moves run (resumed i Nothing run.state) in
        subst (Planned learnt) (sym is)
        (replied base (content learnt) (single learnt) (same-keeps (listed base) run) (StoreElement n o width v) asked
        Nothing es later (es, there, refl, refl) refl (subst (λ (z : Run). z.exit ≡ None) is going) learnt
        (keeps-list shapes es base later (set-at n width o v es r.below stores)))

    -- a section opens, in which nothing is learnt yet
    pub enter-learnt : run.depth ≡ 0 → Asked Enter → (new : Run) → Resumes Enter i Nothing run new → new.exit ≡ None → Planned none new
    enter-learnt outside asked new h going =
        let empty = learnt_element shapes sec none in
        let later = moves (locked run) (resumed i Nothing run.state) in
        subst (Planned none) (sym h.1)
        (replied empty (content none) (single none) (record {
          held = λ map n y.
              elim y.allowed [
                | inl g ↦ (let inside : 0 < run.depth = g.0 in absurd (omega (arith, inside, outside)))
                | inr a ↦ absurd (not-array shapes hash (listed base) run map a)
              ];
          depth = refl;
        })
        Enter asked Nothing (listed empty) later (refl, refl) (h.0, refl) (subst (λ (z : Run). z.exit ≡ None) h.1 going) none
        (keeps-by shapes empty (learnt_element shapes (section_of later) none) later (record { same = λ k. refl; guard = λ k g. absurd g })))

    -- a lock inside it nests: what was learnt stays
    pub nest-learnt : 0 < run.depth → Asked Enter → (new : Run) → Resumes Enter i Nothing run new → new.exit ≡ None → Planned learnt new
    nest-learnt inside asked new h going =
        let later = moves (locked run) (resumed i Nothing run.state) in
        let same : section_of later ≡ sec = ap (λ (b : Bool).
        record { run = run.name; number = if b then run.sections + 1 else run.sections })
        (ne_eqb run.depth 0 (λ e. absurd (omega (arith, inside, e)))) in
        subst (Planned learnt) (sym h.1)
        (replied base (content learnt) (single learnt) (same-keeps (listed base) run) Enter asked Nothing
        (listed base) later (refl, refl) (h.0, refl) (subst (λ (z : Run). z.exit ≡ None) h.1 going) learnt
        (subst (λ (s : Section). Keeps (scene_of (over base) later)
        (scene_of (store_of shapes (learnt_elements shapes s learnt)) later)) (sym same)
        (same-keeps (listed base) later)))

    -- so does an unlock that is not the outermost
    pub unnest-learnt : 1 < run.depth → Asked Leave → (new : Run) → Resumes Leave i Nothing run new → new.exit ≡ None → Planned learnt new
    unnest-learnt deep asked new h going =
        let later = moves (unlocked run) (resumed i Nothing run.state) in
        subst (Planned learnt) (sym h.1)
        (replied base (content learnt) (single learnt) (same-keeps (listed base) run) Leave asked Nothing
        (listed base) later (refl, refl) (h.0, refl) (subst (λ (z : Run). z.exit ≡ None) h.1 going) learnt
        (same-keeps (listed base) later))

    -- it ends with the outermost, after which nothing is held
    pub leave-learnt : run.depth ≡ 1 → Asked Leave → (new : Run) → Resumes Leave i Nothing run new → new.exit ≡ None → Planned none new
    leave-learnt inside asked new h going =
        let later = moves (unlocked run) (resumed i Nothing run.state) in
        let outside : later.depth ≡ 0 = omega (arith, inside) in
        subst (Planned none) (sym h.1)
        (replied base (content learnt) (single learnt) (same-keeps (listed base) run) Leave asked Nothing
        (listed base) later (refl, refl) (h.0, refl) (subst (λ (z : Run). z.exit ≡ None) h.1 going) none
        (record {
          held = λ map n y. elim y.allowed [
            | inl g ↦
                (let d : 0 < later.depth = g.0 in absurd (omega (arith, d, outside)))
            | inr a ↦
                absurd (not-array shapes hash (listed base) later map a)
          ];
          depth = refl;
        }))

    -- a lookup finds nothing, or any slot, which is learnt
    abbrev Finding : ℕ → List ℕ → Request
    Finding map key = CallHelper Lookup (MapArgument map ∷ BytesArgument key ∷ [])

    pub miss-learnt : (i' map : ℕ) (key : List ℕ) → slice_get run.program.maps i' ≡ Some map → Asked (Finding i' key)
        → (new : Run) → new ≡ moves run (resumed i (Number 0) run.state) → new.exit ≡ None → Planned learnt new
    miss-learnt i' map key bound asked new is going =
        let absent : IsAbsent (listed base) map key = λ n l.
        never-linked (learnt (region_of n)) sec (ap (λ (e : Element). e.life)
        (by-is (births shapes) base n l.element l.born) ∙ l.linked) in
        let later = moves run (resumed i (Number 0) run.state) in
        subst (Planned learnt) (sym is)
        (replied base (content learnt) (single learnt) (same-keeps (listed base) run) (Finding i' key) asked (Number 0) (listed base) later
        (map, None, bound, absent, refl, refl) refl (subst (λ (z : Run). z.exit ≡ None) is going) learnt (same-keeps (listed base) later))

    pub hit-learnt : (i' map region : ℕ) (key : List ℕ) → map < length shapes →
        slice_get run.program.maps i' ≡ Some map → region < regions → Asked (Finding i' key) →
        length key ≡ key_length (slice_get shapes map)
        → (new : Run) → new ≡ moves run (resumed i (Pointer (Elem (element_in_region map region) (pos 0))) run.state)
        → new.exit ≡ None → Planned (also region learnt) new
    hit-learnt i' map region key there bound small asked long new is going =
        let n = element_in_region map region in
        let of_map : map_of n ≡ map = omega (arith, small) in
        let of_region : region_of n ≡ region = omega (arith, small) in
        let below : n < births shapes = omega (arith, there, small) in
        let c = content learnt in
        let e : Element = record { map = map_of n; key = key; value = (base n).value; uses = 1; life = Linked } in
        let all = changed_at n e base in
        let found : IsLinkedAt (listed all) map key n = record {
          element = e;
          born = get-by (births shapes) all n below ∙ ap Some (changed-here n e base);
          linked = refl;
          in_map = of_map;
          under = refl;
        } in
        let reply = Pointer (Elem n (pos 0)) in
        let later = moves run (resumed i reply run.state) in
        subst (Planned (also region learnt)) (sym is)
        (replied all (special-content n e refl (long ∙ ap (λ k. key_length (slice_get shapes k)) (sym of_map)) (c.value n) (c.bytes n))
        (single-one (births shapes) all n (linked-at n e base (λ k l. never-linked (learnt (region_of k)) sec l)))
        (keeps-by shapes base all run (special-guards n e refl (λ g. tt))) (Finding i' key) asked reply (listed all)
        later (map, Some n, bound, found, refl, refl) refl (subst (λ (z : Run). z.exit ≡ None) is going)
        (also region learnt)
        (keeps-by shapes all (learnt_element shapes sec (also region learnt)) later
        (back-guards (also region learnt) n e refl
        (subst (λ r. also region learnt r ≡ true) (sym of_region) (also-here region learnt))
        (also-before region learnt))))
