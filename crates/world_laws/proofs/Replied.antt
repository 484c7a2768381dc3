-- Whatever may be replied to what a run asks, the plan describes the run that goes on with it.
use Rattle.bpf_model.proofs.Prelude.{◌≡◌, ℕ, ◌+◌, ◌^◌, ◌<◌, ◌≤◌, ◌⊎◌, inl, inr, refl, sym, ap, subst, ◌∙◌, arith, List, [], ◌∷◌, length, map, Option, Some}
use Rattle.bpf_model.proofs.Prelude.{None, false, slice_get, slice_set, ℤ, pos, none-some, same_Some, region_offset, number_at, Element, Linked, Unlinked}
use Rattle.bpf_model.proofs.Prelude.{IsLinkedAt, IsAbsent, accessible, changed, is_reclaimed, set_to, with_value, AreBytes, Run, environment, locked, moves}
use Rattle.bpf_model.proofs.Prelude.{section_of, unlocked, InsnStep, loaded_from, stored_in, with_bytes, Store, new_map, Request, LoadElement, StoreElement}
use Rattle.bpf_model.proofs.Prelude.{CallHelper, Enter, Leave, MapArgument, BytesArgument, ServesRequest, asks, bound_shape, resumed, StepsAlone, StepsServed}
use Rattle.bpf_model.proofs.Prelude.{Resumes, Section, insn_at, ◌>>=◌, length-with_bytes, get-set_cases}
use Rattle.model_laws.proofs.Prelude.{Lookup, Insn, Answer, Moved, MapShape, Value, Nothing, Number, Pointer, Elem, IsSingle}
use Rattle.plan_laws.proofs.Prelude.{scene_of, IsGuarded, Plan, IsClosed, StaysKept}
use Rattle.world_laws.proofs.Prelude.{map_of, regions, element_in_region, key_length, value_length, element_of, elements_by, births, elements_around}
use Rattle.world_laws.proofs.Prelude.{store_of}
use Rattle.model_laws.proofs.Computations.{first-step}
use Rattle.model_laws.proofs.Requests.{asks_or_acts}
use Rattle.plan_laws.proofs.Elements.{offset_some, with-bytes}
use Rattle.plan_laws.proofs.Kept.{Keeps}
use Rattle.world_laws.proofs.StandingBytes.{number-back}
use Rattle.world_laws.proofs.Contents.{get-by, by-below, by-is, IsContent, plain-content, single-one, life-unlinked, Guards, keeps-by, keeps-list, changed_at}
use Rattle.world_laws.proofs.Contents.{changed-here, changed-all, linked-at, Touched, touched, touch}
use Rattle.world_laws.proofs.Described.{Described, surrounds, planned, plain-single, plain-guards, stepped}

module _ (code : List Insn) (shapes : List MapShape) (ctx_len : ℕ) (plan : Plan)
    (closed : IsClosed code shapes ctx_len plan) (around : List MapShape) (run : Run)
    (x : Described code shapes ctx_len plan closed around run) where
  abbrev pub shown : Store
  shown = store_of around []

  abbrev sec : Section
  sec = section_of run

  abbrev base : ℕ → Element
  base = element_of around sec

  abbrev over : (ℕ → Element) → Store
  over f = store_of around (elements_by (births around) f)

  abbrev Goal : Run → Type 0
  Goal new = Described code shapes ctx_len plan closed around new

  -- what the machine does at the run's instruction, over contents of which nothing is known
  pub record GoesOnReplied (i : Insn) : Type 0 where
    pub answer : Answer
    pub store : Store
    pub new : Run
    pub step : InsnStep i (over base) (sec ∷ []) run answer store new

  pub goes : (i : Insn) → insn_at code run.state.place ≡ Some i → GoesOnReplied i
  goes i here =
      let g = closed.goes x.index (over base) (sec ∷ []) run
      (surrounds code shapes ctx_len plan closed around run x base (plain-content around sec)
      (plain-single code shapes ctx_len plan closed around run x))
      (planned code shapes ctx_len plan closed around run x base
      (plain-guards code shapes ctx_len plan closed around run x)) in
      let same : g.0 ≡ i = same_Some g.0 i (sym g.1 ∙ here) in
      record { answer = g.2.0; store = g.2.1; new = g.2.2; step = subst (λ (j : Insn). InsnStep j (over base) (sec ∷ []) run g.2.0 g.2.1 g.2.2) same g.2.3 }

  module _ (i : Insn) (here : insn_at code run.state.place ≡ Some i) (request : Request)
      (asked : asks i (bound_shape shown run.program.maps) run.state ≡ Some request) where
    -- how it is served over those
    pub record Served : Type 0 where
      pub reply : Value
      pub store : Store
      pub new : Run
      pub serves : ServesRequest run.program.maps request (over base) (sec ∷ []) reply store
      pub resumes : Resumes request i reply run new

    served-by : (answer : Answer) (store : Store) (new : Run) →
        (StepsAlone i (over base) run answer store new ⊎ StepsServed i (over base) (sec ∷ []) run answer store new) →
        Served
    served-by answer store new (inl a) = absurd (none-some a.0
        (sym (asks_or_acts i (bound_shape shown run.program.maps) (environment run) run.state request asked) ∙ a.1))
    served-by answer store new (inr s) =
        let same : s.request ≡ request = same_Some s.request request (sym s.asked ∙ asked) in
        record {
          reply = s.reply;
          store = store;
          new = new;
          serves = subst (λ (q : Request). ServesRequest run.program.maps q (over base) (sec ∷ []) s.reply store) same s.served;
          resumes = subst (λ (q : Request). Resumes q i s.reply run new) same s.resumes;
        }

    pub served : Served
    served =
        let g = goes i here in
        served-by g.answer g.store g.new g.step

    -- a reply that some contents give
    replied : (f : ℕ → Element) → IsContent around f → IsSingle (elements_by (births around) f) → Guards sec base f →
        (reply : Value) (es : List Element) (new : Run) →
        ServesRequest run.program.maps request (over f) (sec ∷ []) reply (store_of around es) →
        Resumes request i reply run new
        → Keeps (scene_of (store_of around es) new) (scene_of (store_of around (elements_around around (section_of new))) new) → Goal new
    replied f c single g reply es new serves resumes keeps =
        stepped code shapes ctx_len plan closed around run x f c single g i here es new
        (inr (record { request = request; reply = reply; asked = asked; served = serves; answer_is = refl; resumes = resumes })) keeps

  -- other contents at one number
  special-content : (n : ℕ) (e : Element) → e.map ≡ map_of n → length e.key ≡ key_length (slice_get around (map_of n))
      → length e.value ≡ value_length (slice_get around (map_of n)) → AreBytes e.value → is_reclaimed e.life ≡ false →
      IsContent around (changed_at n e base)
  special-content n e in_map key value bytes kept =
      let c = plain-content around sec in
      record {
        in_map = changed-all (λ k y. y.map ≡ map_of k) n e base in_map c.in_map;
        key = changed-all (λ k y. length y.key ≡ key_length (slice_get around (map_of k))) n e base key c.key;
        value = changed-all (λ k y. length y.value ≡ value_length (slice_get around (map_of k))) n e base value c.value;
        bytes = changed-all (λ k y. AreBytes y.value) n e base bytes c.bytes;
        arrays = changed-all (λ k y. StaysKept (map new_map around) y) n e base (λ state at is. kept) c.arrays;
      }

  special-guards : (n : ℕ) (e : Element) → e.map ≡ map_of n → (IsGuarded (base n).life sec → IsGuarded e.life sec) → Guards sec base (changed_at n e base)
  special-guards n e in_map guard = record {
    same = changed-all (λ k y. y.map ≡ (base k).map) n e base in_map (λ k. refl);
    guard = changed-all (λ k y. IsGuarded (base k).life sec → IsGuarded y.life sec) n e base guard (λ k g. g);
  }

  back-guards : (n : ℕ) (e : Element) → e.map ≡ map_of n → Guards sec (changed_at n e base) base
  back-guards n e in_map = record {
    same = changed-all (λ k y. map_of k ≡ y.map) n e base (sym in_map) (λ k. refl);
    guard = λ k g. (0, refl);
  }

  module _ (i : Insn) (here : insn_at code run.state.place ≡ Some i) where
    abbrev Asked : Request → Type 0
    Asked request = asks i (bound_shape shown run.program.maps) run.state ≡ Some request

    -- a load finds any number
    pub load-replied : (n : ℕ) (o : ℤ) (width v : ℕ) → v < 256 ^ width → Asked (LoadElement n o width) → (new : Run) →
        new ≡ moves run (resumed i (Number v) run.state) → Goal new
    load-replied n o width v small asked new is =
        let s = served i here (LoadElement n o width) asked in
        let h = s.serves in
        let f = first-step (accessible (elements_by (births around) base) n) (loaded_from width o) h.0 h.1 in
        let g = first-step (region_offset (length f.0.value) width o) (λ at. number_at (slice_get f.0.value) at width) h.0 f.2 in
        let t = touched around sec n f.0 f.1 in
        let p = offset_some (length f.0.value) width o g.0 g.1 in
        let zeros = (base n).value in
        let same : length f.0.value ≡ length zeros = ap (λ (e : Element). length e.value) (sym t.is) in
        let long : length (with_bytes g.0 width v zeros) ≡ length zeros = length-with_bytes g.0 width v zeros in
        let c = plain-content around sec in
        let e : Element = record { map = map_of n; key = (base n).key; value = with_bytes g.0 width v zeros; uses = 1; life = Unlinked (sec ∷ []) } in
        let all = changed_at n e base in
        let inside : g.0 + width ≤ length zeros = omega (arith, p.1, same) in
        let region : region_offset (length e.value) width o ≡ Some g.0 = ap (λ len. region_offset len width o) (long ∙ sym same) ∙ g.1 in
        let loads : (accessible (elements_by (births around) all) n >>= loaded_from width o) ≡ Some v =
        ap (λ y. y >>= loaded_from width o) (touch (births around) all n e t.below (changed-here n e base) refl)
        ∙ ap (λ r. r >>= λ at. number_at (slice_get e.value) at width) region ∙ number-back width g.0 v zeros inside small in
        let content = special-content n e refl (c.key n) (long ∙ c.value n) (with-bytes g.0 width v zeros (c.bytes n)) refl in
        subst (Goal) (sym is)
        (replied i here (LoadElement n o width) asked all content
        (single-one (births around) all n (λ k l. absurd
        (life-unlinked sec (sym (changed-all (λ j y. y.life ≡ Unlinked (sec ∷ [])) n e base refl (λ j. refl) k) ∙
        l))))
        (special-guards n e refl (λ y. y)) (Number v) (elements_by (births around) all) (moves run (resumed i (Number v) run.state)) (v, loads, refl, refl) refl
        (keeps-by around all base (moves run (resumed i (Number v) run.state)) (back-guards n e refl)))

    -- a store is made
    set-at : (n width : ℕ) (o : ℤ) (v : ℕ) (y : Element) (es : List Element) → Touched around sec n y →
        stored_in (elements_by (births around) base) n width o v y ≡ Some es
        → (k : ℕ) (e : Element) → slice_get es k ≡ Some e → (k < births around) × ((base k).map ≡ e.map) × (IsGuarded e.life sec → IsGuarded (base k).life sec)
    set-at n width o v y es t h k e at =
        let all = elements_by (births around) base in
        let g = first-step (region_offset (length y.value) width o) (λ p. Some (changed (with_value (with_bytes p width v y.value)) all n)) es h in
        let one : Element → Element = with_value (with_bytes g.0 width v y.value) in
        let is : slice_set all n (one (base n)) ≡ es =
        ap (λ (z : Option Element). set_to one all n z) (sym (get-by (births around) base n t.below)) ∙
        same_Some (changed one all n) es g.2 in
        elim (get-set_cases all n k (one (base n)) e (ap (λ (l : List Element). slice_get l k) is ∙ at)) [
          | inl z ↦ subst (λ (j : ℕ). (j < births around) × ((base j).map ≡ e.map) ×
              (IsGuarded e.life sec → IsGuarded (base j).life sec)) (sym z.0) (
                t.below,
                ap (λ (w : Element). w.map) z.1,
                λ q.
                    subst (λ (w : Element). IsGuarded w.life sec) (sym z.1) q,
              )
          | inr z ↦ (let w = by-is (births around) base k e
              z.1 in (
                by-below (births around) base k e z.1,
                ap (λ (u : Element). u.map) w,
                λ q.
                    subst (λ (u : Element). IsGuarded u.life sec) (sym w) q,
              ))
        ]

    pub store-replied : (n : ℕ) (o : ℤ) (width v : ℕ) → Asked (StoreElement n o width v) → (new : Run) →
        new ≡ moves run (resumed i Nothing run.state) → Goal new
    store-replied n o width v asked new is =
        let s = served i here (StoreElement n o width v) asked in
        let h = s.serves in
        let f = first-step (accessible (elements_by (births around) base) n) (stored_in (elements_by (births around) base) n width o v) h.0 h.1 in
        let t = touched around sec n f.0 f.1 in
        subst (Goal) (sym is)
        (replied i here (StoreElement n o width v) asked base (plain-content around sec)
        (plain-single code shapes ctx_len plan closed around run x)
        (plain-guards code shapes ctx_len plan closed around run x) Nothing h.0
        (moves run (resumed i Nothing run.state)) (h.0, h.1, refl, refl) refl
        (keeps-list around h.0 base (moves run (resumed i Nothing run.state)) (set-at n width o v f.0 h.0 t f.2)))

    -- a section opens, or ends
    pub enter-replied : Asked Enter → (new : Run) → Resumes Enter i Nothing run new → Goal new
    enter-replied asked new h =
        let later = moves (locked run) (resumed i Nothing run.state) in
        subst (Goal) (sym h.1)
        (replied i here Enter asked base (plain-content around sec)
        (plain-single code shapes ctx_len plan closed around run x)
        (plain-guards code shapes ctx_len plan closed around run x) Nothing (elements_by (births around) base)
        later (refl, refl) (h.0, refl)
        (keeps-by around base (element_of around (section_of later)) later (record { same = λ k. refl; guard = λ k g. (0, refl) })))

    pub leave-replied : Asked Leave → (new : Run) → Resumes Leave i Nothing run new → Goal new
    leave-replied asked new h =
        let later = moves (unlocked run) (resumed i Nothing run.state) in
        subst Goal (sym h.1)
        (replied i here Leave asked base (plain-content around sec)
        (plain-single code shapes ctx_len plan closed around run x)
        (plain-guards code shapes ctx_len plan closed around run x) Nothing (elements_by (births around) base)
        later (refl, refl) (h.0, refl)
        (keeps-by around base (element_of around (section_of later)) later (record { same = λ k. refl; guard = λ k g. (0, refl) })))

    -- a lookup finds nothing, or any slot
    abbrev Finding : ℕ → List ℕ → Request
    Finding map key = CallHelper Lookup (MapArgument map ∷ BytesArgument key ∷ [])

    pub miss-replied : (map : ℕ) (key : List ℕ) → Asked (Finding map key) → (new : Run) → new ≡ moves run (resumed i (Number 0) run.state) → Goal new
    miss-replied map key asked new is =
        let h = (served i here (Finding map key) asked).serves in
        let absent : IsAbsent (elements_by (births around) base) h.0 key = λ n l.
        life-unlinked sec (ap (λ (e : Element). e.life) (by-is (births around) base n l.element l.born) ∙
        l.linked) in
        subst (Goal) (sym is)
        (replied i here (Finding map key) asked base (plain-content around sec)
        (plain-single code shapes ctx_len plan closed around run x)
        (plain-guards code shapes ctx_len plan closed around run x) (Number 0) (elements_by (births around) base)
        (moves run (resumed i (Number 0) run.state))
        (h.0, None, h.2, absent, refl, refl) refl (record { held = λ m n y. y; depth = refl }))

    pub hit-replied : (i' map region : ℕ) (key : List ℕ) → map < length around →
        slice_get run.program.maps i' ≡ Some map → region < regions → Asked (Finding i' key) →
        length key ≡ key_length (slice_get around map) → (new : Run) →
        new ≡ moves run (resumed i (Pointer (Elem (element_in_region map region) (pos 0))) run.state) → Goal new
    hit-replied i' map region key there bound small asked long new is =
        let n = element_in_region map region in
        let of_map : map_of n ≡ map = omega (arith, small) in
        let below : n < births around = omega (arith, there, small) in
        let c = plain-content around sec in
        let e : Element = record { map = map_of n; key = key; value = (base n).value; uses = 1; life = Linked } in
        let all = changed_at n e base in
        let found : IsLinkedAt (elements_by (births around) all) map key n = record {
          element = e;
          born = get-by (births around) all n below ∙ ap Some (changed-here n e base);
          linked = refl;
          in_map = of_map;
          under = refl;
        } in
        let reply = Pointer (Elem n (pos 0)) in
        subst Goal (sym is)
        (replied i here (Finding i' key) asked all (special-content n e refl
        (long ∙ ap (λ k. key_length (slice_get around k)) (sym of_map)) (c.value n) (c.bytes n) refl)
        (single-one (births around) all n (linked-at n e base (λ k l. life-unlinked sec l)))
        (special-guards n e refl (λ g. tt)) reply (elements_by (births around) all)
        (moves run (resumed i reply run.state)) (map, Some n, bound, found, refl, refl) refl
        (keeps-by around all base (moves run (resumed i reply run.state))
        (back-guards n e refl)))
