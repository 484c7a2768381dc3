-- What a shared run asks is served by its seat, and it goes on.
use Rattle.bpf_model.proofs.Prelude.{◌≡◌, ℕ, ◌+◌, ◌-◌, ◌*◌, ◌/◌, ◌%◌, ◌^◌, ◌<◌, ◌≤◌, ◌⊎◌, inl, inr, refl, sym, ap, subst, ◌∙◌, arith, List, [], ◌∷◌, ◌++◌}
use Rattle.bpf_model.proofs.Prelude.{length, map, Option, Some, None, Bool, true, false, ℤ, slice_get, option_map, pos, negsuc, ◌+ℤ◌, ◌==◌, nat_le, take}
use Rattle.bpf_model.proofs.Prelude.{drop, if◌then◌else◌, cases_eq, false≢true, leb-true, ne_eqb, eqb_tells, ints, none-some, same_Some, slice_get_within}
use Rattle.bpf_model.proofs.Prelude.{length-replicate, byte_count, number_at, region_offset, unsigned_width, helper_of, kernel_function_of, Element}
use Rattle.bpf_model.proofs.Prelude.{accessible, Loaded, Run, locked, section_of, unlocked, bytes_at, frame_bytes, loaded_from, stored_in, operand_value}
use Rattle.bpf_model.proofs.Prelude.{start-insn_at, starts_apart, LoadElement, StoreElement, CallHelper, Enter, Leave, MapArgument, BytesArgument, Argument}
use Rattle.bpf_model.proofs.Prelude.{resumed, signature_of, arguments_of, FitsInsn, State, insn_at, ◌>>=◌, RunView, WordIs, frame_base, slot_base, get-below}
use Rattle.machine.proofs.Prelude.{request_of, resumed_view, kernel_request, TakesStep}
use Rattle.model_laws.proofs.Prelude.{Helper, Lookup, Update, Delete, KernelFunction, ReadLock, ReadUnlock, Insn, Call, Load, LoadSigned, Store, MapShape}
use Rattle.model_laws.proofs.Prelude.{FRAME_BYTES, MAX_DEPTH, Width, Value, Nothing, Number, Pointer}
use Rattle.plan_laws.proofs.Prelude.{scene_of, IsGuarded, IsHeld, IsVerified}
use Rattle.verifier.proofs.Prelude.{Checked}
use Rattle.world_laws.proofs.Prelude.{bytes_in, found_word, operand_word, word_in, IsInFrame, births, element_in_region, elements_around, key_length, map_of}
use Rattle.world_laws.proofs.Prelude.{region_of, regions, store_of, value_length, IsShownBy, region_bases}
use Rattle.bpf_model.specs.declared.insn.CallKind.TheVariants as kinds
use Rattle.bpf_model.specs.declared.value.Reference.TheVariants as references
use Rattle.bpf_model.specs.Machine.{moves as moves_run}
use Rattle.bpf_model.specs.Request.{Request as Asked, asks as asks_of, section_request as section_asked}
use Rattle.model_laws.proofs.Computations.{first-step}
use Rattle.model_laws.proofs.Requests.{LoadAsked, StoreAsked}
use Rattle.plan_laws.proofs.Elements.{offset_some}
use Rattle.world_laws.proofs.Bytes.{argument-bytes}
use Rattle.effects.specs.declared.region.Region.{Region}
use Rattle.effects.specs.declared.region.Region.TheVariants as noted
use Rattle.state_steps.specs.Steps.{IsInRegion, LooksUp, base_of}
use Rattle.world_laws.proofs.Asking.{lookup-asked}
use Rattle.world_laws.proofs.Contents.{by-is, get-range, map-below, touched}
use Rattle.world_laws.proofs.StandingOwn.{among}
use Rattle.world_laws.proofs.Among.{byte-stands, insn-real, operand-stands, register-word}
use Rattle.world_laws.proofs.Replied as replied
use Rattle.machine.specs.declared.request.Request.{Request}
use Rattle.machine.specs.declared.request.Request.TheVariants as requests
use Rattle.machine.specs.declared.request.Local.TheVariants as locals
use Rattle.machine.proofs.AskingSo.{load-asked, store-asked}
use Rattle.shared_runs.specs.Tables.{Table, IsTable}
use Rattle.shared_runs.specs.Learnt.{learnt_element, learnt_elements}
use Rattle.shared_runs.specs.Serving.{CanAnswer, GoesOnWith, LeadsToWord, map_named}
use Rattle.shared_runs.specs.SharedRuns.{closing, opening}
use Rattle.shared_runs.specs.Sharing.{GoesFurther, IsSharing, flag_of}
use Rattle.shared_runs.specs.Words.{ChangesMap, IsElementRegion, IsOtherWidth, part_of, stored_width}
use Rattle.shared_runs.proofs.Learning.{Reached, also, enter-learnt, hit-learnt, learnt-guarded, leave-learnt, load-learnt, miss-learnt, nest-learnt}
use Rattle.shared_runs.proofs.Learning.{no-array, none, not-array, store-learnt, also-cases, unnest-learnt}
use Rattle.shared_runs.proofs.Bytes.{in-word, part-below, some-bytes}
use Rattle.shared_runs.proofs.Stepped.{asks, ready, so}
use Rattle.shared_runs.proofs.Stepped as stepped
use Rattle.shared_runs.proofs.Steps.{aligned, are-hash, listed-shapes, onward, served-step}

-- the register by which an element is accessed
record Accesses (i : Insn) (n : ℕ) (m : State) : Type 0 where
  pub base : ℕ
  pub offset : ℤ
  pub base_is : base_of i ≡ Some base
  pub refers : m.regs base ≡ Pointer (references.Elem n offset)

-- an access to an element of a table: to bytes of one word of the value of one that is held
record WordOf (k : Table) (ms : List k.Move) (learnt : ℕ → Bool) (n : ℕ) (o : ℤ) (width : ℕ) : Type 0 where
  pub place : ℕ
  pub low : ℕ
  pub offset : o ≡ pos (8 * place + low)
  pub whole : low + width ≤ 8
  pub within : place < k.value_words
  pub slot : region_of n < k.elements
  pub is_learnt : learnt (region_of n) ≡ true
  pub learnt_here : k.Holds (region_of n) ms

module _ (k : Table) (keeps : IsTable k) (c : Checked) (context : List ℕ) (ms : List k.Move) (v : RunView) (x : IsSharing k c context ms v) where
  abbrev run : Run
  run = x.run

  abbrev some : IsVerified c.program c.shapes c.ctx_len
  some = stepped.some c x.justified

  abbrev shown : IsShownBy c.program c.shapes c.ctx_len some.plan c.shapes run v
  shown = stepped.shown c x.justified run v x.shown

  abbrev Known : Insn → Type 0
  Known i = stepped.Known c x.justified run v x.shown i

  abbrev listed : ℕ → Option MapShape
  listed = stepped.listed c x.justified run v x.shown

  module _ (i : Insn) (here : Known i) where
    abbrev Asks : Asked → Type 0
    Asks request = asks_of i listed run.state ≡ Some request

    -- the elements around the run are all of those that it may have learnt
    load-reached : (n : ℕ) (o : ℤ) (width : ℕ) → Asks (LoadElement n o width) → Reached c.shapes n o width
    load-reached n o width e =
        let s = replied.served c.program c.shapes c.ctx_len some.plan
        some.closed c.shapes run shown.described i here
        (LoadElement n o width) e in
        let h = s.serves in
        let f = first-step (accessible (elements_around c.shapes (section_of run)) n) (loaded_from width o) h.0 h.1 in
        let g = first-step (region_offset (length f.0.value) width o) (λ at. number_at (slice_get f.0.value) at width) h.0 f.2 in
        let t = touched c.shapes (section_of run) n f.0 f.1 in
        let long : length f.0.value ≡ value_length (slice_get c.shapes (map_of n)) =
        ap (λ (e : Element). length e.value) (sym t.is) ∙
        length-replicate (value_length (slice_get c.shapes (map_of n))) 0 in
        record { below = t.below; at = g.0; region = subst (λ len. region_offset len width o ≡ Some g.0) long g.1 }

    store-reached : (n : ℕ) (o : ℤ) (width w : ℕ) → Asks (StoreElement n o width w) → Reached c.shapes n o width
    store-reached n o width w e =
        let s = replied.served c.program c.shapes c.ctx_len some.plan
        some.closed c.shapes run shown.described i here
        (StoreElement n o width w) e in
        let h = s.serves in
        let all = elements_around c.shapes (section_of run) in
        let f = first-step (accessible all n) (stored_in all n width o w) h.0 h.1 in
        let g = first-step (region_offset (length f.0.value) width o) _ h.0 f.2 in
        let t = touched c.shapes (section_of run) n f.0 f.1 in
        let long : length f.0.value ≡ value_length (slice_get c.shapes (map_of n)) =
        ap (λ (e : Element). length e.value) (sym t.is) ∙
        length-replicate (value_length (slice_get c.shapes (map_of n))) 0 in
        record { below = t.below; at = g.0; region = subst (λ len. region_offset len width o ≡ Some g.0) long g.1 }

    -- the instruction has an index, and a region is noted for it
    index-there : slice_get c.program x.index ≡ Some i
    index-there =
        let r = start-insn_at 0 c.program run.state.place i here in
        let same : r.0 ≡ x.index = starts_apart 0 c.program r.0 x.index run.state.place
        (r.2 ∙ ap Some (let z : 0 + run.state.place ≡ run.state.place = omega arith in z)) x.planned.at in
        subst (λ j. slice_get c.program j ≡ Some i) same r.1

    region-noted : (region : Region) × (slice_get c.regions x.index ≡ Some region)
    region-noted =
        let l = slice_get_within c.program x.index i index-there in
        let long : length c.regions ≡ length c.program = x.justified.regions in
        get-below c.regions x.index (omega (arith, l, long))

    -- what is reached through a reference to an element was learnt
    held-learnt : (n map : ℕ) → IsHeld (scene_of (store_of c.shapes
        (learnt_elements c.shapes (section_of run) x.learnt)) run) map n → x.learnt (region_of n) ≡ true
    held-learnt n map h =
        let is = by-is (births c.shapes) (learnt_element c.shapes (section_of run) x.learnt) n h.element h.born in
        elim h.allowed [
          | inl g ↦ learnt-guarded (x.learnt (region_of n)) (section_of run) (section_of run)
              (subst (λ (e : Element). IsGuarded e.life (section_of run)) (sym is) g.1)
          | inr a ↦ absurd (not-array c.shapes (are-hash k c context ms v x) (learnt_elements c.shapes (section_of run) x.learnt) run map a)
        ]

    by-region : (n : ℕ) (off : ℤ) (u : Value) (region : Region) → u ≡ Pointer (references.Elem n off) →
        IsInRegion (scene_of (store_of c.shapes (learnt_elements c.shapes (section_of run) x.learnt)) run) region u →
        IsElementRegion region × (x.learnt (region_of n) ≡ true)
    by-region n off u noted.None is q = absurd q
    by-region n off u noted.Ctx is q = let e : Pointer (references.Ctx q.0) ≡ Pointer (references.Elem n off) = sym q.1 ∙ is in absurd (cc)
    by-region n off u noted.Frame is q = let e : Pointer (references.Frame q.0) ≡ Pointer (references.Elem n off) = sym q.1 ∙ is in absurd (cc)
    by-region n off u (noted.Value map) is q =
        let e : Pointer (references.Elem q.0 q.1) ≡ Pointer (references.Elem n off) = sym q.2 ∙ is in
        let same : q.0 ≡ n = cc in
        (tt, held-learnt n map (subst (IsHeld (scene_of (store_of c.shapes (learnt_elements c.shapes (section_of run) x.learnt)) run) map) same q.3))

    -- an element is accessed by the region that is noted
    element-noted : (n : ℕ) (a : Accesses i n run.state) → IsElementRegion region-noted.0 × (x.learnt (region_of n) ≡ true)
    element-noted n a =
        let region = region-noted in
        let inside_region = x.justified.justified.regions x.index i a.base region.0
        (scene_of (store_of c.shapes (learnt_elements c.shapes (section_of run) x.learnt)) run) run.state
        index-there a.base_is region.1 x.planned in
        by-region n a.offset (run.state.regs a.base) region.0 a.refers inside_region

    -- a store is of a whole word
    store-wide : (n width : ℕ) → Accesses i n run.state → stored_width i ≡ Some width → width ≡ 8
    store-wide n width a width_is =
        let region = region-noted in
        let q = element-noted n a in
        elim (cases_eq width 8) [
          | inl e ↦ e
          | inr e ↦ absurd (x.words (record {
            index = x.index;
            insn = i;
            there = index-there;
            uses =
                inl (record {
                  other = subst IsOtherWidth (sym width_is) e;
                  region = region.0;
                  noted = region.1;
                  element = q.0;
                });
          }))
        ]

    word-of : (n : ℕ) (o : ℤ) (width : Width) → Reached c.shapes n o (byte_count width) → Accesses i n run.state →
        WordOf k ms x.learnt n o (byte_count width)
    word-of n o width r a =
        let q = element-noted n a in
        let shape = get-below c.shapes (map_of n) (map-below c.shapes n r.below) in
        let long : value_length (slice_get c.shapes (map_of n)) ≡ shape.0.value_len = ap value_length shape.1 in
        let most : shape.0.value_len ≤ 8 * k.value_words = keeps.kept_value (map_of n) shape.0 (x.fits (map_of n) shape.0 shape.1).0 in
        let s = offset_some (value_length (slice_get c.shapes (map_of n))) (byte_count width) o r.at r.region in
        let fits = s.1 in
        let some = some-bytes width in
        let at : r.at ≡ 8 * (r.at / 8) + r.at % 8 = omega arith in
        let l = x.known (region_of n) q.1 in
        record {
          place = r.at / 8;
          low = r.at % 8;
          offset = s.0 ∙ ap pos at;
          whole = in-word width r.at (aligned (value_length (slice_get c.shapes (map_of n))) (byte_count width) o r.at r.region);
          within = omega (arith, fits, long, most, some);
          slot = l.0;
          is_learnt = q.1;
          learnt_here = l.1;
        }

    -- The run goes on from a load.
    load-goes : (n : ℕ) (o : ℤ) (wide : Width) (y : ℕ) → y < 2 ^ 64 → Asks (LoadElement n o (byte_count wide)) →
        Reached c.shapes n o (byte_count wide) → (w : WordOf k ms x.learnt n o (byte_count wide)) → GoesFurther k c context
        (k.finds (region_of n) w.place y ∷ ms) v (resumed_view i (part_of y w.low (byte_count wide)) v)
    load-goes n o wide y small e r w =
        let width = byte_count wide in
        let part = part_of y w.low width in
        let next = moves_run run (resumed i (Number part) run.state) in
        let below = part-below y w.low wide in
        onward k c context ms v x (k.finds (region_of n) w.place y ∷ ms) next (resumed_view i part v) x.learnt
        (λ plan closed. (so c x.justified run v x.shown plan closed i (LoadElement n o width) here e).goes_on (Number part) part next
        (part, below, refl) refl refl) refl refl
        (load-learnt c.program c.shapes c.ctx_len (are-hash k c context ms v x) some.plan
        some.closed run shown.described x.learnt x.index x.planned i
        here n o width part below e r w.is_learnt next refl shown.described.going)
        (served-step k c context ms v x i (LoadElement n o width) here e
        (k.finds (region_of n) w.place y ∷ []) (Number part) next
        (w.place, w.low, y, w.offset, w.whole, w.within, w.slot, w.learnt_here, small, refl, refl) refl)
        (λ slot e. ((x.known slot e).0, keeps.find_holds (region_of n) w.place y slot ms (x.known slot e).1))
        (keeps.find_inside (region_of n) w.place y ms ∙ (x.section ∙ ap flag_of shown.words.depth))

    store-goes : (n : ℕ) (o : ℤ) (width y word : ℕ) → width ≡ 8 → Asks (StoreElement n o width y) → Reached c.shapes n o width →
        (w : WordOf k ms x.learnt n o width) → GoesFurther k c context
        (k.writes (region_of n) w.place y ∷ ms) v (resumed_view i word v)
    store-goes n o width y word wide e r w =
        let next = moves_run run (resumed i Nothing run.state) in
        let whole = w.whole in
        let first : 8 * w.place + w.low ≡ 8 * w.place = omega (arith, whole, wide) in
        onward k c context ms v x (k.writes (region_of n) w.place y ∷ ms) next (resumed_view i word v) x.learnt
        (λ plan closed. (so c x.justified run v x.shown plan closed i (StoreElement n o width y) here e).goes_on Nothing word next refl tt refl) refl refl
        (store-learnt c.program c.shapes c.ctx_len (are-hash k c context ms v x) some.plan
        some.closed run shown.described x.learnt x.index x.planned i
        here n o width y e r w.is_learnt next refl shown.described.going)
        (served-step k c context ms v x i (StoreElement n o width y) here e
        (k.writes (region_of n) w.place y ∷ []) Nothing next
        (w.place, wide, w.offset ∙ ap pos first, w.within, w.slot, w.learnt_here, refl, refl) refl)
        (λ slot e. ((x.known slot e).0, keeps.write_holds (region_of n) w.place y slot ms (x.known slot e).1))
        (keeps.write_inside (region_of n) w.place y ms ∙ (x.section ∙ ap flag_of shown.words.depth))

    -- this instruction stands at the run's place
    goes-at : (ns : List k.Move) (word : ℕ) → GoesFurther k c context ns v (resumed_view i word v) → GoesOnWith k c context ns v word
    goes-at ns word h = (i, ap (insn_at c.program) shown.words.place ∙ here, h)

    -- where an address leads
    leads : (n : ℕ) (o offset : ℤ) (width : Width) (address : ℕ) →
        WordIs region_bases (Pointer (references.Elem n o)) address →
        WordOf k ms x.learnt n (o +ℤ offset) (byte_count width) → LeadsToWord k ms address offset width
    leads n o offset width address word w =
        let off = w.offset in
        record {
          element = region_of n;
          place = w.place;
          low = w.low;
          whole = w.whole;
          at = omega (arith, ints, word, off);
          in_table = w.slot;
          in_value = w.within;
          held = w.learnt_here;
        }

    register : (q : ℕ) → q ≤ 10 → WordIs region_bases (run.state.regs q) (word_in v q)
    register q l = register-word (among (ready c x.justified some.plan some.closed) shown) q l

    -- a key in the frame
    record KeyAt (word len : ℕ) (key : List ℕ) : Type 0 where
      pub inside : IsInFrame word len
      pub is : take len (drop (word - frame_base) v.frame) ≡ key

    key-inside : (at len : ℕ) (key : List ℕ) (t : Bool) → nat_le (at + len) FRAME_BYTES ≡ t →
        (if t then bytes_at run.state.frame at len else None) ≡ Some key → (at + len ≤ FRAME_BYTES) ×
        (bytes_at run.state.frame at len ≡ Some key)
    key-inside at len key true is h = (leb-true (at + len) FRAME_BYTES is, h)
    key-inside at len key false is h = absurd (none-some key h)

    key-from : (u : Value) (word len : ℕ) (key : List ℕ) → WordIs region_bases u word → frame_bytes run.state.frame len u ≡ Some key → KeyAt word len key
    key-from Nothing word len key w e = absurd (none-some key e)
    key-from (Number n) word len key w e = absurd (none-some key e)
    key-from (Pointer (references.Ctx o)) word len key w e = absurd (none-some key e)
    key-from (Pointer (references.MapRef m)) word len key w e = absurd (none-some key e)
    key-from (Pointer (references.Elem n o)) word len key w e = absurd (none-some key e)
    key-from (Pointer (references.Frame (negsuc n))) word len key w e = absurd (none-some key e)
    key-from (Pointer (references.Frame (pos at))) word len key w e =
        let f = key-inside at len key (nat_le (at + len) FRAME_BYTES) refl e in
        let s = shown in
        let long : length v.frame ≡ FRAME_BYTES = s.words.cells in
        let is : word - frame_base ≡ at = omega (arith, ints, w) in
        record {
          inside = record { least = omega (arith, ints, w); inside = omega (arith, is, f.0) };
          is = ap (λ at. take len (drop at v.frame)) is
              ∙ argument-bytes region_bases run.state.frame v.frame
              (byte-stands (among (ready c x.justified some.plan some.closed) s)) len at key (omega (arith, f.0, long)) f.1;
        }

    -- a lookup
    abbrev Finding : ℕ → List ℕ → Asked
    Finding map key = CallHelper Lookup (MapArgument map ∷ BytesArgument key ∷ [])

    record Finds (map : ℕ) (key : List ℕ) : Type 0 where
      pub asked : Asks (Finding map key)
      pub below : map < length c.shapes
      pub bound : slice_get run.program.maps map ≡ Some map
      pub long : length key ≡ key_length (slice_get c.shapes map)

    missed : (map : ℕ) (key : List ℕ) → Finds map key → (ns : List k.Move) → k.LooksUp map key ns None →
        GoesFurther k c context (ns ++ ms) v (resumed_view i 0 v)
    missed map key f ns looked =
        let next = moves_run run (resumed i (Number 0) run.state) in
        onward k c context ms v x (ns ++ ms) next (resumed_view i 0 v) x.learnt
        (λ plan closed. (so c x.justified run v x.shown plan closed i (Finding map key) here f.asked).goes_on (Number 0) 0 next (inl refl) refl refl) refl refl
        (miss-learnt c.program c.shapes c.ctx_len (are-hash k c context ms v x) some.plan
        some.closed run shown.described x.learnt x.index x.planned i
        here map map key f.bound f.asked next refl shown.described.going)
        (served-step k c context ms v x i (Finding map key) here f.asked ns (Number 0) next (None, looked, refl) refl)
        (λ slot e. ((x.known slot e).0, keeps.lookup_holds map key ns ms None looked slot (x.known slot e).1))
        (keeps.lookup_inside map key ns ms None looked ∙ (x.section ∙ ap flag_of shown.words.depth))

    hit : (map slot : ℕ) (key : List ℕ) → Finds map key → (ns : List k.Move) → k.LooksUp map key ns (Some slot) →
        GoesFurther k c context (ns ++ ms) v (resumed_view i (slot_base 0 slot) v)
    hit map slot key f ns looked =
        let reply : Value = Pointer (references.Elem (element_in_region map slot) (pos 0)) in
        let next = moves_run run (resumed i reply run.state) in
        let in_table : slot < k.elements = keeps.hit_within map key ns slot looked in
        let few = x.few in
        let small : slot < regions = omega (arith, in_table, few) in
        let word : ℕ = slot_base 0 slot in
        let same : region_bases (element_in_region map slot) ≡ word = omega (arith, small) in
        let stands : WordIs region_bases reply word = omega (arith, ints, same) in
        onward k c context ms v x (ns ++ ms) next (resumed_view i word v) (also slot x.learnt)
        (λ plan closed. (so c x.justified run v x.shown plan closed i (Finding map key) here f.asked).goes_on reply word next
        (inr (map, slot, f.bound, small, refl)) stands refl) refl refl
        (hit-learnt c.program c.shapes c.ctx_len (are-hash k c context ms v x) some.plan
        some.closed run shown.described x.learnt x.index x.planned i
        here map map slot key f.below f.bound small f.asked f.long next refl
        shown.described.going)
        (served-step k c context ms v x i (Finding map key) here f.asked ns reply next (Some slot, looked, refl) refl)
        (λ r e. elim (also-cases slot x.learnt r e) [
          | inl is ↦ (subst (λ j. j < k.elements) (sym is) in_table, subst (λ j. k.Holds j (ns ++ ms)) (sym is) (keeps.hit_holds map key ns ms slot looked))
          | inr before ↦ ((x.known r before).0, keeps.lookup_holds map key ns ms (Some slot) looked r (x.known r before).1)
        ])
        (keeps.lookup_inside map key ns ms (Some slot) looked ∙ (x.section ∙ ap flag_of shown.words.depth))

    found : (map : ℕ) (key : List ℕ) → Finds map key → (ns : List k.Move) (o : Option ℕ) → k.LooksUp map key ns o →
        GoesFurther k c context (ns ++ ms) v (resumed_view i (found_word 0 o) v)
    found map key f ns None looked = missed map key f ns looked
    found map key f ns (Some slot) looked = hit map slot key f ns looked

    pub looks-up : (arguments : List Argument) → LooksUp i → Asks (CallHelper Lookup arguments) →
        arguments_of (signature_of Lookup).arguments listed run.state 1 ≡ Some arguments →
        CanAnswer k c context ms v (requests.Call Lookup)
    looks-up arguments lookup asked e =
        let l = lookup-asked listed run.state arguments e in
        let shape : slice_get c.shapes l.map ≡ Some l.shape = ap (λ (f : ℕ → Option MapShape). f l.map) (listed-shapes k c context ms v x) ∙ l.shape_is in
        let below : l.map < length c.shapes = slice_get_within c.shapes l.map l.shape shape in
        let fits = x.fits l.map l.shape shape in
        let len : l.shape.key_len ≡ 8 * k.key_words l.map = keeps.kept_key l.map l.shape fits.0 in
        let word : WordIs region_bases (Pointer (references.MapRef l.map)) (word_in v 1) =
        subst (λ u. WordIs region_bases u (word_in v 1)) l.map_is (register 1 (omega arith)) in
        let named : l.map ≡ map_named v = omega (arith, ints, word) in
        let len_named : l.shape.key_len ≡ 8 * k.key_words (map_named v) = len ∙ ap (λ map. 8 * k.key_words map) named in
        let at = key-from (run.state.regs 2) (word_in v 2) l.shape.key_len l.key (register 2 (omega arith)) l.key_is in
        let f : Finds l.map l.key = record {
          asked = asked ∙ ap (λ a. Some (CallHelper Lookup a)) l.arguments_are;
          below = below;
          bound = ap (λ (p : Loaded). slice_get p.maps l.map) x.program ∙ get-range (length c.shapes) l.map below;
          long = l.long ∙ sym (ap key_length shape);
        } in
        let deep : 0 < run.depth = elim (x.justified.justified.looked_up x.index i
        (scene_of (store_of c.shapes (learnt_elements c.shapes (section_of run) x.learnt)) run) run.state
        index-there lookup x.planned) [
          | inl inside ↦ inside
          | inr a ↦ absurd (no-array c.shapes (are-hash k c context ms v x) a.0 a.2)
        ] in
        let depth : v.depth ≡ run.depth = shown.words.depth in
        record {
          inside = omega (arith, deep, depth);
          frame = shown.words.cells;
          shape = l.shape;
          kept = subst (λ map. k.Keeps map l.shape) named fits.0;
          key = subst (IsInFrame (word_in v 2)) len_named at.inside;
          goes_on = λ ns o looked. goes-at (ns ++ ms) (found_word 0 o)
              (found l.map l.key f ns o (subst (λ key. k.LooksUp l.map key ns o) (ap (bytes_in v 2) (sym len_named) ∙ at.is)
              (subst (λ map. k.LooksUp map (bytes_in v 2 (8 * k.key_words (map_named v))) ns o) (sym named) looked)));
        }

    -- sections
    depth-shown : v.depth ≡ run.depth
    depth-shown = shown.words.depth

    deep-flag : (d : ℕ) → 0 < d → flag_of d ≡ 1
    deep-flag d inside = ap (λ b. if b then 0 else 1) (ne_eqb d 0 (λ e. absurd (omega (arith, inside, e))))

    abbrev EntersBy : ℕ → Type 0
    EntersBy depth = (word : ℕ) → GoesOnWith k c context (opening k depth ++ ms) v word

    abbrev LeavesBy : ℕ → Type 0
    LeavesBy depth = (word : ℕ) → GoesOnWith k c context (closing k depth ++ ms) v word

    -- the outermost lock opens the seat's section
    enters-first : Asks Enter → run.depth < MAX_DEPTH → run.depth ≡ 0 → EntersBy 0
    enters-first asked room outside word =
        let s = shown in
        let next = moves_run (locked run) (resumed i Nothing run.state) in
        let deeper : next.depth ≡ 1 = omega (arith, outside) in
        goes-at (k.begins ∷ ms) word (onward k c context ms v x (k.begins ∷ ms) next (resumed_view i word v) none
        (λ plan closed. (so c x.justified run v x.shown plan closed i Enter here asked).goes_on Nothing word next refl tt (room, refl)) refl refl
        (enter-learnt c.program c.shapes c.ctx_len (are-hash k c context ms v x) some.plan
        some.closed run s.described x.learnt x.index x.planned i here outside asked next
        (room, refl) s.described.going)
        (served-step k c context ms v x i Enter here asked (k.begins ∷ []) Nothing next (sym (ap (opening k) outside), refl) (room, refl))
        (λ slot e. absurd (false≢true e)) (keeps.begun ms ∙ sym (ap flag_of deeper)))

    -- a further one is no move of it
    enters-again : Asks Enter → run.depth < MAX_DEPTH → 0 < run.depth → (word : ℕ) → GoesOnWith k c context ms v word
    enters-again asked room inside_one word =
        let s = shown in
        let next = moves_run (locked run) (resumed i Nothing run.state) in
        let none_is : [] ≡ opening k run.depth = sym (ap (λ b. if b then k.begins ∷ [] else [])
        (ne_eqb run.depth 0 (λ e. absurd (omega (arith, inside_one, e))))) in
        goes-at ms word (onward k c context ms v x ms next (resumed_view i word v) x.learnt
        (λ plan closed. (so c x.justified run v x.shown plan closed i Enter here asked).goes_on Nothing word next refl tt (room, refl)) refl refl
        (nest-learnt c.program c.shapes c.ctx_len (are-hash k c context ms v x) some.plan
        some.closed run s.described x.learnt x.index x.planned i here inside_one asked next
        (room, refl) s.described.going)
        (served-step k c context ms v x i Enter here asked [] Nothing next (none_is, refl) (room, refl))
        x.known (x.section ∙ ap flag_of depth-shown ∙ deep-flag run.depth inside_one ∙ sym (deep-flag next.depth (omega (arith, inside_one)))))

    pub enters : Asks Enter → CanAnswer k c context ms v requests.Enter
    enters asked =
        let a = so c x.justified run v x.shown some.plan some.closed i Enter here asked in
        let room : run.depth < MAX_DEPTH = (a.resumes Nothing).1.0 in
        record {
          goes_on = subst EntersBy (sym depth-shown) (elim (eqb_tells run.depth 0) [
            | inl (t, outside) ↦ subst EntersBy (sym outside) (enters-first asked room outside)
            | inr (t, deep) ↦ (λ word. subst (λ ns. GoesOnWith k c context (ns ++ ms) v word)
                (sym (ap (λ b. if b then k.begins ∷ [] else []) t))
                (enters-again asked room (omega (arith, deep)) word))
          ]);
        }

    -- the outermost unlock closes the seat's section
    leaves-last : Asks Leave → 0 < run.depth → run.depth ≡ 1 → LeavesBy 1
    leaves-last asked within inside_one word =
        let s = shown in
        let next = moves_run (unlocked run) (resumed i Nothing run.state) in
        let ended : next.depth ≡ 0 = omega (arith, inside_one) in
        goes-at (k.ends ∷ ms) word (onward k c context ms v x (k.ends ∷ ms) next (resumed_view i word v) none
        (λ plan closed. (so c x.justified run v x.shown plan closed i Leave here asked).goes_on Nothing word next refl tt (within, refl)) refl refl
        (leave-learnt c.program c.shapes c.ctx_len (are-hash k c context ms v x) some.plan
        some.closed run s.described x.learnt x.index x.planned i here inside_one asked next
        (within, refl) s.described.going)
        (served-step k c context ms v x i Leave here asked (k.ends ∷ []) Nothing next (sym (ap (closing k) inside_one), refl) (within, refl))
        (λ slot e. absurd (false≢true e)) (keeps.ended ms ∙ sym (ap flag_of ended)))

    -- an inner one is no move of it
    leaves-inner : Asks Leave → 1 < run.depth → (word : ℕ) → GoesOnWith k c context ms v word
    leaves-inner asked deep word =
        let s = shown in
        let within : 0 < run.depth = omega (arith, deep) in
        let next = moves_run (unlocked run) (resumed i Nothing run.state) in
        let none_is : [] ≡ closing k run.depth = sym (ap (λ b. if b then k.ends ∷ [] else [])
        (ne_eqb run.depth 1 (λ e. absurd (omega (arith, deep, e))))) in
        goes-at ms word (onward k c context ms v x ms next (resumed_view i word v) x.learnt
        (λ plan closed. (so c x.justified run v x.shown plan closed i Leave here asked).goes_on Nothing word next refl tt (within, refl)) refl refl
        (unnest-learnt c.program c.shapes c.ctx_len (are-hash k c context ms v x) some.plan
        some.closed run s.described x.learnt x.index x.planned i here deep asked next
        (within, refl) s.described.going)
        (served-step k c context ms v x i Leave here asked [] Nothing next (none_is, refl) (within, refl))
        x.known (x.section ∙ ap flag_of depth-shown ∙ deep-flag run.depth within ∙ sym (deep-flag next.depth (omega (arith, deep)))))

    pub leaves : Asks Leave → CanAnswer k c context ms v requests.Leave
    leaves asked =
        let a = so c x.justified run v x.shown some.plan some.closed i Leave here asked in
        let within : 0 < run.depth = (a.resumes Nothing).1.0 in
        let depth : v.depth ≡ run.depth = depth-shown in
        record {
          inside = omega (arith, within, depth);
          goes_on = subst LeavesBy (sym depth-shown) (elim (eqb_tells run.depth 1) [
            | inl (t, one) ↦ subst LeavesBy (sym one) (leaves-last asked within one)
            | inr (t, more) ↦ (λ word. subst (λ ns. GoesOnWith k c context (ns ++ ms) v word)
                (sym (ap (λ b. if b then k.ends ∷ [] else []) t))
                (leaves-inner asked (omega (arith, within, more)) word))
          ]);
        }

    changes-none : (helper : Helper) (imm : ℤ) → i ≡ Call kinds.Helper imm → helper_of imm ≡ Some helper → (helper ≡ Update) ⊎ (helper ≡ Delete) → ⊥
    changes-none helper imm is e (inl u) = x.words (record {
      index = x.index;
      insn = i;
      there = index-there;
      uses =
          inr (subst (λ (j : Insn). ChangesMap j) (sym is) (inl (e ∙ ap Some u)));
    })
    changes-none helper imm is e (inr d) = x.words (record {
      index = x.index;
      insn = i;
      there = index-there;
      uses =
          inr (subst (λ (j : Insn). ChangesMap j) (sym is) (inr (e ∙ ap Some d)));
    })

  insn-real-at : (i : Insn) → Known i → FitsInsn i
  insn-real-at i here = insn-real (among (ready c x.justified some.plan some.closed) shown) i here

  abbrev Goal : Request → Type 0
  Goal request = CanAnswer k c context ms v request

  loads-by : (i : Insn) (here : Known i) (width : Width) (src : ℕ) (offset : ℤ) (b : Bool)
      (asked : Asked) → src ≤ 10 → base_of i ≡ Some src → asks_of i listed run.state ≡ Some asked →
      LoadAsked (byte_count width) offset (run.state.regs src) b asked →
      Goal (requests.Load (word_in v src) offset width)
  unfolding leads word-of
  loads-by i here width src offset b asked l base e a =
      let width_bytes = byte_count width in
      let asks : asks_of i listed run.state ≡ Some (LoadElement a.n (a.o +ℤ offset) width_bytes) = e ∙ ap Some (sym a.request_is) in
      let r = load-reached i here a.n (a.o +ℤ offset) width_bytes asks in
      let w = word-of i here a.n (a.o +ℤ offset) width r (record { base = src; offset = a.o; base_is = base; refers = a.base_is }) in
      record {
        leads = leads i here a.n a.o offset width (word_in v src) (subst (λ u. WordIs region_bases u (word_in v src)) a.base_is (register i here src l)) w;
        goes_on = λ y small. goes-at i here (k.finds (region_of a.n) w.place y ∷ ms) (part_of y w.low width_bytes)
            (load-goes i here a.n (a.o +ℤ offset) width y small asks r w);
      }

  stores-by : (i : Insn) (here : Known i) (width : Width) (dst : ℕ) (offset : ℤ) (value : Value)
      (number : ℕ) (asked : Asked) → dst ≤ 10 → base_of i ≡ Some dst → stored_width i ≡ Some (byte_count width)
      → asks_of i listed run.state ≡ Some asked → WordIs region_bases value number →
      StoreAsked (byte_count width) offset value (run.state.regs dst) asked →
      Goal (requests.Store (word_in v dst) offset width number)
  unfolding leads word-of
  stores-by i here width dst offset value number asked l base width_is e word a =
      let width_bytes = byte_count width in
      let same : number ≡ a.x = subst (λ u. WordIs region_bases u number) a.value_is word in
      let asks : asks_of i listed run.state ≡ Some
      (StoreElement a.n (a.o +ℤ offset) width_bytes number) = e ∙ ap Some (sym a.request_is) ∙
      ap (λ n. Some (StoreElement a.n (a.o +ℤ offset) width_bytes n)) (sym same) in
      let r = store-reached i here a.n (a.o +ℤ offset) width_bytes number asks in
      let accesses : Accesses i a.n run.state = record { base = dst; offset = a.o; base_is = base; refers = a.base_is } in
      let w = word-of i here a.n (a.o +ℤ offset) width r accesses in
      let wide = store-wide i here a.n width_bytes accesses width_is in
      record {
        wide = wide;
        leads = leads i here a.n a.o offset width (word_in v dst) (subst (λ u. WordIs region_bases u (word_in v dst)) a.base_is (register i here dst l)) w;
        goes_on = λ reply. goes-at i here (k.writes (region_of a.n) w.place number ∷ ms) reply
            (store-goes i here a.n (a.o +ℤ offset) width_bytes number reply wide asks r w);
      }

  by-function : (i : Insn) (here : Known i) (f : KernelFunction) →
      asks_of i listed run.state ≡ Some (section_asked f) → Goal (kernel_request f)
  by-function i here ReadLock e = enters i here e
  by-function i here ReadUnlock e = leaves i here e

  by-helper : (imm : ℤ) (here : Known (Call kinds.Helper imm)) (helper : Helper)
      (arguments : List Argument) → helper_of imm ≡ Some helper →
      arguments_of (signature_of helper).arguments listed run.state 1 ≡ Some arguments
      → asks_of (Call kinds.Helper imm) listed run.state ≡ Some (CallHelper helper arguments) → Goal (requests.Call helper)
  by-helper imm here Lookup arguments e of asks = looks-up (Call kinds.Helper imm) here arguments e asks of
  by-helper imm here Update arguments e of asks = changes-none (Call kinds.Helper imm) here Update imm refl e (inl refl)
  by-helper imm here Delete arguments e of asks = changes-none (Call kinds.Helper imm) here Delete imm refl e (inr refl)

  by-insn : (i : Insn) (here : Known i) (request : Request) (asked : Asked) →
      request_of i v ≡ Some request → asks_of i listed run.state ≡ Some asked → Goal request
  by-insn (Load width dst src offset) here request asked of e =
      let real = insn-real-at (Load width dst src offset) here in
      subst Goal (same_Some _ request of) (loads-by (Load width dst src offset) here width src offset (dst == 10)
      asked real.1 refl e (load-asked (byte_count width) offset (run.state.regs src) (dst == 10) asked e))
  by-insn (LoadSigned width dst src offset) here request asked of e =
      let real = insn-real-at (LoadSigned width dst src offset) here in
      subst Goal (same_Some _ request of) (loads-by (LoadSigned width dst src offset) here (unsigned_width width) src
      offset (dst == 10) asked real.1 refl e (load-asked (byte_count (unsigned_width width)) offset
      (run.state.regs src) (dst == 10) asked e))
  by-insn (Store width dst offset src) here request asked of e =
      let real = insn-real-at (Store width dst offset src) here in
      subst Goal (same_Some _ request of) (stores-by (Store width dst offset src) here width dst offset
      (operand_value src run.state.regs) (operand_word v src) asked real.0 refl refl e
      (operand-stands (among (ready c x.justified some.plan some.closed) shown) src real.1)
      (store-asked (byte_count width) offset (operand_value src run.state.regs) (run.state.regs dst) asked e))
  by-insn (Call kinds.Kernel imm) here request asked of e =
      let f = first-step (kernel_function_of imm) (λ function. Some (section_asked function)) asked e in
      let same : kernel_request f.0 ≡ request = same_Some (kernel_request f.0) request (sym (ap (option_map kernel_request) f.1) ∙ of) in
      subst Goal same (by-function (Call kinds.Kernel imm) here f.0 (e ∙ sym f.2))
  by-insn (Call kinds.Helper imm) here request asked of e =
      let f = first-step (helper_of imm) (λ helper. arguments_of (signature_of helper).arguments
      listed run.state 1 >>= λ arguments. Some (CallHelper helper arguments)) asked e in
      let g = first-step (arguments_of (signature_of f.0).arguments listed run.state 1)
      (λ arguments. Some (CallHelper f.0 arguments)) asked f.2 in
      let same : requests.Call f.0 ≡ request = same_Some (requests.Call f.0) request (sym (ap (option_map requests.Call) f.1) ∙ of) in
      subst Goal same (by-helper imm here f.0 g.0 f.1 g.1 (e ∙ sym g.2))
  by-insn i here request asked of e = absurd (none-some request of)

  -- whatever the words of the run ask can be served
  pub can-serve : (request : Request) (after : RunView) → TakesStep c v (locals.Shared request) after →
      CanAnswer k c context ms v request × (after ≡ v)
  can-serve request after s =
      let a = asks c x.justified run v x.shown request after s in
      (by-insn s.0 a.here request a.asked a.words a.is, a.same)
