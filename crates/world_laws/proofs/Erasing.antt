-- Each element that may be accessed is given the number of its map and its region; a reference to
-- any other is forgotten. The run that is left stands for the same words, and what described it
-- does so still.
use Rattle.bpf_model.proofs.Prelude.{◌≡◌, ℕ, inl, inr, ◌-◌, ◌*◌, ◌/◌, ◌%◌, ◌^◌, ◌<◌, refl, sym, ap, subst, ◌∙◌, arith, List, length, map, Option, Some, None}
use Rattle.bpf_model.proofs.Prelude.{slice_index, ℤ, pos, ◌+ℤ◌, none-some, same_Some, slice_get_within, length-map, Element, accessible, Run, section_of}
use Rattle.bpf_model.proofs.Prelude.{found_value, MapState, new_map, State, ◌>>=◌, RunView, WordIs, ByteIs, get-map, AreWords}
use Rattle.model_laws.proofs.Prelude.{Insn, Array, MapShape, Cell, Unwritten, Byte, Part, Value, Nothing, Number, Pointer, Ctx, Frame, MapRef, Elem}
use Rattle.model_laws.proofs.Prelude.{HoldsValue, HoldsCell, IsNear, IsNearCell, IsNearOffset}
use Rattle.plan_laws.proofs.Prelude.{Kind, Blank, Mixed, Ended, Num, CtxAt, FrameAt, MapAt, ValueAt, MaybeNull, CellKind, BlankCell, MixedCell, EndedCell}
use Rattle.plan_laws.proofs.Prelude.{ByteCell, PartCell, AbsState, Scene, scene_of, IsArrayMap, IsHeld, Naming, IsNullOrHeld, IsOf, Stored, IsOfCell}
use Rattle.plan_laws.proofs.Prelude.{Describes, part_of, AreMapsBound, IsClosed, Plan}
use Rattle.world_laws.proofs.Prelude.{regions, map_of, element_in_region, element_of, births, elements_around, store_of, IsSlotWord, IsNumbered, IsRunOf}
use Rattle.world_laws.proofs.Prelude.{IsShownBy, region_bases}
use Rattle.model_laws.proofs.Computations.{first-step, then-step}
use Rattle.plan_laws.proofs.Arrays.{kind-there, there-kind}
use Rattle.plan_laws.proofs.Elements.{accessible-held}
use Rattle.world_laws.specs.Around.{region_word}
use Rattle.world_laws.proofs.Contents.{get-by}

-- the region that begins at a word
abbrev region_at : ℕ → ℕ
region_at word = (word - 2 ^ 43) / 2 ^ 31

region-of-slot : (word : ℕ) → IsSlotWord word → (region_at word < regions) × (region_word (region_at word) ≡ word)
region-of-slot word h =
    let is = h.is in
    let maps = h.few_maps in
    let slots = h.few_slots in
    (omega (arith, is, maps, slots), omega (arith, is, maps, slots))

number-region : (m r : ℕ) → r < regions → region_bases (element_in_region m r) ≡ region_word r
number-region m r l = omega (arith, l)

number-map : (m r : ℕ) → r < regions → map_of (element_in_region m r) ≡ m
number-map m r l = omega (arith, l)

number-below : (m r count : ℕ) → r < regions → m < count → element_in_region m r < regions * count
number-below m r count l b = omega (arith, l, b)

-- where a value goes
abbrev value-to : Option ℕ → ℤ → Value
value-to None o = Nothing
value-to (Some k) o = Pointer (Elem k o)

abbrev cell-to : Option ℕ → ℕ → ℤ → Cell
cell-to None i o = Unwritten
cell-to (Some k) i o = Part i (Elem k o)

module _ (g : ℕ → Option ℕ) where
  abbrev pub value : Value → Value
  value Nothing = Nothing
  value (Number n) = Number n
  value (Pointer (Ctx o)) = Pointer (Ctx o)
  value (Pointer (Frame o)) = Pointer (Frame o)
  value (Pointer (MapRef m)) = Pointer (MapRef m)
  value (Pointer (Elem n o)) = value-to (g n) o

  abbrev pub cell : Cell → Cell
  cell Unwritten = Unwritten
  cell (Byte b) = Byte b
  cell (Part i (Ctx o)) = Part i (Ctx o)
  cell (Part i (Frame o)) = Part i (Frame o)
  cell (Part i (MapRef m)) = Part i (MapRef m)
  cell (Part i (Elem n o)) = cell-to (g n) i o

  abbrev pub state : State → State
  state m = record { regs = λ r. value (m.regs r); frame = λ k. cell (m.frame k); place = m.place }

  abbrev pub erased : Run → Run
  erased run = record run { state = state run.state }

  -- parts of a value go where the value goes
  part-to : (i : ℕ) (o : ℤ) (k : Option ℕ) → cell-to k i o ≡ part_of i (value-to k o)
  part-to i o None = refl
  part-to i o (Some k) = refl

  part-erased : (i : ℕ) (u : Value) → cell (part_of i u) ≡ part_of i (value u)
  part-erased i Nothing = refl
  part-erased i (Number n) = refl
  part-erased i (Pointer (Ctx o)) = refl
  part-erased i (Pointer (Frame o)) = refl
  part-erased i (Pointer (MapRef m)) = refl
  part-erased i (Pointer (Elem n o)) = part-to i o (g n)

  -- what is near stays near, and maps keep their numbers
  near-to : (o : ℤ) (k : Option ℕ) → IsNearOffset o → IsNear (value-to k o)
  near-to o None h = tt
  near-to o (Some k) h = h

  near-value : (u : Value) → IsNear u → IsNear (value u)
  near-value Nothing h = tt
  near-value (Number n) h = tt
  near-value (Pointer (Ctx o)) h = h
  near-value (Pointer (Frame o)) h = h
  near-value (Pointer (MapRef m)) h = h
  near-value (Pointer (Elem n o)) h = near-to o (g n) h

  near-cell-to : (i : ℕ) (o : ℤ) (k : Option ℕ) → IsNearOffset o → IsNearCell (cell-to k i o)
  near-cell-to i o None h = tt
  near-cell-to i o (Some k) h = h

  near-cell : (x : Cell) → IsNearCell x → IsNearCell (cell x)
  near-cell Unwritten h = tt
  near-cell (Byte b) h = tt
  near-cell (Part i (Ctx o)) h = h
  near-cell (Part i (Frame o)) h = h
  near-cell (Part i (MapRef m)) h = h
  near-cell (Part i (Elem n o)) h = near-cell-to i o (g n) h

  numbered-to : (o : ℤ) (k : Option ℕ) → HoldsValue IsNumbered (value-to k o)
  numbered-to o None = tt
  numbered-to o (Some k) = tt

  pub numbered-value : (u : Value) → HoldsValue IsNumbered u → HoldsValue IsNumbered (value u)
  numbered-value Nothing h = tt
  numbered-value (Number n) h = tt
  numbered-value (Pointer (Ctx o)) h = tt
  numbered-value (Pointer (Frame o)) h = tt
  numbered-value (Pointer (MapRef m)) h = h
  numbered-value (Pointer (Elem n o)) h = numbered-to o (g n)

  numbered-cell-to : (i : ℕ) (o : ℤ) (k : Option ℕ) → HoldsCell IsNumbered (cell-to k i o)
  numbered-cell-to i o None = tt
  numbered-cell-to i o (Some k) = tt

  pub numbered-cell : (x : Cell) → HoldsCell IsNumbered x → HoldsCell IsNumbered (cell x)
  numbered-cell Unwritten h = tt
  numbered-cell (Byte b) h = tt
  numbered-cell (Part i (Ctx o)) h = tt
  numbered-cell (Part i (Frame o)) h = tt
  numbered-cell (Part i (MapRef m)) h = h
  numbered-cell (Part i (Elem n o)) h = numbered-cell-to i o (g n)

  -- The words stay, where what is not forgotten lies where it lay.
  module _ (bases later : ℕ → ℕ) (same : (n k : ℕ) → g n ≡ Some k → later k ≡ bases n) where
    word-to : (n w : ℕ) (o : ℤ) (k : Option ℕ) → g n ≡ k → WordIs bases (Pointer (Elem n o)) w → WordIs later (value-to k o) w
    word-to n w o None e h = tt
    word-to n w o (Some k) e h = subst (λ b. pos w ≡ pos b +ℤ o) (sym (same n k e)) h

    word-erased : (u : Value) (w : ℕ) → WordIs bases u w → WordIs later (value u) w
    word-erased Nothing w h = tt
    word-erased (Number n) w h = h
    word-erased (Pointer (Ctx o)) w h = h
    word-erased (Pointer (Frame o)) w h = h
    word-erased (Pointer (MapRef m)) w h = h
    word-erased (Pointer (Elem n o)) w h = word-to n w o (g n) refl h

    byte-to : (i n b : ℕ) (o : ℤ) (k : Option ℕ) → g n ≡ k → ByteIs bases (Part i (Elem n o)) b → ByteIs later (cell-to k i o) b
    byte-to i n b o None e h = tt
    byte-to i n b o (Some k) e h = (h.0, h.1, subst (λ x. pos h.0 ≡ pos x +ℤ o) (sym (same n k e)) h.2, h.3)

    byte-erased : (x : Cell) (b : ℕ) → ByteIs bases x b → ByteIs later (cell x) b
    byte-erased Unwritten b h = tt
    byte-erased (Byte n) b h = h
    byte-erased (Part i (Ctx o)) b h = h
    byte-erased (Part i (Frame o)) b h = h
    byte-erased (Part i (MapRef m)) b h = h
    byte-erased (Part i (Elem n o)) b h = byte-to i n b o (g n) refl h

    pub words-erased : (v : RunView) (run : Run) → AreWords bases v run → AreWords later v (erased run)
    words-erased v run h = record {
      context = h.context;
      register_count = h.register_count;
      registers = λ r l. word-erased (run.state.regs r) (slice_index v.registers r) (h.registers r l);
      cells = h.cells;
      frame = λ k l. byte-erased (run.state.frame k) (slice_index v.frame k) (h.frame k l);
      place = h.place;
      depth = h.depth;
      moved = h.moved;
      exit = h.exit;
    }

  -- What is held is not forgotten, and is held.
  module _ (c d : Scene) (depth : d.depth ≡ c.depth) (held : (map n : ℕ) → IsHeld c map n → (k : ℕ) × (g n ≡ Some k) × IsHeld d map k) where
    abbrev naming-to : Option ℕ → Option ℕ
    naming-to None = None
    naming-to (Some n) = g n

    null-to : (map n : ℕ) (k : Option ℕ) → g n ≡ k → IsHeld c map n → (value-to k (pos 0) ≡ found_value k) × IsNullOrHeld d map k
    null-to map n None e h = let q = held map n h in absurd (none-some q.0 (sym e ∙ q.1))
    null-to map n (Some k) e h = let q = held map n h in (refl, subst (IsHeld d map) (same_Some q.0 k (sym q.1 ∙ e)) q.2)

    null-erased : (map : ℕ) (o : Option ℕ) → IsNullOrHeld c map o → (value (found_value o) ≡ found_value (naming-to o)) × IsNullOrHeld d map (naming-to o)
    null-erased map None h = (refl, tt)
    null-erased map (Some n) h = null-to map n (g n) refl h

    of-erased : (ρ : Naming) (kind : Kind) (u : Value) → IsOf c ρ kind u → IsOf d (λ id. naming-to (ρ id)) kind (value u)
    of-erased ρ Blank u h = tt
    of-erased ρ Mixed u h = tt
    of-erased ρ Ended u h = tt
    of-erased ρ (Num s) u h = (h.0, ap value h.1, h.2, h.3)
    of-erased ρ (CtxAt s) u h = record { offset = h.offset; is = ap value h.is; there = h.there }
    of-erased ρ (FrameAt o) u h = ap value h
    of-erased ρ (MapAt map) u h = ap value h
    of-erased ρ (ValueAt map s) u h =
        let q = held map h.n h.held in
        record { n = q.0; offset = h.offset; is = ap value h.is ∙ ap (λ o. value-to o h.offset) q.1; there = h.there; held = q.2 }
    of-erased ρ (MaybeNull map id) u h = let q = null-erased map (ρ id) h.1 in (ap value h.0 ∙ q.0, q.1)

    cell-erased : (ρ : Naming) (σ : Stored) (k : ℕ) (kind : CellKind) (x : Cell) → IsOfCell c ρ σ k kind x →
        IsOfCell d (λ id. naming-to (ρ id)) (λ j. value (σ j)) k kind (cell x)
    cell-erased ρ σ k BlankCell x h = tt
    cell-erased ρ σ k MixedCell x h = tt
    cell-erased ρ σ k EndedCell x h = tt
    cell-erased ρ σ k ByteCell x h = (h.0, ap cell h.1, h.2)
    cell-erased ρ σ k (PartCell kind) x h = (ap cell h.0 ∙ part-erased (k % 8) (σ (k / 8)), of-erased ρ kind (σ (k / 8)) h.1)

    pub describes-erased : (a : AbsState) (m : State) → Describes a c m → Describes a d (state m)
    describes-erased a m h = record {
      naming = λ id. naming-to (h.naming id);
      stored = λ j. value (h.stored j);
      depth = depth ∙ h.depth;
      near = record { regs_near = λ r. near-value (m.regs r) (h.near.regs_near r); cells_near = λ k. near-cell (m.frame k) (h.near.cells_near k) };
      regs = λ r. of-erased h.naming (a.regs r) (m.regs r) (h.regs r);
      cells = λ k. cell-erased h.naming h.stored k (a.cells k) (m.frame k) (h.cells k);
    }

-- the maps around, by their shapes alone
bound-shapes : (shapes : List MapShape) (maps : List ℕ) (states : List MapState) → AreMapsBound shapes maps states →
    AreMapsBound shapes maps (map new_map (map (λ (m : MapState). m.shape) states))
bound-shapes shapes maps states b = record {
  count = b.count;
  each = λ i shape at. (
      let x = b.each i shape at in (
        x.0,
        new_map x.1.shape,
        x.2,
        get-map new_map (map (λ (m : MapState). m.shape) states) x.0 x.1.shape
            (get-map (λ (m : MapState). m.shape) states x.0 x.1 x.3),
        x.4,
      ));
}

module _ (code : List Insn) (shapes : List MapShape) (ctx_len : ℕ) (v : RunView) (h : IsRunOf code shapes ctx_len v) where
  abbrev es : List Element
  es = h.store.elements

  abbrev pub around : List MapShape
  around = map (λ (m : MapState). m.shape) h.store.maps

  abbrev given : ℕ → Option ℕ
  given n = accessible es n >>= λ e. Some (element_in_region e.map (region_at (h.bases n)))

  abbrev pub bare : Run
  bare = erased given h.run

  given-same : (n k : ℕ) → given n ≡ Some k → region_bases k ≡ h.bases n
  given-same n k e =
      let f = first-step (accessible es n) (λ e. Some (element_in_region e.map (region_at (h.bases n)))) k e in
      let z = region-of-slot (h.bases n) (h.lie n f.0 f.1) in
      ap region_bases (sym (same_Some (element_in_region f.0.map (region_at (h.bases n))) k f.2)) ∙ number-region f.0.map (region_at (h.bases n)) z.0 ∙ z.1

  -- an array stays one
  array-around : (map : ℕ) → IsArrayMap (scene_of h.store h.run) map →
      IsArrayMap (scene_of (store_of around (elements_around around (section_of bare))) bare) map
  array-around index a =
      let x = kind-there h.store.maps a.number Array a.array in
      let shape = get-map (λ (m : MapState). m.shape) h.store.maps a.number x.0 x.1 in
      record {
        number = a.number;
        listed = a.listed;
        array = there-kind (map new_map around) a.number (new_map x.0.shape) Array (get-map new_map around a.number x.0.shape shape) x.2;
      }

  given-held : (map n : ℕ) → IsHeld (scene_of h.store h.run) map n → (k : ℕ) × (given n ≡ Some k) ×
      IsHeld (scene_of (store_of around (elements_around around (section_of bare))) bare) map k
  given-held map n x =
      let reached = accessible-held h.store h.run map n h.surrounds.arrays x in
      let z = region-of-slot (h.bases n) (h.lie n x.element reached) in
      let k = element_in_region x.element.map (region_at (h.bases n)) in
      let l = h.surrounds.lengths n x.element x.born in
      let below : x.element.map < length h.store.maps = slice_get_within h.store.maps x.element.map l.0 l.1 in
      let same : length around ≡ length h.store.maps = length-map h.store.maps (λ (m : MapState). m.shape) in (
        k,
        then-step (accessible es n) (λ e. Some (element_in_region e.map (region_at (h.bases n)))) x.element reached,
        record {
          element = element_of around (section_of bare) k;
          born = get-by (births around) (element_of around (section_of bare)) k
              (number-below x.element.map (region_at (h.bases n)) (length around) z.0 (omega (arith, below, same)));
          in_map = x.in_map ∙ ap Some (sym (number-map x.element.map (region_at (h.bases n)) z.0));
          allowed = elim x.allowed [ inl g ↦ inl (g.0, (0, refl)) | inr a ↦ inr (array-around map a) ];
        },
      )

  pub shown-bare : (plan : Plan) → IsClosed code shapes ctx_len plan → IsShownBy code shapes ctx_len plan around bare v
  shown-bare plan closed =
      let p = h.planned plan closed in
      record {
        described = record {
          going = h.surrounds.going;
          bound = bound-shapes shapes h.run.program.maps h.store.maps h.surrounds.bound;
          long = h.surrounds.long;
          context = h.surrounds.context;
          index = p.0;
          planned = record {
            at = p.1.at;
            known = p.1.known;
            planned = p.1.planned;
            describes = describes-erased given (scene_of h.store h.run)
                (scene_of (store_of around (elements_around around (section_of bare))) bare) refl given-held p.1.known
                h.run.state p.1.describes;
          };
        };
        numbered = (λ r. numbered-value given (h.run.state.regs r) (h.numbered.0 r), λ k. numbered-cell given (h.run.state.frame k) (h.numbered.1 k));
        words = words-erased given h.bases region_bases given-same v h.run h.words;
      }
