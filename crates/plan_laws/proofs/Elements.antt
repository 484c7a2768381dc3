-- Loads from elements and stores to them: an element that is held isn't reclaimed, and its value is as long as its map's shape says.
use Rattle.bpf_model.proofs.Prelude.{◌≡◌, ℕ, zero, suc, ◌+◌, ◌*◌, ◌<◌, ◌≤◌, ◌^◌, ◌%◌, ◌/◌, List, length, Option, Some, None, inl, inr, refl, sym, ap, subst}
use Rattle.bpf_model.proofs.Prelude.{◌∙◌, ℤ, pos, negsuc, arith, false, slice_get, slice_set, if◌then◌else◌, ◌==◌, ◌&&◌, ◌+ℤ◌, nat_le, ne_eqb, leb-true}
use Rattle.bpf_model.proofs.Prelude.{and_parts, none-some, same_Some, cond_some, mod_below, pow-suc, ◌>>=◌, number, immediate, loaded_signed, operand_value}
use Rattle.bpf_model.proofs.Prelude.{byte_count, unsigned_width, region_offset, number_at, State, Environment, Outcome, Moves, put, sets, forward, load_from}
use Rattle.bpf_model.proofs.Prelude.{store_to, Section, Element, with_value, changed, unless_reclaimed, accessible, with_elements, Run, environment}
use Rattle.bpf_model.proofs.Prelude.{loaded_from, stored_in, with_bytes, AreBytes, AllBytes, get-below, get-set_cases}
use Rattle.model_laws.proofs.Prelude.{MapShape, Load, LoadSigned, Store, Operand, Register, Immediate, Width, Value, Number, Pointer, Elem, SignedWidth}
use Rattle.model_laws.proofs.Prelude.{element_load, element_store}
use Rattle.plan_laws.proofs.Prelude.{Num, ValueAt, AbsState, Scene, scene_of, IsHeld, IsElementOf, Describes, with_kind, IsAlwaysInside, IsNumberOperand}
use Rattle.plan_laws.proofs.Prelude.{Surrounds, Transfers}
use Rattle.scalar_domain.proofs.Prelude.{Holds}
use Rattle.bpf_model.specs.declared.opcode.Width.TheVariants as widths
use Rattle.bpf_model.specs.MapState.{Store as Maps}
use Rattle.model_laws.proofs.Stores.{touches-stored}
use Rattle.scalar_domain.specs.declared.scalar.Scalar.{Scalar}
use Rattle.plan_laws.proofs.Arrays.{AllStayKept, held-unreclaimed}
use Rattle.plan_laws.proofs.Kept.{Keeps, keeps-touches, describes-kept}
use Rattle.plan_laws.proofs.Valued.{bytes-changed}
use Rattle.plan_laws.proofs.Sets.{set-described, placed-described}
use Rattle.plan_laws.proofs.Arguments.{reg-is, bound}
use Rattle.plan_laws.proofs.Local.{Acting, no-call, acts-transfers}

pub accessible-held : (s : Maps) (run : Run) (map n : ℕ) → AllStayKept s → (h : IsHeld (scene_of s run) map n) → accessible s.elements n ≡ Some h.element
accessible-held s run map n arrays h = ap (λ o. o >>= unless_reclaimed) h.born ∙
    ap (λ b. if b then None else Some h.element) (held-unreclaimed s run map n arrays h)

-- the value is as long as the shape says
pub value-long : (shapes : List MapShape) (ctx_len : ℕ) (s : Maps) (opened : List Section) (run : Run) (map n : ℕ)
    (shape : MapShape) → Surrounds shapes ctx_len s opened run → slice_get shapes map ≡ Some shape →
    (h : IsHeld (scene_of s run) map n) → length h.element.value ≡ shape.value_len
value-long shapes ctx_len s opened run map n shape w at h =
    let b = bound shapes ctx_len s opened run map shape w at in
    let z = w.lengths n h.element h.born in
    let number : b.number ≡ h.element.map = same_Some _ _ (sym b.listed ∙ h.in_map) in
    let state : z.0 ≡ b.state = same_Some _ _ (sym z.1 ∙ (ap (slice_get s.maps) (sym number) ∙ b.there)) in
    z.3 ∙ (ap (λ x. x.shape.value_len) state ∙ ap (λ x. x.value_len) b.shape_is)

-- an access lies inside
pub offset_some : (len width : ℕ) (z : ℤ) (at : ℕ) → region_offset len width z ≡ Some at → (z ≡ pos at) × (at + width ≤ len)
offset_some len width (pos o) at e =
    let c = cond_some (nat_le (o + width) len && (o % width == 0)) o at e in
    let l : o + width ≤ len = leb-true (o + width) len (and_parts (nat_le (o + width) len) (o % width == 0) c.0).0 in
    (ap pos c.1, omega arith)
offset_some len width (negsuc o) at e = absurd (cc)

pub number_read : (bytes : ℕ → Option ℕ) (at width : ℕ) → ((k : ℕ) → at ≤ k → k < at + width → (b : ℕ) × (bytes k ≡ Some b) × (b < 256))
    → (n : ℕ) × (number_at bytes at width ≡ Some n) × (n < 256 ^ width)
number_read bytes at zero h = (0, refl, omega arith)
number_read bytes at (suc width) h =
    let low = h at (omega arith) (omega arith) in
    let high = number_read bytes (suc at) width (λ k p q. h k (omega arith) (omega arith)) in
    let e : 256 ^ suc width ≡ 256 ^ width * 256 = pow-suc 256 width in (
      low.0 + 256 * high.0,
      ap (λ o. o >>= λ b. number_at bytes (suc at) width >>= λ n. Some (b + 256 * n)) low.1 ∙ ap (λ o. o >>= λ n. Some (low.0 + 256 * n)) high.1,
      omega (arith, low.2, high.2),
    )

value-bytes : (value : List ℕ) (at width : ℕ) → AreBytes value → at + width ≤ length value → (k : ℕ) → at ≤ k →
    k < at + width → (b : ℕ) × (slice_get value k ≡ Some b) × (b < 256)
value-bytes value at width bytes fits k p q = let x = get-below value k (omega arith) in (x.0, x.1, bytes k x.0 x.1)

-- what a load finds
pub element-loads : (shapes : List MapShape) (ctx_len : ℕ) (s : Maps) (opened : List Section) (run : Run) (map : ℕ)
    (shape : MapShape) (scalar : Scalar) (width : ℕ) (offset : ℤ) (v : Value) → Surrounds shapes ctx_len s opened run
    → slice_get shapes map ≡ Some shape →
    IsAlwaysInside scalar width offset shape.value_len → IsElementOf (scene_of s run) map scalar v → (n : ℕ) ×
    (element_load s.elements width offset v ≡ Some n) × (n < 256 ^ width)
element-loads shapes ctx_len s opened run map shape scalar width offset v w at placed x =
    let long = value-long shapes ctx_len s opened run map x.n shape w at x.held in
    let p = placed x.offset x.there in
    let fits : region_offset (length x.held.element.value) width (x.offset +ℤ offset) ≡ Some p.0 =
    ap (λ l. region_offset l width (x.offset +ℤ offset)) long ∙ p.1 in
    let r = number_read (slice_get x.held.element.value) p.0 width
    (value-bytes x.held.element.value p.0 width (w.bytes x.n x.held.element x.held.born)
    (offset_some _ _ _ _ fits).1) in (
      r.0,
      ap (element_load s.elements width offset) x.is
          ∙ (ap (λ o. o >>= loaded_from width (x.offset +ℤ offset)) (accessible-held s run map x.n w.arrays x.held)
          ∙ (ap (λ o. o >>= λ k. number_at (slice_get x.held.element.value) k width) fits ∙ r.1)),
      r.2,
    )

pub wide-fits : (width : Width) (n : ℕ) → n < 256 ^ byte_count width → n < 2 ^ 64
wide-fits widths.One n h = omega arith
wide-fits widths.Two n h = omega arith
wide-fits widths.Four n h = omega arith
wide-fits widths.Eight n h = omega arith

-- the run's own step through an element finds nothing
no-load : (env : Environment) (m : State) (width : ℕ) (offset : ℤ) (v : Value) (b : ℕ) (o : ℤ) → v ≡ Pointer (Elem b o) → load_from env m width offset v ≡ None
no-load env m width offset v b o e = ap (load_from env m width offset) e

no-store : (m : State) (width : ℕ) (offset : ℤ) (v base : Value) (b : ℕ) (o : ℤ) → base ≡ Pointer (Elem b o) → store_to m width offset v base ≡ None
no-store m width offset v base b o e = ap (store_to m width offset v) e

pub set-is : (slots dst : ℕ) (v : Value) (m : State) → (10 ≡ dst → ⊥) →
    sets slots dst v m ≡ Some (Moves (record { regs = put dst v m.regs; frame = m.frame; place = m.place + slots }))
set-is slots dst v m ne = ap (λ b. if b then None else Some
    (Moves (record { regs = put dst v m.regs; frame = m.frame; place = m.place + slots })))
    (ne_eqb dst 10 (λ e. ne (sym e)))

module _ (width : Width) (dst src : ℕ) (offset : ℤ) (shapes : List MapShape) (ctx_len : ℕ) (a : AbsState) (map : ℕ) (shape : MapShape) (scalar t : Scalar) where
  load-acts : a.regs src ≡ ValueAt map scalar → slice_get shapes map ≡ Some shape →
      IsAlwaysInside scalar (byte_count width) offset shape.value_len → (10 ≡ dst → ⊥) →
      ((n : ℕ) → n < 256 ^ byte_count width → Holds t n) →
      (s : Maps) (opened : List Section) (run : Run) → Surrounds shapes ctx_len s opened run →
      Describes a (scene_of s run) run.state → Acting (Load width dst src offset) s run (with_kind dst (Num t) a)
      None
  load-acts e at placed ne all s opened run w d =
      let x : IsElementOf (scene_of s run) map scalar (run.state.regs src) = reg-is a (scene_of s run) run.state src (ValueAt map scalar) d e in
      let l = element-loads shapes ctx_len s opened run map shape scalar (byte_count width) offset (run.state.regs src) w at placed x in
      let out : Outcome = Moves (record { regs = put dst (Number l.0) run.state.regs; frame = run.state.frame; place = run.state.place + 1 }) in
      let nothing = no-load (environment run) run.state (byte_count width) offset (run.state.regs src) x.n x.offset x.is in record {
        out = out;
        es = s.elements;
        acts = inr (l.0, l.1, set-is 1 dst (Number l.0) run.state ne, refl);
        only = λ other fs h. elim h [
          | inl y ↦ absurd (none-some other (sym (ap (λ o. o >>= λ v. sets 1 dst v run.state) nothing) ∙ y.0))
          | inr y ↦ (
            same_Some out other (sym (set-is 1 dst (Number l.0) run.state ne) ∙
                (ap (λ n. sets 1 dst (Number n) run.state) (same_Some l.0 y.0 (sym l.1 ∙ y.1)) ∙ y.2)),
            sym y.3,
          )
        ];
        bytes = w.bytes;
        reaches = inl (
          refl,
          refl,
          set-described a (scene_of s run) run.state dst (run.state.place + 1) (Num t)
              (Number l.0) d (l.0, refl, wide-fits width l.0 l.2, all l.0 l.2) tt,
        );
      }

  pub load_transfers : a.regs src ≡ ValueAt map scalar → slice_get shapes map ≡ Some shape →
      IsAlwaysInside scalar (byte_count width) offset shape.value_len → (10 ≡ dst → ⊥) →
      ((n : ℕ) → n < 256 ^ byte_count width → Holds t n) →
      Transfers (Load width dst src offset) shapes ctx_len a (with_kind dst (Num t) a) None
  load_transfers e at placed ne all = acts-transfers (Load width dst src offset) shapes ctx_len a
      (with_kind dst (Num t) a) None (no-call (Load width dst src offset) refl)
      (λ s opened run w target. load-acts e at placed ne all s opened run w)

-- a store
set-bytes : (bytes : List ℕ) (at n : ℕ) → AreBytes bytes → AreBytes (slice_set bytes at (n % 256))
set-bytes bytes at n h k b e = elim (get-set_cases bytes at k (n % 256) b e) [
  | inl x ↦ subst (λ y. y < 256) x.1 (mod_below n 256 (omega arith))
  | inr x ↦ h k b x.1
]

pub with-bytes : (at width n : ℕ) (bytes : List ℕ) → AreBytes bytes → AreBytes (with_bytes at width n bytes)
with-bytes at zero n bytes h = h
with-bytes at (suc width) n bytes h = set-bytes (with_bytes (suc at) width (n / 256) bytes) at n (with-bytes (suc at) width (n / 256) bytes h)

-- the elements after a store, and what is known of them
pub record StoredIn (s : Maps) (run : Run) (width : ℕ) (offset : ℤ) (v base : Value) : Type 0 where
  pub es : List Element
  pub stores : element_store s.elements width offset v base ≡ Some es
  pub bytes : AllBytes es
  pub keeps : Keeps (scene_of s run) (scene_of (with_elements es s) run)

pub element-stores : (shapes : List MapShape) (ctx_len : ℕ) (s : Maps) (opened : List Section) (run : Run) (map : ℕ)
    (shape : MapShape) (scalar : Scalar) (width : ℕ) (offset : ℤ) (n : ℕ) (v base : Value) →
    Surrounds shapes ctx_len s opened run → slice_get shapes map ≡ Some shape →
    IsAlwaysInside scalar width offset shape.value_len → v ≡ Number n → IsElementOf (scene_of s run) map scalar base → StoredIn s run width offset v base
element-stores shapes ctx_len s opened run map shape scalar width offset n v base w at placed number x =
    let long = value-long shapes ctx_len s opened run map x.n shape w at x.held in
    let p = placed x.offset x.there in
    let fits : region_offset (length x.held.element.value) width (x.offset +ℤ offset) ≡ Some p.0 =
    ap (λ l. region_offset l width (x.offset +ℤ offset)) long ∙ p.1 in
    let es : List Element = changed (with_value (with_bytes p.0 width n x.held.element.value)) s.elements x.n in
    let stored : stored_in s.elements x.n width (x.offset +ℤ offset) n x.held.element ≡ Some es =
    ap (λ o. o >>= λ k. Some (changed (with_value (with_bytes k width n x.held.element.value)) s.elements x.n))
    fits in record {
      es = es;
      stores = ap (λ y. element_store s.elements width offset y base) number ∙ (ap (element_store s.elements width offset (Number n)) x.is
          ∙ (ap (λ o. o >>= stored_in s.elements x.n width (x.offset +ℤ offset) n) (accessible-held s run map x.n w.arrays x.held) ∙ stored));
      bytes = bytes-changed (with_value (with_bytes p.0 width n x.held.element.value)) s.elements x.n w.bytes
          (λ e born. with-bytes p.0 width n x.held.element.value (w.bytes x.n x.held.element x.held.born));
      keeps = keeps-touches false opened s es run w.section
          (touches-stored opened s.elements es x.n width (x.offset +ℤ offset) n x.held.element x.held.born stored);
    }

-- an operand that is known to be a number is one in each described state
pub operand-number : (a : AbsState) (c : Scene) (m : State) (src : Operand) → Describes a c m → IsNumberOperand a src
    → (n : ℕ) × (operand_value src m.regs ≡ Number n)
operand-number a c m (Register r) d k = let y = reg-is a c m r (Num k.0) d k.1 in (y.0, y.1)
operand-number a c m (Immediate imm) d k = (immediate imm, refl)

module _ (width : Width) (dst : ℕ) (offset : ℤ) (src : Operand) (shapes : List MapShape) (ctx_len : ℕ) (a : AbsState)
    (map : ℕ) (shape : MapShape) (scalar : Scalar) where
  store-acts : a.regs dst ≡ ValueAt map scalar → IsNumberOperand a src → slice_get shapes map ≡ Some shape →
      IsAlwaysInside scalar (byte_count width) offset shape.value_len →
      (s : Maps) (opened : List Section) (run : Run) → Surrounds shapes ctx_len s opened run →
      Describes a (scene_of s run) run.state → Acting (Store width dst offset src) s run a None
  store-acts e f at placed s opened run w d =
      let x : IsElementOf (scene_of s run) map scalar (run.state.regs dst) = reg-is a (scene_of s run) run.state dst (ValueAt map scalar) d e in
      let v : Value = operand_value src run.state.regs in
      let y = operand-number a (scene_of s run) run.state src d f in
      let z = element-stores shapes ctx_len s opened run map shape scalar (byte_count width) offset y.0 v (run.state.regs dst) w at placed y.1 x in
      let nothing = no-store run.state (byte_count width) offset v (run.state.regs dst) x.n x.offset x.is in record {
        out = Moves (forward 1 run.state);
        es = z.es;
        acts = inr (z.stores, refl);
        only = λ other fs h. elim h [
          | inl q ↦ absurd (none-some other (sym nothing ∙ q.0))
          | inr q ↦ (sym q.1, same_Some z.es fs (sym z.stores ∙ q.0))
        ];
        bytes = z.bytes;
        reaches = inl (
          refl,
          refl,
          placed-described a (scene_of (with_elements z.es s) run) run.state
              (run.state.place + 1) (describes-kept (scene_of s run) (scene_of (with_elements z.es s) run) z.keeps a
              run.state d),
        );
      }

  pub store_transfers : a.regs dst ≡ ValueAt map scalar → IsNumberOperand a src → slice_get shapes map ≡ Some shape →
      IsAlwaysInside scalar (byte_count width) offset shape.value_len →
      Transfers (Store width dst offset src) shapes ctx_len a a None
  store_transfers e f at placed = acts-transfers (Store width dst offset src) shapes ctx_len a a None
      (no-call (Store width dst offset src) refl) (λ s opened run w target. store-acts e f at placed s opened run w)

-- a load with sign extension
module _ (width : SignedWidth) (dst src : ℕ) (offset : ℤ) (shapes : List MapShape) (ctx_len : ℕ) (a : AbsState)
    (map : ℕ) (shape : MapShape) (scalar t : Scalar) where
  signed-acts : a.regs src ≡ ValueAt map scalar → slice_get shapes map ≡ Some shape →
      IsAlwaysInside scalar (byte_count (unsigned_width width)) offset shape.value_len → (10 ≡ dst → ⊥) →
      ((n : ℕ) → n < 256 ^ byte_count (unsigned_width width) → (loaded_signed width n < 2 ^ 64) × Holds t (loaded_signed width n)) →
      (s : Maps) (opened : List Section) (run : Run) → Surrounds shapes ctx_len s opened run →
      Describes a (scene_of s run) run.state → Acting (LoadSigned width dst src offset) s run
      (with_kind dst (Num t) a) None
  signed-acts e at placed ne all s opened run w d =
      let bytes : ℕ = byte_count (unsigned_width width) in
      let x : IsElementOf (scene_of s run) map scalar (run.state.regs src) = reg-is a (scene_of s run) run.state src (ValueAt map scalar) d e in
      let l = element-loads shapes ctx_len s opened run map shape scalar bytes offset (run.state.regs src) w at placed x in
      let v : Value = Number (loaded_signed width l.0) in
      let out : Outcome = Moves (record { regs = put dst v run.state.regs; frame = run.state.frame; place = run.state.place + 1 }) in
      let nothing = no-load (environment run) run.state bytes offset (run.state.regs src) x.n x.offset x.is in
      let fits = all l.0 l.2 in record {
        out = out;
        es = s.elements;
        acts = inr (l.0, l.1, set-is 1 dst v run.state ne, refl);
        only = λ other fs h. elim h [
          | inl y ↦ absurd (none-some other (sym (ap (λ o. o >>= λ q. number q >>= λ n. sets 1 dst (Number (loaded_signed width n)) run.state) nothing) ∙ y.0))
          | inr y ↦ (
            same_Some out other (sym (set-is 1 dst v run.state ne) ∙
                (ap (λ n. sets 1 dst (Number (loaded_signed width n)) run.state) (same_Some l.0 y.0 (sym l.1 ∙ y.1)) ∙
                y.2)),
            sym y.3,
          )
        ];
        bytes = w.bytes;
        reaches = inl (
          refl,
          refl,
          set-described a (scene_of s run) run.state dst (run.state.place + 1) (Num t) v d
              (loaded_signed width l.0, refl, fits.0, fits.1) tt,
        );
      }

  pub load_signed_transfers : a.regs src ≡ ValueAt map scalar → slice_get shapes map ≡ Some shape →
      IsAlwaysInside scalar (byte_count (unsigned_width width)) offset shape.value_len → (10 ≡ dst → ⊥) →
      ((n : ℕ) → n < 256 ^ byte_count (unsigned_width width) → (loaded_signed width n < 2 ^ 64) ×
      Holds t (loaded_signed width n)) → Transfers (LoadSigned width dst src offset) shapes ctx_len a
      (with_kind dst (Num t) a) None
  load_signed_transfers e at placed ne all = acts-transfers (LoadSigned width dst src offset) shapes ctx_len a
      (with_kind dst (Num t) a) None (no-call (LoadSigned width dst src offset) refl)
      (λ s opened run w target. signed-acts e at placed ne all s opened run w)
