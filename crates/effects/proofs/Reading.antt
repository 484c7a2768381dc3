-- Loads lead from described runs to described ones.
use Rattle.bpf_model.proofs.Prelude.{◌≡◌, ℕ, ◌+◌, ◌/◌, ◌%◌, ◌^◌, ◌<◌, ◌≤◌, List, length, Some, None, inl, inr, refl, ap, subst, ◌∙◌, ℤ, arith, true}
use Rattle.bpf_model.proofs.Prelude.{slice_get, slice_index_or, ◌+ℤ◌, slice_get-get_or, ◌>>=◌, number, loaded_signed, byte_count, unsigned_width}
use Rattle.bpf_model.proofs.Prelude.{region_offset, number_at, byte_of, found, read, State, Environment, Moves, put, sets, load_from, Element}
use Rattle.effects.proofs.Prelude.{RegKind, ReachesFrame, IsReadByLoad, read_kind, LoadsKnown}
use Rattle.model_laws.proofs.Prelude.{MapShape, FRAME_BYTES, Load, LoadSigned, Width, SignedWidth, Value, Number, Pointer, Ctx, Frame, Byte, element_load}
use Rattle.plan_laws.proofs.Prelude.{Kind, Num, CtxAt, FrameAt, ByteCell, PartCell, AbsState, Scene, IsContextAt, Describes, with_kind, IsAlwaysInside}
use Rattle.plan_laws.proofs.Prelude.{IsPointer, IsEnvironment, Transfers}
use Rattle.register_kinds.proofs.Prelude.{kind_of, cell_of, kind_in, cell_at, state_of, is_pointer, AreAll}
use Rattle.scalar_domain.proofs.Prelude.{Holds}
use Rattle.bpf_model.specs.declared.opcode.Width.TheVariants as widths
use Rattle.bpf_model.specs.declared.opcode.SignedWidth.TheVariants as signed_widths
use Rattle.scalar_domain.specs.declared.scalar.Scalar.{Scalar}
use Rattle.plan_laws.proofs.Sets.{set-described}
use Rattle.plan_laws.proofs.Arguments.{reg-is, cell-is}
use Rattle.plan_laws.proofs.Local.{alone_transfers}
use Rattle.plan_laws.proofs.Elements.{number_read, offset_some, set-is, load_transfers, load_signed_transfers, wide-fits}
use Rattle.plan_laws.proofs.Spilling.{fill_transfers, no-element-load}
use Rattle.register_kinds.specs.declared.kind.RegKind.TheVariants as kinds
use Rattle.register_kinds.specs.declared.kind.CellKind.TheVariants as class
use Rattle.register_kinds.specs.declared.frame.FrameCells.{FrameCells}
use Rattle.register_kinds.specs.declared.state.AbsState.{AbsState as StateHere}
use Rattle.effects.specs.declared.region.Address.{Address}
use Rattle.effects.specs.declared.reads.Reads.{Reads}
use Rattle.effects.specs.declared.reads.Reads.TheVariants as reads
use Rattle.effects.specs.Accesses.{ReadsParts}
use Rattle.scalar_domain.specs.Floor.{KeepsLoadFloor}

-- A load through a value finds a number of so many bytes, and no element.
pub record Finds (env : Environment) (m : State) (width : ℕ) (offset : ℤ) (v : Value) : Type 0 where
  pub n : ℕ
  pub loads : load_from env m width offset v ≡ Some (Number n)
  pub bound : n < 256 ^ width
  pub alone : (es : List Element) (k : ℕ) → element_load es width offset v ≡ Some k → ⊥

context-finds : (ctx_len maps width : ℕ) (offset : ℤ) (s : Scalar) (env : Environment) (m : State) (v : Value) →
    IsEnvironment ctx_len maps env → IsContextAt s v → IsAlwaysInside s width offset ctx_len →
    Finds env m width offset v
context-finds ctx_len maps width offset s env m v i x inside =
    let p = inside x.offset x.there in
    let fits : p.0 + width ≤ ctx_len = (offset_some ctx_len width (x.offset +ℤ offset) p.0 p.1).1 in
    let byte : (k : ℕ) → p.0 ≤ k → k < p.0 + width → (b : ℕ) × (slice_get env.context k ≡ Some b) × (b < 256) = λ k l h.
    let at : slice_get env.context k ≡ Some (slice_index_or env.context k 0) = slice_get-get_or env.context k 0 (omega (arith, i.long, fits, h)) in
    (slice_index_or env.context k 0, at, i.bytes k (slice_index_or env.context k 0) at)
    in
    let r = number_read (slice_get env.context) p.0 width byte in record {
      n = r.0;
      loads = ap (load_from env m width offset) x.is
          ∙ (ap (λ len. region_offset len width (x.offset +ℤ offset) >>= λ at. number_at (slice_get env.context) at width >>= λ n. Some (Number n)) i.long
          ∙ (ap (λ q. q >>= λ at. number_at (slice_get env.context) at width >>= λ n. Some (Number n)) p.1 ∙ ap (λ q. q >>= λ n. Some (Number n)) r.1));
      bound = r.2;
      alone = λ es k. no-element-load es width offset v (Ctx x.offset) k tt x.is;
    }

some-bytes : (width : Width) → 0 < byte_count width
some-bytes widths.One = omega arith
some-bytes widths.Two = omega arith
some-bytes widths.Four = omega arith
some-bytes widths.Eight = omega arith

frame-finds : (width : Width) (at r : ℕ) (o offset : ℤ) (a : AbsState) (c : Scene) (env : Environment) (m : State) →
    Describes a c m → a.regs r ≡ FrameAt o → region_offset FRAME_BYTES (byte_count width) (o +ℤ offset) ≡ Some at
    → ((k : ℕ) → at ≤ k → k < at + byte_count width → a.cells k ≡ ByteCell) → Finds env m (byte_count width) offset (m.regs r)
frame-finds width at r o offset a c env m d e p bytes =
    let some = some-bytes width in
    let base : m.regs r ≡ Pointer (Frame o) = reg-is a c m r (FrameAt o) d e in
    let byte : (k : ℕ) → at ≤ k → k < at + byte_count width → (b : ℕ) × (m.frame k ≡ Byte b) × (b < 256) = λ k l h. cell-is a c m k ByteCell d (bytes k l h) in
    let first = byte at (omega arith) (omega (arith, some)) in
    let n = number_read (λ k. byte_of (m.frame k)) at (byte_count width) (λ k l h. let b = byte k l h in (b.0, ap byte_of b.1, b.2)) in record {
      n = n.0;
      loads = ap (load_from env m (byte_count width) offset) base
          ∙ (ap (λ q. q >>= λ at. read m.frame at (byte_count width)) p ∙
          (ap (found m.frame at (byte_count width)) first.1 ∙ ap (λ q. q >>= λ n. Some (Number n)) n.1));
      bound = n.2;
      alone = λ es k. no-element-load es (byte_count width) offset (m.regs r) (Frame o) k tt base;
    }

-- a load that finds a number in each described state
module _ (dst src : ℕ) (offset : ℤ) (shapes : List MapShape) (ctx_len : ℕ) (a : AbsState) (t : Scalar) (ne : 10 ≡ dst → ⊥) where
  set-number : (c : Scene) (m : State) (n : ℕ) (d : Describes a c m) → n < 2 ^ 64 → Holds t n →
      Describes (with_kind dst (Num t) a) c (record {
        regs = put dst (Number n) m.regs;
        frame = m.frame;
        place =
            m.place + 1;
      })
  set-number c m n d l h = set-described a c m dst (m.place + 1) (Num t) (Number n) d (n, refl, l, h) tt

  pub found_transfers : (width : Width) → ((n : ℕ) → n < 256 ^ byte_count width → Holds t n)
      → ((c : Scene) (env : Environment) (m : State) → IsEnvironment ctx_len (length shapes) env → Describes a c m →
      Finds env m (byte_count width) offset (m.regs src))
      → Transfers (Load width dst src offset) shapes ctx_len a (with_kind dst (Num t) a) None
  found_transfers width all finds = alone_transfers (Load width dst src offset) shapes ctx_len a (with_kind dst (Num t) a) None refl (λ c env m i target d.
      let f = finds c env m i d in record {
        out = Moves (record { regs = put dst (Number f.n) m.regs; frame = m.frame; place = m.place + 1 });
        after_is = ap (λ q. q >>= λ v. sets 1 dst v m) f.loads ∙ set-is 1 dst (Number f.n) m ne;
        alone = λ es fs other h. f.alone es h.0 h.1;
        lands = inl (refl, refl, set-number c m f.n d (wide-fits width f.n f.bound) (all f.n f.bound));
      })

  pub found_signed_transfers : (width : SignedWidth) → ((n : ℕ) → (loaded_signed width n < 2 ^ 64) × Holds t (loaded_signed width n))
      → ((c : Scene) (env : Environment) (m : State) → IsEnvironment ctx_len (length shapes) env → Describes a c m →
      Finds env m (byte_count (unsigned_width width)) offset (m.regs src))
      → Transfers (LoadSigned width dst src offset) shapes ctx_len a (with_kind dst (Num t) a) None
  found_signed_transfers width all finds = alone_transfers (LoadSigned width dst src offset) shapes ctx_len a
      (with_kind dst (Num t) a) None refl (λ c env m i target d.
      let f = finds c env m i d in
      let n : ℕ = loaded_signed width f.n in record {
        out = Moves (record { regs = put dst (Number n) m.regs; frame = m.frame; place = m.place + 1 });
        after_is = ap (λ q. q >>= λ v. number v >>= λ k. sets 1 dst (Number (loaded_signed width k)) m) f.loads ∙ set-is 1 dst (Number n) m ne;
        alone = λ es fs other h. f.alone es h.0 h.1;
        lands = inl (refl, refl, set-number c m n d (all f.n).0 (all f.n).1);
      })

-- a load that extends the sign reads fewer bytes than a reference has
narrow : (width : SignedWidth) → byte_count (unsigned_width width) ≡ 8 → ⊥
narrow signed_widths.One e = omega (arith, e)
narrow signed_widths.Two e = omega (arith, e)
narrow signed_widths.Four e = omega (arith, e)

-- a load has a step, whatever it reads: the context, a value, bytes or parts in the frame
module _ (dst : ℕ) (from : Address) (ctx_len : ℕ) (shapes : List MapShape) (a : AbsState) (t : Scalar) (ne : 10 ≡ dst → ⊥) where
  not-eight : (width : Width) (kind : Kind) → byte_count width ≡ 8 →
      (x : ReadsParts a from.base (byte_count width) from.offset kind) →
      Transfers (Load width dst from.base from.offset) shapes ctx_len a (with_kind dst kind a) None
  not-eight widths.One kind e x = absurd (omega (arith, e))
  not-eight widths.Two kind e x = absurd (omega (arith, e))
  not-eight widths.Four kind e x = absurd (omega (arith, e))
  not-eight widths.Eight kind e x = fill_transfers dst from.base from.offset x.reaches.start x.at shapes ctx_len a
      kind x.reaches.base x.reaches.inside x.parts x.pointer ne

  pub read_transfers : (x : Reads) (width : Width) → ((n : ℕ) → n < 256 ^ byte_count width → Holds t n) →
      IsReadByLoad x a (byte_count width) from ctx_len shapes →
      Transfers (Load width dst from.base from.offset) shapes ctx_len a (with_kind dst (read_kind x t) a) None
  read_transfers reads.Context width all x = found_transfers dst from.base from.offset shapes ctx_len a t ne width all
      (λ c env m i d. context-finds ctx_len (length shapes) (byte_count width) from.offset x.offsets env m
      (m.regs from.base) i (reg-is a c m from.base (CtxAt x.offsets) d x.base) x.inside)
  read_transfers (reads.Value map) width all x = load_transfers width dst from.base from.offset shapes ctx_len a map
      x.shape x.offsets t x.base x.shape_is x.inside ne all
  read_transfers reads.FrameBytes width all x = found_transfers dst from.base from.offset shapes ctx_len a t ne width all
      (λ c env m i d. frame-finds width x.at from.base x.reaches.start from.offset a c env m d x.reaches.base x.reaches.inside x.bytes)
  read_transfers (reads.FramePointer kind) width all x = not-eight width (kind_of kind) x.wide x

  pub read_signed_transfers : (x : Reads) (width : SignedWidth) →
      ((n : ℕ) → (loaded_signed width n < 2 ^ 64) × Holds t (loaded_signed width n)) →
      IsReadByLoad x a (byte_count (unsigned_width width)) from ctx_len shapes
      → Transfers (LoadSigned width dst from.base from.offset) shapes ctx_len a (with_kind dst (read_kind x t) a) None
  read_signed_transfers reads.Context width all x = found_signed_transfers dst from.base from.offset shapes ctx_len a t ne width all
      (λ c env m i d. context-finds ctx_len (length shapes) (byte_count (unsigned_width width)) from.offset x.offsets
      env m (m.regs from.base) i (reg-is a c m from.base (CtxAt x.offsets) d x.base) x.inside)
  read_signed_transfers (reads.Value map) width all x =
      load_signed_transfers width dst from.base from.offset shapes ctx_len a map x.shape x.offsets t x.base x.shape_is
      x.inside ne (λ n l. all n)
  read_signed_transfers reads.FrameBytes width all x = found_signed_transfers dst from.base from.offset shapes ctx_len a t ne width all
      (λ c env m i d. frame-finds (unsigned_width width) x.at from.base x.reaches.start from.offset a c env m d x.reaches.base x.reaches.inside x.bytes)
  read_signed_transfers (reads.FramePointer kind) width all x = absurd (narrow width x.wide)

-- cells in code that are eight parts of one reference are so in words of the laws
pointer-kind : (k : RegKind) → is_pointer k ≡ true → IsPointer (kind_of k)
pointer-kind kinds.Unwritten e = absurd (cc)
pointer-kind kinds.Ended e = absurd (cc)
pointer-kind kinds.Mixed e = absurd (cc)
pointer-kind (kinds.Num s) e = absurd (cc)
pointer-kind (kinds.Ctx s) e = tt
pointer-kind (kinds.Frame o) e = tt
pointer-kind (kinds.Map map) e = tt
pointer-kind (kinds.Value map s) e = tt
pointer-kind (kinds.MaybeNull map id) e = tt

pub parts_at : (f : FrameCells) (at : ℕ) (kind : RegKind) → at % 8 ≡ 0 → AreAll f.cells at 8 class.Part →
    kind_in f.spills (at / 8) ≡ kind → (j : ℕ) → j < 8 → cell_at f (at + j) ≡ PartCell (kind_of kind)
parts_at f at kind e all spill j l =
    let group : (at + j) / 8 ≡ at / 8 = omega (arith, e, l) in
    ap (cell_of (kind_in f.spills ((at + j) / 8))) (all (at + j) (omega arith) (omega (arith, l))) ∙
    (ap (λ g. PartCell (kind_of (kind_in f.spills g))) group ∙ ap (λ k. PartCell (kind_of k)) spill)

module _ (a : StateHere) (from : Address) (width : Width) (start : ℤ) (at : ℕ)
    (base : kind_in a.regs from.base ≡ kinds.Frame start)
    (lies : region_offset FRAME_BYTES (byte_count width) (start +ℤ from.offset) ≡ Some at) where
  pub frame_reached : ReachesFrame (state_of a) from.base (byte_count width) from.offset at
  frame_reached = record { start = start; base = ap kind_of base; inside = lies }

  pub parts_read : (kind : RegKind) → at % byte_count width ≡ 0 → byte_count width ≡ 8 →
      kind_in a.frame.spills (at / 8) ≡ kind → is_pointer kind ≡ true →
      AreAll a.frame.cells at (byte_count width) class.Part
      → ReadsParts (state_of a) from.base (byte_count width) from.offset (kind_of kind)
  parts_read kind aligned wide spill pointer all = record {
    at = at;
    reaches = frame_reached;
    wide = wide;
    parts = parts_at a.frame at kind (subst (λ w. at % w ≡ 0) wide aligned) (subst (λ w. AreAll a.frame.cells at w class.Part) wide all) spill;
    pointer = pointer-kind kind pointer;
  }

-- what a load gives is as wide as its access, where it is a number
pub load_known : (x : Reads) (t : Scalar) (width : Width) (a : AbsState) (from : Address) (ctx_len : ℕ)
    (shapes : List MapShape) → IsReadByLoad x a (byte_count width) from ctx_len shapes → KeepsLoadFloor width t →
    LoadsKnown width (read_kind x t)
load_known reads.Context t width a from ctx_len shapes h floor = inl (t, refl, floor)
load_known (reads.Value map) t width a from ctx_len shapes h floor = inl (t, refl, floor)
load_known reads.FrameBytes t width a from ctx_len shapes h floor = inl (t, refl, floor)
load_known (reads.FramePointer kind) t width a from ctx_len shapes h floor = inr h.pointer

-- what a load that extends the sign gives is a number
pub number_loaded : (x : Reads) (t : Scalar) (width : SignedWidth) (a : AbsState) (from : Address) (ctx_len : ℕ)
    (shapes : List MapShape) → IsReadByLoad x a (byte_count (unsigned_width width)) from ctx_len shapes → (s : Scalar)
    × (read_kind x t ≡ Num s)
number_loaded reads.Context t width a from ctx_len shapes h = (t, refl)
number_loaded (reads.Value map) t width a from ctx_len shapes h = (t, refl)
number_loaded reads.FrameBytes t width a from ctx_len shapes h = (t, refl)
number_loaded (reads.FramePointer kind) t width a from ctx_len shapes h = absurd (narrow width h.wide)
