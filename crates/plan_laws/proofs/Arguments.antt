-- The arguments of a call of a described run.
use Rattle.bpf_model.proofs.Prelude.{◌≡◌, ℕ, zero, suc, ◌+◌, ◌<◌, ◌≤◌, List, [], ◌∷◌, Some, None, refl, ap, subst, ◌∙◌, pos, arith, slice_get, if◌then◌else◌}
use Rattle.bpf_model.proofs.Prelude.{le-leb, none-some, same_Some, ◌>>=◌, reference, byte_of, State, Section, MapState, Store, shape_in, shape_of, Run}
use Rattle.bpf_model.proofs.Prelude.{bytes_at, frame_bytes, AreBytes}
use Rattle.model_laws.proofs.Prelude.{FRAME_BYTES, MapShape, Pointer, Frame, Cell, Byte, bound_map, map_argument, key_argument, value_argument}
use Rattle.plan_laws.proofs.Prelude.{Kind, FrameAt, MapAt, CellKind, ByteCell, AbsState, Scene, scene_of, IsOf, IsOfCell, Describes, HasMap, HasBytes}
use Rattle.plan_laws.proofs.Prelude.{Surrounds}

pub reg-is : (a : AbsState) (c : Scene) (m : State) (r : ℕ) (k : Kind) (d : Describes a c m) → a.regs r ≡ k → IsOf c d.naming k (m.regs r)
reg-is a c m r k d e = subst (λ k. IsOf c d.naming k (m.regs r)) e (d.regs r)

pub cell-is : (a : AbsState) (c : Scene) (m : State) (i : ℕ) (k : CellKind) (d : Describes a c m) → a.cells i ≡ k → IsOfCell c d.naming d.stored i k (m.frame i)
cell-is a c m i k d e = subst (λ k. IsOfCell c d.naming d.stored i k (m.frame i)) e (d.cells i)

bytes-cons : (x : ℕ) (xs : List ℕ) → x < 256 → AreBytes xs → AreBytes (x ∷ xs)
bytes-cons x xs l h zero b at = subst (λ y. y < 256) (same_Some x b at) l
bytes-cons x xs l h (suc k) b at = h k b at

-- bytes of the frame are read
bytes-read : (frame : ℕ → Cell) (at n : ℕ) → ((k : ℕ) → at ≤ k → k < at + n → (b : ℕ) × (frame k ≡ Byte b) ×
    (b < 256)) → (bs : List ℕ) × (bytes_at frame at n ≡ Some bs) × AreBytes bs
bytes-read frame at zero h = ([], refl, λ k b e. absurd (none-some b e))
bytes-read frame at (suc n) h =
    let low = h at (omega arith) (omega arith) in
    let rest = bytes-read frame (suc at) n (λ k p q. h k (omega arith) (omega arith)) in (
      low.0 ∷ rest.0,
      ap (λ x. byte_of x >>= λ b. bytes_at frame (suc at) n >>= λ bs. Some (b ∷ bs)) low.1 ∙ ap (λ o. o >>= λ bs. Some (low.0 ∷ bs)) rest.1,
      bytes-cons low.0 rest.0 low.2 rest.2,
    )

pub has-bytes : (a : AbsState) (c : Scene) (m : State) (r len : ℕ) (d : Describes a c m) → HasBytes a r len →
    (bs : List ℕ) × (frame_bytes m.frame len (m.regs r) ≡ Some bs) × AreBytes bs
has-bytes a c m r len d h =
    let v : m.regs r ≡ Pointer (Frame (pos h.at)) = reg-is a c m r (FrameAt (pos h.at)) d h.frame in
    let x = bytes-read m.frame h.at len (λ k p q. cell-is a c m k ByteCell d (h.bytes k p q)) in (
      x.0,
      ap (frame_bytes m.frame len) v ∙ (ap (λ b. if b then bytes_at m.frame h.at len else None) (le-leb (h.at + len) FRAME_BYTES h.inside) ∙ x.1),
      x.2,
    )

-- the map in r1
pub record Bound (shapes : List MapShape) (s : Store) (run : Run) (map : ℕ) (shape : MapShape) : Type 0 where
  pub number : ℕ
  pub state : MapState
  pub listed : slice_get run.program.maps map ≡ Some number
  pub there : slice_get s.maps number ≡ Some state
  pub shape_is : state.shape ≡ shape

pub bound : (shapes : List MapShape) (ctx_len : ℕ) (s : Store) (opened : List Section) (run : Run) (map : ℕ)
    (shape : MapShape) → Surrounds shapes ctx_len s opened run → slice_get shapes map ≡ Some shape →
    Bound shapes s run map shape
bound shapes ctx_len s opened run map shape w at = let x =
    w.bound.each map shape at in record { number = x.0; state = x.1; listed = x.2; there = x.3; shape_is = x.4 }

module _ (shapes : List MapShape) (s : Store) (run : Run) (a : AbsState) (map : ℕ) (shape : MapShape)
    (d : Describes a (scene_of s run) run.state) (h : HasMap shapes a map shape)
    (b : Bound shapes s run map shape) where
  pub map-listed : map_argument run ≡ slice_get run.program.maps map
  map-listed = ap (λ v. reference v >>= bound_map run.program.maps) (reg-is a (scene_of s run) run.state 1 (MapAt map) d h.map_is)

  pub map-is : map_argument run ≡ Some b.number
  map-is = map-listed ∙ b.listed

  pub shape-is : shape_of s b.number ≡ Some shape
  shape-is = ap shape_in b.there ∙ ap Some b.shape_is

  pub key-is : HasBytes a 2 shape.key_len → (bs : List ℕ) × (key_argument s run b.number ≡ Some bs)
  key-is k = let x = has-bytes a (scene_of s run) run.state 2 shape.key_len d
      k in (
        x.0,
        ap (λ o. o >>= λ (y : MapShape). frame_bytes run.state.frame y.key_len (run.state.regs 2)) shape-is ∙
            x.1,
      )

  pub value-is : HasBytes a 3 shape.value_len → (bs : List ℕ) × (value_argument s run b.number ≡ Some bs) × AreBytes bs
  value-is k = let x = has-bytes a (scene_of s run) run.state 3 shape.value_len d
      k in (
        x.0,
        ap (λ o. o >>= λ (y : MapShape). frame_bytes run.state.frame y.value_len (run.state.regs 3)) shape-is
            ∙ x.1,
        x.2,
      )
