-- What a lookup asks: a map of the program's list, and a key of its length in the frame.
use Rattle.bpf_model.proofs.Prelude.{◌≡◌, ℕ, zero, suc, ◌+◌, sym, ap, ◌∙◌, List, [], ◌∷◌, length, map, Option, Some, None, Bool, true, false, nat_le}
use Rattle.bpf_model.proofs.Prelude.{if◌then◌else◌, ℤ, pos, negsuc, none-some, same_Some, byte_of, bytes_at, bytes_from, frame_bytes, Argument, MapArgument}
use Rattle.bpf_model.proofs.Prelude.{BytesArgument, argument_of, arguments_of, called_shape, named_map, signature_of, State, ◌>>=◌, reference}
use Rattle.model_laws.proofs.Prelude.{Lookup, MapShape, FRAME_BYTES, Cell, Value, Nothing, Number, Pointer, Ctx, Frame, MapRef, Elem, KeyOfMap, MapOfProgram}
use Rattle.model_laws.proofs.Computations.{first-step}

length-bytes_at : (frame : ℕ → Cell) (at n : ℕ) (bytes : List ℕ) → bytes_at frame at n ≡ Some bytes → length bytes ≡ n
length-bytes_at frame at zero bytes h = ap length (sym (same_Some _ _ h))
length-bytes_at frame at (suc n) bytes h =
    let s = first-step (byte_of (frame at)) (λ b. bytes_at frame (suc at) n >>= λ bs. Some (b ∷ bs)) bytes h in
    let t = first-step (bytes_at frame (suc at) n) (λ bs. Some (s.0 ∷ bs)) bytes s.2 in
    ap length (sym (same_Some _ _ t.2)) ∙ ap suc (length-bytes_at frame (suc at) n t.0 t.1)

length-inside : (b : Bool) (frame : ℕ → Cell) (at len : ℕ) (bytes : List ℕ) → (if b then bytes_at frame at len else None) ≡ Some bytes → length bytes ≡ len
length-inside true frame at len bytes h = length-bytes_at frame at len bytes h
length-inside false frame at len bytes h = absurd (none-some bytes h)

length-from : (frame : ℕ → Cell) (len : ℕ) (o : ℤ) (bytes : List ℕ) → bytes_from frame len o ≡ Some bytes → length bytes ≡ len
length-from frame len (pos at) bytes h = length-inside (nat_le (at + len) FRAME_BYTES) frame at len bytes h
length-from frame len (negsuc n) bytes h = absurd (none-some bytes h)

pub length-frame : (frame : ℕ → Cell) (len : ℕ) (v : Value) (bytes : List ℕ) → frame_bytes frame len v ≡ Some bytes → length bytes ≡ len
length-frame frame len Nothing bytes h = absurd (none-some bytes h)
length-frame frame len (Number n) bytes h = absurd (none-some bytes h)
length-frame frame len (Pointer (Ctx o)) bytes h = absurd (none-some bytes h)
length-frame frame len (Pointer (Frame o)) bytes h = length-from frame len o bytes h
length-frame frame len (Pointer (MapRef m)) bytes h = absurd (none-some bytes h)
length-frame frame len (Pointer (Elem n o)) bytes h = absurd (none-some bytes h)

named-value : (u : Value) (map : ℕ) → (reference u >>= named_map) ≡ Some map → u ≡ Pointer (MapRef map)
named-value Nothing map e = absurd (none-some map e)
named-value (Number n) map e = absurd (none-some map e)
named-value (Pointer (Ctx o)) map e = absurd (none-some map e)
named-value (Pointer (Frame o)) map e = absurd (none-some map e)
named-value (Pointer (Elem n o)) map e = absurd (none-some map e)
named-value (Pointer (MapRef i)) map e = ap (λ (j : ℕ). Pointer (MapRef j)) (same_Some i map e)

pub record LookupAsked (shapes : ℕ → Option MapShape) (m : State) (arguments : List Argument) : Type 0 where
  pub map : ℕ
  pub shape : MapShape
  pub key : List ℕ
  pub map_is : m.regs 1 ≡ Pointer (MapRef map)
  pub shape_is : shapes map ≡ Some shape
  pub key_is : frame_bytes m.frame shape.key_len (m.regs 2) ≡ Some key
  pub long : length key ≡ shape.key_len
  pub arguments_are : arguments ≡ MapArgument map ∷ BytesArgument key ∷ []

pub lookup-asked : (shapes : ℕ → Option MapShape) (m : State) (arguments : List Argument) →
    arguments_of (signature_of Lookup).arguments shapes m 1 ≡ Some arguments → LookupAsked shapes m arguments
lookup-asked shapes m arguments e =
    let o : Option ℕ = reference (m.regs 1) >>= named_map in
    let f = first-step (argument_of shapes m MapOfProgram 1) (λ a. arguments_of (KeyOfMap ∷ []) shapes m 2 >>= λ more. Some (a ∷ more)) arguments e in
    let g = first-step (arguments_of (KeyOfMap ∷ []) shapes m 2) (λ more. Some (f.0 ∷ more)) arguments f.2 in
    let h = first-step (argument_of shapes m KeyOfMap 2) (λ a. Some (a ∷ [])) g.0 g.1 in
    let p = first-step o (λ map. Some (MapArgument map)) f.0 f.1 in
    let q = first-step (called_shape shapes m) (λ shape. frame_bytes m.frame shape.key_len (m.regs 2) >>= λ key. Some (BytesArgument key)) h.0 h.1 in
    let r = first-step (frame_bytes m.frame q.0.key_len (m.regs 2)) (λ key. Some (BytesArgument key)) h.0 q.2 in
    let s = first-step o shapes q.0 q.1 in
    let same : s.0 ≡ p.0 = same_Some s.0 p.0 (sym s.1 ∙ p.1) in
    record {
      map = p.0;
      shape = q.0;
      key = r.0;
      map_is = named-value (m.regs 1) p.0 p.1;
      shape_is = ap shapes (sym same) ∙ s.2;
      key_is = r.1;
      long = length-frame m.frame q.0.key_len (m.regs 2) r.0 r.1;
      arguments_are =
          sym (same_Some (f.0 ∷ g.0) arguments g.2)
          ∙ ap (λ (a : Argument). a ∷ g.0) (sym (same_Some (MapArgument p.0) f.0 p.2))
          ∙ ap (λ (l : List Argument). MapArgument p.0 ∷ l)
          (sym (same_Some (h.0 ∷ []) g.0 h.2) ∙ ap (λ (a : Argument). a ∷ [])
          (sym (same_Some (BytesArgument r.0) h.0 r.2)));
    }
