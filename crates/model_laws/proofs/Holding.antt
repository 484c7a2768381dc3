-- What a step of a run by itself can bring into its registers and its frame: only references of a kind that it holds already.
use Rattle.bpf_model.proofs.Prelude.{◌≡◌, refl, ℕ, ◌+◌, ◌-◌, ◌/◌, ◌%◌, ◌^◌, List, Option, Some, None, ℤ, pos, negsuc, ◌+ℤ◌, ◌-ℤ◌, sym, subst, Bool, true}
use Rattle.bpf_model.proofs.Prelude.{false, inl, inr, slice_get, if◌then◌else◌, ◌==◌, ◌&&◌, nat_le, nat_lt, length, w64, none-some, same_Some, alu, signed}
use Rattle.bpf_model.proofs.Prelude.{unary, loaded_signed, ◌>>=◌, held, number, reference, byte_count, unsigned_width, region_offset, number_at, byte_of}
use Rattle.bpf_model.proofs.Prelude.{are_parts, found, read, is_within, with_number, with_reference, operand_value, unary_source, offset_by, of_numbers}
use Rattle.bpf_model.proofs.Prelude.{sum_of, difference_of, computed, decided, State, Environment, Outcome, Moves, Exits, entry, forward, sets, jumps_to}
use Rattle.bpf_model.proofs.Prelude.{jumps_by, load_from, frame_after, stored, store_to, map_value, after, names_map, Element, returns, choice}
use Rattle.model_laws.proofs.Prelude.{FRAME_BYTES, Insn, Alu, Unary, LoadNumber, LoadMap, Jump, JumpLong, JumpIf, Call, Exit, Load, LoadSigned, Store, AluOp}
use Rattle.model_laws.proofs.Prelude.{Add, Sub, Move, Operand, Register, Immediate, Size, Word32, Word64, Value, Nothing, Number, Pointer, Reference, Ctx}
use Rattle.model_laws.proofs.Prelude.{Frame, MapRef, Elem, Cell, Unwritten, Byte, Part, HoldsValue, HoldsCell, HoldsState, AccessesElement, Acts}
use Rattle.bpf_model.specs.Step.{loaded}
use Rattle.model_laws.proofs.Computations.{first-step}

abbrev pub HoldsOutcome : (Reference → Type 0) → Outcome → Type 0
HoldsOutcome P (Moves next) = HoldsState P next
HoldsOutcome P (Exits n) = Unit {0}

-- Those of the run's own context and frame are of the kind, and it does not depend on an offset.
pub record Closed (P : Reference → Type 0) : Type 0 where
  pub context : (o : ℤ) → P (Ctx o)
  pub frame : (o : ℤ) → P (Frame o)
  pub moved : (n : ℕ) (o p : ℤ) → P (Elem n o) → P (Elem n p)

-- where the instruction loads a map of the program's list, those to maps are of the kind too
abbrev pub MayName : (Reference → Type 0) → Insn → Type 0
MayName P i = names_map i ≡ true → (n : ℕ) → P (MapRef n)

module _ (P : Reference → Type 0) (c : Closed P) where
  some-value : (x v : Value) → Some x ≡ Some v → HoldsValue P x → HoldsValue P v
  some-value x v h p = subst (HoldsValue P) (same_Some x v h) p

  some-outcome : (x out : Outcome) → Some x ≡ Some out → HoldsOutcome P x → HoldsOutcome P out
  some-outcome x out h p = subst (HoldsOutcome P) (same_Some x out h) p

  -- at entry
  pub holds-entry : HoldsState P entry
  holds-entry = (λ i. choice (HoldsValue P) (i == 1) _ _ (c.context (pos 0)) (choice (HoldsValue P) (i == 10) _ _ (c.frame (pos FRAME_BYTES)) tt), λ k. tt)

  -- a register is set
  sets-or : (b : Bool) (x out : Outcome) → (if b then None else Some x) ≡ Some out → HoldsOutcome P x → HoldsOutcome P out
  sets-or true x out h p = absurd (none-some out h)
  sets-or false x out h p = some-outcome x out h p

  holds-sets : (slots dst : ℕ) (v : Value) (m : State) (out : Outcome) → HoldsState P m → HoldsValue P v → sets slots dst v m ≡ Some out → HoldsOutcome P out
  holds-sets slots dst v m out p q h = sets-or (dst == 10) _ out h (λ i. choice (HoldsValue P) (i == dst) v (m.regs i) q (p.0 i), p.1)

  holds-sets_some : (o : Option Value) (slots dst : ℕ) (m : State) (out : Outcome) → HoldsState P m →
      ((v : Value) → o ≡ Some v → HoldsValue P v) → (o >>= λ v. sets slots dst v m) ≡ Some out → HoldsOutcome P out
  holds-sets_some o slots dst m out p q h = let s = first-step o (λ v. sets slots dst v m) out h in holds-sets slots dst s.0 m out p (q s.0 s.1) s.2

  holds-sets_number : (o : Option ℕ) (f : ℕ → ℕ) (slots dst : ℕ) (m : State) (out : Outcome) → HoldsState P m →
      (o >>= λ n. sets slots dst (Number (f n)) m) ≡ Some out → HoldsOutcome P out
  holds-sets_number o f slots dst m out p h = let s = first-step o (λ n. sets slots dst (Number (f n)) m) out
      h in holds-sets slots dst (Number (f s.0)) m out p tt s.2

  -- arithmetic
  holds-moved : (r : Reference) (d : ℤ) (v : Value) → P r → offset_by r d ≡ Some v → HoldsValue P v
  holds-moved (Ctx o) d v p h = some-value _ v h (c.context (o +ℤ d))
  holds-moved (Frame o) d v p h = some-value _ v h (c.frame (o +ℤ d))
  holds-moved (Elem n o) d v p h = some-value _ v h (c.moved n o (o +ℤ d) p)
  holds-moved (MapRef m) d v p h = absurd (none-some v h)

  holds-moved_by : (o : Option ℕ) (f : ℕ → ℤ) (r : Reference) (v : Value) → P r → (o >>= λ b. offset_by r (f b)) ≡ Some v → HoldsValue P v
  holds-moved_by o f r v p h = let s = first-step o (λ b. offset_by r (f b)) v h in holds-moved r (f s.0) v p s.2

  two-numbers : (a b : Option ℕ) (f : ℕ → ℕ → ℕ) (v : Value) → (a >>= λ x. b >>= λ y. Some (Number (f x y))) ≡ Some v → HoldsValue P v
  two-numbers None b f v h = absurd (none-some v h)
  two-numbers (Some x) None f v h = absurd (none-some v h)
  two-numbers (Some x) (Some y) f v h = some-value _ v h tt

  one-number : (a : Option ℕ) (f : ℕ → ℕ) (v : Value) → (a >>= λ x. Some (Number (f x))) ≡ Some v → HoldsValue P v
  one-number None f v h = absurd (none-some v h)
  one-number (Some x) f v h = some-value _ v h tt

  holds-numbers : (size : Size) (op : AluOp) (x y v : Value) → of_numbers size op x y ≡ Some v → HoldsValue P v
  holds-numbers size op x y v h = two-numbers (number x) (number y) (alu size op) v h

  holds-sum : (x y v : Value) → HoldsValue P x → sum_of x y ≡ Some v → HoldsValue P v
  holds-sum (Pointer r) y v p h = holds-moved_by (number y) (signed w64) r v p h
  holds-sum Nothing y v p h = holds-numbers Word64 Add Nothing y v h
  holds-sum (Number n) y v p h = holds-numbers Word64 Add (Number n) y v h

  holds-difference : (x y v : Value) → HoldsValue P x → difference_of x y ≡ Some v → HoldsValue P v
  holds-difference (Pointer r) y v p h = holds-moved_by (number y) (λ b. pos 0 -ℤ signed w64 b) r v p h
  holds-difference Nothing y v p h = holds-numbers Word64 Sub Nothing y v h
  holds-difference (Number n) y v p h = holds-numbers Word64 Sub (Number n) y v h

  holds-held : (y v : Value) → HoldsValue P y → held y ≡ Some v → HoldsValue P v
  holds-held Nothing v p h = absurd (none-some v h)
  holds-held (Number n) v p h = some-value _ v h tt
  holds-held (Pointer r) v p h = some-value _ v h p

  holds-computed : (size : Size) (op : AluOp) (x y v : Value) → HoldsValue P x → HoldsValue P y → computed size op x y ≡ Some v → HoldsValue P v
  holds-computed Word64 Move x y v p q h = holds-held y v q h
  holds-computed Word32 Move x y v p q h = one-number (number y) (alu Word32 Move 0) v h
  holds-computed Word64 Add x y v p q h = holds-sum x y v p h
  holds-computed Word64 Sub x y v p q h = holds-difference x y v p h
  holds-computed size op x y v p q h = holds-numbers size op x y v h

  holds-operand : (src : Operand) (m : State) → HoldsState P m → HoldsValue P (operand_value src m.regs)
  holds-operand (Register r) m p = p.0 r
  holds-operand (Immediate imm) m p = tt

  -- loads
  parts-or : (b : Bool) (r : Reference) (v : Value) → P r → (if b then Some (Pointer r) else None) ≡ Some v → HoldsValue P v
  parts-or true r v p h = some-value (Pointer r) v h p
  parts-or false r v p h = absurd (none-some v h)

  holds-found : (frame : ℕ → Cell) (at width : ℕ) (c : Cell) (v : Value) → HoldsCell P c → found frame at width c ≡ Some v → HoldsValue P v
  holds-found frame at width Unwritten v p h = absurd (none-some v h)
  holds-found frame at width (Byte b) v p h = one-number (number_at (λ k. byte_of (frame k)) at width) (λ n. n) v h
  holds-found frame at width (Part i r) v p h = parts-or ((width == 8) && are_parts 0 r frame at 8) r v p h

  holds-loaded : (env : Environment) (m : State) (width : ℕ) (offset : ℤ) (r : Reference) (v : Value) → HoldsState P m
      → loaded env m width offset r ≡ Some v → HoldsValue P v
  holds-loaded env m width offset (Ctx o) v p h =
      let s = first-step (region_offset (length env.context) width (o +ℤ offset))
      (λ at. number_at (slice_get env.context) at width >>= λ n. Some (Number n)) v h in
      one-number (number_at (slice_get env.context) s.0 width) (λ n. n) v s.2
  holds-loaded env m width offset (Frame o) v p h =
      let s = first-step (region_offset FRAME_BYTES width (o +ℤ offset)) (λ at. read m.frame at width) v h in
      holds-found m.frame s.0 width (m.frame s.0) v (p.1 s.0) s.2
  holds-loaded env m width offset (MapRef n) v p h = absurd (none-some v h)
  holds-loaded env m width offset (Elem n o) v p h = absurd (none-some v h)

  holds-load : (env : Environment) (m : State) (width : ℕ) (offset : ℤ) (base v : Value) → HoldsState P m →
      load_from env m width offset base ≡ Some v → HoldsValue P v
  holds-load env m width offset base v p h = let s = first-step (reference base) (λ r. loaded env m width offset r) v
      h in holds-loaded env m width offset s.0 v p s.2

  -- stores
  frame-or : (b : Bool) (x new : ℕ → Cell) → (if b then Some x else None) ≡ Some new → ((k : ℕ) → HoldsCell P (x k)) → (k : ℕ) → HoldsCell P (new k)
  frame-or true x new h p k = subst (λ f. HoldsCell P (f k)) (same_Some x new h) (p k)
  frame-or false x new h p k = absurd (none-some new h)

  holds-frame : (at width : ℕ) (v : Value) (frame new : ℕ → Cell) → HoldsValue P v → ((k : ℕ) → HoldsCell P (frame k))
      → frame_after at width v frame ≡ Some new → (k : ℕ) → HoldsCell P (new k)
  holds-frame at width Nothing frame new q p h k = absurd (none-some new h)
  holds-frame at width (Number n) frame new q p h k = subst (λ f. HoldsCell P (f k))
      (same_Some (with_number at width n frame) new h)
      (choice (HoldsCell P) (is_within at width k) (Byte (n / 256 ^ (k - at) % 256)) (frame k) tt (p k))
  holds-frame at width (Pointer r) frame new q p h k =
      frame-or (width == 8) (with_reference at r frame) new h
      (λ j. choice (HoldsCell P) (is_within at 8 j) (Part (j - at) r) (frame j) q (p j)) k

  holds-stored : (m : State) (width : ℕ) (offset : ℤ) (v : Value) (r : Reference) (out : Outcome) → HoldsState P m →
      HoldsValue P v → stored m width offset v r ≡ Some out → HoldsOutcome P out
  holds-stored m width offset v (Frame o) out p q h =
      let goes : (ℕ → Cell) → Option Outcome = λ frame. Some (Moves (record { regs = m.regs; frame = frame; place = m.place + 1 })) in
      let s = first-step (region_offset FRAME_BYTES width (o +ℤ offset)) (λ at. frame_after at width v m.frame >>= goes) out h in
      let t = first-step (frame_after s.0 width v m.frame) goes out s.2 in
      some-outcome (Moves (record { regs = m.regs; frame = t.0; place = m.place + 1 })) out t.2 (p.0, holds-frame s.0 width v m.frame t.0 q p.1 t.1)
  holds-stored m width offset v (Ctx o) out p q h = absurd (none-some out h)
  holds-stored m width offset v (MapRef n) out p q h = absurd (none-some out h)
  holds-stored m width offset v (Elem n o) out p q h = absurd (none-some out h)

  holds-store : (m : State) (width : ℕ) (offset : ℤ) (v base : Value) (out : Outcome) → HoldsState P m →
      HoldsValue P v → store_to m width offset v base ≡ Some out → HoldsOutcome P out
  holds-store m width offset v base out p q h = let s =
      first-step (reference base) (λ r. stored m width offset v r) out h in holds-stored m width offset v s.0 out p q
      s.2

  -- jumps
  holds-jump : (z : ℤ) (m : State) (out : Outcome) → HoldsState P m → jumps_to z m ≡ Some out → HoldsOutcome P out
  holds-jump (pos n) m out p h = some-outcome _ out h p
  holds-jump (negsuc n) m out p h = absurd (none-some out h)

  holds-taken : (taken : Bool) (offset : ℤ) (m : State) (out : Outcome) → HoldsState P m →
      (if taken then jumps_by offset m else Some (Moves (forward 1 m))) ≡ Some out → HoldsOutcome P out
  holds-taken true offset m out p h = holds-jump (pos (m.place + 1) +ℤ offset) m out p h
  holds-taken false offset m out p h = some-outcome _ out h p

  map-or : (b : Bool) (n : ℕ) (v : Value) → P (MapRef n) → (if b then Some (Pointer (MapRef n)) else None) ≡ Some v → HoldsValue P v
  map-or true n v p h = some-value (Pointer (MapRef n)) v h p
  map-or false n v p h = absurd (none-some v h)

  holds-map : (env : Environment) (z : ℤ) (v : Value) → ((n : ℕ) → P (MapRef n)) → map_value env z ≡ Some v → HoldsValue P v
  holds-map env (pos n) v p h = map-or (nat_lt n env.maps) n v (p n) h
  holds-map env (negsuc n) v p h = absurd (none-some v h)

  pub holds-after : (i : Insn) (env : Environment) (m : State) (out : Outcome) → MayName P i → HoldsState P m → after i env m ≡ Some out → HoldsOutcome P out
  holds-after (Alu op size dst src) env m out maps p h =
      holds-sets_some (computed size op (m.regs dst) (operand_value src m.regs)) 1 dst m out p
      (λ v. holds-computed size op (m.regs dst) (operand_value src m.regs) v (p.0 dst) (holds-operand src m p)) h
  holds-after (Unary op dst) env m out maps p h = holds-sets_number (number (m.regs (unary_source op dst))) (unary op) 1 dst m out p h
  holds-after (LoadNumber dst n) env m out maps p h = holds-sets 2 dst (Number n) m out p tt h
  holds-after (LoadMap dst map) env m out maps p h = holds-sets_some (map_value env map) 2 dst m out p (λ v. holds-map env map v (maps refl)) h
  holds-after (Jump offset) env m out maps p h = holds-jump (pos (m.place + 1) +ℤ offset) m out p h
  holds-after (JumpLong imm) env m out maps p h = holds-jump (pos (m.place + 1) +ℤ imm) m out p h
  holds-after (JumpIf condition size dst src offset) env m out maps p h =
      let s = first-step (decided condition size src (m.regs dst) (operand_value src m.regs))
      (λ taken. if taken then jumps_by offset m else Some (Moves (forward 1 m))) out h in
      holds-taken s.0 offset m out p s.2
  holds-after (Call kind imm) env m out maps p h = absurd (none-some out h)
  holds-after Exit env m out maps p h = let s = first-step (number (m.regs 0)) (λ n. Some (Exits n)) out h in some-outcome (Exits s.0) out s.2 tt
  holds-after (Load width dst src offset) env m out maps p h =
      holds-sets_some (load_from env m (byte_count width) offset (m.regs src)) 1 dst m out p
      (λ v. holds-load env m (byte_count width) offset (m.regs src) v p) h
  holds-after (LoadSigned width dst src offset) env m out maps p h =
      let s = first-step (load_from env m (byte_count (unsigned_width width)) offset (m.regs src))
      (λ v. number v >>= λ n. sets 1 dst (Number (loaded_signed width n)) m) out h in
      holds-sets_number (number s.0) (loaded_signed width) 1 dst m out p s.2
  holds-after (Store width dst offset src) env m out maps p h =
      holds-store m (byte_count width) offset (operand_value src m.regs) (m.regs dst) out p (holds-operand src m p) h

  holds-forward : (m : State) (out : Outcome) → HoldsState P m → out ≡ Moves (forward 1 m) → HoldsOutcome P out
  holds-forward m out p h = subst (HoldsOutcome P) (sym h) p

  holds-access : (i : Insn) (es : List Element) (m : State) (out : Outcome) (new : List Element) → HoldsState P m →
      AccessesElement i es m out new → HoldsOutcome P out
  holds-access (Load width dst src offset) es m out new p h = holds-sets 1 dst (Number h.0) m out p tt h.2
  holds-access (LoadSigned width dst src offset) es m out new p h = holds-sets 1 dst (Number (loaded_signed width h.0)) m out p tt h.2
  holds-access (Store width dst offset src) es m out new p h = holds-forward m out p h.1
  holds-access i es m out new p h = absurd h

  pub holds-acts : (i : Insn) (env : Environment) (es : List Element) (m : State) (out : Outcome) (new : List Element)
      → MayName P i → HoldsState P m → Acts i env es m out new → HoldsOutcome P out
  holds-acts i env es m out new maps p (inl h) = holds-after i env m out maps p h.0
  holds-acts i env es m out new maps p (inr h) = holds-access i es m out new p h

  -- a call
  pub holds-returns : (v : Value) (m : State) → HoldsValue P v → HoldsState P m → HoldsState P (returns v m)
  holds-returns v m q p = (
    λ i. choice (HoldsValue P) (i == 0) v (if nat_le i 5 then Nothing else m.regs i) q
        (choice (HoldsValue P) (nat_le i 5) Nothing (m.regs i) tt (p.0 i)),
    p.1,
  )
