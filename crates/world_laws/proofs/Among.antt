-- What a run does by itself, among any maps, its words do.
use Rattle.bpf_model.proofs.Prelude.{◌≡◌, ℕ, ◌+◌, ◌^◌, ◌<◌, ◌≤◌, ◌≢◌, refl, sym, ap, subst, ◌∙◌, arith, Some, List, length, Bool, true, false, inl, inr}
use Rattle.bpf_model.proofs.Prelude.{slice_get, slice_index, slice_set, ℤ, pos, negsuc, ◌+ℤ◌, ◌==◌, nat_lt, not, if◌then◌else◌, ints, eq-eqb, ne_eqb}
use Rattle.bpf_model.proofs.Prelude.{length-set, none-some, same_Some, cond_some, alu, unary, compares, immediate, Run, environment, moves, operand_value}
use Rattle.bpf_model.proofs.Prelude.{unary_source, computed, decided, null_test, is_zero, FitsOperand, FitsUnary, FitsInsn, State, Outcome, Moves, Exits, put}
use Rattle.bpf_model.proofs.Prelude.{forward, sets, jumps_to, jumps_by, map_value, after, insn_at, number, RunView, WordIs, map_base, start-insn_at, Section}
use Rattle.bpf_model.proofs.Prelude.{ByteIs, IsReferenceWord, AreWords, FitsSigned, w32}
use Rattle.model_laws.proofs.Prelude.{REGISTERS, AluOp, Add, Sub, Insn, Alu, Unary, LoadNumber, LoadMap, JumpIf, Exit, Operand, Register}
use Rattle.model_laws.proofs.Prelude.{Immediate, UnaryOp, Negate, ByteSwap, MoveSigned, Condition, Size, Word64, Value, Nothing, Number, Pointer, Reference}
use Rattle.model_laws.proofs.Prelude.{Ctx, Frame, MapRef, Elem, IsNear, HoldsValue, FRAME_BYTES, IsNearReference}
use Rattle.plan_laws.proofs.Prelude.{scene_of, HasStep, AreNear}
use Rattle.world_laws.proofs.Prelude.{LocalStep, Goes, Ends, local_of, word_in, operand_word, with_word, jumped_to, jumped_by, branched, map_word, moved_view}
use Rattle.world_laws.proofs.Prelude.{IsNumbered}
use Rattle.bpf_model.specs.declared.opcode.Condition.TheVariants as conditions
use Rattle.world_laws.proofs.Cells.{same_int, chosen_pair}
use Rattle.world_laws.proofs.Words.{refused, number_word, IsSumOperation, AreMovable, word_computed, word_decided, IsBased}
use Rattle.world_laws.proofs.Bytes.{set_cond}
use Rattle.model_laws.proofs.Computations.{first-step}
use Rattle.bpf_model.specs.MapState as map_state
use Rattle.world_laws.proofs.Sure.{IsSure, emptied, emptied_run}

insn-in : (P : Insn → Type 0) (code : List Insn) (place : ℕ) (j : Insn) →
    ((k : ℕ) (i : Insn) → slice_get code k ≡ Some i → P i) → insn_at code place ≡ Some j → P j
insn-in P code place j all h = let r = start-insn_at 0 code place j h in all r.0 j r.1

-- the words after a move
pub moved-words : (b : ℕ → ℕ) (v : RunView) (run : Run) → AreWords b v run → (registers frame : List ℕ) (place : ℕ) (next : State)
    → length registers ≡ REGISTERS → ((q : ℕ) → q < REGISTERS → WordIs b (next.regs q) (slice_index registers q))
    → length frame ≡ FRAME_BYTES → ((j : ℕ) → j < FRAME_BYTES → ByteIs b (next.frame j) (slice_index frame j)) →
    place ≡ next.place → AreWords b (moved_view registers frame place v) (moves run next)
moved-words b v run h registers frame place next register_count regs cells bytes at = record {
  context = h.context;
  register_count = register_count;
  registers = regs;
  cells = cells;
  frame = bytes;
  place = at;
  depth = h.depth;
  moved = ap (λ n. n + 1) h.moved;
  exit = h.exit;
}

-- the words after one that changes the place alone
pub placed-words : (b : ℕ → ℕ) (v : RunView) (run : Run) → AreWords b v run → (place target : ℕ) → place ≡ target →
    AreWords b (moved_view v.registers v.frame place v) (moves run (record { regs = run.state.regs; frame = run.state.frame; place = target }))
placed-words b v run h place target at =
    moved-words b v run h v.registers v.frame place _ h.register_count h.registers h.cells h.frame at

-- the words after one that sets a register
pub set-words : (b : ℕ → ℕ) (v : RunView) (run : Run) → AreWords b v run → (slots dst x : ℕ) (u : Value) → dst ≤ 10 → WordIs b u x →
    AreWords b (with_word slots dst x v)
    (moves run (record { regs = put dst u run.state.regs; frame = run.state.frame; place = run.state.place + slots }))
set-words b v run h slots dst x u l word =
    let register_count : length v.registers ≡ REGISTERS = h.register_count in
    moved-words b v run h (slice_set v.registers dst x) v.frame (v.place + slots) _
    (length-set v.registers dst x ∙ h.register_count)
    (λ q m. subst (λ y. WordIs b (put dst u run.state.regs q) y)
    (sym (set_cond v.registers dst x q (let d : dst < REGISTERS = (omega (arith, l)) in omega (arith, d, register_count))))
    (chosen_pair (WordIs b) (q == dst) u (run.state.regs q) x (slice_index v.registers q) word (h.registers q m)))
    h.cells h.frame (ap (λ p. p + slots) h.place)

-- an emptied register has nothing
pub emptied-here : (q : ℕ) (regs : ℕ → Value) → put q Nothing regs q ≡ Nothing
emptied-here q regs = ap (λ t. if t then Nothing else regs q) (eq-eqb q q refl)

no-sum : (size : Size) (op : AluOp) (y u : Value) → IsSumOperation size op → computed size op Nothing y ≡ Some u → ⊥
no-sum Word64 Add y u t e = none-some u e
no-sum Word64 Sub y u t e = none-some u e
no-sum size op y u t e = absurd t

no-addend : (size : Size) (op : AluOp) (x u : Value) → IsSumOperation size op → computed size op x Nothing ≡ Some u → ⊥
no-addend Word64 Add Nothing u t e = none-some u e
no-addend Word64 Add (Number n) u t e = none-some u e
no-addend Word64 Add (Pointer q) u t e = none-some u e
no-addend Word64 Sub Nothing u t e = none-some u e
no-addend Word64 Sub (Number n) u t e = none-some u e
no-addend Word64 Sub (Pointer q) u t e = none-some u e
no-addend size op x u t e = absurd t

-- the second operand of a sum with a reference is a number
addend-known : (size : Size) (op : AluOp) (q : Reference) (y u : Value) → IsSumOperation size op → computed size op (Pointer q) y ≡ Some u → y ≢ Nothing
addend-known size op q y u t e n = no-addend size op (Pointer q) u t (ap (computed size op (Pointer q)) (sym n) ∙ e)

pub immediate-below : (imm : ℤ) → FitsSigned w32 imm → immediate imm < 2 ^ 64
immediate-below (pos n) f = omega (arith, ints, f)
immediate-below (negsuc n) f = omega arith

-- A run and its words, among maps that hold what its references lead to.
pub record IsAmong (code : List Insn) (b : ℕ → ℕ) (store : map_state.Store) (sections : List Section) (run : Run) (v : RunView) : Type 0 where
  pub real : (k : ℕ) (i : Insn) → slice_get code k ≡ Some i → FitsInsn i
  pub words : AreWords b v run
  pub numbered : (q : ℕ) → HoldsValue IsNumbered (run.state.regs q)
  pub near : AreNear run.state.regs run.state.frame
  pub near_after : (i : Insn) (next : State) → insn_at code run.state.place ≡ Some i →
      after i (environment run) run.state ≡ Some (Moves next) → AreNear next.regs next.frame
  pub high : (n : ℕ) → 2 ^ 40 ≤ b n
  pub based : (n : ℕ) (o : ℤ) → IsSure (scene_of store run) (Pointer (Elem n o)) → b n ≤ 2 ^ 62
  pub sure : (i : Insn) (q : ℕ) → insn_at code run.state.place ≡ Some i →
      (HasStep i store sections (emptied_run q run) → ⊥) → IsSure (scene_of store run) (run.state.regs q)

-- the words do what the run does, in the same program
abbrev pub Does : (ℕ → ℕ) → RunView → Run → Outcome → LocalStep → Type 0
Does b v run (Moves next) (Goes new) = AreWords b new (moves run next) × (new.program ≡ v.program)
Does b v run (Exits n) (Ends m) = m ≡ n
Does b v run out local = ⊥

module _ {code : List Insn} {b : ℕ → ℕ} {store : map_state.Store} {sections : List Section} {run : Run} {v : RunView}
    (a : IsAmong code b store sections run v) where
  abbrev pub Known : Insn → Type 0
  Known i = insn_at code run.state.place ≡ Some i

  pub insn-real : (i : Insn) → Known i → FitsInsn i
  insn-real i here = insn-in FitsInsn code run.state.place i a.real here

  pub register-word : (q : ℕ) → q ≤ 10 → WordIs b (run.state.regs q) (word_in v q)
  register-word q l = a.words.registers q (omega (arith, l))

  pub operand-stands : (src : Operand) → FitsOperand src → WordIs b (operand_value src run.state.regs) (operand_word v src)
  operand-stands (Register q) l = register-word q l
  operand-stands (Immediate imm) l = refl

  pub byte-stands : (j : ℕ) → j < length v.frame → ByteIs b (run.state.frame j) (slice_index v.frame j)
  byte-stands j l = let c : length v.frame ≡ FRAME_BYTES = a.words.cells in a.words.frame j (omega (arith, l, c))

  -- the words of references that are sure
  reference-fits : (q : Reference) (x : ℕ) → IsReferenceWord b q x → IsNearReference q → IsNumbered q →
      IsSure (scene_of store run) (Pointer q) → IsBased b q × (x < 2 ^ 64)
  reference-fits (Ctx o) x e n l h = (tt, omega (arith, ints, e, n))
  reference-fits (Frame o) x e n l h = (tt, omega (arith, ints, e, n))
  reference-fits (MapRef i) x e n l h = (tt, omega (arith, ints, e, l))
  reference-fits (Elem m o) x e n l h = let low = a.high m in let top = a.based m o h in ((low, top), omega (arith, ints, e, n, low, top))

  value-fits : (u : Value) (x : ℕ) → u ≢ Nothing → WordIs b u x → IsNear u → HoldsValue IsNumbered u → IsSure (scene_of store run) u → x < 2 ^ 64
  value-fits Nothing x some e n l h = absurd (some refl)
  value-fits (Number n) x some e near l h = omega (arith, e, h)
  value-fits (Pointer q) x some e n l h = (reference-fits q x e n l h).1

  -- a register that the instruction at hand needs
  pub register-fits : (i : Insn) (q : ℕ) → Known i → q ≤ 10 → run.state.regs q ≢ Nothing →
      (HasStep i store sections (emptied_run q run) → ⊥) → word_in v q < 2 ^ 64
  register-fits i q here l some stuck =
      value-fits (run.state.regs q) (word_in v q) some (register-word q l) (a.near.regs_near q) (a.numbered q) (a.sure i q here stuck)

  -- a register is set
  pub sets-word : (out : Outcome) (slots dst x : ℕ) (u : Value) → dst ≤ 10 → sets slots dst u run.state ≡ Some out → WordIs b u x →
      Does b v run out (Goes (with_word slots dst x v))
  sets-word out slots dst x u l e word =
      let next : State = record { regs = put dst u run.state.regs; frame = run.state.frame; place = run.state.place + slots } in
      subst (λ o. Does b v run o (Goes (with_word slots dst x v))) (refused (dst == 10) (Moves next) out e)
      (set-words b v run a.words slots dst x u l word, refl)

  pub sets-near : (i : Insn) (out : Outcome) (slots dst x : ℕ) (u : Value) → Known i → after i (environment run) run.state ≡ Some out →
      dst ≤ 10 → sets slots dst u run.state ≡ Some out → (IsNear u → WordIs b u x) → Does b v run out (Goes (with_word slots dst x v))
  sets-near i out slots dst x u here step l e word =
      let next : State = record { regs = put dst u run.state.regs; frame = run.state.frame; place = run.state.place + slots } in
      let f : Moves next ≡ out = refused (dst == 10) (Moves next) out e in
      let n = a.near_after i next here (step ∙ ap Some (sym f)) in
      sets-word out slots dst x u l e
      (word (subst (λ t. IsNear (if t then u else run.state.regs dst)) (eq-eqb dst dst refl) (n.regs_near dst)))

  -- a jump
  jumps : (out : Outcome) (z : ℤ) → jumps_to z run.state ≡ Some out → Does b v run out (Goes (jumped_to z v))
  jumps out (pos target) e =
      let next : State = record { regs = run.state.regs; frame = run.state.frame; place = target } in
      subst (λ o. Does b v run o (Goes (jumped_to (pos target) v))) (same_Some (Moves next) out e)
      (placed-words b v run a.words target target refl, refl)
  jumps out (negsuc n) e = absurd (none-some out e)

  pub jumps-on : (out : Outcome) (offset : ℤ) → jumps_by offset run.state ≡ Some out → Does b v run out (Goes (jumped_by offset v))
  jumps-on out offset e =
      subst (λ (p : ℕ). Does b v run out (Goes (jumped_to (pos (p + 1) +ℤ offset) v))) (sym a.words.place)
      (jumps out (pos (run.state.place + 1) +ℤ offset) e)

  branches : (out : Outcome) (taken : Bool) (offset : ℤ) → (if taken then jumps_by offset run.state else Some (Moves (forward 1 run.state))) ≡ Some out →
      Does b v run out (Goes (branched taken offset v))
  branches out true offset e = jumps-on out offset e
  branches out false offset e =
      subst (λ o. Does b v run o (Goes (branched false offset v))) (same_Some (Moves (forward 1 run.state)) out e)
      (placed-words b v run a.words (v.place + 1) (run.state.place + 1) (ap (λ p. p + 1) a.words.place), refl)

  -- what a sum needs
  no-first : (size : Size) (op : AluOp) (dst : ℕ) (src : Operand) → IsSumOperation size op →
      HasStep (Alu op size dst src) store sections (emptied_run dst run) → ⊥
  no-first size op dst src t (answer, store, later, inl (out, is, kept, ends)) =
      let regs = put dst Nothing run.state.regs in
      let f = first-step (computed size op (regs dst) (operand_value src regs)) (λ u. sets 1 dst u (emptied dst run.state)) out is in
      no-sum size op (operand_value src regs) f.0 t (ap (λ x. computed size op x (operand_value src regs)) (sym (emptied-here dst run.state.regs)) ∙ f.1)
  no-first size op dst src t (answer, store, later, inr h) = absurd (none-some h.request h.asked)

  no-second : (size : Size) (op : AluOp) (dst q : ℕ) → IsSumOperation size op →
      HasStep (Alu op size dst (Register q)) store sections (emptied_run q run) → ⊥
  no-second size op dst q t (answer, store, later, inl (out, is, kept, ends)) =
      let regs = put q Nothing run.state.regs in
      let f = first-step (computed size op (regs dst) (regs q)) (λ u. sets 1 dst u (emptied q run.state)) out is in
      no-addend size op (regs dst) f.0 t (ap (computed size op (regs dst)) (sym (emptied-here q run.state.regs)) ∙ f.1)
  no-second size op dst q t (answer, store, later, inr h) = absurd (none-some h.request h.asked)

  addend-fits : (size : Size) (op : AluOp) (dst : ℕ) (src : Operand) → IsSumOperation size op →
      Known (Alu op size dst src) → FitsOperand src → operand_value src run.state.regs ≢ Nothing →
      operand_word v src < 2 ^ 64
  addend-fits size op dst (Register q) t here l some = register-fits (Alu op size dst (Register q)) q here l some (no-second size op dst q t)
  addend-fits size op dst (Immediate imm) t here l some = immediate-below imm l

  movable : (size : Size) (op : AluOp) (dst : ℕ) (src : Operand) (u : Value) → IsSumOperation size op →
      Known (Alu op size dst src) → dst ≤ 10 → FitsOperand src →
      computed size op (run.state.regs dst) (operand_value src run.state.regs) ≡ Some u →
      AreMovable b (run.state.regs dst) (word_in v dst) (operand_word v src)
  movable size op dst src u t here l o e q is =
      let word : WordIs b (Pointer q) (word_in v dst) = subst (λ x. WordIs b x (word_in v dst)) is (register-word dst l) in
      let f = reference-fits q (word_in v dst) word (subst IsNear is (a.near.regs_near dst)) (subst (HoldsValue IsNumbered) is (a.numbered dst))
      (subst (IsSure (scene_of store run)) is (a.sure (Alu op size dst src) dst here (no-first size op dst src t))) in
      record {
        based = f.0;
        first = f.1;
        second = addend-fits size op dst src t here o (addend-known size op q (operand_value src run.state.regs) u t
            (ap (λ x. computed size op x (operand_value src run.state.regs)) (sym is) ∙ e));
      }

  -- what a comparison tells
  null-word : (condition : Condition) (size : Size) (z : Bool) (q : Reference) (taken : Bool) (x y : ℕ) →
      null_test condition size z q ≡ Some taken → (z ≡ true → y ≡ 0) → 0 < x → compares size condition x y ≡ taken
  null-word conditions.Equal Word64 true (Elem n o) taken x y e zero l = ap (λ y. x == y) (zero refl) ∙
      ne_eqb x 0 (λ h. omega (arith, l)) ∙ same_Some false taken e
  null-word conditions.NotEqual Word64 true (Elem n o) taken x y e zero l =
      ap not (ap (λ y. x == y) (zero refl) ∙ ne_eqb x 0 (λ h. omega (arith, l))) ∙ same_Some true taken e
  null-word condition size z q taken x y e zero l = absurd (none-some taken e)

  positive : (q : Reference) (x : ℕ) → WordIs b (Pointer q) x → IsNear (Pointer q) → 0 < x
  positive (Ctx o) x e n = omega (arith, ints, e, n)
  positive (Frame o) x e n = omega (arith, ints, e, n)
  positive (MapRef i) x e n = omega (arith, ints, e)
  positive (Elem m o) x e n = let low = a.high m in omega (arith, ints, e, n, low)

  zero-word : (src : Operand) → is_zero src ≡ true → operand_word v src ≡ 0
  zero-word (Register q) e = absurd (cc)
  zero-word (Immediate imm) e = ap immediate (same_int imm (pos 0) e)

  decides : (condition : Condition) (size : Size) (dst : ℕ) (src : Operand) (taken : Bool) → dst ≤ 10 →
      FitsOperand src → (x : Value) → run.state.regs dst ≡ x →
      decided condition size src x (operand_value src run.state.regs) ≡ Some taken →
      compares size condition (word_in v dst) (operand_word v src) ≡ taken
  decides condition size dst src taken l o Nothing is e = absurd (none-some taken e)
  decides condition size dst src taken l o (Number n) is e =
      word_decided b condition size src run.state.regs (Number n) n taken (word_in v dst) (operand_word v src) refl e
      (subst (λ x. WordIs b x (word_in v dst)) is (register-word dst l)) (operand-stands src o)
  decides condition size dst src taken l o (Pointer q) is e =
      null-word condition size (is_zero src) q taken (word_in v dst) (operand_word v src) e (zero-word src)
      (positive q (word_in v dst) (subst (λ x. WordIs b x (word_in v dst)) is (register-word dst l)) (subst IsNear is (a.near.regs_near dst)))

  source-real : (op : UnaryOp) (dst : ℕ) → dst ≤ 10 → FitsUnary op → (unary_source op dst) ≤ 10
  source-real (Negate size) dst l u = l
  source-real (ByteSwap order width) dst l u = l
  source-real (MoveSigned extension src) dst l u = u

  map-known : (z : ℤ) (u : Value) → map_value (environment run) z ≡ Some u → WordIs b u (map_word z)
  map-known (pos n) u e =
      let g = cond_some (nat_lt n (environment run).maps) (Pointer (MapRef n)) u e in
      subst (λ (x : Value). WordIs b x (map_base + n)) g.1 refl
  map-known (negsuc n) u e = absurd (none-some u e)

  -- each instruction that accesses no memory and is no call
  pub alu-does : (op : AluOp) (size : Size) (dst : ℕ) (src : Operand) (out : Outcome) →
      Known (Alu op size dst src) → after (Alu op size dst src) (environment run) run.state ≡ Some out →
      Does b v run out (local_of (Alu op size dst src) v)
  alu-does op size dst src out here e =
      let i = Alu op size dst src in
      let real = insn-real i here in
      let f = first-step (computed size op (run.state.regs dst) (operand_value src run.state.regs)) (λ u. sets 1 dst u run.state) out e in
      sets-near i out 1 dst (alu size op (word_in v dst) (operand_word v src)) f.0 here e real.0 f.2
      (λ n. word_computed b size op (run.state.regs dst) (operand_value src run.state.regs) f.0 (word_in v dst) (operand_word v src)
      (λ t. movable size op dst src f.0 t here real.0 real.1 f.1) f.1 (register-word dst real.0) (operand-stands src real.1) n)

  pub unary-does : (op : UnaryOp) (dst : ℕ) (out : Outcome) → Known (Unary op dst) →
      after (Unary op dst) (environment run) run.state ≡ Some out → Does b v run out (local_of (Unary op dst) v)
  unary-does op dst out here e =
      let real = insn-real (Unary op dst) here in
      let q = unary_source op dst in
      let f = first-step (number (run.state.regs q)) (λ n. sets 1 dst (Number (unary op n)) run.state) out e in
      sets-word out 1 dst (unary op (word_in v q)) (Number (unary op f.0)) real.0 f.2
      (ap (unary op) (number_word b (run.state.regs q) f.0 (word_in v q) f.1 (register-word q (source-real op dst real.0 real.1))))

  pub branch-does : (condition : Condition) (size : Size) (dst : ℕ) (src : Operand) (offset : ℤ) (out : Outcome)
      → Known (JumpIf condition size dst src offset) →
      after (JumpIf condition size dst src offset) (environment run) run.state ≡ Some out →
      Does b v run out (local_of (JumpIf condition size dst src offset) v)
  branch-does condition size dst src offset out here e =
      let real = insn-real (JumpIf condition size dst src offset) here in
      let f = first-step (decided condition size src (run.state.regs dst) (operand_value src run.state.regs))
      (λ taken. if taken then jumps_by offset run.state else Some (Moves (forward 1 run.state))) out e in
      subst (λ t. Does b v run out (Goes (branched t offset v)))
      (sym (decides condition size dst src f.0 real.0 real.1 (run.state.regs dst) refl f.1))
      (branches out f.0 offset f.2)

  pub exit-does : (out : Outcome) → after Exit (environment run) run.state ≡ Some out → Does b v run out (local_of Exit v)
  exit-does out e =
      let f = first-step (number (run.state.regs 0)) (λ n. Some (Exits n)) out e in
      subst (λ o. Does b v run o (local_of Exit v)) (same_Some (Exits f.0) out f.2)
      (number_word b (run.state.regs 0) f.0 (word_in v 0) f.1 (register-word 0 (omega arith)))

  pub number-does : (dst n : ℕ) (out : Outcome) → Known (LoadNumber dst n) →
      after (LoadNumber dst n) (environment run) run.state ≡ Some out → Does b v run out (local_of (LoadNumber dst n) v)
  number-does dst n out here e = sets-word out 2 dst n (Number n) (insn-real (LoadNumber dst n) here).0 e refl

  pub map-does : (dst : ℕ) (map : ℤ) (out : Outcome) → Known (LoadMap dst map) →
      after (LoadMap dst map) (environment run) run.state ≡ Some out → Does b v run out (local_of (LoadMap dst map) v)
  map-does dst map out here e =
      let f = first-step (map_value (environment run) map) (λ u. sets 2 dst u run.state) out e in
      sets-word out 2 dst (map_word map) f.0 (insn-real (LoadMap dst map) here).0 f.2 (map-known map f.0 f.1)
