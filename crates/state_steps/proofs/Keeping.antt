-- What is known stays known, and what is ready is accepted.
use Rattle.bpf_model.proofs.Prelude.{◌≡◌, ℕ, Some, refl, sym, ap, subst, ◌∙◌, inl, inr, ℤ, pos, Bool, true, false, ◌+ℤ◌, ◌⊎◌, if◌then◌else◌, cases_eq}
use Rattle.bpf_model.proofs.Prelude.{same_Some, is_within, byte_count, unsigned_width, region_offset, within}
use Rattle.effects.proofs.Prelude.{ReachesFrame, ReadsBytes, AreNarrowed}
use Rattle.model_laws.proofs.Prelude.{Insn, Alu, Load, LoadSigned, Store, AluOp, Move, Operand, Register, Immediate, Size, WritesRegister, WritesByte, Names}
use Rattle.model_laws.proofs.Prelude.{TakesByte, Width, SignedWidth, FRAME_BYTES}
use Rattle.plan_laws.proofs.Prelude.{Kind, CellKind, Num, FrameAt, ByteCell, AbsState, with_kind, with_cells, IsNumberOperand, HasNumber, AreAlike}
use Rattle.model_laws.specs.Plain.{IsFrameAccess}
use Rattle.scalar_domain.specs.declared.scalar.Scalar.{Scalar}
use Rattle.effects.specs.Computes.{ReadsNumber}
use Rattle.state_steps.specs.Facts.{Register as RegisterFact, FrameByte, FramePointer, Section, KeepsFacts, ReadsNumbers, IsReadyInsn}
use Rattle.register_kinds.proofs.Setting.{set-there, set-elsewhere}

pub same_keeps : (i : Insn) (a : AbsState) → ((r : ℕ) → WritesRegister i r → ⊥) → ((k : ℕ) → WritesByte i k → ⊥) → KeepsFacts i a a
same_keeps i a no_reg no_byte (RegisterFact r) h = elim h [ inl p ↦ p | inr w ↦ absurd (no_reg r w) ]
same_keeps i a no_reg no_byte (FrameByte k) h = elim h [ inl p ↦ p | inr w ↦ absurd (no_byte k w) ]
same_keeps i a no_reg no_byte FramePointer h = elim h [ inl p ↦ p | inr w ↦ absurd w ]
same_keeps i a no_reg no_byte (Section inside) h = elim h [ inl p ↦ p | inr w ↦ absurd w ]

-- The instruction writes this register at most, and no byte of the frame.
pub record IsSetting (i : Insn) (dst : ℕ) : Type 0 where
  pub writes : (r : ℕ) → WritesRegister i r → r ≡ dst
  pub no_bytes : (k : ℕ) → WritesByte i k → ⊥

pub set_keeps : (i : Insn) (dst : ℕ) (t : Scalar) (a b : AbsState) → IsSetting i dst → (10 ≡ dst → ⊥) → AreAlike (with_kind dst (Num t) a) b → KeepsFacts i a b
set_keeps i dst t a b s ne e (RegisterFact r) h = elim (cases_eq r dst) [
  | inl p ↦ (t, set-there dst r (Num t) a b e p)
  | inr n ↦ elim h [
    | inl q ↦ (q.0, set-elsewhere dst r (Num t) a b e n ∙ q.1)
    | inr w ↦ absurd (n (s.writes r w))
  ]
]
set_keeps i dst t a b s ne e (FrameByte k) h = e.cells k ∙ (elim h [ inl p ↦ p | inr w ↦ absurd (s.no_bytes k w) ])
set_keeps i dst t a b s ne e FramePointer h = set-elsewhere dst 10 (Num t) a b e ne ∙ (elim h [ inl p ↦ p | inr w ↦ absurd w ])
set_keeps i dst t a b s ne e (Section inside) h = e.depth ∙ (elim h [ inl p ↦ p | inr w ↦ absurd w ])

-- a store of a number to the frame keeps facts, and makes its bytes bytes of a number
byte-there : (b : Bool) (x : CellKind) → (b ≡ true) ⊎ (x ≡ ByteCell) → (if b then ByteCell else x) ≡ ByteCell
byte-there true x h = refl
byte-there false x h = elim h [ inl p ↦ absurd cc | inr q ↦ q ]

pub store_keeps : (i : Insn) (at width : ℕ) (a b : AbsState) → ((r : ℕ) → WritesRegister i r → ⊥) →
    ((k : ℕ) → WritesByte i k → is_within at width k ≡ true) → AreAlike (with_cells at width ByteCell a) b →
    KeepsFacts i a b
store_keeps i at width a b no_reg bytes e (RegisterFact r) h = elim h [ inl p ↦ (p.0, e.regs r ∙ p.1) | inr w ↦ absurd (no_reg r w) ]
store_keeps i at width a b no_reg bytes e (FrameByte k) h = e.cells k ∙
    byte-there (is_within at width k) (a.cells k) (elim h [ inl p ↦ inr p | inr w ↦ inl (bytes k w) ])
store_keeps i at width a b no_reg bytes e FramePointer h = e.regs 10 ∙ (elim h [ inl p ↦ p | inr w ↦ absurd w ])
store_keeps i at width a b no_reg bytes e (Section inside) h = e.depth ∙ (elim h [ inl p ↦ p | inr w ↦ absurd w ])

-- a comparison of numbers keeps facts
names_cases : (src : Operand) (r : ℕ) → Names src r ⊎ (Names src r → ⊥)
names_cases (Register s) r = cases_eq r s
names_cases (Immediate imm) r = inr (λ x. x)

side_cases : (dst r : ℕ) (src : Operand) → ((r ≡ dst) ⊎ Names src r) ⊎ ((r ≡ dst) ⊎ Names src r → ⊥)
side_cases dst r src = elim (cases_eq r dst) [
  | inl p ↦ inl (inl p)
  | inr n ↦ elim (names_cases src r) [
    | inl q ↦ inl (inr q)
    | inr m ↦ inr (λ x. elim x [ inl p ↦ absurd (n p) | inr q ↦ absurd (m q) ])
  ]
]

no-frame : (s : Scalar) (o : ℤ) (k : Kind) → k ≡ Num s → k ≡ FrameAt o → ⊥
no-frame s o k e f = cc

pub narrow_keeps : (i : Insn) (dst : ℕ) (src : Operand) (o : ℤ) (a b : AbsState) → ((r : ℕ) → WritesRegister i r → ⊥)
    → ((k : ℕ) → WritesByte i k → ⊥) → ((r : ℕ) → (r ≡ dst) ⊎ Names src r → HasNumber a r) → a.regs 10 ≡ FrameAt o
    → AreNarrowed dst src a b → KeepsFacts i a b
narrow_keeps i dst src o a b no_reg no_byte numbers frame e (RegisterFact r) h = elim (side_cases dst r src) [
  | inl p ↦ e.sides r p
  | inr n ↦ elim h [ inl q ↦ (q.0, e.others r n ∙ q.1) | inr w ↦ absurd (no_reg r w) ]
]
narrow_keeps i dst src o a b no_reg no_byte numbers frame e (FrameByte k) h = e.cells k ∙ (elim h [ inl p ↦ p | inr w ↦ absurd (no_byte k w) ])
narrow_keeps i dst src o a b no_reg no_byte numbers frame e FramePointer h =
    e.others 10 (λ p. let n = numbers 10 p in no-frame n.0 o (a.regs 10) n.1 frame) ∙ (elim h [ inl p ↦ p | inr w ↦ absurd w ])
narrow_keeps i dst src o a b no_reg no_byte numbers frame e (Section inside) h = e.depth ∙ (elim h [ inl p ↦ p | inr w ↦ absurd w ])

-- operands that an operation reads are numbers where the registers it reads are
pub operand_number : (src : Operand) (a : AbsState) → ((r : ℕ) → Names src r → HasNumber a r) → IsNumberOperand a src
operand_number (Register s) a h = h s refl
operand_number (Immediate imm) a h = tt

module _ (size : Size) (dst : ℕ) (src : Operand) (a : AbsState) where
  both : ((r : ℕ) → (r ≡ dst) ⊎ Names src r → HasNumber a r) → HasNumber a dst × IsNumberOperand a src
  both h = (h dst (inl refl), operand_number src a (λ r n. h r (inr n)))

  other : (op : AluOp) → ((r : ℕ) → (r ≡ dst) ⊎ Names src r → HasNumber a r) → ReadsNumber op a dst × IsNumberOperand a src
  other op h = let p = both h in (inr p.0, p.1)

  pub alu_reads : (op : AluOp) → ReadsNumbers (Alu op size dst src) a → ReadsNumber op a dst × IsNumberOperand a src
  alu_reads Move h = (inl refl, operand_number src a h)
  alu_reads op h = other op h

-- an access to the frame that is ready lies inside it, and what it takes is bytes of numbers
reaches : (width : Width) (base : ℕ) (offset : ℤ) (a : AbsState) (f : IsFrameAccess width base offset) →
    a.regs 10 ≡ FrameAt (pos FRAME_BYTES) → ReachesFrame a base (byte_count width) offset f.1
reaches width base offset a f e = record { start = pos FRAME_BYTES; base = ap a.regs f.0 ∙ e; inside = f.2 }

reads_bytes : (width : Width) (base : ℕ) (offset : ℤ) (a : AbsState) (f : IsFrameAccess width base offset) →
    a.regs 10 ≡ FrameAt (pos FRAME_BYTES) → ((k : ℕ) → TakesByte width offset k → a.cells k ≡ ByteCell)
    → ReadsBytes a base (byte_count width) offset
reads_bytes width base offset a f e bytes = record { at = f.1; reaches = reaches width base offset a f e; bytes = λ k l h. bytes k (f.1, f.2, l, h) }

pub load_ready : (width : Width) (dst base : ℕ) (offset : ℤ) (a : AbsState) →
    IsReadyInsn (Load width dst base offset) a → ReadsBytes a base (byte_count width) offset
load_ready width dst base offset a ready = reads_bytes width base offset a ready.simple ready.frame ready.bytes

pub signed_ready : (width : SignedWidth) (dst base : ℕ) (offset : ℤ) (a : AbsState) →
    IsReadyInsn (LoadSigned width dst base offset) a → ReadsBytes a base (byte_count (unsigned_width width)) offset
signed_ready width dst base offset a ready = reads_bytes (unsigned_width width) base offset a ready.simple ready.frame ready.bytes

pub store_reaches : (width : Width) (dst : ℕ) (offset : ℤ) (src : Operand) (a : AbsState)
    (ready : IsReadyInsn (Store width dst offset src) a) → ReachesFrame a dst (byte_count width) offset ready.simple.1
store_reaches width dst offset src a ready = reaches width dst offset a ready.simple ready.frame

pub store_number : (width : Width) (dst : ℕ) (offset : ℤ) (src : Operand) (a : AbsState) → IsReadyInsn (Store width dst offset src) a → IsNumberOperand a src
store_number width dst offset src a ready = operand_number src a ready.registers

pub taken_within : (width : Width) (offset : ℤ) (at k : ℕ) →
    region_offset FRAME_BYTES (byte_count width) (pos FRAME_BYTES +ℤ offset) ≡ Some at → TakesByte width offset k →
    is_within at (byte_count width) k ≡ true
taken_within width offset at k e t =
    let same = same_Some t.0 at (sym t.1 ∙ e) in
    subst (λ (n : ℕ). is_within n (byte_count width) k ≡ true) same (within t.0 (byte_count width) k t.2 t.3)
