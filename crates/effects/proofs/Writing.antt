-- Stores lead from described runs to described ones.
use Rattle.bpf_model.proofs.Prelude.{◌≡◌, ℕ, ◌+◌, List, Option, Some, None, inl, refl, sym, ap, subst, ◌∙◌, ℤ, ◌+ℤ◌, ◌>>=◌, operand_value, byte_count}
use Rattle.bpf_model.proofs.Prelude.{region_offset, with_number, Outcome, Moves, stored, frame_after, store_to}
use Rattle.model_laws.proofs.Prelude.{MapShape, FRAME_BYTES, Store, Operand, Register, Width, Eight, Number, Pointer, Frame, Cell}
use Rattle.plan_laws.proofs.Prelude.{Kind, FrameAt, ByteCell, PartCell, AbsState, with_cells, IsNumberOperand, IsWritten, Transfers}
use Rattle.plan_laws.proofs.Arguments.{reg-is}
use Rattle.plan_laws.proofs.Local.{alone_transfers}
use Rattle.plan_laws.proofs.Example.{bytes-described}
use Rattle.plan_laws.proofs.Spilling.{spill_transfers, no-element}
use Rattle.plan_laws.proofs.Elements.{operand-number}

pub number_stored : (width : Width) (dst : ℕ) (offset : ℤ) (src : Operand) (shapes : List MapShape) (ctx_len : ℕ)
    (a : AbsState) (o : ℤ) (at : ℕ) → a.regs dst ≡ FrameAt o
    → region_offset FRAME_BYTES (byte_count width) (o +ℤ offset) ≡ Some at → IsNumberOperand a src →
    Transfers (Store width dst offset src) shapes ctx_len a (with_cells at (byte_count width) ByteCell a) None
number_stored width dst offset src shapes ctx_len a o at e p number =
    alone_transfers (Store width dst offset src) shapes ctx_len a (with_cells at (byte_count width) ByteCell a) None
    refl (λ c env m i target d.
    let w : ℕ = byte_count width in
    let base : m.regs dst ≡ Pointer (Frame o) = reg-is a c m dst (FrameAt o) d e in
    let x = operand-number a c m src d number in
    let goes : (ℕ → Cell) → Option Outcome = λ frame. Some (Moves (record { regs = m.regs; frame = frame; place = m.place + 1 })) in record {
      out = Moves (record { regs = m.regs; frame = with_number at w x.0 m.frame; place = m.place + 1 });
      after_is = ap (store_to m w offset (operand_value src m.regs)) base
          ∙ (ap (λ v. stored m w offset v (Frame o)) x.1 ∙ ap (λ q. q >>= λ k. frame_after k w (Number x.0) m.frame >>= goes) p);
      alone = λ es fs other h. no-element es w offset (operand_value src m.regs) (m.regs dst) (Frame o) fs tt base h.0;
      lands = inl (refl, refl, bytes-described a c m at w x.0 (m.place + 1) d);
    })

pub spill_stored : (width : Width) (dst : ℕ) (offset : ℤ) (src : Operand) (shapes : List MapShape) (ctx_len : ℕ)
    (a : AbsState) (o : ℤ) (at r : ℕ) (kind : Kind) → width ≡ Eight → src ≡ Register r → a.regs dst ≡ FrameAt o
    → region_offset FRAME_BYTES 8 (o +ℤ offset) ≡ Some at → a.regs r ≡ kind → IsWritten kind →
    Transfers (Store width dst offset src) shapes ctx_len a (with_cells at 8 (PartCell kind) a) None
spill_stored width dst offset src shapes ctx_len a o at r kind e f base p value written =
    subst (λ (w : Width). Transfers (Store w dst offset src) shapes ctx_len a (with_cells at 8 (PartCell kind) a) None) (sym e)
    (subst (λ (x : Operand). Transfers (Store Eight dst offset x) shapes ctx_len a (with_cells at 8 (PartCell kind) a) None) (sym f)
    (spill_transfers dst r offset o at shapes ctx_len a kind base p value written))
