-- What `==` of two instructions, and of two shapes of maps, says.
use Rattle.bpf_model.proofs.Prelude.{◌≡◌, Bool, true, false, ap, refl, ◌&&◌, false≢true, Decides-eqb, Decides-int_eq}
use Rattle.model_laws.proofs.Prelude.{Insn, Operand, Register, Immediate, UnaryOp, Negate, ByteSwap, MoveSigned, MapShape}
use Rattle.std.specs.Prelude.{Decides}
use denote.Enum.Bare.{Bare, sameb, same_true, true_same}
use denote.Enum.Declared.{Declared}
use Rattle.bpf_model.specs.declared.insn.Insn.TheVariants as insns
use Rattle.bpf_model.specs.contracts.insn.InsnPartialEq.TheImpl as insn
use Rattle.bpf_model.specs.contracts.insn.OperandPartialEq.TheImpl as operand
use Rattle.bpf_model.specs.contracts.insn.UnaryOpPartialEq.TheImpl as unary
use Rattle.bpf_model.specs.contracts.limits.MapShapePartialEq.TheImpl as shape
use Rattle.bpf_model.specs.contracts.limits.MapKind as map_kind
use Rattle.bpf_model.specs.contracts.insn.AluOp as alu_op
use Rattle.bpf_model.specs.contracts.insn.CallKind as call_kind
use Rattle.bpf_model.specs.contracts.insn.SignExtension as extension
use Rattle.bpf_model.specs.contracts.opcode.ByteOrder as byte_order
use Rattle.bpf_model.specs.contracts.opcode.Condition as condition
use Rattle.bpf_model.specs.contracts.opcode.SignedWidth as signed_width
use Rattle.bpf_model.specs.contracts.opcode.Size as size
use Rattle.bpf_model.specs.contracts.opcode.SwapWidth as swap_width
use Rattle.bpf_model.specs.contracts.opcode.Width as width

both : (x y : Bool) {P Q : Type 0} → Decides x P → Decides y Q → Decides (x && y) (P × Q)
both true y p q = (λ e. (p.0 refl, q.0 e), λ r. q.1 r.1)
both false y p q = (λ e. absurd (false≢true e), λ r. p.1 r.0)

through : (x : Bool) {P Q : Type 0} → Decides x P → (P → Q) → (Q → P) → Decides x Q
through x d f g = (λ e. f (d.0 e), λ q. d.1 (g q))

-- an enum without fields
named : (D : Declared) → Bare D.parts → (a b : D.D) → Decides (sameb D a b) (a ≡ b)
named D bare a b = (same_true D bare a b, λ e. true_same D a b e)

operands : (a b : Operand) → Decides (operand.eq-value.it a b) (a ≡ b)
operands (Register a) (Register b) = through _ (Decides-eqb a b) (λ e. ap Register e) (λ e. cc)
operands (Immediate a) (Immediate b) = through _ (Decides-int_eq a b) (λ e. ap Immediate e) (λ e. cc)
operands a b = (λ e. absurd (false≢true e), λ e. cc)

unaries : (a b : UnaryOp) → Decides (unary.eq-value.it a b) (a ≡ b)
unaries (Negate a) (Negate b) = through _ (named size.the_type tt a b) (λ e. ap Negate e) (λ e. cc)
unaries (ByteSwap o a) (ByteSwap p b) = through _ (both _ _ (named byte_order.the_type tt o p) (named swap_width.the_type tt a b)) (λ e. cc) (λ e. (cc, cc))
unaries (MoveSigned x a) (MoveSigned y b) = through _ (both _ _ (named extension.the_type tt x y) (Decides-eqb a b)) (λ e. cc) (λ e. (cc, cc))
unaries a b = (λ e. absurd (false≢true e), λ e. cc)

pub insns-decides : (a b : Insn) → Decides (insn.eq-value.it a b) (a ≡ b)
insns-decides (insns.Alu p s d a) (insns.Alu q t e b) =
    through _ (both _ _ (named alu_op.the_type tt p q)
    (both _ _ (named size.the_type tt s t) (both _ _ (Decides-eqb d e) (operands a b)))) (λ h. cc)
    (λ h. (cc, (cc, (cc, cc))))
insns-decides (insns.Unary p d) (insns.Unary q e) = through _ (both _ _ (unaries p q) (Decides-eqb d e)) (λ h. cc) (λ h. (cc, cc))
insns-decides (insns.LoadNumber d n) (insns.LoadNumber e m) = through _ (both _ _ (Decides-eqb d e) (Decides-eqb n m)) (λ h. cc) (λ h. (cc, cc))
insns-decides (insns.LoadMap d n) (insns.LoadMap e m) = through _ (both _ _ (Decides-eqb d e) (Decides-int_eq n m)) (λ h. cc) (λ h. (cc, cc))
insns-decides (insns.Jump o) (insns.Jump p) = through _ (Decides-int_eq o p) (λ h. ap insns.Jump h) (λ h. cc)
insns-decides (insns.JumpLong o) (insns.JumpLong p) = through _ (Decides-int_eq o p) (λ h. ap insns.JumpLong h) (λ h. cc)
insns-decides (insns.JumpIf c s d a o) (insns.JumpIf k t e b p) =
    through _ (both _ _ (named condition.the_type tt c k)
    (both _ _ (named size.the_type tt s t) (both _ _ (Decides-eqb d e)
    (both _ _ (operands a b) (Decides-int_eq o p))))) (λ h. cc) (λ h. (cc, (cc, (cc, (cc, cc)))))
insns-decides (insns.Call k i) (insns.Call l j) = through _ (both _ _ (named call_kind.the_type tt k l) (Decides-int_eq i j)) (λ h. cc) (λ h. (cc, cc))
insns-decides insns.Exit insns.Exit = (λ h. refl, λ h. refl)
insns-decides (insns.Load v d a o) (insns.Load w e b p) =
    through _ (both _ _ (named width.the_type tt v w) (both _ _ (Decides-eqb d e)
    (both _ _ (Decides-eqb a b) (Decides-int_eq o p)))) (λ h. cc) (λ h. (cc, (cc, (cc, cc))))
insns-decides (insns.LoadSigned v d a o) (insns.LoadSigned w e b p) =
    through _ (both _ _ (named signed_width.the_type tt v w)
    (both _ _ (Decides-eqb d e) (both _ _ (Decides-eqb a b) (Decides-int_eq o p)))) (λ h. cc)
    (λ h. (cc, (cc, (cc, cc))))
insns-decides (insns.Store v d o a) (insns.Store w e p b) =
    through _ (both _ _ (named width.the_type tt v w) (both _ _ (Decides-eqb d e)
    (both _ _ (Decides-int_eq o p) (operands a b)))) (λ h. cc) (λ h. (cc, (cc, (cc, cc))))
insns-decides a b = (λ e. absurd (false≢true e), λ e. cc)

pub shapes-decides : (a b : MapShape) → Decides (shape.eq-value.it a b) (a ≡ b)
shapes-decides a b =
    through _ (both _ _ (named map_kind.the_type tt a.kind b.kind)
    (both _ _ (Decides-eqb a.key_len b.key_len) (both _ _ (Decides-eqb a.value_len b.value_len)
    (both _ _ (Decides-eqb a.entries b.entries) (both _ _ (Decides-eqb a.spare b.spare)
    (Decides-eqb a.reuse_limit b.reuse_limit))))))
    (λ h j. record { kind = h.0 j; key_len = h.1.0 j; value_len = h.1.1.0 j; entries = h.1.1.1.0 j; spare = h.1.1.1.1.0 j; reuse_limit = h.1.1.1.1.1 j })
    (λ h. (
      ap (λ (x : MapShape). x.kind) h,
      (
        ap (λ (x : MapShape). x.key_len) h,
        (
          ap (λ (x : MapShape). x.value_len) h,
          (
            ap (λ (x : MapShape). x.entries) h,
            (ap (λ (x : MapShape). x.spare) h, ap (λ (x : MapShape). x.reuse_limit) h),
          ),
        ),
      ),
    ))
