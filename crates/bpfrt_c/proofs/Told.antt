-- A fault that C is told of is one of those for which something holds.
use Rattle.std.proofs.Common.{◌≡◌, ℕ, List, Err, IfErr, Result, inr, subst}
use Rattle.std.specs.Prelude.{ℤ}
use Rattle.bpf_model.specs.declared.limits.MapShape.{MapShape}
use Rattle.host_programs.specs.Opened.{OpenProgram}
use Rattle.host_programs.specs.Refusals.{IsBytesFault}
use Rattle.host_programs.specs.declared.fault.OpenFault.{OpenFault}
use Rattle.bpfrt_c.specs.Refused.{IsBytesFaultInC, Tells}
use Rattle.bpfrt_c.specs.Shapes.{AreShapesInC}
use Rattle.bpfrt_c.specs.declared.refusal.Refusal.{Refusal}
use Rattle.bpfrt_c.specs.declared.shape.Shape.{Shape}

pub told_so : (opened : Result OpenProgram OpenFault) (IsFault : OpenFault → Type 0) (why : Refusal) (number : ℤ) →
    IfErr opened IsFault → Tells (λ fault. opened ≡ Err fault) why number → Tells IsFault why number
told_so opened IsFault why number is t =
    (t.0, subst (λ (r : Result OpenProgram OpenFault). IfErr r IsFault) t.1 is, t.2, t.3, t.4, t.5)

pub told_in_c : (bytes : List ℕ) (ctx_len : ℕ) (written : List Shape) (shapes : List MapShape) (why : Refusal) (number : ℤ) →
    AreShapesInC written shapes → Tells (IsBytesFault bytes ctx_len shapes) why number
    → Tells (IsBytesFaultInC bytes ctx_len written) why number
told_in_c bytes ctx_len written shapes why number are t = (t.0, inr (shapes, are, t.1), t.2, t.3, t.4, t.5)
