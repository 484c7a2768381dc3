use Rattle.bpf_model.proofs.Prelude.{subst, sym, computed}
use Rattle.bpf_model.specs.declared.opcode.Size.TheVariants.{Word32}
use Rattle.reference_interpreter.specs.Plain.{IsComputed}
use Rattle.reference_interpreter.proofs.value.compute.Goals as goal

pub returns-in-Word32-Move : goal.returns-in-Word32-Move
returns-in-Word32-Move c =
    subst (λ s. IsComputed (computed s c.args.op c.args.x c.args.y) c.low_half.result) (sym c.in-Word32-Move.is-0)
    (subst (λ o. IsComputed (computed Word32 o c.args.x c.args.y) c.low_half.result) (sym c.in-Word32-Move.is-1) (c.low_half.ensures c.args.x))
