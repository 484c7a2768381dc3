use Rattle.bpf_model.proofs.Prelude.{[], ap, sym, ◌∙◌}
use Rattle.classic.proofs.Prelude.{ClassicInsn, slots}
use Rattle.classic.proofs.slots.block_slots.Goals as goal

pub returns-in-Jump-clause-value : goal.returns-in-Jump-clause-value
returns-in-Jump-clause-value c =
    sym (ap (λ (i : ClassicInsn). slots c.args.kind c.args.note.now i) c.in-Jump.is ∙ c.skip_slots.ensures.value 0 [])
