use Rattle.bpf_model.proofs.Prelude.{◌+◌, ℕ, ap}
use Rattle.classic.proofs.Closing.{sound-test}
use Rattle.classic.proofs.sound.is_sound_at.Goals as goal

pub returns-then-leads_to : goal.returns-then-leads_to
returns-then-leads_to c = λ yes.
    sound-test c.args.kind c.args.instruction.now c.args.note.now c.args.behind c.in-JumpIf.if_true c.in-JumpIf.if_false
    (c.args.behind + c.from.result) (c.args.behind + c.from-then-leads_to.result) c.args.notes.now c.left-known.result c.is_ready.result
    c.in-JumpIf.test c.in-JumpIf.operand c.in-JumpIf.is c.is_ready.ensures c.if-not-is_ready.false c.left-known.ensures
    (ap (λ (k : ℕ). c.args.behind + k) c.from.ensures) (ap (λ (k : ℕ). c.args.behind + k) c.from-then-leads_to.ensures)
    (c.leads_to-in-JumpIf.ensures c.if-leads_to.true) (c.leads_to-then-leads_to.ensures yes)
