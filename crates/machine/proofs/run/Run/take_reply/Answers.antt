use Rattle.bpf_model.proofs.Prelude.{◌∙◌, sym, ap, subst, same_Some}
use Rattle.machine.proofs.Prelude.{MayResume, resumed_view}
use Rattle.model_laws.proofs.Prelude.{Insn}
use Rattle.machine.proofs.Places.{insn_there, run_room, resumed_at}
use Rattle.machine.proofs.run.Run.take_reply.Goals as goal
use Rattle.machine.proofs.run.Run.take_reply.Goals.{After-insn_of-insn}

may : (c : After-insn_of-insn) → MayResume c.insn_of-insn.result.now c.args.self.now.view
may c =
    let at = insn_there c.args.verified.now.program c.args.self.now.index c.args.self.now.view.place
    c.requires.can.insn c.requires.can.here c.requires.run.place in
    subst (λ (i : Insn). MayResume i c.args.self.now.view)
    (same_Some c.requires.can.insn c.insn_of-insn.result.now (sym at ∙ c.insn_of-insn.ensures.here))
    c.requires.can.may

pub insn_of-insn-requires : goal.insn_of-insn-requires
insn_of-insn-requires c = (
  c.requires.can.insn,
  insn_there c.args.verified.now.program c.args.self.now.index
      c.args.self.now.view.place c.requires.can.insn c.requires.can.here c.requires.run.place,
)

pub accept-requires-clause-room : goal.accept-requires-clause-room
accept-requires-clause-room c = run_room c.args.verified.now.program c.args.self.now c.insn_of-insn.result.now
    c.insn_of-insn.ensures.justified.program c.insn_of-insn.ensures.here c.requires.run

pub accept-requires-clause-may : goal.accept-requires-clause-may
accept-requires-clause-may c = may (goal.at.accept-requires-clause-may c).After-insn_of-insn

pub returns-clause-view : goal.returns-clause-view
returns-clause-view c = λ insn here.
    let v = c.args.self.now.view in
    let at = insn_there c.args.verified.now.program c.args.self.now.index v.place insn here c.requires.run.place in
    c.accept.ensures.view ∙ ap (λ (i : Insn). resumed_view i c.args.word v) (same_Some c.insn_of-insn.result.now insn (sym c.insn_of-insn.ensures.here ∙ at))

pub returns-clause-run : goal.returns-clause-run
returns-clause-run c = resumed_at c.args.verified.now.program c.insn_of-insn.result.now c.args.word c.args.self.now
    c.accept.new.self c.insn_of-insn.ensures.here (may (goal.at.returns-clause-run c).After-insn_of-insn)
    c.requires.run c.accept.ensures
