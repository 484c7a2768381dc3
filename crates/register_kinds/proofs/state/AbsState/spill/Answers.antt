use Rattle.register_kinds.proofs.state.AbsState.spill.Goals as goal

pub returns-clause-below : goal.returns-clause-below
returns-clause-below c = λ top a k. record { regs = a.regs; spills = λ g. c.spill.ensures.below top g (a.spills g) k }
