use Rattle.register_kinds.proofs.state.AbsState.learn.Goals as goal

pub returns-clause-below : goal.returns-clause-below
returns-clause-below c = λ top a. record { regs = λ r. c.learn_kinds.ensures.below top r (a.regs r); spills = λ g. c.learn.ensures.below top g (a.spills g) }
