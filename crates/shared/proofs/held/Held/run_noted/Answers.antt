use Rattle.shared.proofs.held.Held.run_noted.Goals as goal

pub returns-clause-walked : goal.returns-clause-walked
returns-clause-walked g c =
    let r = c.run_noted.ensures in
    record { made = r.made; answered = r.answered; at_most = r.most; exhausted = r.exhausted; memory = r.memory }
