use Rattle.shared.proofs.lock.Shared.run_for.Goals as goal

pub returns : goal.returns
returns g c =
    let r = c.run_for.ensures in
    record { walked = record { made = r.made; answered = r.answered; at_most = r.most; exhausted = r.exhausted; memory = r.memory } }
