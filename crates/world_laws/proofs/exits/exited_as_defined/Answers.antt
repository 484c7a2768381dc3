use Rattle.world_laws.proofs.Lived.{may_exit_as, exits_as}
use Rattle.world_laws.proofs.exits.exited_as_defined.Goals as goal

pub returns-clause-may : goal.returns-clause-may
returns-clause-may c = may_exit_as

pub returns-clause-alone : goal.returns-clause-alone
returns-clause-alone c = λ w r code shapes context_len context n is none h.
    exits_as code shapes context n none (may_exit_as w r code shapes context_len context n is h)
