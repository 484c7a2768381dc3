use Rattle.shared_books.proofs.Sharing.{steps_push, own_push, others_push}
use Rattle.shared_books.proofs.law.counts_push.Goals as goal

pub returns-clause-steps : goal.returns-clause-steps
returns-clause-steps c = steps_push

pub returns-clause-own : goal.returns-clause-own
returns-clause-own c = own_push

pub returns-clause-others : goal.returns-clause-others
returns-clause-others c = others_push
