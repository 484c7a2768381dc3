use Rattle.world_laws.proofs.Reaching.{helper_arguments, kernel_call_allowed}
use Rattle.world_laws.proofs.calls_are_allowed.Goals as goal

pub returns-clause-helper : goal.returns-clause-helper
returns-clause-helper c = helper_arguments

pub returns-clause-kernel : goal.returns-clause-kernel
returns-clause-kernel c = kernel_call_allowed
