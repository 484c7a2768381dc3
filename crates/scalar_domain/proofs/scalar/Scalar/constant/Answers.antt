use Rattle.scalar_domain.specs.Constant.{constant_is}
use Rattle.scalar_domain.proofs.scalar.Scalar.constant.Goals as goal

pub returns-clause-value : goal.returns-clause-value
returns-clause-value c = constant_is c.new.result c.args.n c.new.ensures.least c.new.ensures.greatest c.new.ensures.zeros c.new.ensures.ones
