use Rattle.plan_laws.proofs.Prelude.{IsVerified}
use Rattle.world.proofs.Prelude.{program_of}
use Rattle.world_laws.proofs.Prelude.{IsRealProgram}
use Rattle.world.specs.declared.kept.loaded.Loaded.{Loaded}
use Rattle.world.proofs.Shapes.{each-more, each-all}
use Rattle.world.proofs.binding.certify_programs.Goals as goal

abbrev IsChecked : Loaded → Type 0
IsChecked x = IsVerified x.verified.program x.verified.shapes x.verified.ctx_len

abbrev IsReal : Loaded → Type 0
IsReal x = IsRealProgram (program_of x)

pub loop-program-preserved : goal.loop-program-preserved
loop-program-preserved c = record {
  verified = each-more IsChecked c.args.loaded.now c.loop-program.program-index c.program-item.result
      c.program-item.is c.certify.ensures.verified c.loop-program.invariant.verified;
  real = each-more IsReal c.args.loaded.now c.loop-program.program-index c.program-item.result c.program-item.is
      c.certify.ensures.real c.loop-program.invariant.real;
}

pub returns-clause-verified : goal.returns-clause-verified
returns-clause-verified c = each-all IsChecked c.args.loaded.now c.loop-program.program-index c.loop-program-test.false c.loop-program.invariant.verified

pub returns-clause-real : goal.returns-clause-real
returns-clause-real c = each-all IsReal c.args.loaded.now c.loop-program.program-index c.loop-program-test.false c.loop-program.invariant.real
