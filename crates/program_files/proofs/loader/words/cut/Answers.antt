use Rattle.bpf_model.proofs.Prelude.{rules, subst}
use Rattle.std.proofs.Common.{take_all}
use Rattle.program_files.specs.Stages.{HasNoByte}
use Rattle.program_files.proofs.Cuts.{no_byte_more}
use Rattle.program_files.proofs.loader.words.cut.Goals as goal

pub loop-index-preserved : goal.loop-index-preserved
loop-index-preserved c = no_byte_more c.args.at c.args.bytes.now c.loop-index.index c.loop-index-test.true c.loop-index.invariant (search rules)

pub returns-clause-front : goal.returns-clause-front
returns-clause-front c = subst (HasNoByte c.args.at) (take_all c.loop-index.index c.args.bytes.now c.loop-index-test.false) c.loop-index.invariant
