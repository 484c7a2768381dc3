use Rattle.bpf_model.proofs.Prelude.{shr_mono}
use Rattle.scalar_domain.proofs.Bits.{within-shr}
use Rattle.scalar_domain.proofs.scalar.Scalar.shift_right.Goals as goal

pub new-requires-clause-ordered : goal.new-requires-clause-ordered
new-requires-clause-ordered c = shr_mono c.args.by c.args.self.ordered

pub new-requires-clause-consistent : goal.new-requires-clause-consistent
new-requires-clause-consistent c = within-shr c.args.self.must c.args.self.may c.args.by c.args.self.consistent

pub returns-clause-sound : goal.returns-clause-sound
returns-clause-sound c = λ x h. c.new.ensures.sound _ (shr_mono _ h.least) (shr_mono _ h.greatest) (within-shr x _ _ h.zeros) (within-shr _ x _ h.ones)
