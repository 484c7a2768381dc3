use Rattle.bpf_model.proofs.Prelude.{ap, sym, ◌∙◌, ◌^◌, arith, ◌%◌}
use Rattle.scalar_domain.proofs.Carries.{not_within, not_low}
use Rattle.scalar_domain.proofs.scalar.Scalar.complement.Goals as goal

pub new-requires-clause-consistent : goal.new-requires-clause-consistent
new-requires-clause-consistent c = not_within c.args.self.must c.args.self.may (omega arith) (omega arith) c.args.self.consistent

pub returns-clause-sound : goal.returns-clause-sound
returns-clause-sound c = λ x p h. c.new.ensures.sound _ (omega (arith, h.greatest)) (omega (arith, h.least))
    (not_within c.args.self.must x (omega arith) p h.ones) (not_within x c.args.self.may p (omega arith) h.zeros)

pub returns-clause-low : goal.returns-clause-low
returns-clause-low c = λ t l e.
    let s = c.args.self in
    ap (λ n. n % 2 ^ t) c.new.ensures.zeros ∙ not_low s.must s.may t (omega arith) (omega arith) l e ∙ sym (ap (λ n. n % 2 ^ t) c.new.ensures.ones)
