use Rattle.bpf_model.proofs.Prelude.{◌*◌, ◌%◌, ◌^◌, subst}
use Rattle.scalar_domain.proofs.Prelude.{Within}
use Rattle.std.proofs.lemmas.Nat.{one_shl}
use Rattle.scalar_domain.proofs.Shifts.{low_ordered, low_between, low_within}
use Rattle.scalar_domain.proofs.scalar.Scalar.low_bits.Goals as goal

pub new-requires-clause-ordered : goal.new-requires-clause-ordered
new-requires-clause-ordered c =
    let s = c.args.self in
    low_ordered s.least s.greatest c.args.count _ (one_shl c.args.count 64 c.requires) s.ordered c.if-self-modulus.true

pub new-requires-clause-consistent : goal.new-requires-clause-consistent
new-requires-clause-consistent c = low_within c.args.self.must c.args.self.may c.args.count _ (one_shl c.args.count 64 c.requires) c.args.self.consistent

pub from_bits-requires : goal.from_bits-requires
from_bits-requires c = low_within c.args.self.must c.args.self.may c.args.count _ (one_shl c.args.count 64 c.requires) c.args.self.consistent

pub returns-then-self-modulus-clause-sound : goal.returns-then-self-modulus-clause-sound
returns-then-self-modulus-clause-sound c = λ x h.
    let s = c.args.self in
    let e = one_shl c.args.count 64 c.requires in
    let b = low_between s.least x s.greatest c.args.count _ e c.if-self-modulus.true h.least h.greatest in
    c.new.ensures.sound _ b.0 b.1
    (subst (λ n. Within (x % n) (s.may % (1 * 2 ^ c.args.count % 2 ^ 64))) e (low_within x s.may c.args.count _ e h.zeros))
    (subst (λ n. Within (s.must % (1 * 2 ^ c.args.count % 2 ^ 64)) (x % n)) e (low_within s.must x c.args.count _ e h.ones))

pub returns-else-self-modulus-clause-sound : goal.returns-else-self-modulus-clause-sound
returns-else-self-modulus-clause-sound c = λ x h.
    let s = c.args.self in
    let e = one_shl c.args.count 64 c.requires in
    c.from_bits.ensures.sound _
    (subst (λ n. Within (x % n) (s.may % (1 * 2 ^ c.args.count % 2 ^ 64))) e (low_within x s.may c.args.count _ e h.zeros))
    (subst (λ n. Within (s.must % (1 * 2 ^ c.args.count % 2 ^ 64)) (x % n)) e (low_within s.must x c.args.count _ e h.ones))
