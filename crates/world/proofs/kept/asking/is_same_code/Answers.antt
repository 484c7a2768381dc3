use Rattle.bpf_model.proofs.Prelude.{slice_eq-Decides}
use Rattle.world.proofs.Same.{insns-decides}
use Rattle.world.proofs.kept.asking.is_same_code.Goals as goal

pub returns-then-a-b : goal.returns-then-a-b
returns-then-a-b c = slice_eq-Decides insns-decides c.args.a.now c.args.b.now c.eq.result c.eq.ensures
