use Rattle.bpf_model.proofs.Prelude.{arith}
use Rattle.journal.proofs.Counting.{counted-moves}
use Rattle.journal.proofs.journal.Journal.push_moves.Goals as goal

pub invariant_of-self : goal.invariant_of-self
invariant_of-self c =
    counted-moves c.self.inside.rows.items c.push_reserved.new.self.items c.self.inside.bytes.items c.args.worker c.args.run
    c.args.count c.self.inside.total c.self.inside.limit c.self.invariant c.push_reserved.ensures.items c.requires.some (grind arith)
