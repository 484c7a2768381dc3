use Rattle.std.proofs.Common.{arith}
use Rattle.job_queue.proofs.Serving.{line_here, line_set}
use Rattle.job_queue.proofs.sheet.Sheet.put.Goals as goal

pub returns-in-Some-clause-stays : goal.returns-in-Some-clause-stays
returns-in-Some-clause-stays g c k has = line_set c.args.self.now.lines.items c.args.one.number k c.args.one.served has

pub returns-in-Some-clause-put : goal.returns-in-Some-clause-put
returns-in-Some-clause-put g c low =
    let long = c.args.self.now.lines.ok.0 in
    line_here c.args.self.now.lines.items c.args.one.number c.args.one.served (omega (arith, low, long))
