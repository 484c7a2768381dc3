use Rattle.std.proofs.Common.{◌≡◌, ◌<◌, ◌++◌, [], length, sym, subst, append-nil, arith}
use Rattle.std.proofs.lemmas.Grind.{common_steps}
use Rattle.std.proofs.lemmas.Result.{on_ok_weaker}
use Rattle.script_stream.specs.Lines.{lines_of}
use Rattle.script_stream.specs.Answered.{Answered}
use Rattle.script_stream.proofs.ProgressLemmas.{ends_whole, ends_open}
use Rattle.script_stream.proofs.progress.Progress.end_open.Goals as goal

pub returns-then-is_empty-clause-ok : goal.returns-then-is_empty-clause-ok
returns-then-is_empty-clause-ok g c = λ first read written at.
    let none : c.args.self.now.rest.items ≡ [] = grind (arith, common_steps) in
    ends_whole g.A.Respond.answers first read written c.args.self.now c.args.responder.now at none

pub returns-clause-ok : goal.returns-clause-ok
returns-clause-ok g c = λ first read written at.
    let some : 0 < length c.args.self.now.rest.items = grind (arith, common_steps) in
    on_ok_weaker c.end_line.result
    (λ s.
    subst (λ t. Answered g.A.Respond.answers first (lines_of read) (written ++ t) c.end_line.new.responder) (sym s.2)
    (ends_open g.A.Respond.answers first read written c.args.self.now c.args.responder.now c.end_line.new.responder s.0 at some
    (subst (λ l. g.A.Respond.answers c.args.responder.now l s.0 c.end_line.new.responder) (append-nil c.args.self.now.rest.items) s.1)))
    c.end_line.ensures.ok
