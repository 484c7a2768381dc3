use Rattle.std.proofs.Common.{◌++◌, [], Err, ap, sym, subst, ◌∙◌, append-nil}
use Rattle.std.proofs.lemmas.Result.{MatchResult-weaker}
use Rattle.script_stream.specs.Lines.{lines_of}
use Rattle.script_stream.specs.Answered.{Answered, FailsWith}
use Rattle.script_stream.proofs.ProgressLemmas.{fails, next_at_end, fails_at_end, on_ok_both}
use Rattle.script_stream.proofs.progress.Progress.finish.Goals as goal

pub returns-in-Err-clause-err : goal.returns-in-Err-clause-err
returns-in-Err-clause-err g c = λ first read written at.
    let told = c.fail.ensures in
    let old = c.args.self.now in
    let failed = c.in-Err.ensures in (
      told.0,
      told.3,
      subst (λ r. FailsWith g.A.Respond.answers g.A.Respond.is_bad first r (written ++ told.0) c.fail.result) (append-nil read)
          (fails g.A.Respond.answers g.A.Respond.is_bad first read written old c.args.responder.now [] told.0 told.1 c.in-Err.fault _ at
          (sym failed.err ∙ told.2) told.4
          (λ line is. let b = failed.bad line (ap Err is) in
          next_at_end g.A.Respond.answers g.A.Respond.is_bad first read written old c.args.responder.now line at b.1 b.2 b.0)),
    )

pub returns-clause-ok : goal.returns-clause-ok
returns-clause-ok g c = λ first read written at.
    on_ok_both c.send.result
    (λ s none. (
      s.0,
      s.2,
      subst (λ t. Answered g.A.Respond.answers first (lines_of read) (written ++ t) c.end_open.new.responder)
          (s.1 ∙ ap (λ o. s.0 ++ o) none ∙ append-nil s.0) (c.in_default.ensures.ok first read written at),
    ))
    c.send.ensures.ok c.send.ensures.sent

pub returns-clause-err : goal.returns-clause-err
returns-clause-err g c = λ first read written at.
    MatchResult-weaker c.send.result c.send.ensures.err (λ x h. h)
    (λ told s. (
      s.1.0,
      s.1.3,
      fails_at_end g.A.Respond.answers g.A.Respond.is_bad first c.end_open.new.responder read written c.end_open.new.self.out.items s.1.0 s.1.1 told
          (c.in_default.ensures.ok first read written at) s.1.2 s.0,
    ))
