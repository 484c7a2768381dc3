use Rattle.std.proofs.Common.{◌++◌, [], ◌∷◌, Err, ap, sym, ◌∙◌, append_assoc}
use Rattle.std.proofs.lemmas.Result.{on_ok_weaker, MatchResult-weaker}
use Rattle.script_stream.proofs.ProgressLemmas.{fails, next_of_piece, fails_writing, IsAt-line, IsAt-sent}
use Rattle.script_stream.proofs.progress.Progress.take_line.Goals as goal

pub returns-in-Err-clause-err : goal.returns-in-Err-clause-err
returns-in-Err-clause-err g c = λ first read written clear at.
    let told = c.fail.ensures in
    let old = c.args.self.now in
    let piece = c.args.piece.now in
    let failed = c.in-Err.ensures in (
      told.0,
      told.3,
      λ after. fails g.A.Respond.answers g.A.Respond.is_bad first read written old c.args.responder.now (piece ++ 10 ∷ after) told.0 told.1 c.in-Err.fault _ at
          (sym failed.err ∙ told.2) told.4
          (λ line is. let b = failed.bad line (ap Err is) in
          next_of_piece g.A.Respond.answers g.A.Respond.is_bad first read written old c.args.responder.now piece after line at clear b.1 b.0),
    )

pub returns-clause-ok : goal.returns-clause-ok
returns-clause-ok g c = λ first read written clear at.
    let e = c.in_default.ensures in
    let piece = c.args.piece.now in
    let mid = IsAt-line g.A.Respond.answers first read written c.args.self.now c.end_line.new.self
    c.args.responder.now c.end_line.new.responder piece e.ok.0 at clear e.ok.1 e.rest e.ok.2 e.answered in
    on_ok_weaker c.send_many.result
    (λ s. (
      s.0,
      s.2,
      IsAt-sent g.A.Respond.answers first (read ++ (piece ++ 10 ∷ [])) written c.end_line.new.self
          c.send_many.new.self c.end_line.new.responder s.0 mid c.send_many.ensures.rest s.1
          c.send_many.ensures.answered,
    ))
    c.send_many.ensures.ok

pub returns-clause-err : goal.returns-clause-err
returns-clause-err g c = λ first read written clear at.
    let e = c.in_default.ensures in
    let piece = c.args.piece.now in
    let mid = IsAt-line g.A.Respond.answers first read written c.args.self.now c.end_line.new.self
    c.args.responder.now c.end_line.new.responder piece e.ok.0 at clear e.ok.1 e.rest e.ok.2 e.answered in
    MatchResult-weaker c.send_many.result c.send_many.ensures.err (λ x h. h)
    (λ told s. (
      s.1.0,
      s.1.3,
      λ after. fails_writing g.A.Respond.answers g.A.Respond.is_bad first (read ++ (piece ++ 10 ∷ [])) after
          (read ++ (piece ++ 10 ∷ after)) written c.end_line.new.self c.end_line.new.responder s.1.0 s.1.1 told mid
          (append_assoc read (piece ++ 10 ∷ []) after ∙ ap (λ r. read ++ r) (append_assoc piece (10 ∷ []) after)) s.1.2 s.0,
    ))
