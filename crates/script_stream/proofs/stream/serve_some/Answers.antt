use Rattle.std.proofs.Common.{◌≡◌, ◌++◌, [], take, refl, ap, sym, subst, ◌∙◌, inl, inr, append_assoc, append-nil}
use Rattle.std.proofs.KnownBytes.{Appends-trans, Consumes-kept, Consumes-nil, Appends-nil}
use Rattle.std.proofs.lemmas.Result.{err_from_is_err_and}
use Rattle.script_stream.specs.Lines.{lines_of}
use Rattle.script_stream.specs.Answered.{Answered}
use Rattle.script_stream.proofs.ProgressLemmas.{fails_reading, fails_writing, IsAt-sent, IsAt-at, FailsWith-at, not_read_bad}
use Rattle.script_stream.proofs.stream.serve_some.Goals as goal

pub returns-in_err-count-clause-err : goal.returns-in_err-count-clause-err
returns-in_err-count-clause-err g c = λ first input written at.
    let p = err_from_is_err_and c.from_residual.result c.from_residual.ensures.1 in
    let e = c.in_err-count.ensures in
    rw (p.1, p.2) (
      [],
      [],
      Consumes-kept _ _ _ [] (Consumes-nil _) e.err,
      Appends-nil _,
      inr (λ rest.
          FailsWith-at g.A.Respond.answers g.A.Respond.is_bad first (input ++ rest) ((input ++ []) ++ rest) written (written ++ []) _
          (ap (λ r. r ++ rest) (sym (append-nil input))) (sym (append-nil written))
          (fails_reading g.A.Respond.answers g.A.Respond.is_bad first input rest written c.args.progress.now
          c.args.responder.now _ at (not_read_bad _ e.fault))),
    )

pub returns-in_err-finish-clause-err : goal.returns-in_err-finish-clause-err
returns-in_err-finish-clause-err g c = λ first input written at.
    let p = err_from_is_err_and c.from_residual-in_err-finish.result c.from_residual-in_err-finish.ensures.1 in
    let took = take c.in_ok-count.count c.read_chunk.new.chunk in
    let same : input ++ took ≡ input = ap (λ k. input ++ take k c.read_chunk.new.chunk) c.if-count-eq0.true ∙ append-nil input in
    let e = c.in_err-finish.ensures.err first input written at in
    rw (p.1, p.2) (
      took,
      e.0,
      c.in_ok-count.ensures.ok,
      e.1,
      inl (
        c.in_ok-count.ensures.end c.if-count-eq0.true c.requires,
        FailsWith-at g.A.Respond.answers g.A.Respond.is_bad first input (input ++ took) (written ++ e.0) (written ++ e.0) _ (sym same) refl e.2,
      ),
    )

pub returns-then-count-eq0-clause-ok : goal.returns-then-count-eq0-clause-ok
returns-then-count-eq0-clause-ok g c = λ first input written at.
    let took = take c.in_ok-count.count c.read_chunk.new.chunk in
    let same : input ++ took ≡ input = ap (λ k. input ++ take k c.read_chunk.new.chunk) c.if-count-eq0.true ∙ append-nil input in
    let f = c.in_ok-finish.ensures.ok first input written at in (
      took,
      f.0,
      c.in_ok-count.ensures.ok,
      f.1,
      (
        c.in_ok-count.ensures.end c.if-count-eq0.true c.requires,
        subst (λ l. Answered g.A.Respond.answers first (lines_of l) (written ++ f.0) c.finish.new.responder) (sym same) f.2,
      ),
    )

pub returns-in_err-take-clause-err : goal.returns-in_err-take-clause-err
returns-in_err-take-clause-err g c = λ first input written at.
    let p = err_from_is_err_and c.from_residual-in_err-take.result c.from_residual-in_err-take.ensures.1 in
    let took = take c.in_ok-count.count c.read_chunk.new.chunk in
    let e = c.in_err-take.ensures.err first input written at in
    rw (p.1, p.2) (took, e.0, c.in_ok-count.ensures.ok, e.1, inr e.2)

pub returns-in_err-send-clause-err : goal.returns-in_err-send-clause-err
returns-in_err-send-clause-err g c = λ first input written at.
    let p = err_from_is_err_and c.from_residual-in_err-send.result c.from_residual-in_err-send.ensures.1 in
    let took = take c.in_ok-count.count c.read_chunk.new.chunk in
    let t = c.in_ok-take.ensures.ok first input written at in
    let s = c.in_err-send.ensures.err in
    rw (p.1, p.2) (
      took,
      t.0 ++ s.1.0,
      c.in_ok-count.ensures.ok,
      Appends-trans _ _ _ t.0 s.1.0 t.1 s.1.3,
      inr (λ rest.
          FailsWith-at g.A.Respond.answers g.A.Respond.is_bad first ((input ++ took) ++ rest)
          ((input ++ took) ++ rest) ((written ++ t.0) ++ s.1.0) (written ++ (t.0 ++ s.1.0)) _
          refl (append_assoc written t.0 s.1.0)
          (fails_writing g.A.Respond.answers g.A.Respond.is_bad first (input ++ took) rest ((input ++ took) ++ rest)
          (written ++ t.0) c.take.new.self c.take.new.responder s.1.0 s.1.1 _ t.2
          refl s.1.2 s.0)),
    )

pub returns-clause-ok : goal.returns-clause-ok
returns-clause-ok g c = λ first input written at.
    let took = take c.in_ok-count.count c.read_chunk.new.chunk in
    let t = c.in_ok-take.ensures.ok first input written at in
    let s = c.in_ok-send.ensures.ok in (
      took,
      t.0 ++ s.0,
      c.in_ok-count.ensures.ok,
      Appends-trans _ _ _ t.0 s.0 t.1 s.2,
      IsAt-at g.A.Respond.answers first (input ++ took) (input ++ took) ((written ++ t.0) ++ s.0) (written ++ (t.0 ++ s.0)) _ _
          refl (append_assoc written t.0 s.0)
          (IsAt-sent g.A.Respond.answers first (input ++ took) (written ++ t.0) c.take.new.self c.send.new.self
          c.take.new.responder s.0 t.2 c.send.ensures.rest s.1 c.send.ensures.answered),
    )
