use Rattle.std.proofs.Common.{◌++◌, [], refl, arith, inl, inr}
use Rattle.std.proofs.lemmas.Bool.{MatchBool-at_true, MatchBool-at_false}
use Rattle.std.proofs.KnownBytes.{Appends-trans, Consumes-trans, Consumes-nil, Appends-nil}
use Rattle.std.specs.List.{length_refill}  -- `with_items` keeps the length
use Rattle.std.proofs.lemmas.Result.{err_from_is_err_and}
use Rattle.script_stream.proofs.ProgressLemmas.{fails_reading, IsAt-start, not_read_bad}
use Rattle.script_stream.proofs.stream.serve.Goals as goal

pub returns-in_err-chunk-clause-failed : goal.returns-in_err-chunk-clause-failed
returns-in_err-chunk-clause-failed g c =
    let p = err_from_is_err_and c.from_residual.result c.from_residual.ensures.1 in
    let start = IsAt-start g.A.Respond.answers c.args.responder.now c.new-progress.result c.new-progress.ensures.rest
    c.new-progress.ensures.out c.new-progress.ensures.answered in
    rw (p.1, p.2) (
      [],
      [],
      Consumes-nil _,
      Appends-nil _,
      inr (λ rest. fails_reading g.A.Respond.answers g.A.Respond.is_bad c.args.responder.now [] rest []
          c.new-progress.result c.args.responder.now _ start (not_read_bad _ (inr refl))),
    )

pub loop-init : goal.loop-init
loop-init g c =
    let start = IsAt-start g.A.Respond.answers c.args.responder.now c.new-progress.result c.new-progress.ensures.rest
    c.new-progress.ensures.out c.new-progress.ensures.answered in
    ([], [], Consumes-nil _, Appends-nil _, start, omega (arith, c.in_ok-chunk.ensures.len, c.in_ok-chunk.chunk.ok.0))

pub returns-in_err-goes_on-clause-failed : goal.returns-in_err-goes_on-clause-failed
returns-in_err-goes_on-clause-failed g c =
    let p = err_from_is_err_and c.from_residual-in_err-goes_on.result c.from_residual-in_err-goes_on.ensures.1 in
    let inv = c.loop.invariant in
    let e = c.in_err-goes_on.ensures.err c.args.responder.now inv.0 inv.1 inv.4 in
    rw (p.1, p.2) (inv.0 ++ e.0, inv.1 ++ e.1, Consumes-trans _ _ _ inv.0 e.0 inv.2 e.2, Appends-trans _ _ _ inv.1 e.1 inv.3 e.3, e.4)

pub returns-then-not-goes_on-clause-text : goal.returns-then-not-goes_on-clause-text
returns-then-not-goes_on-clause-text g c =
    let inv = c.loop.invariant in
    let o = c.in_ok-goes_on.ensures.ok c.args.responder.now inv.0 inv.1 inv.4 in
    let last = MatchBool-at_false _ _ c.if-not-goes_on.true o.4 in
    (inv.0 ++ o.0, inv.1 ++ o.1, Consumes-trans _ _ _ inv.0 o.0 inv.2 o.2, last.0, Appends-trans _ _ _ inv.1 o.1 inv.3 o.3, last.1)

pub loop-preserved : goal.loop-preserved
loop-preserved g c =
    let inv = c.loop.invariant in
    let o = c.in_ok-goes_on.ensures.ok c.args.responder.now inv.0 inv.1 inv.4 in (
      inv.0 ++ o.0,
      inv.1 ++ o.1,
      Consumes-trans _ _ _ inv.0 o.0 inv.2 o.2,
      Appends-trans _ _ _ inv.1 o.1 inv.3 o.3,
      MatchBool-at_true _ _ c.if-not-goes_on.false o.4,
      omega (arith, length_refill c.loop.chunk.len c.loop.chunk.items c.serve_some.new.chunk (omega (arith, c.loop.chunk.ok.0))),
    )

pub returns-clause-failed : goal.returns-clause-failed
returns-clause-failed g c =
    let inv = c.loop.invariant in (
      inv.0,
      inv.1,
      inv.2,
      inv.3,
      inr (λ rest. fails_reading g.A.Respond.answers g.A.Respond.is_bad c.args.responder.now inv.0 rest inv.1
          c.loop.progress c.loop.responder _ inv.4 (not_read_bad _ (inl refl))),
    )
