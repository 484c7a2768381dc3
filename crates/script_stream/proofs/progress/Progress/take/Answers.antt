use Rattle.std.proofs.Common.{◌++◌, [], ◌∷◌, Err, refl, ap, sym, ◌∙◌, append_assoc}
use Rattle.std.proofs.KnownBytes.{Appends-trans}
use Rattle.std.proofs.lemmas.Result.{err_from_is_err_and}
use Rattle.script_stream.proofs.ProgressLemmas.{fails, next_too_long, read_on, IsAt-kept, IsAt-at, FailsWith-at}
use Rattle.script_stream.proofs.progress.Progress.take.Goals as goal

pub returns-in_err-take_line-clause-err : goal.returns-in_err-take_line-clause-err
returns-in_err-take_line-clause-err g c = λ first read written at.
    let p = err_from_is_err_and c.from_residual.result c.from_residual.ensures.1 in
    let inv = c.loop-piece.invariant in
    let so = inv.2 first read written at in
    let piece = c.in-Some.piece.now in
    let after = c.in-Some.after.now in
    let cut = c.in-Some.ensures.some in
    let e = c.in_err-take_line.ensures.err first (read ++ inv.0) (written ++ so.0) cut.0 so.2 in
    rw (p.1, p.2) (
      so.0 ++ e.0,
      Appends-trans _ _ _ so.0 e.0 so.1 e.1,
      λ rest.
          FailsWith-at g.A.Respond.answers g.A.Respond.is_bad first
          ((read ++ inv.0) ++ (piece ++ 10 ∷ (after ++ rest))) ((read ++ c.args.chunk.now) ++ rest)
          ((written ++ so.0) ++ e.0) (written ++ (so.0 ++ e.0)) _
          (read_on read inv.0 (piece ++ 10 ∷ after) c.args.chunk.now rest (inv.1 ∙ ap (λ r. inv.0 ++ r) cut.1)
          (piece ++ 10 ∷ (after ++ rest)) (sym (append_assoc piece (10 ∷ after) rest)))
          (append_assoc written so.0 e.0) (e.2 (after ++ rest)),
    )

pub loop-piece-preserved : goal.loop-piece-preserved
loop-piece-preserved g c =
    let inv = c.loop-piece.invariant in
    let piece = c.in-Some.piece.now in
    let after = c.in-Some.after.now in
    let cut = c.in-Some.ensures.some in (
      inv.0 ++ (piece ++ 10 ∷ []),
      inv.1 ∙ ap (λ r. inv.0 ++ r) cut.1
          ∙ sym (append_assoc inv.0 (piece ++ 10 ∷ []) after ∙ ap (λ r. inv.0 ++ r) (append_assoc piece (10 ∷ []) after)),
      λ first read written at.
          let so = inv.2 first read written at in
          let o = c.in_ok-take_line.ensures.ok first (read ++ inv.0) (written ++ so.0) cut.0 so.2 in (
            so.0 ++ o.0,
            Appends-trans _ _ _ so.0 o.0 so.1 o.1,
            IsAt-at g.A.Respond.answers first ((read ++ inv.0) ++ (piece ++ 10 ∷ []))
                (read ++ (inv.0 ++ (piece ++ 10 ∷ []))) ((written ++ so.0) ++ o.0) (written ++ (so.0 ++ o.0)) _ _
                (append_assoc read inv.0 (piece ++ 10 ∷ [])) (append_assoc written so.0 o.0) o.2,
          ),
    )

pub returns-in-Err-clause-err : goal.returns-in-Err-clause-err
returns-in-Err-clause-err g c = λ first read written at.
    let inv = c.loop-piece.invariant in
    let so = inv.2 first read written at in
    let told = c.fail.ensures in
    let failed = c.in-Err.ensures in
    let unread = c.loop-piece.unread.now in (
      so.0 ++ told.0,
      Appends-trans _ _ _ so.0 told.0 so.1 told.3,
      λ rest.
          FailsWith-at g.A.Respond.answers g.A.Respond.is_bad first ((read ++ inv.0) ++ (unread ++ rest))
          ((read ++ c.args.chunk.now) ++ rest) ((written ++ so.0) ++ told.0) (written ++ (so.0 ++ told.0)) _
          (read_on read inv.0 unread c.args.chunk.now rest inv.1 (unread ++ rest) refl)
          (append_assoc written so.0 told.0)
          (fails g.A.Respond.answers g.A.Respond.is_bad first (read ++ inv.0) (written ++ so.0) c.loop-piece.self
          c.loop-piece.responder (unread ++ rest) told.0 told.1 c.in-Err.fault _ so.2
          (sym failed.out ∙ told.2) told.4
          (λ line is. let b = failed.bad line (ap Err is) in
          next_too_long g.A.Respond.answers g.A.Respond.is_bad first (read ++ inv.0) (written ++ so.0)
          c.loop-piece.self c.loop-piece.responder unread rest line so.2 c.in_default.ensures.none b.1 b.0)),
    )

pub returns-clause-ok : goal.returns-clause-ok
returns-clause-ok g c = λ first read written at.
    let inv = c.loop-piece.invariant in
    let so = inv.2 first read written at in
    let unread = c.loop-piece.unread.now in
    let kept = c.in_default-keep.ensures in (
      so.0,
      so.1,
      IsAt-at g.A.Respond.answers first ((read ++ inv.0) ++ unread) (read ++ c.args.chunk.now) (written ++ so.0) (written ++ so.0) _ _
          (append_assoc read inv.0 unread ∙ ap (λ r. read ++ r) (sym inv.1)) (λ i. written ++ so.0)
          (IsAt-kept g.A.Respond.answers first (read ++ inv.0) (written ++ so.0) c.loop-piece.self c.keep.new.self
          c.loop-piece.responder unread so.2 c.in_default.ensures.none kept.ok kept.out kept.answered),
    )
