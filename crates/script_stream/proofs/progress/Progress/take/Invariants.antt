use Rattle.std.proofs.Common.{◌≡◌, ℕ, List, ◌++◌, length}
use Rattle.std.specs.Io.KnownBytes.{Appends}
use Rattle.script_stream.specs.Progress.{IsProgressAt}
use Rattle.script_stream.proofs.progress.Progress.take.Given as goal

abbrev pub invariant-loop-piece : goal.invariant-loop-piece
invariant-loop-piece g l =
    (front : List ℕ) × (l.chunk ≡ front ++ l.unread)
    × ((first : g.row.A.Denot) (read written : List ℕ)
    → IsProgressAt g.A.Respond.answers first read written l.fn.self l.fn.responder
    → (more : List ℕ) × Appends (g.W.Write.contents l.fn.writer) (g.W.Write.contents l.writer) more
    × IsProgressAt g.A.Respond.answers first (read ++ front) (written ++ more) l.self l.responder)

abbrev pub decreases-loop-piece : goal.decreases-loop-piece
decreases-loop-piece g l = length l.unread
