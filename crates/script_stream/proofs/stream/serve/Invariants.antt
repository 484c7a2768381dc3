use Rattle.std.proofs.Common.{ℕ, ◌<◌, List, length}
use Rattle.std.specs.Io.KnownBytes.{Appends, Consumes}
use Rattle.script_stream.specs.Progress.{IsProgressAt}
use Rattle.script_stream.proofs.stream.serve.Given as goal

abbrev pub invariant-loop : goal.invariant-loop
invariant-loop g l =
    (input written : List ℕ)
    × Consumes (g.R.Read.remaining l.fn.reader) (g.R.Read.remaining l.reader) input
    × Appends (g.W.Write.contents l.fn.writer) (g.W.Write.contents l.writer) written
    × IsProgressAt g.A.Respond.answers l.fn.responder input written l.progress l.responder
    × (0 < length l.chunk.items)
