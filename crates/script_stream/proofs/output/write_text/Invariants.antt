use Rattle.std.proofs.Common.{◌≡◌, ℕ, List, ◌++◌}
use Rattle.std.specs.Io.KnownBytes.{Appends}
use Rattle.script_stream.proofs.output.write_text.Given as goal

abbrev pub invariant-loop : goal.invariant-loop
invariant-loop g l =
    (front : List ℕ) × (l.text ≡ front ++ l.rest) × Appends (g.W.Write.contents l.fn.writer) (g.W.Write.contents l.writer) front
