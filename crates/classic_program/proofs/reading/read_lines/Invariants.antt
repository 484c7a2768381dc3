use Rattle.classic_program.proofs.Prelude.{parts_left}
use Rattle.classic_program.proofs.Lines.{IsReadingLines}
use Rattle.classic_program.proofs.reading.read_lines.Given as goal

abbrev pub invariant-loop : goal.invariant-loop
invariant-loop l = IsReadingLines (parts_left 10 l.fn.lines) (parts_left 10 l.rest) l.filters.items l.counter
