use Rattle.classic_program.proofs.Decodes.{IsDecoding}
use Rattle.classic_program.proofs.decoding.decode.Given as goal

abbrev pub invariant-loop-index : goal.invariant-loop-index
invariant-loop-index l =
    IsDecoding l.filter l.program.items l.index
