use Rattle.bpf_model.proofs.Prelude.{length}
use Rattle.program_files.specs.Stages.{words_left}
use Rattle.program_files.proofs.Slots.{HasSlots}
use Rattle.program_files.proofs.loader.line.add_slots.Given as goal

abbrev pub invariant-loop-word : goal.invariant-loop-word
invariant-loop-word l = HasSlots l.line (words_left l.words.rest) l.initial.code.items l.code.items

abbrev pub decreases-loop-word : goal.decreases-loop-word
decreases-loop-word l = length (words_left l.words.rest)
