-- Answers in few bytes.
use Rattle.std.specs.Prelude.{None}
use Rattle.bpf_model.specs.declared.event.Answer.{Answer}
use Rattle.bpf_model.specs.declared.event.Answer.TheVariants as answers
use Rattle.world.specs.declared.kept.brief.Brief.{Brief}
use Rattle.world.specs.declared.kept.brief.Brief.TheVariants as brief

-- The answer that a brief one stands for.
abbrev pub brief_answer : Brief → Answer
brief_answer (brief.Started run) = answers.Started run
brief_answer brief.Moved = answers.Moved
brief_answer (brief.Exited n) = answers.Exited n
brief_answer (brief.Ret outcome) = answers.Ret outcome
brief_answer brief.Absent = answers.Found None
brief_answer brief.Done = answers.Done
brief_answer brief.NothingReady = answers.Reaped None
brief_answer (brief.Refused refusal) = answers.Refused refusal
