-- What a script's end says of an input whose bytes are known.
use Rattle.bpf_model.proofs.Prelude.{◌≡◌, ℕ, List, inl, inr, sym, subst, Option, Some, None, IfSome, Appends, Consumes}
use Rattle.std.specs.Io.KnownBytes.{IsAtEnd}
use Rattle.std.proofs.KnownBytes.{Consumes-whole}
use Rattle.control.specs.Histories.{History, Continues, new_history}
use Rattle.control.specs.Sessions.{IsNoCommand}
use Rattle.script_stream.specs.Answered.{Answered, FailsWith, IsSoOfInput}
use Rattle.script_stream.specs.Lines.{lines_of}
use Rattle.script_stream.proofs.Inputs.{so_of_input}
use Rattle.script_stream.specs.declared.fault.ScriptFault.{ScriptFault}
use Rattle.script_stream.specs.declared.fault.ScriptFault.TheVariants.{BadCommand}
use Rattle.commands.specs.Scripts.{AnswersAll, AnswersBefore}

of_whole : (before after : Option (List ℕ)) (read : List ℕ) (P : List ℕ → Type 0) → Consumes before after read → IsSoOfInput after read P → IfSome before P
of_whole before after read P h (inl ended) = Consumes-whole before after read P h ended.0 ended.1
of_whole None after read P h (inr f) = record {}
of_whole (Some bytes) None read P h (inr f) = absurd h
of_whole (Some bytes) (Some rest) read P h (inr f) = subst P (sym h) (f rest)

pub all_answered : (before after old new : Option (List ℕ)) →
    ((input text : List ℕ) × (last : History) × Consumes before after input × IsAtEnd after × Appends old new text ×
    Answered Continues new_history (lines_of input) text last) → IfSome before (AnswersAll old new)
all_answered before after old new (input, text, last, consumed, ended, written, answered) =
    Consumes-whole before after input (AnswersAll old new) consumed ended (record { text = text; last = last; answered = answered; written = written })

pub stopped_before : (before after old new : Option (List ℕ)) (why : ScriptFault) →
    ((line : ℕ) × (why ≡ BadCommand line)) → ((read text : List ℕ) × Consumes before after read × Appends old new text
    × IsSoOfInput after read (λ input. FailsWith Continues IsNoCommand new_history input text why)) →
    IfSome before (AnswersBefore old new)
stopped_before before after old new why (line, is) (read, text, consumed, written, fails) =
    let told : (input : List ℕ) → FailsWith Continues IsNoCommand new_history input text why →
    AnswersBefore old new input = λ input f. record {
      line = line;
      text = text;
      answered = f.before line is;
      written = written;
    } in
    of_whole before after read (AnswersBefore old new) consumed (so_of_input after read _ _ told fails)
