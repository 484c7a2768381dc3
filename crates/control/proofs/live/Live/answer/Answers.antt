use Rattle.bpf_model.proofs.Prelude.{◌≡◌, List, ◌++◌, subst, IfOk, Ok, Err, flat_map}
use Rattle.script_lines.specs.declared.reply.Reply.{Reply}
use Rattle.script_lines.specs.ReplyText.{reply_text}
use Rattle.control.specs.Questions.{IsAsked}
use Rattle.control.specs.Lives.{IsReplied, LiveReplies}
use Rattle.control.specs.Refusals.{AreTold}
use Rattle.control.proofs.live.Live.answer.Goals as goal

pub returns-clause-ok : goal.returns-clause-ok
returns-clause-ok c = elim (c.answer_asked.result) as (λ r. IfOk r (λ refusal.
    IsReplied c.args.self.now c.ask-asked.result c.args.out.now.items refusal c.answer_asked.new.out.items
    c.answer_asked.new.self) → IfOk r (λ refusal. (replies : List Reply) ×
    LiveReplies c.args.self.now c.args.command replies c.answer_asked.new.self × AreTold refusal replies ×
    (c.answer_asked.new.out.items ≡ c.args.out.now.items ++ flat_map reply_text replies))) [
      | Ok refusal ↦ λ e. (
        e.replies,
        record {
          asked = c.ask-asked.result;
          is_asked =
              subst (λ names. IsAsked names c.args.command c.ask-asked.result) c.registry.ensures.names c.ask-asked.ensures;
          served = e.served;
        },
        e.told,
        e.text,
      )
      | Err u ↦ λ e. tt
    ] c.answer_asked.ensures.ok
