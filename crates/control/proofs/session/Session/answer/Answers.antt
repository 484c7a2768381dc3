use Rattle.bpf_model.proofs.Prelude.{◌≡◌, List, ◌++◌, refl, subst, sym, IfOk, Ok, Err, flat_map}
use Rattle.model_laws.proofs.Prelude.{Event}
use Rattle.script_lines.specs.ReplyText.{reply_text}
use Rattle.script_lines.specs.declared.reply.Reply.{Reply}
use Rattle.control.specs.Lives.{LiveReplies}
use Rattle.control.specs.Refusals.{AreTold}
use Rattle.control.specs.Sessions.{SessionReplies}
use Rattle.control.specs.declared.session.Session.{Session}
use Rattle.control.specs.declared.session.Session.TheVariants as sessions
use Rattle.control.proofs.session.Session.answer.Goals as goal

pub returns-in-Live-clause-ok : goal.returns-in-Live-clause-ok
returns-in-Live-clause-ok c = elim (c.answer.result) as (λ r. IfOk r (λ refusal.
    (replies : List Reply) × LiveReplies c.in-Live.live c.args.command replies c.answer.new.self ×
    AreTold refusal replies × (c.answer.new.out.items ≡ c.args.out.now.items ++ flat_map reply_text replies)) →
    IfOk r (λ refusal. (events : List Event) × (replies : List Reply) ×
    SessionReplies c.args.self.now c.args.command events replies (sessions.Live c.answer.new.self) ×
    AreTold refusal replies × (c.answer.new.out.items ≡ c.args.out.now.items ++ flat_map reply_text replies))) [
      | Ok refusal ↦ λ e. (
        e.1.served.events,
        e.0,
        subst (λ (s : Session).
            SessionReplies s c.args.command e.1.served.events e.0 (sessions.Live c.answer.new.self)) (sym c.in-Live.is)
            (c.answer.new.self, e.1, refl, refl),
        e.2,
        e.3,
      )
      | Err u ↦ λ e. tt
    ] c.answer.ensures.ok
