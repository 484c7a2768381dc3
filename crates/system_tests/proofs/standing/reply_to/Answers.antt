use Rattle.bpf_model.proofs.Prelude.{sym, subst, IfSome}
use Rattle.machine.proofs.Prelude.{Awaits, MayGive}
use Rattle.system_tests.proofs.standing.reply_to.Goals as goal

pub call_word-requires-clause-waits : goal.call_word-requires-clause-waits
call_word-requires-clause-waits c = subst (λ q. Awaits c.args.verified.now q c.args.run.now) c.in-Call.is c.requires.waits

pub returns-in-Call : goal.returns-in-Call
returns-in-Call c =
    subst (λ q. IfSome c.call_word.result (λ word. MayGive c.args.verified.now c.args.run.now.view q word)) (sym c.in-Call.is) c.call_word.ensures
