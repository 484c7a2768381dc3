use Rattle.bpf_model.proofs.Prelude.{◌≡◌, ◌++◌, [], List, None, sym, subst, OnOk, option_copied, flat_map}
use Rattle.std.proofs.Common.{append-nil}
use Rattle.script_lines.specs.declared.reply.Reply.{Reply}
use Rattle.script_lines.specs.ReplyText.{reply_text}
use Rattle.control.specs.Replies.{AreElements}
use Rattle.control.proofs.dump.write_map.Goals as goal

pub returns-in-None-clause-ok : goal.returns-in-None-clause-ok
returns-in-None-clause-ok c = ([], subst (λ m. AreElements (option_copied m) None []) (sym c.in-None.is) tt, sym (append-nil _))

pub returns-in_ok-slots-in-Some-clause-ok : goal.returns-in_ok-slots-in-Some-clause-ok
returns-in_ok-slots-in-Some-clause-ok c = subst (λ m. OnOk c.write_slots.result ((elements : List Reply)
    × AreElements (option_copied m) None elements
    × (c.write_slots.new.out.items ≡ c.args.out.now.items ++ flat_map reply_text elements))) (sym c.in-Some.is) c.write_slots.ensures.ok
