use Rattle.bpf_model.proofs.Prelude.{◌∙◌, [], ◌∷◌, ◌++◌, ap, refl, slice_get, None, WorldView}
use Rattle.world.proofs.Prelude.{stat_of}
use Rattle.bpf_model.specs.EventNumbers.{event_refusal_number}
use Rattle.script_lines.specs.declared.reply.Reply.TheVariants as replies
use Rattle.script_lines.specs.declared.reply.Reply.TheVariants.{End}
use Rattle.control.specs.declared.asked.Asked.TheVariants as asked
use Rattle.control.specs.AnswerReplies.{refused, reply_to}
use Rattle.control.specs.declared.refusal.LineRefusal.TheVariants as refusals
use Rattle.control.specs.Refusals.{refusal_reply}
use Rattle.control.specs.Replies.{overlong_refusal, too_late_number}
use Rattle.control.proofs.Elements.{elements_told}
use Rattle.control.proofs.Happenings.{nothing, one_event, steps_happen, names_stay}
use Rattle.control.proofs.Replied.{replied, replied_once}
use Rattle.control.proofs.live.Live.answer_asked.Goals as goal

pub returns-in-TooLate-clause-ok : goal.returns-in-TooLate-clause-ok
returns-in-TooLate-clause-ok c =
    replied_once c.args.self.now c.args.asked asked.TooLate [] (refusal_reply refusals.TooLate) (refused too_late_number)
    c.args.self.now.world _ _ c.write_refusal.result c.in-TooLate.is (nothing c.args.self.now.world c.is_world.ensures) refl
    (refl, refl, refl) c.write_refusal.ensures.ok

pub returns-in-Refused-clause-ok : goal.returns-in-Refused-clause-ok
returns-in-Refused-clause-ok c =
    replied_once c.args.self.now c.args.asked (asked.Refused c.in-Refused.refusal) []
    (refusal_reply (refusals.Event c.in-Refused.refusal)) (refused (event_refusal_number c.in-Refused.refusal))
    c.args.self.now.world _ _ c.write_refusal-in-Refused.result c.in-Refused.is
    (nothing c.args.self.now.world c.is_world.ensures) refl (refl, refl, refl) c.write_refusal-in-Refused.ensures.ok

pub returns-in-Event-clause-ok : goal.returns-in-Event-clause-ok
returns-in-Event-clause-ok c =
    let reply = reply_to c.args.self.now.world.names c.apply_into.new.answer in
    let told = reply_to c.registry.result.now.names c.apply_into.new.answer in
    let stay = c.registry.ensures.names ∙ ap (λ (w : WorldView). w.names) c.apply_into.ensures.new ∙ names_stay c.args.self.now.world (c.in-Event.event ∷ []) in
    replied_once c.args.self.now c.args.asked (asked.Event c.in-Event.event) (c.in-Event.event ∷ []) told reply
    c.apply_into.new.self _ _ c.write_answer.result c.in-Event.is
    (one_event c.args.self.now.world c.in-Event.event c.apply_into.new.self c.is_world.ensures c.is_real.ensures
    c.apply_into.ensures.new) (ap (λ names. reply_to names c.apply_into.new.answer) stay) (
      refl,
      ap (λ a. reply_to c.args.self.now.world.names a ∷ []) c.apply_into.ensures.answer,
      c.apply_into.ensures.new,
    ) c.write_answer.ensures.ok

pub returns-in-Overlong-clause-ok : goal.returns-in-Overlong-clause-ok
returns-in-Overlong-clause-ok c =
    let told = refused (event_refusal_number (overlong_refusal (slice_get c.args.self.now.world.programs c.in-Overlong.prog))) in
    replied_once c.args.self.now c.args.asked (asked.Overlong c.in-Overlong.prog) []
    (refusal_reply (refusals.Event c.refusal_of_overlong-refusal.result)) told
    c.args.self.now.world _ _ c.write_refusal-in-Overlong.result c.in-Overlong.is
    (nothing c.args.self.now.world c.is_world.ensures)
    (ap (λ r. refused (event_refusal_number r)) c.refusal_of_overlong-refusal.ensures)
    (refl, refl, refl) c.write_refusal-in-Overlong.ensures.ok

pub returns-in-Steps-clause-ok : goal.returns-in-Steps-clause-ok
returns-in-Steps-clause-ok c =
    let reply = reply_to c.args.self.now.world.names c.make_steps.new.answer in
    let told = reply_to c.registry-in-Steps.result.now.names c.make_steps.new.answer in
    let stay = c.registry-in-Steps.ensures.names ∙ ap (λ (w : WorldView). w.names) c.make_steps.ensures.1.new_is ∙
    names_stay c.args.self.now.world c.make_steps.ensures.0 in
    replied_once c.args.self.now c.args.asked (asked.Steps c.in-Steps.run' c.in-Steps.count) c.make_steps.ensures.0
    told reply c.make_steps.new.world _ _ c.write_answer-in-Steps.result c.in-Steps.is
    (steps_happen c.args.self.now.world c.in-Steps.run' c.in-Steps.count c.make_steps.ensures.0
    c.make_steps.new.answer c.make_steps.new.world c.is_world.ensures c.is_real-in-Steps.ensures
    c.make_steps.ensures.1) (ap (λ names. reply_to names c.make_steps.new.answer) stay)
    (c.make_steps.new.answer, c.make_steps.ensures.1, refl) c.write_answer-in-Steps.ensures.ok

pub returns-in-Counts-clause-ok : goal.returns-in-Counts-clause-ok
returns-in-Counts-clause-ok c =
    replied_once c.args.self.now c.args.asked asked.Counts [] (replies.Stat c.stat.result)
    (replies.Stat (stat_of c.args.self.now.world)) c.args.self.now.world _ _ c.write_other.result
    c.in-Counts.is (nothing c.args.self.now.world c.is_world.ensures) (ap replies.Stat c.stat.ensures)
    (refl, refl, refl) c.write_other.ensures.ok

pub returns-in_ok-write_elements-in-Elements-clause-ok : goal.returns-in_ok-write_elements-in-Elements-clause-ok
returns-in_ok-write_elements-in-Elements-clause-ok c =
    let e = c.in_ok-write_elements-in-Elements.ensures.ok in
    replied c.args.self.now c.args.asked (asked.Elements c.in-Elements.map) [] (e.0 ++ End ∷ [])
    c.args.self.now.world c.args.out.now.items c.write_elements.new.out.items None c.in-Elements.is
    (nothing c.args.self.now.world c.is_world.ensures) (e.0, e.1, refl, refl, refl)
    (elements_told (slice_get c.args.self.now.world.maps c.in-Elements.map) None e.0 e.1) e.2
