use mir.Syntax.{w32}
use mir.Val.{to_z, of_z}
use Rattle.std.proofs.Common.{ℕ, List, subst, ap, ◌∙◌}
use Rattle.std.specs.Prelude.{ℤ}
use Rattle.bpf_model.specs.declared.event.Answer.TheVariants as answers
use Rattle.bpf_model.specs.declared.event.Event.TheVariants as events
use Rattle.host_handle.specs.Values.{world_in}
use Rattle.bpfrt_c.specs.Worlds.{IsAnswer}
use Rattle.bpfrt_c.proofs.Answered.{one_answer, small_error}
use Rattle.bpfrt_c.proofs.worlds.bpfrt0_world_start.Goals as goal

pub returns-in-Some-clause-refused : goal.returns-in-Some-clause-refused
returns-in-Some-clause-refused c = λ why short is.
    let held = world_in c.args.host.now.handle.held in
    let answer = c.in-Some.answer in
    let numbered = subst (λ (p : ℕ). IsAnswer (events.Start p c.array_of.result) held answer) c.new.ensures c.in-Some.ensures.answer in
    let asked = subst (λ (xs : List ℕ). IsAnswer (events.Start c.args.prog (record { items = xs })) held answer) c.array_of.ensures numbered in
    let same = one_answer (events.Start c.args.prog (record { items = c.args.context.now })) held answer (answers.Refused why) asked is in
    ap (λ (z : ℤ). to_z w32 (of_z w32 z)) (c.number_of_start.ensures.refused why same) ∙ small_error why
