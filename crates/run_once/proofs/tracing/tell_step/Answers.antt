use Rattle.bpf_model.proofs.Prelude.{rules, ◌≡◌, ◌∙◌, ◌++◌, Some, ap, refl, slice_get, subst, AnswersAsMachine, Tracks}
use Rattle.model_laws.proofs.Prelude.{Step, Insn}
use Rattle.std.proofs.lemmas.List.{append_assoc}
use Rattle.run_once.specs.Told.{ShowsStep, step_line}
use Rattle.run_once.proofs.Nexts.{same_next}
use Rattle.run_once.proofs.tracing.tell_step.Goals as goal

pub returns-clause-machine : goal.returns-clause-machine
returns-clause-machine c =
    let zero : c.new-2.result ≡ 0 = search rules in
    subst (λ r. AnswersAsMachine Tracks c.args.world.now (Step r) c.apply-answer.result c.apply-answer.new.self) zero c.apply-answer.ensures.machine

pub returns-clause-told : goal.returns-clause-told
returns-clause-told c =
    let old = c.args.text.now.items in
    let insn = c.in-Some-next_insn.insn in
    let line = step_line c.place-slot.result insn in
    let lined : c.push_line.new.text.items ≡ old ++ line = search rules in
    let zero : c.new.result ≡ 0 = search rules in
    let there = subst (λ r. slice_get c.args.world.now.runs r ≡ Some (Some c.in-Some.run'.now.view)) zero c.in-Some.ensures.some in
    let (below, indented, is) = c.in_ok-push_indented.ensures in (
      line ++ below,
      is ∙ (ap (λ t. t ++ below) lined ∙ append_assoc old line below),
      λ slot other n.
          let same = same_next c.args.world.now slot other c.in-Some.run'.now.view c.place-slot.result c.next_insn.result insn n
          there (search rules) c.next_insn.ensures c.in-Some-next_insn.is in
          let at_slot = subst (λ k. ShowsStep k insn (line ++ below)) same.0 (below, indented, refl) in
          subst (λ (i : Insn). ShowsStep slot i (line ++ below)) same.1 at_slot,
    )
