use Rattle.bpf_model.proofs.Prelude.{◌∙◌, ℕ, sym, ap, subst, List}
use Rattle.world.proofs.Prelude.{CanServe, IsReply, maps_after}
use Rattle.machine.specs.declared.request.Local.TheVariants as answers
use Rattle.machine.proofs.Standing.{step_there}
use Rattle.world.proofs.Stepping.{moved_taken, exited_taken, can_serve, can_deep, can_give, served_taken}
use Rattle.world.proofs.kept.step.step_run.Goals as goal

pub local_step-requires : goal.local_step-requires
local_step-requires c = (c.requires.can c.program-justified.ensures.justified).stands

pub serve-word-requires-clause-serve : goal.serve-word-requires-clause-serve
serve-word-requires-clause-serve c =
    let can = c.requires.can c.program-justified.ensures.justified in
    subst (λ (l : List ℕ). CanServe c.in-Shared.request l c.args.maps.now.maps c.local_step.new.self.view) (sym c.as_slice.ensures.value)
    (can_serve c.args.loaded.now c.args.maps.now.maps c.args.grace.now c.args.run_slot c.args.run.now can
    c.in-Shared.request c.local_step.new.self (step_there c.args.loaded.now.verified c.args.run.now.view (answers.Shared c.in-Shared.request)
    c.local_step.new.self.view c.in-Shared.ensures.step can.step.insn can.step.here))

pub serve-word-requires-clause-depth : goal.serve-word-requires-clause-depth
serve-word-requires-clause-depth c =
    let can = c.requires.can c.program-justified.ensures.justified in
    can_deep c.args.loaded.now c.args.maps.now.maps c.args.grace.now c.args.run_slot c.args.run.now can
    c.in-Shared.request c.local_step.new.self (step_there c.args.loaded.now.verified c.args.run.now.view (answers.Shared c.in-Shared.request)
    c.local_step.new.self.view c.in-Shared.ensures.step can.step.insn can.step.here)

pub resume-requires : goal.resume-requires
resume-requires c =
    let can = c.requires.can c.program-justified.ensures.justified in
    record {
      request = c.in-Shared.request;
      awaits = c.in-Shared.ensures.stands;
      given =
          can_give c.args.loaded.now c.args.maps.now.maps c.args.grace.now c.args.run_slot c.args.run.now can
          c.in-Shared.request c.local_step.new.self (step_there c.args.loaded.now.verified c.args.run.now.view (answers.Shared c.in-Shared.request)
          c.local_step.new.self.view c.in-Shared.ensures.step can.step.insn can.step.here)
          c.serve-word.result
          (subst (λ (l : List ℕ). IsReply c.in-Shared.request l c.args.maps.now.maps c.local_step.new.self.view
          c.serve-word.result) c.as_slice.ensures.value c.serve-word.ensures.word);
    }

pub returns-in-Moved-clause-taken : goal.returns-in-Moved-clause-taken
returns-in-Moved-clause-taken c =
    let can = c.requires.can c.program-justified.ensures.justified in
    moved_taken c.args.loaded.now c.args.maps.now.maps c.args.grace.now c.args.run_slot c.args.run.now can
    c.local_step.new.self (step_there c.args.loaded.now.verified c.args.run.now.view answers.Moved
    c.local_step.new.self.view c.in-Moved.ensures.step can.step.insn can.step.here) c.in-Moved.ensures.run

pub returns-in-Exit-clause-taken : goal.returns-in-Exit-clause-taken
returns-in-Exit-clause-taken c =
    let can = c.requires.can c.program-justified.ensures.justified in
    exited_taken c.args.loaded.now c.args.maps.now.maps c.args.grace.now c.args.run_slot c.args.run.now can
    c.in-Exit.value c.local_step.new.self (step_there c.args.loaded.now.verified c.args.run.now.view (answers.Exit c.in-Exit.value)
    c.local_step.new.self.view c.in-Exit.ensures.step can.step.insn can.step.here)
    c.in-Exit.ensures.run

pub returns-in-Shared-clause-taken : goal.returns-in-Shared-clause-taken
returns-in-Shared-clause-taken c =
    let can = c.requires.can c.program-justified.ensures.justified in
    served_taken c.args.loaded.now c.args.maps.now.maps c.args.grace.now c.args.run_slot c.args.run.now can
    c.in-Shared.request c.local_step.new.self (step_there c.args.loaded.now.verified c.args.run.now.view (answers.Shared c.in-Shared.request)
    c.local_step.new.self.view c.in-Shared.ensures.step can.step.insn can.step.here)
    c.serve-word.result c.resume.new.self c.serve-word.new.maps.maps c.serve-word.new.grace
    (subst (λ (l : List ℕ). IsReply c.in-Shared.request l c.args.maps.now.maps c.local_step.new.self.view
    c.serve-word.result) c.as_slice.ensures.value c.serve-word.ensures.word)
    (c.serve-word.ensures.maps ∙ ap (λ (l : List ℕ). maps_after c.in-Shared.request l c.local_step.new.self.view c.args.maps.now.maps) c.as_slice.ensures.value)
    c.serve-word.ensures.grace
    c.resume.ensures.view
    c.resume.ensures.run
