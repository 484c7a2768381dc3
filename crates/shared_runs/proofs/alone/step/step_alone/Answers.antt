use Rattle.bpf_model.proofs.Prelude.{inl, inr, refl}
use Rattle.shared_runs.proofs.Going.{standing, moves, exits, given, shares, asks-else, resumed}
use Rattle.shared_runs.proofs.alone.step.step_alone.Goals as goal

pub local_step-requires : goal.local_step-requires
local_step-requires c = record { at = c.requires.at; stands = standing c.args.verified.now c.args.run.now.view c.requires.stands }

pub resume-requires : goal.resume-requires
resume-requires c = record {
  request = c.in-Shared.request;
  awaits = c.in-Shared.ensures.stands;
  given = given c.args.verified.now c.args.run.now.view c.requires.stands c.in-Shared.request c.local_step.new.self.view c.in-Shared.ensures.step;
}

pub unreachable-requires : goal.unreachable-requires
unreachable-requires c =
    let view = c.args.run.now.view in
    let after = c.local_step.new.self.view in
    let step = c.in-Shared.ensures.step in
    let asked = shares c.args.verified.now view c.requires.stands c.in-Shared.request after step in
    elim c.in-Load.is [
      | inl x ↦ asks-else view after step.0 c.in-Shared.request _ asked x.3 refl
      | inr y ↦ elim y [
        | inl x ↦ asks-else view after step.0 c.in-Shared.request _ asked x.4 refl
        | inr x ↦ asks-else view after step.0 c.in-Shared.request _ asked x.1 refl
      ]
    ]

pub returns-in-Moved : goal.returns-in-Moved
returns-in-Moved c =
    let f = moves c.args.verified.now c.args.run.now.view c.requires.stands c.local_step.new.self.view c.in-Moved.ensures.step in
    record { lone = record { at = c.in-Moved.ensures.run; stands = f.stands }; context = f.context; moved = f.moved }

pub returns-in-Exit : goal.returns-in-Exit
returns-in-Exit c =
    let e = exits c.args.verified.now c.args.run.now.view c.requires.stands c.in-Exit.value c.local_step.new.self.view c.in-Exit.ensures.step in
    record { exits = e.0; moved = e.1 }

pub returns-in-Enter : goal.returns-in-Enter
returns-in-Enter c =
    let f = resumed c.args.verified.now c.args.run.now.view c.requires.stands c.in-Shared.request
    c.local_step.new.self.view c.in-Shared.ensures.step c.resume.new.self.view 0 c.resume.ensures.view in
    record { lone = record { at = c.resume.ensures.run; stands = f.stands }; context = f.context; moved = f.moved }
