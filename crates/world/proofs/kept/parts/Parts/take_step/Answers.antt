use Rattle.bpf_model.proofs.Prelude.{◌≡◌, ◌∙◌, ℕ, List, sym, ap, subst, None, map, slice_get, WorldView, option_flatten}
use Rattle.model_laws.proofs.Prelude.{Answer, Matches, step_refused}
use Rattle.world.proofs.Prelude.{brief_answer, flag_of, world_of}
use Rattle.world_laws.proofs.Prelude.{word_step, IsSound}
use Rattle.world.proofs.SlotFlags.{flags-stay}
use Rattle.world.proofs.Stepping.{is_going, gone_kept, gone_is}
use Rattle.world.proofs.kept.parts.Parts.take_step.Goals as goal

pub step_slot-requires : goal.step_slot-requires
step_slot-requires c =
    let here : WorldView → Type 0 = λ (w : WorldView). step_refused (option_flatten (slice_get w.runs c.args.run)) ≡ None in
    is_going c.self.inside.registry.names c.self.inside.registry.maps c.self.inside.runs.items c.self.inside.grace
    c.self.inside.programs.items c.self.inside.given c.args.run c.self.invariant.kept
    c.requires.sound.schedule
    (subst (λ (w : WorldView). Matches w c.requires.sound.schedule) (sym c.self.view_is) c.requires.sound.matches)
    (subst (λ (w : WorldView). IsSound w c.requires.sound.schedule) (sym c.self.view_is) c.requires.sound.sound)
    (subst here (sym c.self.view_is) c.requires.going)

pub invariant_of-self : goal.invariant_of-self
invariant_of-self c = record {
  kept =
      gone_kept c.self.inside.registry.names c.self.inside.registry.maps c.self.inside.runs.items c.self.inside.grace
      c.self.inside.programs.items c.self.inside.given c.args.run c.self.invariant.kept
      c.step_slot.new.runs.items c.step_slot.new.maps.maps c.step_slot.new.grace (brief_answer c.step_slot.result) c.step_slot.ensures.gone;
  flagged = let gone = c.step_slot.ensures.gone in
      flags-stay c.self.inside.runs.items c.self.inside.flags.items c.args.run gone.run gone.new c.self.invariant.flagged gone.there
      ∙ ap (map flag_of) (sym gone.runs_are);
}

pub returns-clause-answer : goal.returns-clause-answer
returns-clause-answer c =
    let e = gone_is c.self.inside.registry.names c.self.inside.registry.maps c.self.inside.runs.items
    c.self.inside.grace c.self.inside.programs.items c.self.inside.given c.args.run c.self.invariant.kept
    c.step_slot.new.runs.items c.step_slot.new.maps.maps c.step_slot.new.grace (brief_answer c.step_slot.result) c.step_slot.ensures.gone in
    sym (ap (λ (x : Answer × WorldView). x.0) e) ∙ ap (λ (w : WorldView). (word_step w c.args.run).0) c.self.view_is

pub returns-clause-new : goal.returns-clause-new
returns-clause-new c =
    let e = gone_is c.self.inside.registry.names c.self.inside.registry.maps c.self.inside.runs.items
    c.self.inside.grace c.self.inside.programs.items c.self.inside.given c.args.run c.self.invariant.kept
    c.step_slot.new.runs.items c.step_slot.new.maps.maps c.step_slot.new.grace (brief_answer c.step_slot.result) c.step_slot.ensures.gone in
    ap (λ (names : List (List ℕ)). world_of names c.step_slot.new.maps.maps c.step_slot.new.runs.items
    c.step_slot.new.grace c.self.inside.programs.items c.self.inside.given) c.step_slot.ensures.names
    ∙ sym (ap (λ (x : Answer × WorldView). x.1) e) ∙ ap (λ (w : WorldView). (word_step w c.args.run).1) c.self.view_is
