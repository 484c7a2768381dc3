use Rattle.bpf_model.proofs.Prelude.{◌≡◌, ◌≤◌, ◌+◌, ◌++◌, ◌∷◌, ◌∙◌, [], List, refl, ap, sym, arith, length, take, vec_len, vec_capacity, take_more, take_all}
use Rattle.model_laws.proofs.Prelude.{Event, Answer}
use Rattle.world_laws.proofs.Prelude.{full_reaction, full_reactions}
use Rattle.world_laws.proofs.Appending.{answers_grow, view_grows}
use Rattle.world.proofs.Answering.{all_react, all_scheduled, all_machine, all_never_stuck, all_exit, all_reclaimed}
use Rattle.world.proofs.world.World.run_all.Goals as goal

pub loop-event-preserved : goal.loop-event-preserved
loop-event-preserved c =
    let w = c.args.self.now in
    let i = c.loop-event.event-index in
    let es = c.args.events.now in
    let e = c.event-item.result in
    let taken : take (i + 1) es ≡ take i es ++ e ∷ [] = take_more es i e c.loop-event-test.true ∙
    ap (λ (x : Event). take i es ++ x ∷ []) (sym c.event-item.is) in
    let answer : Answer = (full_reaction c.loop-event.self e).0 in
    let answers = answers_grow w c.loop-event.self (take i es) e c.loop-event.answers.items answer
    c.loop-event.invariant.answers c.loop-event.invariant.view refl in
    let view = view_grows w c.loop-event.self c.answer_last.new.self (take i es) e c.loop-event.invariant.view c.answer_last.ensures.new in
    record {
      answers = c.answer_last.ensures.items ∙ (answers ∙ ap (λ (xs : List Event). (full_reactions w xs).0) (sym taken));
      view = view ∙ ap (λ (xs : List Event). (full_reactions w xs).1) (sym taken);
      count = let l : vec_len c.answer_last.new.answers ≡ vec_len c.loop-event.answers + 1 =
          c.answer_last.ensures.len in let n : vec_len c.loop-event.answers ≡ i =
          c.loop-event.invariant.count in omega arith;
      room = let r : vec_capacity c.loop-event.answers ≤ vec_capacity c.answer_last.new.answers =
          c.answer_last.ensures.room in let a : length es ≤ vec_capacity c.loop-event.answers =
          c.loop-event.invariant.room in omega arith;
    }

pub returns-clause-schedule : goal.returns-clause-schedule
returns-clause-schedule c =
    all_scheduled (all_react c.is_world.ensures c.are_real.ensures c.loop-event.invariant.answers c.loop-event.invariant.view
    (take_all c.loop-event.event-index c.args.events.now c.loop-event-test.false))

pub returns-clause-answers : goal.returns-clause-answers
returns-clause-answers c =
    all_machine (all_react c.is_world.ensures c.are_real.ensures c.loop-event.invariant.answers c.loop-event.invariant.view
    (take_all c.loop-event.event-index c.args.events.now c.loop-event-test.false))

pub returns-clause-never_stuck : goal.returns-clause-never_stuck
returns-clause-never_stuck c =
    all_never_stuck (all_react c.is_world.ensures c.are_real.ensures c.loop-event.invariant.answers c.loop-event.invariant.view
    (take_all c.loop-event.event-index c.args.events.now c.loop-event-test.false))

pub returns-clause-exits : goal.returns-clause-exits
returns-clause-exits c =
    all_exit (all_react c.is_world.ensures c.are_real.ensures c.loop-event.invariant.answers c.loop-event.invariant.view
    (take_all c.loop-event.event-index c.args.events.now c.loop-event-test.false))

pub returns-clause-reclaimed : goal.returns-clause-reclaimed
returns-clause-reclaimed c =
    all_reclaimed (all_react c.is_world.ensures c.are_real.ensures c.loop-event.invariant.answers c.loop-event.invariant.view
    (take_all c.loop-event.event-index c.args.events.now c.loop-event-test.false))
