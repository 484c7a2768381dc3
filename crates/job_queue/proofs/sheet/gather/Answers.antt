use Rattle.std.proofs.Common.{rules, ◌≡◌, ◌++◌, ◌∷◌, [], ◌∙◌, ◌+◌, ap, sym, subst, map, length, ⊎_elim, inl, inr, arith}
use Rattle.std.specs.Prelude.{All, vec_len}
use Rattle.std.proofs.lemmas.List.{map-append, append_assoc}
use Rattle.std.proofs.lemmas.List.Elements.{All-head, All-tail}
use Rattle.crossbeam_queue.specs.Passes.{view, IsPassOf}
use Rattle.job_queue.specs.declared.numbers.PassView.{PassView}
use Rattle.job_queue.specs.Numbers.{times, WasTaken, with_taken_of}
use Rattle.job_queue.specs.Stations.{IsKept}
use Rattle.job_queue.specs.Sheet.{worker_of}
use Rattle.job_queue.proofs.QueueRule.{merges, taken_of_either}
use Rattle.job_queue.proofs.Serving.{stands_before, stands_last}
use Rattle.job_queue.proofs.Turns.{took_more}
use Rattle.job_queue.proofs.sheet.gather.Goals as goal

pub absorb-requires-clause-rule : goal.absorb-requires-clause-rule
absorb-requires-clause-rule g c =
    let kept = IsKept (IsPassOf c.args.queue.now) (vec_len c.args.sheet.now.lines) in
    let all = subst (All kept) c.in-Some.ensures.steps.0 c.loop-station.invariant.kept in
    merges _ _ _ _ c.loop-station.invariant.puts (All-head kept c.in-Some.station c.next.new.self.rest.items all).takes

pub loop-station-preserved : goal.loop-station-preserved
loop-station-preserved g c =
    let i = c.loop-station.invariant in
    let e = c.enter.ensures in
    let xs = c.loop-station.yielded in
    let s = c.in-Some.station in
    let rest = c.next.new.self.rest.items in
    let kept = IsKept (IsPassOf c.args.queue.now) (vec_len c.args.sheet.now.lines) in
    let all = subst (All kept) c.in-Some.ensures.steps.0 i.kept in
    let mine = All-head kept s rest all in
    let is : view c.absorb.new.pass ≡ with_taken_of (view c.loop-station.pass) (view s.pass) = c.absorb.ensures.rule in
    record {
      pass = search rules;
      puts = ap (λ (z : PassView). z.puts) is ∙ i.puts;
      takes = ap (λ (z : PassView). z.takes) is ∙ i.takes;
      next = ap (λ (z : PassView). z.next) is ∙ i.next;
      out =
          let fewer = ap (λ (z : PassView). z.out) is in
          let was = i.out in
          let long : length c.loop-station.station-iterator.rest.items ≡ length rest + 1 = ap length c.in-Some.ensures.steps.0 ∙ omega arith in
          omega (arith, fewer, was, long);
      kept = All-tail kept s rest all;
      workers = c.push_reserved.ensures.items ∙ (ap (λ z. z ++ s.worker ∷ []) i.workers ∙
          (append_assoc c.args.workers.now.items (map worker_of xs) (s.worker ∷ []) ∙
          ap (λ z. c.args.workers.now.items ++ z) (sym (map-append worker_of xs (s ∷ [])))));
      capacity = search rules;
      count = e.count ∙ i.count;
      lines = λ k served at. ⊎_elim
          (λ was. ⊎_elim (λ old. inl old) (λ a. inr (stands_before xs s k served a)) (i.lines k served was))
          (λ a. inr (stands_last xs s k served a))
          (e.lines k served at);
      taken = λ k low was. ⊎_elim
          (λ theirs. e.entered k (let n = i.count in omega (arith, low, n)) (mine.results k theirs low))
          (λ old. e.stays k (i.taken k low old))
          (taken_of_either k (view s.pass).taken (view c.loop-station.pass).taken (subst (λ (z : PassView). WasTaken k z.taken) is was));
      counted = λ k. ap (λ (z : PassView). times k z.taken) is ∙ took_more k (view c.loop-station.pass) xs s (i.counted k);
    }

pub loop-station-init : goal.loop-station-init
loop-station-init g c =
    let theirs = c.into_iter-station-iterator.ensures.into_iter_gives.0 in
    let knows = c.requires.knows in
    record {
      pass = search rules;
      puts = ap (λ (z : PassView). z.puts) knows;
      takes = ap (λ (z : PassView). z.takes) knows;
      next = ap (λ (z : PassView). z.next) knows;
      out = ap (λ (z : PassView). z.out) knows ∙ (c.args.stations.ok.0 ∙ ap length (sym theirs));
      kept = subst (All (IsKept (IsPassOf c.args.queue.now) (vec_len c.args.sheet.now.lines))) (sym theirs) c.requires.kept;
      workers = search rules;
      capacity = search rules;
      count = search rules;
      lines = λ k served at. inl at;
      taken = λ k low was. absurd (subst (λ (z : PassView). WasTaken k z.taken) knows was);
      counted = λ k. ap (λ (z : PassView). times k z.taken) knows;
    }
