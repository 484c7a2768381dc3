use Rattle.std.proofs.Common.{rules, ◌++◌, ◌∷◌, [], map, ap, sym, subst, ◌∙◌, arith}
use Rattle.std.specs.Prelude.{All}
use Rattle.std.proofs.lemmas.List.Elements.{All-append, All-cons, All-drop, All-head, All-nil, All-tail}
use Rattle.std.proofs.lemmas.List.{map-append}
use Rattle.crossbeam_queue.specs.Passes.{IsPassOf}
use Rattle.job_queue.specs.declared.numbers.PassView.{PassView}
use Rattle.job_queue.specs.Stations.{IsNewStation}
use Rattle.job_queue.specs.Sheet.{worker_of}
use Rattle.job_queue.proofs.QueueRule.{forks}
use Rattle.job_queue.proofs.pool.stations_of.Goals as goal

pub another-pass-requires-clause-rule : goal.another-pass-requires-clause-rule
another-pass-requires-clause-rule g c = forks _ _ (ap (λ (z : PassView). z.puts) c.loop-worker.invariant.view_is)

pub loop-worker-preserved : goal.loop-worker-preserved
loop-worker-preserved g c =
    let i = c.loop-worker.invariant in
    let ready = g.S.Serve.ready c.args.serve.now in
    let fresh = IsNewStation (IsPassOf c.args.queue.now) ready in
    let all = subst (All ready) c.in-Some.ensures.steps.0 i.ready in
    record {
      pass = search rules;
      view_is = search rules;
      ready = All-tail ready c.in-Some.worker c.next.new.self.rest.items all;
      fresh = subst (All fresh) (sym c.push_reserved.ensures.items)
          (All-append fresh c.loop-worker.stations.items _ i.fresh
          (All-cons fresh _ [] record {
            pass = search rules;
            fresh = search rules;
            ready_now =
                All-head ready c.in-Some.worker c.next.new.self.rest.items all;
            nothing = search rules;
          } (All-nil fresh)));
      stations = ap (map worker_of) c.push_reserved.ensures.items ∙
          (map-append worker_of c.loop-worker.stations.items _ ∙ ap (λ z. z ++ c.in-Some.worker ∷ []) i.stations);
      room = search rules;
    }

pub loop-worker-init : goal.loop-worker-init
loop-worker-init g c =
    let ready = g.S.Serve.ready c.args.serve.now in
    let theirs = c.into_iter-worker-iterator.ensures.into_iter_gives.0 ∙ c.in_ok-theirs.ensures.tail in
    record {
      pass = search rules;
      view_is = search rules;
      ready = subst (All ready) (sym theirs) (All-drop ready c.args.first c.args.workers.now.items c.requires.ready);
      fresh = subst (All (IsNewStation (IsPassOf c.args.queue.now) ready)) (sym c.in_ok-stations.ensures.items) (λ k d l. absurd (omega arith));
      stations = ap (map worker_of) c.in_ok-stations.ensures.items;
      room = search rules;
    }
