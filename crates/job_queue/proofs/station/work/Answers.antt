use Rattle.std.proofs.Common.{rules, ◌≡◌, ◌<◌, ◌++◌, ◌∷◌, [], ap, ◌∙◌, sym, subst, refl, length}
use Rattle.std.specs.Prelude.{All}
use Rattle.std.proofs.lemmas.Option.{slice_get_read}
use Rattle.job_queue.specs.declared.station.Numbered.{Numbered}
use Rattle.job_queue.specs.Serving.{IsRightNumbered}
use Rattle.job_queue.specs.Blocks.{InBlocks, ServesBlock}
use Rattle.job_queue.proofs.BlockResults.{right_wider}
use Rattle.job_queue.proofs.QueueRule.{takes, learns_all}
use Rattle.crossbeam_queue.specs.Passes.{view}
use Rattle.job_queue.specs.declared.numbers.PassView.{PassView}
use Rattle.job_queue.specs.Numbers.{times, WasTaken, without_number}
use Rattle.job_queue.specs.Sheet.{HasResult}
use Rattle.job_queue.specs.Stations.{numbers_of}
use Rattle.job_queue.specs.Turns.{ServesNumbered}
use Rattle.job_queue.proofs.Turns.{counted_more, counted_past, numbered_more}
use Rattle.job_queue.proofs.Serving.{one_more, kept_more, still_served, taken_before}
use Rattle.job_queue.proofs.station.work.Goals as goal

pub pop_as-requires-clause-rule : goal.pop_as-requires-clause-rule
pop_as-requires-clause-rule g c = (takes _ _ c.loop.invariant.kept.takes, learns_all _ _)

pub loop-preserved : goal.loop-preserved
loop-preserved g c =
    let i = c.loop.invariant in
    let e = c.serve_block-served.ensures in
    let laws = g.met.S.Serve in
    let first = c.args.station.now.worker in
    let was = c.loop.station.worker in
    let is = c.serve_block-served.new.worker in
    let one : Numbered _ = record { number = c.in-Some.number; served = c.serve_block-served.result } in
    let items = c.push_reserved.ensures.items ∙ ap (λ z. z ++ one ∷ []) c.reserve.ensures.items in
    let fits = g.S.Serve.fits c.args.serve.now in
    let each = InBlocks fits in
    let gains = ServesBlock (g.S.Serve.gains c.args.serve.now) in
    let took : view c.pop_as.new.pass ≡ without_number c.in-Some.number (view c.loop.station.pass) = search rules in
    record {
      kept = record {
        pass = search rules;
        takes = search rules;
        results = λ k taken low. subst (λ z. HasResult z k) (sym items)
            (kept_more c.loop.station.results.items one (view c.loop.station.pass).taken k
            (subst (λ (z : PassView). WasTaken k z.taken) took taken) (λ old. i.kept.results k old low));
        counted = λ k low. ap (λ z. times k (numbers_of z)) items
            ∙ (counted_more c.loop.station.results.items one (view c.loop.station.pass).taken k (i.kept.counted k low)
            ∙ sym (ap (λ (z : PassView). times k z.taken) took));
      };
      ready_now = e.ready;
      later_now = laws.later_again first was is i.later_now e.later;
      results = subst (All (IsRightNumbered each c.args.blocks.now first is)) (sym items)
          (one_more each c.args.blocks.now first was is
          (λ block served. right_wider fits first first was is
          (λ job one. laws.fits_wider c.args.serve.now first first was is job one (laws.later_same first) e.later)
          block.now served)
          c.loop.station.results.items one i.results
          record {
            job = c.in-Some-get.block.now;
            at = (let k = c.in-Some-get.ensures.lookup in slice_get_read c.args.blocks.now _ c.in-Some.number c.in-Some-get.block.now refl k.3.0 k.1);
            right = right_wider fits first was is is (λ job one.
                laws.fits_wider c.args.serve.now first was is is job one i.later_now (laws.later_same is))
                c.in-Some-get.block.now.now c.serve_block-served.result e.fits;
          });
      turn = subst (λ z. ServesNumbered gains c.args.blocks.now first z is) (sym items)
          (numbered_more gains c.args.blocks.now first was is c.loop.station.results.items one i.turn
          record {
            job = c.in-Some-get.block.now;
            at = (let k = c.in-Some-get.ensures.lookup in slice_get_read c.args.blocks.now _ c.in-Some.number c.in-Some-get.block.now refl k.3.0 k.1);
            right = e.gains;
          });
    }

pub returns-then-is_err : goal.returns-then-is_err
returns-then-is_err g c =
    let i = c.loop.invariant in
    record {
      served = still_served _ _ _ _ _ _ _ c.loop.station _ i i.kept.pass i.kept.takes refl c.reserve.ensures.items
          (λ k taken low. taken) (λ k low. refl);
    }

pub returns-in_default : goal.returns-in_default
returns-in_default g c =
    let i = c.loop.invariant in
    record {
      served = still_served _ _ _ _ _ _ _ c.loop.station _ i (search rules) (search rules) refl c.reserve.ensures.items
          (λ k taken low. subst (λ (z : PassView). WasTaken k z.taken) c.in_default.ensures.rule.0 taken)
          (λ k low. ap (λ (z : PassView). times k z.taken) c.in_default.ensures.rule.0);
    }

pub returns-in_default-get : goal.returns-in_default-get
returns-in_default-get g c =
    let i = c.loop.invariant in
    let past : c.in-Some.number < length c.args.blocks.now → ⊥ = search rules in
    record {
      served = still_served _ _ _ _ _ _ _ c.loop.station _ i (search rules) (search rules) refl c.reserve.ensures.items
          (λ k taken low. taken_before c.in-Some.number k (view c.loop.station.pass).taken (length c.args.blocks.now) past low
          (subst (λ (z : PassView). WasTaken k z.taken) c.in-Some.ensures.rule taken))
          (λ k low. ap (λ (z : PassView). times k z.taken) c.in-Some.ensures.rule
          ∙ counted_past c.in-Some.number k (length c.args.blocks.now) (view c.loop.station.pass).taken past low);
    }
