use Rattle.std.proofs.Common.{◌≡◌, ◌++◌, ℕ, [], map, ap, length, ⊎_elim, ◌∙◌, refl, subst, sym, arith}
use Rattle.std.specs.Prelude.{All, vec_len, is_some, not, false, slice_get, Some}
use Rattle.std.specs.List.{AllZip}
use Rattle.crossbeam_queue.specs.Passes.{view, IsPassOf}
use Rattle.job_queue.specs.Blocks.{InBlocks, ServesBlock}
use Rattle.job_queue.specs.Serving.{IsServedFor}
use Rattle.job_queue.specs.Stations.{IsKept, times_taken}
use Rattle.job_queue.specs.Sheet.{worker_of, StandsIn}
use Rattle.job_queue.proofs.QueueRule.{takes, learns_all, left_none, left_once}
use Rattle.job_queue.proofs.Serving.{all_lines, stands_right, stations_kept, workers_later, workers_ready, written_back}
use Rattle.job_queue.specs.Turns.{AreTurns}
use Rattle.job_queue.proofs.Turns.{turns_are}
use Rattle.job_queue.proofs.pool.serve_at.Goals as goal

pub gather-requires-clause-kept : goal.gather-requires-clause-kept
gather-requires-clause-kept g c =
    let back = written_back c.args.stations.len c.args.stations.items c.work_all.new.stations c.args.stations.ok.0
    (c.work_all.ensures.count ∙ ap length c.as_mut_slice.ensures.value) in
    let of_queue = IsPassOf c.args.queue.now in
    subst (All (IsKept of_queue (vec_len c.args.sheet.now.lines))) (sym back)
    (subst (λ (n : ℕ). All (IsKept of_queue n) c.work_all.new.stations) (sym c.requires.lines)
    (stations_kept (InBlocks (g.S.Serve.fits c.args.serve.now)) (ServesBlock (g.S.Serve.gains c.args.serve.now)) g.S.Serve.later
    c.args.blocks.now of_queue (g.S.Serve.ready c.args.serve.now)
    [] (map worker_of c.work_all.new.stations) c.as_mut_slice.result.now c.work_all.new.stations refl c.work_all.ensures.count c.work_all.ensures.each))

pub pop_as-requires-clause-rule : goal.pop_as-requires-clause-rule
pop_as-requires-clause-rule g c = (takes _ _ c.gather.ensures.takes, learns_all _ _)

pub returns-clause-each : goal.returns-clause-each
returns-clause-each g c so =
    let e = c.gather.ensures in
    let lines = c.gather.new.sheet.lines in
    let none : is_some c.pop_as.result ≡ false = c.is_none.ensures ∙ ap not so in
    all_lines lines.items (λ k low.
    let long = lines.ok.0 in
    let count = e.count in
    let next = e.next in
    e.taken k (omega (arith, low, long, count))
    (left_none c.pop_as.result (view c.pop_as.new.pass) (view c.gather.new.pass) _ none c.pop_as.ensures.rule e.puts e.home k
    (omega (arith, low, long, count, next))))

pub returns-clause-ready : goal.returns-clause-ready
returns-clause-ready g c =
    let back = written_back c.args.stations.len c.args.stations.items c.work_all.new.stations c.args.stations.ok.0
    (c.work_all.ensures.count ∙ ap length c.as_mut_slice.ensures.value) in
    workers_ready (InBlocks (g.S.Serve.fits c.args.serve.now)) (ServesBlock (g.S.Serve.gains c.args.serve.now)) g.S.Serve.later
    c.args.blocks.now (IsPassOf c.args.queue.now) (g.S.Serve.ready c.args.serve.now)
    c.args.workers.now.items c.gather.new.workers.items c.as_mut_slice.result.now c.work_all.new.stations
    (c.gather.ensures.workers ∙ ap (λ z. c.args.workers.now.items ++ map worker_of z) back) c.work_all.ensures.count c.work_all.ensures.each c.requires.ready

pub returns-clause-later : goal.returns-clause-later
returns-clause-later g c =
    let back = written_back c.args.stations.len c.args.stations.items c.work_all.new.stations c.args.stations.ok.0
    (c.work_all.ensures.count ∙ ap length c.as_mut_slice.ensures.value) in
    subst (λ z. AllZip g.S.Serve.later (c.args.workers.now.items ++ map worker_of z) c.gather.new.workers.items) c.as_mut_slice.ensures.value
    (workers_later (InBlocks (g.S.Serve.fits c.args.serve.now)) (ServesBlock (g.S.Serve.gains c.args.serve.now)) g.S.Serve.later
    c.args.blocks.now (IsPassOf c.args.queue.now) (g.S.Serve.ready c.args.serve.now)
    c.args.workers.now.items c.gather.new.workers.items c.as_mut_slice.result.now c.work_all.new.stations
    (c.gather.ensures.workers ∙ ap (λ z. c.args.workers.now.items ++ map worker_of z) back) c.work_all.ensures.count c.work_all.ensures.each
    (subst (λ z. AllZip g.S.Serve.later z z) c.as_slice.ensures.value c.unchanged.ensures))

pub returns-clause-lines : goal.returns-clause-lines
returns-clause-lines g c k served at =
    let back = written_back c.args.stations.len c.args.stations.items c.work_all.new.stations c.args.stations.ok.0
    (c.work_all.ensures.count ∙ ap length c.as_mut_slice.ensures.value) in
    let fits = InBlocks (g.S.Serve.fits c.args.serve.now) in
    ⊎_elim (λ old. absurd (c.requires.blank k served old))
    (λ stands. subst (λ z. IsServedFor fits c.args.blocks.now (c.args.workers.now.items ++ map worker_of z)
    c.gather.new.workers.items k served) c.as_mut_slice.ensures.value
    (stands_right fits (ServesBlock (g.S.Serve.gains c.args.serve.now)) g.S.Serve.later
    c.args.blocks.now (IsPassOf c.args.queue.now) (g.S.Serve.ready c.args.serve.now)
    c.args.workers.now.items c.gather.new.workers.items c.as_mut_slice.result.now c.work_all.new.stations
    (c.gather.ensures.workers ∙ ap (λ z. c.args.workers.now.items ++ map worker_of z) back) c.work_all.ensures.count c.work_all.ensures.each k served
    (subst (λ z. StandsIn z k served) back stands)))
    (c.gather.ensures.lines k served at)

pub returns-clause-turns : goal.returns-clause-turns
returns-clause-turns g c so =
    let back = written_back c.args.stations.len c.args.stations.items c.work_all.new.stations c.args.stations.ok.0
    (c.work_all.ensures.count ∙ ap length c.as_mut_slice.ensures.value) in
    let e = c.gather.ensures in
    let gains = ServesBlock (g.S.Serve.gains c.args.serve.now) in
    let lines = c.gather.new.sheet.lines in
    let none : is_some c.pop_as.result ≡ false = c.is_none.ensures ∙ ap not so in
    let long = lines.ok.0 in
    let count = e.count in
    let next = e.next in
    let many = c.requires.lines in
    subst (λ z. AreTurns gains c.args.blocks.now (c.args.workers.now.items ++ map worker_of z) c.gather.new.workers.items
    (λ k served. slice_get lines.items k ≡ Some (Some served))) c.as_mut_slice.ensures.value
    (turns_are (InBlocks (g.S.Serve.fits c.args.serve.now)) gains g.S.Serve.later
    c.args.blocks.now (IsPassOf c.args.queue.now) (g.S.Serve.ready c.args.serve.now)
    c.args.workers.now.items c.gather.new.workers.items c.as_mut_slice.result.now c.work_all.new.stations
    (e.workers ∙ ap (λ z. c.args.workers.now.items ++ map worker_of z) back) c.work_all.ensures.count c.work_all.ensures.each
    lines.items
    (λ k low. ap (times_taken k) (sym back) ∙ (sym (e.counted k)
    ∙ left_once c.pop_as.result (view c.pop_as.new.pass) (view c.gather.new.pass) _ none c.pop_as.ensures.rule e.puts e.home k
    (omega (arith, low, many, next))))
    (λ k low. e.taken k (omega (arith, low, many))
    (left_none c.pop_as.result (view c.pop_as.new.pass) (view c.gather.new.pass) _ none c.pop_as.ensures.rule e.puts e.home k
    (omega (arith, low, many, next))))
    (λ k served at. subst (λ z. StandsIn z k served) back
    (⊎_elim (λ old. absurd (c.requires.blank k served old)) (λ stands. stands) (e.lines k served at))))
