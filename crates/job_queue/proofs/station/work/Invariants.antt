use Rattle.crossbeam_queue.specs.Passes.{IsPassOf}
use Rattle.job_queue.specs.Blocks.{InBlocks, ServesBlock}
use Rattle.job_queue.specs.Stations.{HasServed}
use Rattle.job_queue.proofs.station.work.Given as goal

abbrev pub invariant-loop : goal.invariant-loop
invariant-loop g l = HasServed (InBlocks (g.S.Serve.fits l.serve)) (ServesBlock (g.S.Serve.gains l.serve)) g.S.Serve.later l.blocks (IsPassOf l.queue)
    (g.S.Serve.ready l.serve) l.fn.station.worker l.station
