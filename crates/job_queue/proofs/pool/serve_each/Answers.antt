use Rattle.std.proofs.Common.{◌≡◌, ◌++◌, ◌-◌, length, map, take, sym, ap, ◌∙◌, subst, arith, vec_len}
use Rattle.std.specs.Prelude.{All}
use Rattle.std.proofs.lemmas.List.{take-append-drop, length-map, length-drop, length-take-le}
use Rattle.std.proofs.lemmas.List.Elements.{All-take}
use Rattle.job_queue.specs.Blocks.{InBlocks, ServesBlock}
use Rattle.job_queue.specs.Serving.{AreRightLines}
use Rattle.job_queue.specs.Sheet.{worker_of}
use Rattle.job_queue.proofs.Serving.{results_right}
use Rattle.job_queue.proofs.Turns.{turns_read}
use Rattle.job_queue.proofs.pool.serve_each.Goals as goal

pub serve_at-requires-clause-ready : goal.serve_at-requires-clause-ready
serve_at-requires-clause-ready g c κs within =
    subst (All (g.S.Serve.ready c.args.serve.now)) (sym c.in-Ok.ensures.workers)
    (All-take (g.S.Serve.ready c.args.serve.now) c.args.first c.args.workers.now.items c.requires.ready)

pub serve_at-requires-clause-room : goal.serve_at-requires-clause-room
serve_at-requires-clause-room g c κs within =
    let old = c.args.workers.now in
    let is_old : vec_len old ≡ length old.items = old.ok.0 in
    let new = c.stations_of.new.workers in
    let is_new : vec_len new ≡ length new.items = new.ok.0 in
    let taken : length new.items ≡ c.args.first = ap length c.in-Ok.ensures.workers ∙ length-take-le c.args.first old.items (omega arith) in
    let st = c.in-Ok.stations in
    let is_st : vec_len st ≡ length st.items = st.ok.0 in
    let mapped : length (map worker_of st.items) ≡ length st.items = length-map st.items worker_of in
    let dropped : length (map worker_of st.items) ≡ length old.items - c.args.first = ap length c.in-Ok.ensures.stations ∙ length-drop c.args.first old.items in
    let same = c.stations_of.ensures.capacity in
    let full = old.ok.1 in
    omega arith

pub returns-then-serve_at-clause-each : goal.returns-then-serve_at-clause-each
returns-then-serve_at-clause-each g c =
    let whole = ap (λ z. z ++ map worker_of c.in-Ok.stations.items) c.in-Ok.ensures.workers ∙
    (ap (λ z. take c.args.first c.args.workers.now.items ++ z) c.in-Ok.ensures.stations ∙
    take-append-drop c.args.first c.args.workers.now.items) in
    let fits = InBlocks (g.S.Serve.fits c.args.serve.now) in
    let after = c.serve_at.new.workers.items in
    let lines = c.serve_at.new.sheet.lines.items in
    results_right fits c.args.blocks.now c.args.workers.now.items after lines c.read_out.result.items
    (subst (λ z. AreRightLines fits c.args.blocks.now z after lines) whole c.serve_at.ensures.lines) c.read_out.ensures.lines

pub returns-then-serve_at-clause-turns : goal.returns-then-serve_at-clause-turns
returns-then-serve_at-clause-turns g c =
    let whole = ap (λ z. z ++ map worker_of c.in-Ok.stations.items) c.in-Ok.ensures.workers ∙
    (ap (λ z. take c.args.first c.args.workers.now.items ++ z) c.in-Ok.ensures.stations ∙
    take-append-drop c.args.first c.args.workers.now.items) in
    turns_read (ServesBlock (g.S.Serve.gains c.args.serve.now)) c.args.blocks.now _ c.args.workers.now.items c.serve_at.new.workers.items
    c.serve_at.new.sheet.lines.items c.read_out.result.items whole c.read_out.ensures.lines (c.serve_at.ensures.turns c.if-serve_at.true)
