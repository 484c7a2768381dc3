use Rattle.bpf_model.proofs.Prelude.{IfSome_then}
use Rattle.worker_pool.proofs.Batches.{printed_elsewhere}
use Rattle.worker_pool.proofs.apart.print_apart.Goals as goal

pub returns : goal.returns
returns g c = record {
  printed = λ programs only.
      let v = c.args.program.now.verified in
      IfSome_then c.print_by_first.result c.print_by_first.ensures (λ a printed.
      printed_elsewhere c.in_ok-own.own programs v.program v.shapes c.args.jobs.now c.args.batch.now a.text.items c.in_ok-own.ensures only printed);
}
