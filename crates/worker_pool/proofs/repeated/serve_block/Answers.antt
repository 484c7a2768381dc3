use Rattle.bpf_model.proofs.Prelude.{◌+◌, ◌≤◌, List, arith, subst, sym}
use Rattle.worker_pool.specs.declared.batch.Batch.{Batch}
use Rattle.worker_pool.specs.Batches.{AreBatches}
use Rattle.worker_pool.proofs.repeated.serve_block.Goals as goal

pub returns-clause-written : goal.returns-clause-written
returns-clause-written g c = λ old was.
    let first = c.args.first in
    let end = first + c.args.count in
    let are : AreBatches first c.deref.result.now end = subst (λ (bs : List Batch). AreBatches first bs end) (sym c.deref.ensures.value) c.in-Ok.ensures.are in
    c.print_all.ensures.written first end old are was

pub returns-clause-part : goal.returns-clause-part
returns-clause-part g c = λ old was.
    let first = c.args.first in
    let end = first + c.args.count in
    let are : AreBatches first c.deref.result.now end = subst (λ (bs : List Batch). AreBatches first bs end) (sym c.deref.ensures.value) c.in-Ok.ensures.are in
    c.print_all.ensures.part first end old are was

-- nothing more was written
pub returns-in_default-clause-part : goal.returns-in_default-clause-part
returns-in_default-clause-part g c = λ old was program shapes contexts runs.
    let first = c.args.first in
    let up : first ≤ first + c.args.count = omega arith in
    (first, up, was program shapes contexts runs)
