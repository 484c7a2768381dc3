use Rattle.bpf_model.proofs.Prelude.{ap, ◌∙◌, sym, List, ℕ, Option, slice_get, Vec, err_from_is_err_and}
use Rattle.worker_pool.proofs.Batches.{batches_up, flushed}
use Rattle.worker_pool.proofs.printing.Printing.print_all.Goals as goal

pub write_texts-requires-clause-right : goal.write_texts-requires-clause-right
write_texts-requires-clause-right g c = λ k batch text e f.
    c.in_ok-texts.ensures.right k batch text e
    (ap (λ (ts : List (Option (Vec ℕ))). slice_get ts k) (sym c.deref.ensures.value) ∙ f)

pub returns-clause-written : goal.returns-clause-written
returns-clause-written g c = λ first end old are was.
    let contents = g.W.Write.contents in
    flushed c.args.self.now.shared.now c.args.self.now.jobs.now end old (contents c.write_texts.new.out) (contents c.flush.new.self)
    (c.in_ok-write_texts.ensures.written first end old are was) c.in_ok-flush.ensures.bytes

pub returns-in_err-texts-clause-part : goal.returns-in_err-texts-clause-part
returns-in_err-texts-clause-part g c =
    let p = err_from_is_err_and c.from_residual.result c.from_residual.ensures.1 in
    rw (p.1, p.2) (λ first end old are was program shapes contexts runs.
    (first, batches_up first end c.args.batches.now are, was program shapes contexts runs))

pub returns-in_err-write_texts-clause-part : goal.returns-in_err-write_texts-clause-part
returns-in_err-write_texts-clause-part g c =
    let p = err_from_is_err_and c.from_residual-in_err-write_texts.result c.from_residual-in_err-write_texts.ensures.1 in
    rw (p.1, p.2) (λ first end old are was. c.in_err-write_texts.ensures.part first end old are was)
