use Rattle.bpf_model.proofs.Prelude.{◌≡◌, ℕ, ◌+◌, ◌∷◌, List, arith, ap, drop, subst, sym, ◌∙◌, Option, Some, slice_get, suc, Vec, Appends, slice_get-get_or}
use Rattle.bpf_model.proofs.Prelude.{drop-next, get-below}
use Rattle.std.proofs.Math.ListN.{drop_of_length-le}
use Rattle.worker_pool.specs.declared.batch.Batch.{Batch}
use Rattle.worker_pool.specs.Batches.{AreBatches, HasWritten}
use Rattle.worker_pool.proofs.Batches.{batches_up, more_written}
use Rattle.worker_pool.proofs.printing.Printing.write_texts.Goals as goal

pub loop-index-preserved : goal.loop-index-preserved
loop-index-preserved g c =
    let k = c.loop-index.index in
    let batches = c.args.batches.now in
    let contents = g.W.Write.contents in
    let b = get-below batches k (omega (arith, c.requires.long)) in
    let text : slice_get c.args.texts.now k ≡ Some (Some c.in-Some.text) =
    slice_get-get_or c.args.texts.now k c.index-texts-index.result (omega arith)
    ∙ ap (λ (t : Option (Vec ℕ)). Some t) (sym c.index-texts-index.is ∙ c.in-Some.is) in
    let next : suc k ≡ k + 1 = omega arith in
    let rest : drop k batches ≡ b.0 ∷ drop (k + 1) batches = drop-next batches k b.0 b.1 ∙ ap (λ (n : ℕ). b.0 ∷ drop n batches) next in
    record {
      kept = λ first end old are was.
          let at = c.loop-index.invariant.kept first end old are was in
          let pieces : AreBatches at.0 (b.0 ∷ drop (k + 1) batches) end = subst (λ (bs : List Batch). AreBatches at.0 bs end) rest at.1 in
          let wrote : Appends (contents c.loop-index.out) (contents c.write_all.new.self) c.in-Some.text.items =
          subst (Appends (contents c.loop-index.out) (contents c.write_all.new.self)) c.deref.ensures.value
          c.in_ok-write_all-in-Some.ensures.bytes in (
            at.0 + b.0.count,
            pieces.1,
            more_written c.args.self.now.shared.now c.args.self.now.jobs.now at.0 b.0 c.in-Some.text.items old (contents c.loop-index.out)
                (contents c.write_all.new.self) pieces.0 (c.requires.right k b.0 (Some c.in-Some.text) b.1 text) at.2 wrote,
          );
    }

pub returns-in-None-clause-part : goal.returns-in-None-clause-part
returns-in-None-clause-part g c = λ first end old are was program shapes contexts runs.
    let at = c.loop-index.invariant.kept first end old are was in (
      at.0,
      batches_up at.0 end (drop c.loop-index.index c.args.batches.now) at.1,
      at.2 program shapes contexts runs,
    )

pub returns-clause-written : goal.returns-clause-written
returns-clause-written g c = λ first end old are was.
    let at = c.loop-index.invariant.kept first end old are was in
    let none = drop_of_length-le c.args.batches.now {i = c.loop-index.index} (omega (arith, c.requires.long)) in
    let same : at.0 ≡ end = subst (λ (bs : List Batch). AreBatches at.0 bs end) none at.1 in
    subst (λ (n : ℕ). HasWritten c.args.self.now.shared.now c.args.self.now.jobs.now n old (g.W.Write.contents c.loop-index.out)) same at.2
