use Rattle.std.proofs.Common.{◌≡◌, ◌∙◌, ⊎_elim, inl, inr, sym, subst, arith}
use Rattle.job_queue.specs.Sheet.{HasLine}
use Rattle.job_queue.proofs.Serving.{among_before, among_last, result_of_more}
use Rattle.job_queue.proofs.sheet.Sheet.enter.Goals as goal

pub loop-one-preserved : goal.loop-one-preserved
loop-one-preserved g c =
    let i = c.loop-one.invariant in
    let e = c.put.ensures in
    let xs = c.loop-one.yielded in
    let one = c.in-Some.one in
    record {
      count = e.count ∙ i.count;
      lines = λ k served at. ⊎_elim
          (λ was. ⊎_elim (λ old. inl old) (λ a. inr (among_before xs one k served a)) (i.lines k served was))
          (λ (t : (k ≡ one.number) × (served ≡ one.served)). inr (among_last xs one k served t.0 t.1))
          (e.lines k served at);
      stays = λ k has. e.stays k (i.stays k has);
      entered = λ k low has. ⊎_elim
          (λ old. e.stays k (i.entered k low old))
          (λ (is : k ≡ one.number). subst (HasLine c.put.new.self.lines.items) (sym is)
          (e.put (let n = i.count in omega (arith, is, low, n))))
          (result_of_more xs one k has);
    }
