use Rattle.bpf_model.proofs.Prelude.{◌≢◌, ◌∙◌, Some, sym, ap, arith, below_more, unwrap_or, same_lists, slice_get-get_or, get-set_same, get-set_other}
use Rattle.std.proofs.lemmas.Option.{unwrap_or-slice_get}
use Rattle.register_kinds.proofs.frame.copy_rest.Goals as goal

pub loop-i-init : goal.loop-i-init
loop-i-init g c = c.requires.same

pub loop-i-preserved : goal.loop-i-preserved
loop-i-preserved g c =
    let i = c.loop-i.i in
    let x = c.index-others-i.result in
    let there = slice_get-get_or c.args.others.now i x c.loop-i-test.true ∙ ap Some (sym c.index-others-i.is) in
    below_more _ i
    (λ k h. let ne : k ≢ i = omega arith in get-set_other c.loop-i.items i k x ne ∙ c.loop-i.invariant k h)
    (get-set_same c.loop-i.items i x (omega arith) ∙ sym there)

pub returns : goal.returns
returns g c = same_lists c.loop-i.items c.args.others.now (omega arith)
    (λ k d h. sym (unwrap_or-slice_get c.loop-i.items k d) ∙
    (ap (λ o. unwrap_or o d) (c.loop-i.invariant k (omega arith)) ∙ unwrap_or-slice_get c.args.others.now k d))
