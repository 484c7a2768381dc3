use Rattle.bpf_model.proofs.Prelude.{◌<◌, ◌++◌, ◌∷◌, [], length, sym, ap, ◌∙◌, arith, inl, inr, false, drop, ◌+◌, slice_index_or, slice_get-get_or, cases_lt}
use Rattle.bpf_model.proofs.Prelude.{still_open}
use Rattle.reference_model.proofs.Flags.{flags-more, flags-first, flags-second}
use Rattle.reference_model.proofs.grace.still_open.Goals as goal

pub loop-r-preserved : goal.loop-r-preserved
loop-r-preserved c =
    let xs = c.args.awaited.now in
    let ys = c.args.opened.now in
    let r = c.loop-r.r in
    let a = slice_index_or xs r false in
    let b = slice_index_or ys r false in
    let first : r < length xs = omega (arith, c.loop-r-test.true, c.min-r-end.ensures) in
    let second : r < length ys = omega (arith, c.loop-r-test.true, c.min-r-end.ensures) in
    let pushed = c.in_ok-push.ensures.items ∙ ap (λ f. c.loop-r.flags.items ++ f ∷ []) c.both.ensures in
    c.loop-r.invariant ∙ flags-more xs ys c.loop-r.flags.items r a b (slice_get-get_or xs r false first)
    (slice_get-get_or ys r false second) ∙ ap (λ l. l ++ still_open (drop (r + 1) xs) (drop (r + 1) ys))
    (sym pushed)

pub returns : goal.returns
returns c =
    let xs = c.args.awaited.now in
    let ys = c.args.opened.now in
    let r = c.loop-r.r in
    elim (cases_lt r (length xs)) [
      | inl h ↦ sym (c.loop-r.invariant ∙ flags-second xs ys c.loop-r.flags.items r (omega (arith, c.loop-r-test.false, c.min-r-end.ensures)))
      | inr h ↦ sym (c.loop-r.invariant ∙ flags-first xs ys c.loop-r.flags.items r (omega arith))
    ]
