use Rattle.bpf_model.proofs.Prelude.{rules, ◌≡◌, ◌∙◌, ◌<◌, Some, length, refl, ap, below_more, slice_get, slice_get_read}
use Rattle.run_once.specs.Once.{done}
use Rattle.run_once.proofs.once.first_not_done.Goals as goal

pub loop-number-preserved : goal.loop-number-preserved
loop-number-preserved c =
    let given = c.args.answers.now in
    let n = c.loop-number.number in
    let answer = c.index-answers-number.result in
    let inside : n < length given = search rules in
    let there : slice_get given n ≡ Some answer = slice_get_read given (length given) n answer refl inside c.index-answers-number.is in
    let done_here : answer ≡ done = c.is_done.ensures.0 (search rules) in
    below_more _ n c.loop-number.invariant (there ∙ ap Some done_here)
