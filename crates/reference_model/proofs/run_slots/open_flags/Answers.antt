use Rattle.bpf_model.proofs.Prelude.{◌≡◌, ◌++◌, ◌∷◌, [], Some, map, sym, ap, ◌∙◌, arith, length, refl, slice_get, drop, ◌+◌, length-map, is_open}
use Rattle.bpf_model.proofs.Prelude.{slice_get_read, get-map}
use Rattle.std.specs.Option.{option_map}
use Rattle.reference_model.specs.RunState.{runs_of, run_of}
use Rattle.reference_store.proofs.Lists.{mapped-more, mapped-all}
use Rattle.reference_model.proofs.run_slots.open_flags.Goals as goal

pub loop-r-preserved : goal.loop-r-preserved
loop-r-preserved c = λ programs.
    let runs = c.args.runs.now in
    let r = c.loop-r.r in
    let x = c.index-runs-r.result in
    let there : slice_get (runs_of programs runs) r ≡ Some (option_map (run_of programs) x) =
    get-map (option_map (run_of programs)) runs r x
    (slice_get_read runs (length runs) r x refl c.loop-r-test.true c.index-runs-r.is) in
    let pushed = c.in_ok-push.ensures.items ∙ ap (λ b. c.loop-r.flags.items ++ b ∷ []) (c.is_inside.ensures programs) in
    c.loop-r.invariant programs ∙ mapped-more is_open (runs_of programs runs) c.loop-r.flags.items r
    (option_map (run_of programs) x) there ∙ ap (λ l. l ++ map is_open (drop (r + 1) (runs_of programs runs)))
    (sym pushed)

pub returns : goal.returns
returns c = λ programs.
    let runs = c.args.runs.now in
    sym (c.loop-r.invariant programs ∙ mapped-all is_open (runs_of programs runs) c.loop-r.flags.items c.loop-r.r
    (omega (arith, length-map runs (option_map (run_of programs)), c.loop-r-test.false)))
