use Rattle.bpf_model.proofs.Prelude.{◌++◌, [], ◌∷◌, ap, ◌∙◌, arith, length, refl, take_all, open_sections, slice_get_read}
use Rattle.std.specs.Option.{option_map}
use Rattle.reference_model.specs.RunState.{run_of, runs_of}
use Rattle.reference_model.proofs.BySlot.{open-more}
use Rattle.reference_model.proofs.run_slots.open_sections.Goals as goal

pub loop-r-preserved : goal.loop-r-preserved
loop-r-preserved c = λ programs.
    let runs = c.args.runs.now in
    let r = c.loop-r.r in
    let x = c.index-runs-r.result in
    c.in_ok-push_section.ensures programs ∙ ap (λ l. l ++ open_sections (option_map (run_of programs) x ∷ []))
    (c.loop-r.invariant programs) ∙ open-more programs runs r x
    (slice_get_read runs (length runs) r x refl c.loop-r-test.true c.index-runs-r.is)

pub returns : goal.returns
returns c = λ programs.
    let runs = c.args.runs.now in
    c.loop-r.invariant programs ∙ ap (λ rs. open_sections (runs_of programs rs)) (take_all c.loop-r.r runs (omega (arith, c.loop-r-test.false)))
