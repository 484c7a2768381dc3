use Rattle.bpf_model.proofs.Prelude.{◌≡◌, ◌+◌, Some, sym, ap, ◌∙◌, arith, true, false, length, refl, is_some, not, lowest_free, slice_get_read}
use Rattle.reference_model.specs.RunState.{runs_of}
use Rattle.reference_model.proofs.BySlot.{later, later-none, lowest-here, lowest-later, lowest-past}
use Rattle.reference_model.proofs.run_slots.lowest_free.Goals as goal

pub loop-r-init : goal.loop-r-init
loop-r-init c = λ programs. later-none (lowest_free (runs_of programs c.args.runs.now))

pub returns-then-is_none : goal.returns-then-is_none
returns-then-is_none c = λ programs.
    let runs = c.args.runs.now in
    let r = c.loop-r.r in
    let x = c.index-runs-r.result in
    let free : is_some x ≡ false = c.is_none.ensures ∙ ap not c.if-is_none.true in
    let zero : 0 + r ≡ r = omega arith in
    ap Some (sym zero) ∙ sym (c.loop-r.invariant programs ∙
    ap (later r) (lowest-here programs runs r x (slice_get_read runs (length runs) r x refl c.loop-r-test.true
    c.index-runs-r.is) free))

pub loop-r-preserved : goal.loop-r-preserved
loop-r-preserved c = λ programs.
    let runs = c.args.runs.now in
    let x = c.index-runs-r.result in
    let taken : is_some x ≡ true = c.is_none.ensures ∙ ap not c.if-is_none.false in
    c.loop-r.invariant programs ∙ lowest-later programs runs c.loop-r.r x
    (slice_get_read runs (length runs) c.loop-r.r x refl c.loop-r-test.true c.index-runs-r.is) taken

pub returns : goal.returns
returns c = λ programs. sym (c.loop-r.invariant programs ∙
    ap (later c.loop-r.r) (lowest-past programs c.args.runs.now c.loop-r.r (omega (arith, c.loop-r-test.false))))
