use Rattle.bpf_model.proofs.Prelude.{◌≡◌, ◌∙◌, List, Some, ap, map, sym, subst, ◌+◌, take, slice_get, shapes_of}
use Rattle.verifier.proofs.Prelude.{Checked}
use Rattle.world.proofs.Prelude.{program_of}
use Rattle.bpf_model.specs.declared.limits.MapShape.{MapShape}
use Rattle.shared.proofs.Kept.{IsKeptAs, kept-more}
use Rattle.shared.specs.Kept.{AreKept}
use Rattle.shared.proofs.lock.programs_of.Goals as goal

pub loop-number-preserved : goal.loop-number-preserved
loop-number-preserved c =
    let programs = c.args.world.now.programs in
    let among : List MapShape = shapes_of c.args.world.now in
    let number = c.loop-number.number in
    let loaded = c.in-Some.loaded.now in
    let same : c.in_ok-copy-in-Some.field-0 ≡ loaded.verified = c.in_ok-copy-in-Some.ensures.same in
    let at : slice_get programs number ≡ Some (program_of loaded) = ap (slice_get programs) (sym c.new.ensures) ∙ sym c.in-Some.ensures.same in
    let kept : IsKeptAs among c.in_ok-copy-in-Some.field-0 (program_of loaded) = record {
      code = ap (λ (p : Checked). p.program) same;
      context = ap (λ (p : Checked). p.ctx_len) same;
      bound = ap (λ (p : Checked). map Some p.shapes) same ∙ sym c.in-Some.ensures.bound;
    } in
    subst (λ (items : List Checked). AreKept among items (take (number + 1) programs)) (sym c.in_ok-push-in-Some.ensures.items)
    (kept-more among c.loop-number.programs.items programs number c.in_ok-copy-in-Some.field-0 (program_of loaded) c.loop-number.invariant at kept)
