use Rattle.bpf_model.proofs.Prelude.{◌∙◌, ◌<◌, List, Bool, sym, ap, subst, arith, slice_set, false}
use Rattle.element_store.proofs.Prelude.{GraceState, IsGrace, grace_state_of}
use Rattle.bpf_model.specs.declared.limits.TheConstants.{MAX_RUNS}
use Rattle.element_store.proofs.Depths.{opened-now, unawaited-after}
use Rattle.element_store.proofs.grace.Grace.close_all.Goals as goal

pub invariant_of-self : goal.invariant_of-self
invariant_of-self c =
    let s = c.index-slot.result in
    let g : GraceState = grace_state_of c.self.inside.depths c.self.inside.awaited in
    let within : s < MAX_RUNS = subst (λ k. k < MAX_RUNS) (sym c.index-slot.ensures) c.requires in (
      subst (λ (fs : List Bool). IsGrace (grace_state_of (slice_set c.self.inside.depths s 0) fs))
          (sym c.remove-2.ensures) (unawaited-after g c.self.invariant.0 s 0 within (search arith)),
      c.remove.ensures ∙ (ap (λ os. slice_set os s false) c.self.invariant.1 ∙ sym (opened-now g c.self.invariant.0 s 0 within)),
    )
