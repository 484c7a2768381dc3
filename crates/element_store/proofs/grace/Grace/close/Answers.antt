use Rattle.bpf_model.proofs.Prelude.{◌≡◌, ◌∙◌, ◌-◌, ◌<◌, ◌≤◌, List, Bool, sym, ap, subst, arith, slice_set, false}
use Rattle.element_store.proofs.Prelude.{GraceState, IsGrace, depth_at, grace_state_of, is_open_depth, opened_in}
use Rattle.bpf_model.specs.declared.limits.TheConstants.{MAX_DEPTH, MAX_RUNS}
use Rattle.element_store.proofs.Depths.{opened-now, opened-stays, inside-after, unawaited-after}
use Rattle.element_store.proofs.grace.Grace.close.Goals as goal

pub invariant_of-self : goal.invariant_of-self
invariant_of-self c =
    let s = c.index-slot.result in
    let g : GraceState = grace_state_of c.self.inside.depths c.self.inside.awaited in
    let within : s < MAX_RUNS = subst (λ k. k < MAX_RUNS) (sym c.index-slot.ensures) c.requires.run in
    let d = depth_at g s - 1 in
    let last : d ≡ 0 = ap (λ n. n - 1) c.if-depth-eq1.true in
    let deep : d ≤ MAX_DEPTH = omega (arith, last) in
    let opened : c.remove.new.self ≡ slice_set (opened_in g) s false = c.remove.ensures ∙ ap (λ os. slice_set os s false) c.self.invariant.1 in (
      subst (λ (fs : List Bool). IsGrace (grace_state_of (slice_set c.self.inside.depths s d) fs))
          (sym c.remove-then-depth-eq1.ensures) (unawaited-after g c.self.invariant.0 s d within deep),
      opened ∙ (ap (λ n. slice_set (opened_in g) s (is_open_depth n)) (sym last) ∙ sym (opened-now g c.self.invariant.0 s d within)),
    )

pub invariant_of-self-else-depth-eq1 : goal.invariant_of-self-else-depth-eq1
invariant_of-self-else-depth-eq1 c =
    let s = c.index-slot.result in
    let g : GraceState = grace_state_of c.self.inside.depths c.self.inside.awaited in
    let within : s < MAX_RUNS = subst (λ k. k < MAX_RUNS) (sym c.index-slot.ensures) c.requires.run in
    let d = depth_at g s - 1 in
    let some : 0 < depth_at g s = subst (λ k. 0 < depth_at g k) (sym c.index-slot.ensures)
    (subst (λ (x : GraceState). 0 < depth_at x c.args.run) (sym c.self.view_is) c.requires.depth) in
    let more : 0 < d = omega (arith, some, c.if-depth-eq1.false) in
    let deep : d ≤ MAX_DEPTH = omega (arith, c.self.invariant.0.deep s) in (
      inside-after g c.self.invariant.0 s d within deep more,
      c.self.invariant.1 ∙ sym (opened-stays g c.self.invariant.0 s d within some more),
    )
