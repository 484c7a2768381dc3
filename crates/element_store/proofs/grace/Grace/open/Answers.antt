use Rattle.bpf_model.proofs.Prelude.{◌≡◌, ◌∙◌, ◌+◌, ◌<◌, ◌≤◌, sym, ap, subst, arith, slice_set, true}
use Rattle.element_store.proofs.Prelude.{GraceState, depth_at, grace_state_of, is_open_depth, opened_in}
use Rattle.bpf_model.specs.declared.limits.TheConstants.{MAX_DEPTH, MAX_RUNS}
use Rattle.element_store.proofs.Depths.{opened-now, opened-stays, inside-after}
use Rattle.element_store.proofs.grace.Grace.open.Goals as goal

pub invariant_of-self : goal.invariant_of-self
invariant_of-self c =
    let s = c.index-slot.result in
    let g : GraceState = grace_state_of c.self.inside.depths c.self.inside.awaited in
    let within : s < MAX_RUNS = subst (λ k. k < MAX_RUNS) (sym c.index-slot.ensures) c.requires.run in
    let d = depth_at g s + 1 in
    let first : d ≡ 1 = ap (λ n. n + 1) c.if-depth-eq0.true in
    let deep : d ≤ MAX_DEPTH = omega (arith, first) in
    let opened : c.insert.new.self ≡ slice_set (opened_in g) s true = c.insert.ensures ∙ ap (λ os. slice_set os s true) c.self.invariant.1 in (
      inside-after g c.self.invariant.0 s d within deep (omega arith),
      opened ∙ (ap (λ n. slice_set (opened_in g) s (is_open_depth n)) (sym first) ∙ sym (opened-now g c.self.invariant.0 s d within)),
    )

pub invariant_of-self-else-depth-eq0 : goal.invariant_of-self-else-depth-eq0
invariant_of-self-else-depth-eq0 c =
    let s = c.index-slot.result in
    let g : GraceState = grace_state_of c.self.inside.depths c.self.inside.awaited in
    let within : s < MAX_RUNS = subst (λ k. k < MAX_RUNS) (sym c.index-slot.ensures) c.requires.run in
    let d = depth_at g s + 1 in
    let room : depth_at g s < MAX_DEPTH = subst (λ k. depth_at g k < MAX_DEPTH) (sym c.index-slot.ensures)
    (subst (λ (x : GraceState). depth_at x c.args.run < MAX_DEPTH) (sym c.self.view_is) c.requires.depth) in
    let deep : d ≤ MAX_DEPTH = omega (arith, room) in
    let some : 0 < depth_at g s = omega (arith, c.if-depth-eq0.false) in (
      inside-after g c.self.invariant.0 s d within deep (omega arith),
      c.self.invariant.1 ∙ sym (opened-stays g c.self.invariant.0 s d within some (omega arith)),
    )
