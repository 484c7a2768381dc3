-- All are arguments if those that are left are, and then these are.
use Rattle.bpf_model.proofs.Prelude.{◌≡◌, ◌+◌, drop, signature_of}
use Rattle.effects.proofs.Prelude.{AreArguments}
use Rattle.register_kinds.proofs.Prelude.{state_of}
use Rattle.effects.proofs.arguments.check_arguments.Given as goal

abbrev pub invariant-loop-index : goal.invariant-loop-index
invariant-loop-index l =
    let all = AreArguments l.shapes (state_of l.state) l.shape l.kind-items 1 in
    let left = AreArguments l.shapes (state_of l.state) l.shape (drop l.index l.kind-items) (1 + l.index) in
    (l.kind-items ≡ (signature_of l.fn.helper).arguments) × (left → all) × (all → left)
