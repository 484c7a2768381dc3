use Rattle.bpf_model.proofs.Prelude.{◌≡◌, ℕ, ◌+◌, ◌≤◌, ◌^◌, ℤ, pos, subst, ◌+ℤ◌, to_z-of_z, byte_count}
use Rattle.scalar_domain.proofs.Prelude.{Holds}
use Rattle.std.proofs.Common.{w16}
use Rattle.effects.proofs.Within.{always_inside}
use Rattle.effects.proofs.offset.check_within.Goals as goal

pub returns-clause-inside : goal.returns-clause-inside
returns-clause-inside c =
    let s = c.args.offsets in
    let by = c.shifted_up-by.result in
    let is : pos by ≡ c.args.offset +ℤ pos (2 ^ 15) = subst (λ (z : ℤ). pos by ≡ z +ℤ pos (2 ^ 15))
    (to_z-of_z w16 c.args.offset c.ranges.offset) c.shifted_up-by.ensures.value in
    let end : (n : ℕ) → Holds s n → n + by + byte_count c.args.width ≤ c.args.len + (2 ^ 29 + 2 ^ 15) =
    subst (λ b. (n : ℕ) → Holds s n → n + by + b ≤ c.args.len + (2 ^ 29 + 2 ^ 15)) c.bytes.ensures.value
    c.in_ok-check_bounds.ensures.end in
    always_inside s c.args.width c.args.offset c.args.len by is c.in_ok-check_bounds.ensures.start end c.in_ok-check_aligned.ensures.aligned
