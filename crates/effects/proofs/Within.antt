-- Where accesses lie at each offset of a set.
use Rattle.bpf_model.proofs.Prelude.{◌≡◌, ℕ, ◌+◌, ◌-◌, ◌%◌, ◌^◌, ◌≤◌, Some, None, sym, ap, ◌∙◌, ℤ, pos, arith, ◌+ℤ◌, ◌==◌, ◌&&◌, bit_and, if◌then◌else◌, ints}
use Rattle.bpf_model.proofs.Prelude.{le-leb, eq-eqb, and_mod, and_comm, byte_count, region_offset}
use Rattle.model_laws.proofs.Prelude.{Width}
use Rattle.plan_laws.proofs.Prelude.{IsAlwaysInside}
use Rattle.scalar_domain.proofs.Prelude.{Holds}
use Rattle.bpf_model.specs.declared.opcode.Width.TheVariants as widths
use Rattle.scalar_domain.specs.declared.scalar.Scalar.{Scalar}

-- low bits of which each is known
low-known : (t n may must : ℕ) → bit_and n may ≡ n → bit_and must n ≡ must → may % 2 ^ t ≡ must % 2 ^ t → n % 2 ^ t ≡ must % 2 ^ t
low-known t n may must z o e =
    ap (λ x. x % 2 ^ t) (sym z) ∙ (and_mod n may t ∙ (ap (bit_and (n % 2 ^ t)) e ∙ (sym (and_mod n must t) ∙ ap (λ x. x % 2 ^ t) (and_comm n must ∙ o))))

pub same_remainder : (width : Width) (s : Scalar) (n : ℕ) → Holds s n →
    s.may % byte_count width ≡ s.must % byte_count width → n % byte_count width ≡ s.must % byte_count width
same_remainder widths.One s n h e = low-known 0 n s.may s.must h.zeros h.ones e
same_remainder widths.Two s n h e = low-known 1 n s.may s.must h.zeros h.ones e
same_remainder widths.Four s n h e = low-known 2 n s.may s.must h.zeros h.ones e
same_remainder widths.Eight s n h e = low-known 3 n s.may s.must h.zeros h.ones e

offset_inside : (len width p : ℕ) → p + width ≤ len → p % width ≡ 0 → region_offset len width (pos p) ≡ Some p
offset_inside len width p l e =
    ap (λ b. if b && (p % width == 0) then Some p else None) (le-leb (p + width) len l) ∙ ap (λ b. if b then Some p else None) (eq-eqb (p % width) 0 e)

shifted : (width : Width) (m p : ℕ) → m ≡ p + (2 ^ 29 + 2 ^ 15) → m % byte_count width ≡ 0 → p % byte_count width ≡ 0
shifted widths.One m p e h = omega (arith, e, h)
shifted widths.Two m p e h = omega (arith, e, h)
shifted widths.Four m p e h = omega (arith, e, h)
shifted widths.Eight m p e h = omega (arith, e, h)

pub always_inside : (s : Scalar) (width : Width) (offset : ℤ) (len by : ℕ) → pos by ≡ offset +ℤ pos (2 ^ 15) →
    ((n : ℕ) → Holds s n → 2 ^ 29 + 2 ^ 15 ≤ n + by) →
    ((n : ℕ) → Holds s n → n + by + byte_count width ≤ len + (2 ^ 29 + 2 ^ 15))
    → ((n : ℕ) → Holds s n → (n + by) % byte_count width ≡ 0) → IsAlwaysInside s (byte_count width) offset len
always_inside s width offset len by e start end aligned o h =
    let n : ℕ = h.raised in
    let p : ℕ = (n + by) - (2 ^ 29 + 2 ^ 15) in
    let low : 2 ^ 29 + 2 ^ 15 ≤ n + by = start n h.holds in
    let high : n + by + byte_count width ≤ len + (2 ^ 29 + 2 ^ 15) = end n h.holds in
    let back : n + by ≡ p + (2 ^ 29 + 2 ^ 15) = omega (arith, low) in
    let is : pos n ≡ o +ℤ pos (2 ^ 29) = h.is in
    let sum : (o +ℤ offset) ≡ pos p = omega (arith, ints, is, e, back) in
    let fits : p + byte_count width ≤ len = omega (arith, high, back) in
    (p, ap (region_offset len (byte_count width)) sum ∙ offset_inside len (byte_count width) p fits (shifted width (n + by) p back (aligned n h.holds)))
