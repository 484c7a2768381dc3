-- Which bytes a number is written to, in a frame and in a list.
use Rattle.std.proofs.Common.{◌≡◌, ℕ, zero, suc, ◌+◌, ◌/◌, ◌%◌, ◌<◌, ◌≤◌, refl, ◌∙◌, ap, arith, true, false, List, length}
use Rattle.std.specs.Prelude.{◌&&◌, nat_lt}
use Rattle.std.proofs.lemmas.Bool.{le-leb, lt-leb, lt-ltb, le-ltb}
use Rattle.bpf_model.specs.Frame.{is_within}
use Rattle.bpf_model.specs.Access.{with_bytes}
use Rattle.std.proofs.lemmas.List.{length-set}

pub within : (at width k : ℕ) → at ≤ k → k < at + width → is_within at width k ≡ true
within at width k h l = ap (λ t. t && nat_lt k (at + width)) (le-leb at k h) ∙ lt-ltb k (at + width) l

pub before : (at width k : ℕ) → k < at → is_within at width k ≡ false
before at width k h = ap (λ t. t && nat_lt k (at + width)) (lt-leb at k h)

pub behind : (at width k : ℕ) → at + width ≤ k → is_within at width k ≡ false
behind at width k h = ap (λ t. t && nat_lt k (at + width)) (le-leb at k (omega arith)) ∙ le-ltb k (at + width) h

pub length-with_bytes : (at width n : ℕ) (bytes : List ℕ) → length (with_bytes at width n bytes) ≡ length bytes
length-with_bytes at zero n bytes = refl
length-with_bytes at (suc width) n bytes = length-set (with_bytes (suc at) width (n / 256) bytes) at (n % 256) ∙
    length-with_bytes (suc at) width (n / 256) bytes
