-- A number that was written is read back.
use Rattle.bpf_model.proofs.Prelude.{◌≡◌, ℕ, zero, suc, ◌+◌, ◌*◌, ◌/◌, ◌%◌, ◌^◌, ◌<◌, ◌≤◌, refl, sym, ap, ◌∙◌, arith, List, length, Option, Some, slice_get}
use Rattle.bpf_model.proofs.Prelude.{slice_set, pow-suc, number_at, with_bytes, ◌>>=◌, length-with_bytes, get-below, get-set_there, get-set_other}

pub number-alike : (f g : ℕ → Option ℕ) (at width : ℕ) → ((k : ℕ) → at ≤ k → f k ≡ g k) → number_at f at width ≡ number_at g at width
number-alike f g at zero h = refl
number-alike f g at (suc n) h =
    ap (λ o. o >>= λ low. number_at f (suc at) n >>= λ high. Some (low + 256 * high)) (h at (omega arith))
    ∙ ap (λ o. g at >>= λ low. o >>= λ high. Some (low + 256 * high)) (number-alike f g (suc at) n (λ k l. h k (omega (arith, l))))

pub number-back : (width at n : ℕ) (bytes : List ℕ) → at + width ≤ length bytes → n < 256 ^ width →
    number_at (slice_get (with_bytes at width n bytes)) at width ≡ Some n
number-back zero at n bytes l h = let e : n ≡ 0 = omega (arith, h) in ap Some (sym e)
number-back (suc w) at n bytes l h =
    let rest = with_bytes (suc at) w (n / 256) bytes in
    let all = slice_set rest at (n % 256) in
    let long : length rest ≡ length bytes = length-with_bytes (suc at) w (n / 256) bytes in
    let there = get-below rest at (omega (arith, long, l)) in
    let first : slice_get all at ≡ Some (n % 256) = get-set_there rest at there.0 (n % 256) there.1 in
    let small : n / 256 < 256 ^ w = (let p : 256 ^ suc w ≡ 256 ^ w * 256 = pow-suc 256 w in omega (arith, h, p)) in
    let more : number_at (slice_get all) (suc at) w ≡ Some (n / 256) =
    number-alike (slice_get all) (slice_get rest) (suc at) w
    (λ k m. get-set_other rest at k (n % 256) (λ e. omega (arith, m, e))) ∙
    number-back w (suc at) (n / 256) bytes (omega (arith, l)) small in
    ap (λ o. o >>= λ low. number_at (slice_get all) (suc at) w >>= λ high. Some (low + 256 * high)) first
    ∙ ap (λ o. o >>= λ high. Some (n % 256 + 256 * high)) more
    ∙ ap Some (omega arith)
