-- How many states wait.
use Rattle.bpf_model.proofs.Prelude.{◌≡◌, ℕ, zero, suc, ◌+◌, ◌<◌, ◌≤◌, List, [], ◌∷◌, length, arith, ap, ◌-◌, slice_index_or, slice_set, max}
use Rattle.bpf_model.proofs.Prelude.{le-max_left, le-max_right, max-le, length-set, sum_by-cons}
use Rattle.verifier.proofs.Prelude.{occupied, states_in, AreStatesCounted}
use Rattle.verifier.specs.declared.waiting.Waiting.{Waiting}
use Rattle.verifier.specs.declared.waiting.Waiting.TheVariants.{Nothing, Known, Differing}

pub at_most_one : (w : Waiting) → occupied w ≤ 1
at_most_one Nothing = omega arith
at_most_one (Known b) = omega arith
at_most_one Differing = omega arith

pub no_more_than_length : (ws : List Waiting) → states_in ws ≤ length ws
no_more_than_length [] = omega arith
no_more_than_length (w ∷ ws) = omega (arith, sum_by-cons occupied w ws, no_more_than_length ws, at_most_one w)

-- where nothing waits for one instruction
pub room_for_one : (ws : List Waiting) (i : ℕ) → i < length ws → slice_index_or ws i Nothing ≡ Nothing → states_in ws + 1 ≤ length ws
room_for_one [] i h e = absurd (omega arith)
room_for_one (w ∷ ws) zero h e =
    let none : occupied w ≡ 0 = ap occupied e in
    omega (arith, sum_by-cons occupied w ws, no_more_than_length ws, none)
room_for_one (w ∷ ws) (suc i) h e = omega (arith, sum_by-cons occupied w ws, at_most_one w, room_for_one ws i (omega arith) e)

pub index_counted : (ws : List Waiting) (i : ℕ) → i < length ws → occupied (slice_index_or ws i Nothing) ≤ states_in ws
index_counted [] i h = absurd (omega arith)
index_counted (w ∷ ws) zero h = omega (arith, sum_by-cons occupied w ws)
index_counted (w ∷ ws) (suc i) h = omega (arith, sum_by-cons occupied w ws, index_counted ws i (omega arith))

pub set_counted : (ws : List Waiting) (i : ℕ) (w : Waiting) → i < length ws →
    states_in (slice_set ws i w) + occupied (slice_index_or ws i Nothing) ≡ states_in ws + occupied w
set_counted [] i w h = absurd (omega arith)
set_counted (v ∷ ws) zero w h = omega (arith, sum_by-cons occupied v ws, sum_by-cons occupied w ws)
set_counted (v ∷ ws) (suc i) w h = omega (arith, sum_by-cons occupied v ws, sum_by-cons occupied v (slice_set ws i w), set_counted ws i w (omega arith))

-- what waits at one index changes
pub counted_set : (ws : List Waiting) (i : ℕ) (w : Waiting) (len peak before after new : ℕ) → i < length ws →
    AreStatesCounted ws len peak → before ≡ occupied (slice_index_or ws i Nothing) → after ≡ occupied w →
    new ≡ max peak (len - before + after)
    → AreStatesCounted (slice_set ws i w) (len - before + after) new
counted_set ws i w len peak before after new h c b a e =
    let count : len - before + after ≡ states_in (slice_set ws i w) = omega (arith, c.count, b, a, index_counted ws i h, set_counted ws i w h) in
    let inside : len - before + after ≤ length ws = omega (arith, count, no_more_than_length (slice_set ws i w), length-set ws i w) in
    record {
      count = count;
      some = omega (arith, e, c.some, le-max_left peak (len - before + after));
      most = omega (arith, e, le-max_right peak (len - before + after));
      few = (let l : max peak (len - before + after) ≤ length ws = max-le c.few inside in omega (arith, e, l, length-set ws i w));
    }
