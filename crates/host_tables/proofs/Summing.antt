-- Sums of an element's words, place by place.
use Rattle.bpf_model.proofs.Prelude.{◌≤◌, ◌<◌, ℕ, zero, suc, ◌+◌, List, set, length, refl, sym, subst, arith, ◌++◌}
use Rattle.map_table.proofs.Prelude.{AddsUp, copies_of, TableShape, Move}
use Rattle.std.proofs.Common.{get_or-set_other, get_or-set_same}
use Rattle.host_tables.specs.Tables.{SumsUp}

-- A word that is written behind the first sums changes none of them.
pub sums_before : (k : TableShape) (element n place x : ℕ) (sums : List ℕ) (ms : List Move) → n ≤ place →
    SumsUp k element n sums ms → SumsUp k element n (set sums place x) ms
sums_before k element zero place x sums ms low s = s
sums_before k element (suc n) place x sums ms low s = (
  s.0,
  s.1,
  s.2,
  subst (AddsUp element (k.key_words + n) k.value_words (copies_of k) s.0)
      (sym (get_or-set_other sums place n x 0 (λ e. omega (arith, low, e)))) s.3,
  sums_before k element n place x sums s.1 (omega (arith, low)) s.4,
)

-- One more sum behind the first ones.
pub sums_next : (k : TableShape) (element n x : ℕ) (sums : List ℕ) (ms late : List Move) → n < length sums →
    AddsUp element (k.key_words + n) k.value_words (copies_of k) late x → SumsUp k element n sums ms →
    SumsUp k element (suc n) (set sums n x) (late ++ ms)
sums_next k element n x sums ms late within adds s = (
  late,
  ms,
  refl,
  subst (AddsUp element (k.key_words + n) k.value_words (copies_of k) late) (sym (get_or-set_same sums n x 0 within)) adds,
  sums_before k element n n x sums ms (omega arith) s,
)
