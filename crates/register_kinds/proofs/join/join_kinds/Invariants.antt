use Rattle.bpf_model.proofs.Prelude.{◌≡◌, ℕ, ◌+◌, ◌-◌, ◌<◌, ◌≤◌, length}
use Rattle.register_kinds.proofs.Prelude.{kind_at, kind_in, PairsGrow, IsTable, JoinsKind}
use Rattle.register_kinds.proofs.join.join_kinds.Given as goal

abbrev pub invariant-loop-i : goal.invariant-loop-i
invariant-loop-i l = record {
  done : (r : ℕ) → r < l.i → JoinsKind l.top l.pairs.items (kind_at l.fn.kinds r) (kind_at l.others r) (kind_at l.kinds r);
  rest : (r : ℕ) → l.i ≤ r → kind_in l.kinds r ≡ kind_in l.fn.kinds r;
  table : IsTable l.pairs.items;
  grows : PairsGrow l.fn.pairs.items l.pairs.items;
  few : length l.pairs.items ≤ length l.fn.pairs.items + (l.i - l.from);
}
