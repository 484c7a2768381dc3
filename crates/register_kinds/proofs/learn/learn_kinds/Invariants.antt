use Rattle.bpf_model.proofs.Prelude.{◌≡◌, ℕ, ◌<◌, ◌≤◌}
use Rattle.register_kinds.proofs.Prelude.{kind_at, kind_in, learnt_kind, IsBelow}
use Rattle.register_kinds.proofs.learn.learn_kinds.Given as goal

abbrev pub invariant-loop-i : goal.invariant-loop-i
invariant-loop-i l = record {
  done : (r : ℕ) → r < l.i → kind_at l.kinds r ≡ learnt_kind l.lesson (kind_at l.fn.kinds r);
  below : (r : ℕ) → r < l.i → (top : ℕ) → IsBelow top (kind_at l.fn.kinds r) → IsBelow top (kind_at l.kinds r);
  rest : (r : ℕ) → l.i ≤ r → kind_in l.kinds r ≡ kind_in l.fn.kinds r;
}
