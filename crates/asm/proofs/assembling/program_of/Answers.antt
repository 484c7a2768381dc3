use Rattle.bpf_model.proofs.Prelude.{rules, arith, ℕ, ◌≡◌, ◌==◌, false, ◌<◌, nat_tests}
use Rattle.asm.proofs.Assembled.{some_slots}
use Rattle.asm.proofs.assembling.program_of.Goals as goal

above_zero : (n m : ℕ) → n ≡ m → false ≡ (n == 0) → 0 < m
above_zero n m e h = grind (arith, nat_tests)

pub from_instructions-requires : goal.from_instructions-requires
from_instructions-requires c = record {
  fits = c.requires;
  some = some_slots c.args.instructions.items (above_zero _ _ (search rules) c.if-is_empty.ensures);
  limit = search rules;
}
