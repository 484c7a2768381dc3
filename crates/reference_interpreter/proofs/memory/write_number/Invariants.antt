use Rattle.bpf_model.proofs.Prelude.{◌≡◌, ℕ, ◌-◌, ◌/◌, ◌%◌, ◌^◌, if◌then◌else◌, is_within}
use Rattle.bpf_model.specs.declared.value.Cell.TheVariants.{Byte}
use Rattle.reference_interpreter.specs.Plain.{cells_of}
use Rattle.reference_interpreter.proofs.memory.write_number.Given as goal

abbrev pub invariant-loop-i : goal.invariant-loop-i
invariant-loop-i l = record {
  rest : l.rest ≡ l.n / 256 ^ l.i;
  cells : (j : ℕ) → cells_of l.frame j ≡ (if is_within l.at l.i j then Byte (l.n / 256 ^ (j - l.at) % 256) else cells_of l.fn.frame j);
}
