use Rattle.bpf_model.proofs.Prelude.{◌∙◌, ◌+◌, ◌-◌, ◌%◌, ◌/◌, ◌^◌, ◌≡◌, ℕ, ap, arith}
use Rattle.bpf_model.specs.declared.value.Cell.TheVariants.{Byte}
use Rattle.reference_interpreter.proofs.Numbers.{div_step}
use Rattle.reference_interpreter.proofs.Laws.{cells_more}
use Rattle.reference_interpreter.proofs.memory.write_number.Goals as goal

pub loop-i-preserved : goal.loop-i-preserved
loop-i-preserved c =
    let k : c.loop-i.i ≡ c.args.at + c.loop-i.i - c.args.at = omega arith in
    record {
      rest = ap (λ r. r / 256) c.loop-i.invariant.rest ∙ div_step c.args.n c.loop-i.i;
      cells = cells_more c.loop-i.frame c.args.frame.now (λ j. Byte (c.args.n / 256 ^ (j - c.args.at) % 256))
          c.args.at c.loop-i.i (Byte (c.loop-i.rest % 256)) (omega arith)
          (ap (λ r. Byte (r % 256)) c.loop-i.invariant.rest ∙ ap (λ (i : ℕ). Byte (c.args.n / 256 ^ i % 256)) k) c.loop-i.invariant.cells;
    }
