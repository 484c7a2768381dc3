-- Bytes of one word.
use Rattle.bpf_model.proofs.Prelude.{◌≡◌, ℕ, ◌+◌, ◌*◌, ◌/◌, ◌%◌, ◌^◌, ◌<◌, ◌≤◌, arith, mod-lt, byte_count}
use Rattle.model_laws.proofs.Prelude.{Width}
use Rattle.bpf_model.specs.declared.opcode.Width.TheVariants as widths
use Rattle.shared_runs.specs.Words.{part_of}

pub some-bytes : (width : Width) → 0 < byte_count width
some-bytes widths.One = omega arith
some-bytes widths.Two = omega arith
some-bytes widths.Four = omega arith
some-bytes widths.Eight = omega arith

-- what is aligned lies in one word
pub in-word : (width : Width) (at : ℕ) → at % byte_count width ≡ 0 → at % 8 + byte_count width ≤ 8
in-word widths.One at e = omega arith
in-word widths.Two at e = omega (arith, e)
in-word widths.Four at e = omega (arith, e)
in-word widths.Eight at e = omega (arith, e)

pub part-below : (x low : ℕ) (width : Width) → part_of x low (byte_count width) < 256 ^ byte_count width
part-below x low widths.One = mod-lt (x / 2 ^ (8 * low)) (omega arith)
part-below x low widths.Two = mod-lt (x / 2 ^ (8 * low)) (omega arith)
part-below x low widths.Four = mod-lt (x / 2 ^ (8 * low)) (omega arith)
part-below x low widths.Eight = mod-lt (x / 2 ^ (8 * low)) (omega arith)
