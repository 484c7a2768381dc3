use Rattle.bpf_model.proofs.Prelude.{◌≡◌, ◌%◌, ap, sym, ◌∙◌, byte_count}
use Rattle.effects.proofs.Within.{same_remainder}
use Rattle.effects.proofs.offset.remainder.Goals as goal

pub returns-then-offsets-bytes-clause-value : goal.returns-then-offsets-bytes-clause-value
returns-then-offsets-bytes-clause-value c = λ n h.
    let s = c.args.offsets in
    let v : c.bytes-bytes.result ≡ byte_count c.args.width = c.bytes-bytes.ensures.value in
    same_remainder c.args.width s n h (ap (λ b. s.may % b) (sym v) ∙ (c.if-offsets-bytes.true ∙ ap (λ b. s.must % b) v)) ∙ ap (λ b. s.must % b) (sym v)
