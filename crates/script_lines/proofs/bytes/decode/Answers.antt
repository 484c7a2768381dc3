use Rattle.bpf_model.proofs.Prelude.{sym, ◌∙◌}
use Rattle.script_lines.proofs.HexLaws.{decoded}
use Rattle.script_lines.proofs.bytes.decode.Goals as goal

pub returns-then-not-is_dash : goal.returns-then-not-is_dash
returns-then-not-is_dash c =
    decoded c.args.word.now c.args.out.now c.decode_to_slice-done.new.out c.decode_to_slice-done.result
    (sym c.is_dash.ensures ∙ c.if-not-is_dash.true) c.requires c.decode_to_slice-done.ensures.value
