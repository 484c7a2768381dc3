use Rattle.bpf_model.proofs.Prelude.{◌∙◌}
use Rattle.host_programs.proofs.Laid.{written}
use Rattle.host_programs.proofs.packet.fill_context.Goals as goal

pub returns : goal.returns
returns c =
    written c.args.packet.now c.args.wire c.min-seen.result c.copy_from_slice.new.self c.copy_from_slice-2.new.self c.copy_from_slice-3.new.self
    c.args.context.now c.are_bytes.ensures c.ranges.wire.fits c.min-seen.ensures (c.copy_from_slice.ensures.after ∙ c.to_le_bytes.ensures)
    (c.copy_from_slice-2.ensures.after ∙ c.to_le_bytes-2.ensures) c.copy_from_slice-3.ensures.after (c.told-context)
