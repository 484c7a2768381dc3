use Rattle.bpf_model.proofs.Prelude.{rules}
use Rattle.program_files.proofs.Heads.{context_made}
use Rattle.program_files.proofs.head.Head.without_maps.Goals as goal

pub invariant_of-result : goal.invariant_of-result
invariant_of-result c =
    context_made c.args.ctx_len c.in_ok-from_slice.field-0.items c.new.result c.requires (search rules) c.new.ensures.names c.new.ensures.maps
