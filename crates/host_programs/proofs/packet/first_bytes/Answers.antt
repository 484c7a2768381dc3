use Rattle.bpf_model.proofs.Prelude.{ℕ, ap, ◌∙◌, take, take_min}
use Rattle.classic_program.proofs.Prelude.{packet_bytes}
use Rattle.host_programs.proofs.packet.first_bytes.Goals as goal

pub returns-clause-same : goal.returns-clause-same
returns-clause-same c =
    let packet = c.args.packet.now in
    ap (λ (k : ℕ). take k packet) c.min.ensures ∙ take_min packet_bytes packet
