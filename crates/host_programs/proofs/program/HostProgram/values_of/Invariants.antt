use Rattle.bpf_model.proofs.Prelude.{◌≡◌, ◌<◌, ℕ, Some, length, slice_get}
use Rattle.host_programs.specs.Packets.{seen_of}
use Rattle.host_programs.specs.Runs.{GivesOnPacket}
use Rattle.host_programs.specs.declared.packet.PacketAt.{PacketAt}
use Rattle.host_programs.proofs.program.HostProgram.values_of.Given as goal

abbrev pub invariant-loop-at : goal.invariant-loop-at
invariant-loop-at l = (length l.results ≡ length l.packets) × ((k n : ℕ) (packet : PacketAt) → k < l.at →
    slice_get l.packets k ≡ Some packet → slice_get l.results k ≡ Some n → GivesOnPacket l.self (seen_of l.bytes packet) n)
