-- What the calls on programs say of the values that handles hold.
use Rattle.std.specs.Prelude.{◌≡◌, ◌*◌, ℕ, List, length}
use Rattle.bpf_model.specs.Exit.{HasNoMaps}
use Rattle.classic_program.specs.Context.{context_bytes}
use Rattle.classic_program.specs.declared.data.Data.TheVariants.{Packet}
use Rattle.host_programs.specs.Opened.{OpenProgram}
use Rattle.host_programs.specs.Packets.{AreInside}
use Rattle.host_programs.specs.declared.packet.PacketAt.{PacketAt}

-- The program names no map, and the context has its length.
pub record CanRunOn (p : OpenProgram) (context : List ℕ) : Type 0 where
  pub alone : HasNoMaps p.checked.program
  pub long : length context ≡ p.checked.ctx_len

-- The same of so many contexts, one behind another.
pub record CanRunOnEach (p : OpenProgram) (contexts : List ℕ) (count : ℕ) : Type 0 where
  pub alone : HasNoMaps p.checked.program
  pub long : length contexts ≡ count * p.checked.ctx_len

-- The program names no map, and its context is one of packets.
pub record CanRunOnPackets (p : OpenProgram) : Type 0 where
  pub alone : HasNoMaps p.checked.program
  pub packets : p.checked.ctx_len ≡ context_bytes Packet

-- The same, with as many values as packets, each of which lies among the bytes.
pub record CanRunOnAll (p : OpenProgram) (bytes : List ℕ) (packets : List PacketAt) (count : ℕ) : Type 0 where
  pub runs : CanRunOnPackets p
  pub count_is : length packets ≡ count
  pub inside : AreInside (length bytes) packets
