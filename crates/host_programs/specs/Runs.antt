-- What a run of an open program gives.
use Rattle.std.specs.Prelude.{◌≡◌, ◌≤◌, ◌*◌, ℕ, List, length, Option, Some, None, slice_get, take, drop}
use Rattle.bpf_model.specs.Exit.{ExitsWith}
use Rattle.classic_program.specs.declared.data.Data.TheVariants.{Packet}
use Rattle.classic_program.specs.Context.{IsContext, IsPacketContext}
use Rattle.classic_program.specs.Machine.{Input, Filters}
use Rattle.classic_program.specs.WellFormed.{Checked as Classic}
use Rattle.shared_runs.specs.Lone.{loaded_alone}
use Rattle.verifier.specs.Checked.{Checked}
use Rattle.host_programs.specs.Opened.{OpenProgram}
use Rattle.host_programs.specs.Packets.{seen_of}
use Rattle.host_programs.specs.declared.packet.PacketAt.{PacketAt}

-- Each run of the program on the context exits with this number, after at most as many steps as it has instructions.
pub record ExitsAs (v : Checked) (context : List ℕ) (n : ℕ) : Type 0 where
  pub steps : ℕ
  pub exits : ExitsWith (loaded_alone v) context steps n
  pub bounded : steps ≤ length v.program

-- The classic program returns this number of each input whose context this is.
abbrev pub ReturnsOn : Option Classic → List ℕ → ℕ → Type 0
ReturnsOn None context n = Unit {0}
ReturnsOn (Some c) context n = (p : Input) → IsContext c.kind p context → Filters c.kind c.instructions p n

-- The classic program, where it is one of packets, returns this number of the input.
abbrev pub Returns : Option Classic → Input → ℕ → Type 0
Returns None p n = Unit {0}
Returns (Some c) p n = c.kind ≡ Packet → Filters Packet c.instructions p n

-- Each run of the program on a context of the packet exits with this number.
pub record ExitsOnPacket (v : Checked) (p : Input) (n : ℕ) : Type 0 where
  pub context : List ℕ
  pub is : IsPacketContext p context
  pub exits : ExitsAs v context n

-- The program exits on the context with the number, which its classic program returns, where it has one.
pub record Gives (p : OpenProgram) (context : List ℕ) (n : ℕ) : Type 0 where
  pub exits : ExitsAs p.checked context n
  pub returns : ReturnsOn p.classic context n

-- context k of those that stand one behind another, each of so many bytes
abbrev pub context_at : ℕ → ℕ → List ℕ → List ℕ
context_at long k contexts = take long (drop (k * long) contexts)

-- Result k is that of context k.
abbrev pub GivesEach : OpenProgram → List ℕ → List ℕ → Type 0
GivesEach p contexts results = (k n : ℕ) → slice_get results k ≡ Some n →
    Gives p (context_at p.checked.ctx_len k contexts) n

-- The program exits on the packet with the number, which its classic program returns, where that is one of packets.
pub record GivesOnPacket (p : OpenProgram) (packet : Input) (n : ℕ) : Type 0 where
  pub exits : ExitsOnPacket p.checked packet n
  pub returns : Returns p.classic packet n

-- Result k is that of packet k.
abbrev pub GivesEachPacket : OpenProgram → List ℕ → List PacketAt → List ℕ → Type 0
GivesEachPacket p bytes packets results = (k n : ℕ) (packet : PacketAt) → slice_get packets k ≡ Some packet →
    slice_get results k ≡ Some n → GivesOnPacket p (seen_of bytes packet) n
