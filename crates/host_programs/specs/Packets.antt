-- The context of a packet.
use Rattle.std.specs.Prelude.{◌≤◌, ℕ, ◌+◌, List, drop, take}
use Rattle.std.specs.List.{AllByRecursion}
use Rattle.classic_program.specs.Context.{packet_bytes}
use Rattle.classic_program.specs.Machine.{Input}
use Rattle.host_programs.specs.declared.packet.PacketAt.{PacketAt}

-- What a program is given of a packet: its first bytes, as if no more had been captured, and its length on the wire.
abbrev pub seen : List ℕ → ℕ → Input
seen packet wire = record { bytes = take packet_bytes packet; wire = wire }

-- The packet lies among so many bytes.
abbrev pub IsInside : ℕ → PacketAt → Type 0
IsInside count p = p.at + p.captured ≤ count

abbrev pub AreInside : ℕ → List PacketAt → Type 0
AreInside count packets = AllByRecursion (IsInside count) packets

-- the bytes of the packet
abbrev pub bytes_of : List ℕ → PacketAt → List ℕ
bytes_of bytes p = take p.captured (drop p.at bytes)

-- what a program is given of the packet
abbrev pub seen_of : List ℕ → PacketAt → Input
seen_of bytes p = seen (bytes_of bytes p) p.wire
