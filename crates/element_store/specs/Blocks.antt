-- Byte strings of one length, one behind the other.
use Rattle.std.specs.Prelude.{ℕ, ◌+◌, ◌*◌, List, ◌++◌, length, take, drop}

abbrev pub block : ℕ → ℕ → List ℕ → List ℕ
block len i bytes = take len (drop (i * len) bytes)

-- another string of the same length in place of that of an index
abbrev pub with_block : ℕ → List ℕ → List ℕ → List ℕ
with_block i new bytes =
    take (i * length new) bytes ++ new ++ drop (i * length new + length new) bytes
