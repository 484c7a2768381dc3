-- How large a table may be.
use Rattle.std.specs.Prelude.{ℕ}

-- the most slots of a table
abbrev pub most_table_slots : ℕ
most_table_slots = 256

-- the most readers of a table
abbrev pub most_readers : ℕ
most_readers = 8

-- how many bytes a word has
abbrev pub word_bytes : ℕ
word_bytes = 8

-- the longest key and the longest value, in bytes
abbrev pub most_table_bytes : ℕ
most_table_bytes = 64
