-- How large a table may be, and how far apart its section words lie.
use Rattle.std.specs.Prelude.{ℕ, ◌^◌}

-- the most readers of a table
abbrev pub most_readers : ℕ
most_readers = 64

-- the most elements of a table
abbrev pub most_elements : ℕ
most_elements = 2 ^ 24

-- the most buckets of a table
abbrev pub most_buckets : ℕ
most_buckets = 2 ^ 24

-- the most words of a key, and the most of a value
abbrev pub most_words : ℕ
most_words = 8

-- how many words lie from the section word of a reader to that of the next
abbrev pub section_stride : ℕ
section_stride = 520
