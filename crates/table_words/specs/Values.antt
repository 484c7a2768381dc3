-- Whose the values of an element are, and where they lie in it: one that all readers share, or one for each reader, one
-- behind another, as in the per-CPU maps of Linux (Documentation/bpf/map_hash.rst, "BPF_MAP_TYPE_PERCPU_HASH").
use Rattle.std.specs.Prelude.{ℕ, suc, ◌+◌, ◌-◌, ◌*◌, ◌/◌}
use Rattle.table_words.specs.declared.view.Values.{Values}
use Rattle.table_words.specs.declared.view.Values.TheVariants.{Shared, PerReader}
use Rattle.table_words.specs.declared.view.TableShape.{TableShape}

-- how many values an element has
abbrev pub copies_by : Values → TableShape → ℕ
copies_by Shared k = 1
copies_by PerReader k = k.readers

abbrev pub copies_of : TableShape → ℕ
copies_of k = copies_by k.values k

-- how many words all values of an element have
abbrev pub stored_of : TableShape → ℕ
stored_of k = k.value_words * copies_of k

-- the place of the first word of a reader's value
abbrev pub first_by : Values → TableShape → ℕ → ℕ
first_by Shared k who = k.key_words
first_by PerReader k who = k.key_words + (who - 1) * k.value_words

abbrev pub first_of : TableShape → ℕ → ℕ
first_of k who = first_by k.values k who

-- the one reader whose value has the place, which is behind the key, or 0 where it is all readers'
abbrev pub owner_by : Values → TableShape → ℕ → ℕ
owner_by Shared k place = 0
owner_by PerReader k place = suc ((place - k.key_words) / k.value_words)

abbrev pub owner_of : TableShape → ℕ → ℕ
owner_of k place = owner_by k.values k place
