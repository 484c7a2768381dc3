-- A table as runs see it.
use Rattle.std.specs.Prelude.{◌+◌}
use Rattle.read_table.specs.declared.view.Move.{Move}
use Rattle.read_table.specs.declared.view.Move.TheVariants.{Open, Close, Load, Store}
use Rattle.read_table.specs.declared.view.TableShape.{TableShape}
use Rattle.read_table.specs.History.{IsLearnt, inside}
use Rattle.read_table.specs.Lookups.{AnswersLookup, IsBrief, OnlySearches}
use Rattle.shared_runs.specs.Tables.{Table}
use Rattle.shared_runs.specs.Words.{HasLengths}

-- Each map of a program is the whole table, if it has its lengths. A slot that was learnt, linked, in the section that is
-- open is held. The words of a value stand behind those of the key. A lookup is a stretch of learns and loads of key words,
-- of at most so many, that answers null, or a slot that was learnt in it.
abbrev pub table_of : TableShape → Table
table_of k = record {
  Move = Move;
  elements = k.slots;
  Keeps = λ map shape. HasLengths k.key_words k.value_words shape;
  key_words = λ map. k.key_words;
  value_words = k.value_words;
  begins = Open;
  ends = Close;
  finds = λ slot place word. Load slot (k.key_words + place) word;
  writes = λ slot place word. Store slot (k.key_words + place) word;
  inside = inside;
  Holds = IsLearnt;
  LooksUp = λ map key ms found. OnlySearches k ms × AnswersLookup k key ms found × IsBrief k ms;
}
