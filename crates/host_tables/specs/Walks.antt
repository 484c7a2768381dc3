-- How a host walks over the keys of a table, in the order of its ways.
use Rattle.std.specs.Prelude.{◌≡◌, ◌≢◌, ◌⊎◌, ℕ, suc, ◌<◌, ◌≤◌, ◌==◌, List, [], ◌∷◌, Option, Some, None, if◌then◌else◌}
use Rattle.map_table.specs.Hashes.{layout_of}
use Rattle.map_table.specs.Law.{ways_of}
use Rattle.map_table.specs.Writing.{Works, WriterView}
use Rattle.table_words.specs.declared.view.TableShape.{TableShape}
use Rattle.table_words.specs.declared.moves.Move.{Move}
use Rattle.table_words.specs.Found.{IsLinkedUnder}
use Rattle.table_words.specs.History.{moves_of, word_in}
use Rattle.table_words.specs.Lookups.{OnlySearches}
use Rattle.table_words.specs.Once.{AreLinkedOnce}
use Rattle.host_tables.specs.Tables.{Seeks}

-- The writer sought the key that was given, and found it in this way, or in none. Where none was given it did nothing.
abbrev pub SeeksGiven : Option (List ℕ) → Option ℕ → WriterView → WriterView → Type 0
SeeksGiven None found v w = (found ≡ None) × (w ≡ v)
SeeksGiven (Some key) found v w = Seeks key found v w

-- the way that comes behind this one, or the first of all
abbrev pub behind : Option ℕ → ℕ
behind None = 0
behind (Some way) = suc way

-- Each way from one on and below another is empty.
abbrev pub AreEmpty : ℕ → ℕ → List Move → Type 0
AreEmpty low high mine = (way : ℕ) → low ≤ way → way < high → word_in way mine ≡ 0

-- The way is the first from one on that is not empty.
pub record IsFirst (k : TableShape) (from way : ℕ) (mine : List Move) : Type 0 where
  pub behind : from ≤ way
  pub within : way < ways_of k
  pub bears : word_in way mine ≢ 0
  pub first : AreEmpty from way mine

-- The writer loaded the key of this way, and did nothing else.
pub record LoadsKey (way : ℕ) (key : List ℕ) (v w : WriterView) : Type 0 where
  pub moves : List Move
  pub only : OnlySearches (layout_of v.table.shape) 0 moves
  pub works : Works v moves w
  pub free : w.free ≡ v.free
  pub unlinked : w.unlinked ≡ v.unlinked
  pub under : IsLinkedUnder (layout_of v.table.shape) 0 key way w.view.seen

-- The writer sought the given key, and loaded the key of the first way behind that is not empty.
pub record Meets (given : Option (List ℕ)) (key : List ℕ) (v w : WriterView) : Type 0 where
  pub sought : WriterView
  pub found : Option ℕ
  pub way : ℕ
  pub seeks : SeeksGiven given found v sought
  pub first : IsFirst v.table.shape (behind found) way sought.view.mine
  pub loads : LoadsKey way key sought w

-- The writer sought the given key, and each way behind is empty.
pub record MeetsNone (given : Option (List ℕ)) (v w : WriterView) : Type 0 where
  pub found : Option ℕ
  pub seeks : SeeksGiven given found v w
  pub rest : AreEmpty (behind found) (ways_of v.table.shape) w.view.mine

-- The calls of a walk from a way on to its end, each as the way whose key it met and what the writer had done then: each met the first
-- from behind that of the one before, and in the end none was left.
abbrev pub IsWalk : TableShape → ℕ → List (ℕ × List Move) → List Move → Type 0
IsWalk k from [] last = AreEmpty from (ways_of k) last
IsWalk k from (call ∷ calls) last = IsFirst k from call.0 call.1 × IsWalk k (suc call.0) calls last

-- At each of the calls, and in the end, the way was not empty.
abbrev pub NeverEmpty : ℕ → List (ℕ × List Move) → List Move → Type 0
NeverEmpty way [] last = word_in way last ≢ 0
NeverEmpty way (call ∷ calls) last = (word_in way call.1 ≢ 0) × NeverEmpty way calls last

-- how often the key of the way was met
abbrev pub times_met : ℕ → List (ℕ × List Move) → ℕ
times_met way [] = 0
times_met way (call ∷ calls) = if call.0 == way then suc (times_met way calls) else times_met way calls

-- What a call of a walk met: a key, in which way, and what had been done to the table by its end.
pub record Meeting : Type 0 where
  pub key : List ℕ
  pub way : ℕ
  pub seen : List (ℕ × Move)

-- It is the key of the first way from one on that is not empty. Each key is linked in one way at most
-- (`HostTable::keys_are_linked_once`).
pub record IsMeeting (k : TableShape) (from : ℕ) (m : Meeting) : Type 0 where
  pub first : IsFirst k from m.way (moves_of 0 m.seen)
  pub under : IsLinkedUnder (layout_of k) 0 m.key m.way m.seen
  pub once : AreLinkedOnce (layout_of k) 0 m.seen

-- A walk from a way on to its end: each call met the first key from behind that of the one before, and in the end none was left.
abbrev pub IsKeyWalk : TableShape → ℕ → List Meeting → List (ℕ × Move) → Type 0
IsKeyWalk k from [] last = AreEmpty from (ways_of k) (moves_of 0 last)
IsKeyWalk k from (m ∷ ms) last = IsMeeting k from m × IsKeyWalk k (suc m.way) ms last

-- At each of the calls, and in the end, the key is linked in the way.
abbrev pub StaysLinked : TableShape → List ℕ → ℕ → List Meeting → List (ℕ × Move) → Type 0
StaysLinked k key way [] last = IsLinkedUnder (layout_of k) 0 key way last
StaysLinked k key way (m ∷ ms) last = IsLinkedUnder (layout_of k) 0 key way m.seen × StaysLinked k key way ms last

-- no call met the key
abbrev pub NeverMet : List ℕ → List Meeting → Type 0
NeverMet key [] = Unit {0}
NeverMet key (m ∷ ms) = (m.key ≢ key) × NeverMet key ms

-- one call met the key, and no other
abbrev pub MetOnce : List ℕ → List Meeting → Type 0
MetOnce key [] = ⊥
MetOnce key (m ∷ ms) = ((m.key ≡ key) × NeverMet key ms) ⊎ ((m.key ≢ key) × MetOnce key ms)
