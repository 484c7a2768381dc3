-- What is copied from one table into another.
use Rattle.std.specs.Prelude.{◌≡◌, ◌⊎◌, ℕ, zero, suc, ◌<◌, List, ◌++◌, None}
use Rattle.map_table.specs.Hashes.{layout_of}
use Rattle.map_table.specs.Law.{ways_of}
use Rattle.map_table.specs.Reading.{OnlyLoads, Reads}
use Rattle.map_table.specs.Values.{copies_of, stored_of}
use Rattle.map_table.specs.Writing.{Works, WriterView}
use Rattle.table_words.specs.declared.view.TableShape.{TableShape}
use Rattle.table_words.specs.declared.view.View.{View}
use Rattle.table_words.specs.declared.moves.Move.{Move}
use Rattle.table_words.specs.Found.{IsLinkedUnder}
use Rattle.table_words.specs.History.{moves_of, word_in}
use Rattle.table_words.specs.Layout.{Names}
use Rattle.table_words.specs.Lookups.{AnswersLookup, OnlySearches}
use Rattle.table_words.specs.Moved.{OnlyKeeps}
use Rattle.host_tables.specs.declared.fault.How.TheVariants.{Any}
use Rattle.host_tables.specs.declared.fault.SetFault.{SetFault}
use Rattle.host_tables.specs.Tables.{IsNotSet, Sets}
use Rattle.host_tables.specs.Walks.{LoadsKey}

-- the key is linked, in whatever way
abbrev pub IsThere : TableShape → List ℕ → WriterView → Type 0
IsThere k key w = (way : ℕ) × IsLinkedUnder (layout_of k) 0 key way w.view.seen

-- each key that is linked in a way of the one table is linked in the other
abbrev pub AreAllThere : TableShape → TableShape → WriterView → WriterView → Type 0
AreAllThere k l w b = (key : List ℕ) (way : ℕ) → way < ways_of k → IsLinkedUnder (layout_of k) 0 key way w.view.seen → IsThere l key b

-- each key that was linked is linked
abbrev pub StayThere : TableShape → WriterView → WriterView → Type 0
StayThere k v w = (key : List ℕ) → IsThere k key v → IsThere k key w

-- No lookup that the holder made after this history answered null to the key, if from there to the lookup's end the writer only replaced
-- and moved what was linked under it.
abbrev pub IsFoundBehind : TableShape → List ℕ → List (ℕ × Move) → View → Type 0
IsFoundBehind k key early v =
    (after late between : List (ℕ × Move)) → v.seen ≡ after ++ (late ++ (between ++ early)) →
    OnlyKeeps (layout_of k) 0 key between early → OnlyKeeps (layout_of k) 0 key late (between ++ early) →
    OnlySearches (layout_of k) 0 (moves_of v.me late) → AnswersLookup (layout_of k) 0 key (moves_of v.me late) None → ⊥

-- Keys have as many words in both tables, and so have values, of which each element has as many.
pub record AreAlike (k l : TableShape) : Type 0 where
  pub keys : k.key_words ≡ l.key_words
  pub words : k.value_words ≡ l.value_words
  pub copies : copies_of k ≡ copies_of l

-- The words of all values of the element in this way were loaded, each once, and nothing else was done.
pub record LoadsValues (way : ℕ) (words : List ℕ) (v w : WriterView) : Type 0 where
  pub element : ℕ
  pub names : Names (word_in way v.view.mine) element
  pub moves : List Move
  pub only : OnlyLoads moves
  pub reads : Reads element v.table.shape.key_words words (stored_of v.table.shape) moves
  pub works : Works v moves w
  pub free : w.free ≡ v.free
  pub unlinked : w.unlinked ≡ v.unlinked

-- The one writer loaded the key of this way and its values, and the other set that key with these.
pub record CopiesKey (way : ℕ) (v a w b : WriterView) : Type 0 where
  pub key : List ℕ
  pub words : List ℕ
  pub met : WriterView
  pub loads_key : LoadsKey way key v met
  pub loads_values : LoadsValues way words met w
  pub sets : Sets key words Any a b

-- Where the way is empty nothing was done, else its key was copied.
abbrev pub CopiesWay : ℕ → WriterView → WriterView → WriterView → WriterView → Type 0
CopiesWay way v a w b = ((word_in way v.view.mine ≡ 0) × (w ≡ v) × (b ≡ a)) ⊎ CopiesKey way v a w b

-- so of the ways below a number, from 0 on
abbrev pub Copies : ℕ → WriterView → WriterView → WriterView → WriterView → Type 0
Copies zero v a w b = (w ≡ v) × (b ≡ a)
Copies (suc n) v a w b = (u c : WriterView) × Copies n v a u c × CopiesWay n u c w b

-- The one writer loaded the key of this way and its values, and for this reason the other did not set that key.
pub record StopsAt (way : ℕ) (v a w b : WriterView) (fault : SetFault) : Type 0 where
  pub key : List ℕ
  pub words : List ℕ
  pub met : WriterView
  pub loads_key : LoadsKey way key v met
  pub loads_values : LoadsValues way words met w
  pub fails : IsNotSet key Any a b fault

-- The keys of the first ways were copied, and that of the next one could not be set in the other table for this reason.
pub record StopsCopying (k : TableShape) (v a w b : WriterView) (fault : SetFault) : Type 0 where
  pub count : ℕ
  pub some : count < ways_of k
  pub u : WriterView
  pub c : WriterView
  pub copies : Copies count v a u c
  pub stops : StopsAt count u c w b fault
