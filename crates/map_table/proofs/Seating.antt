-- The writer once it has made one more reader.
use Rattle.table_words.proofs.Prelude.{◌+◌, ◌≤◌, ℕ, List, ap}
use Rattle.map_table.proofs.Prelude.{Sighting, View, dealt, AreSightings, HasSeated, IsWriter}

pub seated_writer : (v : View) (ways free unlinked : List ℕ) → IsWriter v ways free unlinked → IsWriter (dealt v) ways free unlinked
seated_writer v ways free unlinked i = record {
  me = i.me;
  known = i.known;
  sized = i.sized;
  count = i.count;
  are_ways = i.are_ways;
  are_free = i.are_free;
  are_unlinked = i.are_unlinked;
  once = i.once;
}

pub seated_sightings : (v : View) (unlinked : List ℕ) (seen : List Sighting) → AreSightings v unlinked seen → AreSightings (dealt v) unlinked seen
seated_sightings v unlinked seen a = record { room = a.room; each = a.each }

pub one_more : (v : View) (count : ℕ) → HasSeated v count → count + 1 ≤ v.shape.readers → HasSeated (dealt v) (count + 1)
one_more v count h within = record { next = ap (λ n. n + 1) h.next; within = within }
