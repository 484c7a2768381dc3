-- What the writer's calls keep of a table.
use Rattle.bpf_model.proofs.Prelude.{◌≡◌, ◌≢◌, ℕ, zero, suc, ◌+◌, ◌<◌, ◌≤◌, List, [], ◌∷◌, ◌++◌, length, refl, sym, ap, ◌∙◌, subst, ◌⊎◌, ⊎_elim, inl, inr}
use Rattle.bpf_model.proofs.Prelude.{Option, Some, None, Result, Ok, Err, OnOk, IfErr, slice_index, arith, range_with_len, length-range_with_len}
use Rattle.table_words.proofs.Prelude.{Layout, Names, moves_of, word_in, OnlySearches, IsLinkedUnder, IsLinkedAs, StaysFound, OnlyMoves, AreLinkedOnce}
use Rattle.map_table.proofs.Prelude.{Move, Put, Scan, TableShape, layout_of, IsKnown, TableView, MakesOneWay, StayLinked, OnlyLoads, copies_of, stored_of}
use Rattle.map_table.proofs.Prelude.{AreFull, MakesSeat, Works, WriterView}
use Rattle.std.proofs.Common.{length-append}
use Rattle.table_words.proofs.Steps.{nothing_named, put_here}
use Rattle.map_table.specs.Moving.{GoesAside}
use Rattle.map_table.specs.Writing.{Frees, Looks, Puts}
use Rattle.map_table.proofs.Keeping.{adds_quiet, fills_quiet, loads_quiet, scans_quiet, searches_quiet}
use Rattle.host_tables.specs.declared.fault.SetFault.{SetFault}
use Rattle.host_tables.specs.Tables.{Finds, FindsNoRoom, IsNoRoom, IsTidy, Links, MakesRoom, Moves, PutsUnder, PutsWithRoom, Replaces, SumsUp, needed_for}
use Rattle.host_tables.proofs.Linked.{Leaves, leaves_append, words_leave, same_key, linked_before, linked_after, last_word, once_left, once_put}

-- moves that put nothing
pub searches_leave : (k : Layout) (table : ℕ) (ms : List Move) → OnlySearches k table ms → (way : ℕ) → Leaves way ms
searches_leave k table ms only way = words_leave way ms (searches_quiet k table ms only).words

pub sums_leave : (k : TableShape) (element n : ℕ) (sums : List ℕ) (ms : List Move) → SumsUp k element n sums ms → (way : ℕ) → Leaves way ms
sums_leave k element zero sums ms s way = subst (Leaves way) (sym s) tt
sums_leave k element (suc n) sums ms s way = subst (Leaves way) (sym s.2) (leaves_append way s.0 s.1
    (words_leave way s.0 (adds_quiet element (k.key_words + n) k.value_words (copies_of k) s.0 (slice_index sums n) s.3).words)
    (sums_leave k element n sums s.1 s.4 way))

-- a stretch of the writer's steps
module _ (v w : WriterView) (ms : List Move) (writer : v.view.me ≡ 0) (shape : v.view.shape ≡ v.table.shape) (known : IsKnown v.view)
    (works : Works v ms w) where
  of_table : AreLinkedOnce (layout_of v.table.shape) 0 w.view.seen → (0 < v.table.shape.elements → 0 < length w.free + length w.unlinked) → IsTidy w
  of_table once reserve = record {
    once = subst (λ (t : TableView). AreLinkedOnce (layout_of t.shape) 0 w.view.seen) (sym works.table) once;
    reserve = λ some. reserve (subst (λ (t : TableView). 0 < t.shape.elements) works.table some);
  }

  -- one that puts nothing
  pub left_tidy : ((way : ℕ) → Leaves way ms) → length w.free + length w.unlinked ≡ length v.free + length v.unlinked → IsTidy v → IsTidy w
  left_tidy h count tidy = of_table (once_left v.table.shape v.view w.view ms shape writer known works.went h tidy.once)
      (λ some. subst (λ n. 0 < n) (sym count) (tidy.reserve some))

  pub same_tidy : ((way : ℕ) → Leaves way ms) → w.free ≡ v.free → w.unlinked ≡ v.unlinked → IsTidy v → IsTidy w
  same_tidy h free unlinked tidy = left_tidy h (λ i. length (free i) + length (unlinked i)) tidy

  pub left_finds : ((way : ℕ) → Leaves way ms) → (key : List ℕ) (found : Option ℕ) → Finds v.table.shape key found v → Finds v.table.shape key found w
  left_finds h key (Some way) finds = linked_after v.table.shape v.view w.view ms shape writer known works.went key way (h way) finds
  left_finds h key None finds =
      λ way l. finds way (linked_before v.table.shape v.view w.view ms shape writer known works.went key way (h way) l)

  -- one that empties a way
  pub unlinked_tidy : (way gone : ℕ) → ms ≡ Put way 0 ∷ [] → w.unlinked ≡ v.unlinked ++ gone ∷ [] → IsTidy v → IsTidy w
  unlinked_tidy way gone is unlinked tidy = of_table
      (once_put v.table.shape v.view w.view ms shape writer known works.went way
      (λ other ne. subst (Leaves other) (sym is) (ne, tt))
      (λ key other p q.
      let none : word_in way (moves_of 0 w.view.seen) ≡ 0 =
      last_word v.table.shape v.view w.view ms shape writer known works.went way ∙
      (ap (λ (z : List Move). word_in way (z ++ v.view.mine)) is ∙ put_here way way 0 v.view.mine refl) in
      absurd (nothing_named p.0 (subst (λ z. Names z p.0) none p.1.names)))
      tidy.once)
      (λ some. let long = ap (λ (z : List ℕ). length z) unlinked in omega (arith, long, length-append v.unlinked (gone ∷ [])))

-- one that only searches
-- a table on which nothing was done
pub first_tidy : (w : WriterView) (count : ℕ) → w.view.me ≡ 0 → IsKnown w.view → w.view.mine ≡ [] → count ≡ w.table.shape.elements →
    w.free ≡ range_with_len 0 count → IsTidy w
first_tidy w count me known none elements free = record {
  once = λ key a b one two.
      let own : moves_of 0 w.view.seen ≡ [] = ap (λ z. moves_of z w.view.seen) (sym me) ∙ (known.1 ∙ none) in
      absurd (nothing_named one.0 (subst (λ (ms : List Move). Names (word_in a ms) one.0) own one.1.names));
  reserve = λ some. let long = ap length free ∙ length-range_with_len 0 count in omega (arith, some, long, elements);
}

-- one more reader
pub seated_tidy : (v w : WriterView) → v.view.me ≡ 0 → v.view.shape ≡ v.table.shape → IsKnown v.view → MakesSeat v w → IsTidy v → IsTidy w
seated_tidy v w me shape known m tidy =
    let t = same_tidy v m.looked (Scan v.view.next m.word ∷ []) me shape known m.looks (λ way. tt) m.free m.unlinked tidy in
    subst IsTidy (sym m.seated) record { once = t.once; reserve = t.reserve }

pub searched_tidy : (k : Layout) (u v w : WriterView) (ms : List Move) → v ≡ u → u.view.me ≡ 0 → u.view.shape ≡ u.table.shape → IsKnown u.view →
    OnlySearches k 0 ms → Works v ms w → w.free ≡ v.free → w.unlinked ≡ v.unlinked → IsTidy u → IsTidy w
searched_tidy k u v w ms e writer shape known only works free unlinked tidy =
    same_tidy u w ms writer shape known (subst (λ (z : WriterView). Works z ms w) e works) (searches_leave k 0 ms only)
    (free ∙ ap (λ (z : WriterView). z.free) e) (unlinked ∙ ap (λ (z : WriterView). z.unlinked) e) tidy

-- one that only loads
pub loaded_tidy : (v w : WriterView) (ms : List Move) → v.view.me ≡ 0 → v.view.shape ≡ v.table.shape → IsKnown v.view → OnlyLoads ms → Works v ms w →
    w.free ≡ v.free → w.unlinked ≡ v.unlinked → IsTidy v → IsTidy w
loaded_tidy v w ms writer shape known only works free unlinked tidy =
    same_tidy v w ms writer shape known works (λ way. words_leave way ms (loads_quiet ms only).words) free unlinked tidy

-- elements that became free
pub freed_tidy : (gone : List ℕ) (v w : WriterView) (ms : List Move) → v.view.me ≡ 0 → v.view.shape ≡ v.table.shape → IsKnown v.view → Frees gone v w →
    Looks v ms w → IsTidy v → IsTidy w
freed_tidy gone v w ms writer shape known frees looks tidy =
    let free = ap (λ (z : List ℕ). length z) frees.free in
    let unlinked = ap (λ (z : List ℕ). length z) frees.unlinked in
    left_tidy v w ms writer shape known looks.1 (λ way. words_leave way ms (scans_quiet 0 v.table.shape.readers ms looks.0).words)
    (omega (arith, free, unlinked, length-append v.free gone, length-append gone w.unlinked)) tidy

pub freed_finds : (v w : WriterView) (ms : List Move) → v.view.me ≡ 0 → v.view.shape ≡ v.table.shape → IsKnown v.view → Looks v ms w →
    (key : List ℕ) (found : Option ℕ) → Finds v.table.shape key found v → Finds v.table.shape key found w
freed_finds v w ms writer shape known looks =
    left_finds v w ms writer shape known looks.1 (λ way. words_leave way ms (scans_quiet 0 v.table.shape.readers ms looks.0).words)

-- a value that was put under a key, which was linked nowhere else
module _ (v w : WriterView) (key value : List ℕ) (writer : v.view.me ≡ 0) (shape : v.view.shape ≡ v.table.shape) (known : IsKnown v.view) where
  -- the moves
  abbrev pub all_moves : (way word element : ℕ) → Puts way word element key value v w → List Move
  all_moves way word element p = Put way word ∷ (p.1 ++ p.0)

  pub puts_leave : (way word element : ℕ) → (p : Puts way word element key value v w) → (other : ℕ) → way ≢ other →
      Leaves other (all_moves way word element p)
  puts_leave way word element p other ne = (
    ne,
    leaves_append other p.1 p.0
        (words_leave other p.1 (fills_quiet element v.table.shape.key_words (stored_of v.table.shape) value p.1 p.3).words)
        (words_leave other p.0 (fills_quiet element 0 v.table.shape.key_words key p.0 p.2).words),
  )

  put_once : (way word element : ℕ) → Puts way word element key value v w → IsLinkedUnder (layout_of v.table.shape) 0 key way w.view.seen →
      ((other : ℕ) → IsLinkedUnder (layout_of v.table.shape) 0 key other v.view.seen → way ≡ other) →
      AreLinkedOnce (layout_of v.table.shape) 0 v.view.seen → AreLinkedOnce (layout_of v.table.shape) 0 w.view.seen
  put_once way word element p under there = once_put v.table.shape v.view w.view (all_moves way word element p) shape writer known p.4.went way
      (puts_leave way word element p)
      (λ theirs other now before. there other (subst (λ z. IsLinkedUnder (layout_of v.table.shape) 0 z other v.view.seen)
      (same_key (layout_of v.table.shape) 0 theirs key way w.view.seen now under) before))

  pub links_tidy : 2 ≤ length v.free → Finds v.table.shape key None v → Links key value v w → IsTidy v → IsTidy w
  links_tidy room finds l tidy = of_table v w (all_moves l.way l.word l.element l.puts) writer shape known l.puts.4
      (put_once l.way l.word l.element l.puts l.under (λ other z. absurd (finds other z)) tidy.once)
      (λ some. let long = ap (λ (z : List ℕ). length z) l.taken in omega (arith, room, long, length-append w.free (l.element ∷ [])))

  pub at_end : (way : ℕ) (late early : List (ℕ × Move)) → StaysFound (layout_of v.table.shape) 0 key way late early →
      IsLinkedUnder (layout_of v.table.shape) 0 key way (late ++ early)
  at_end way [] early s = s
  at_end way (e ∷ late) early s = s.0

  pub at_first : (way : ℕ) (late early : List (ℕ × Move)) → StaysFound (layout_of v.table.shape) 0 key way late early →
      IsLinkedUnder (layout_of v.table.shape) 0 key way early
  at_first way [] early s = s
  at_first way (e ∷ late) early s = at_first way late early s.1

  pub replaces_tidy : (way : ℕ) → Finds v.table.shape key (Some way) v → Replaces way key value v w → IsTidy v → IsTidy w
  replaces_tidy way finds r tidy =
      let under = subst (IsLinkedUnder (layout_of v.table.shape) 0 key way) (sym r.stays.1) (at_end way r.stays.0 v.view.seen r.stays.2) in
      of_table v w (all_moves way r.word r.element r.puts) writer shape known r.puts.4
      (put_once way r.word r.element r.puts under (λ other z. tidy.once key way other finds z) tidy.once)
      (λ some. let long = ap (λ (z : List ℕ). length z) r.unlinked in omega (arith, long, length-append v.unlinked (r.gone ∷ [])))

-- room was made before
pub with_room : (found : Option ℕ) (key value : List ℕ) (v ready w : WriterView) (result : Result (Unit {0}) SetFault) →
    MakesRoom (needed_for found) v ready → OnOk result (PutsUnder found key value ready w) → OnOk result (PutsWithRoom found key value v w)
with_room found key value v ready w (Ok x) room put = record { ready = ready; room = room; puts = put }
with_room found key value v ready w (Err e) room put = tt

pub without_room : (found : Option ℕ) (key : List ℕ) (v ready w : WriterView) (result : Result (Unit {0}) SetFault) →
    MakesRoom (needed_for found) v ready → IfErr result (IsNoRoom key found ready w) → IfErr result (FindsNoRoom key found v w)
without_room found key v ready w (Ok x) room why = tt
without_room found key v ready w (Err e) room why = (ready, room, why)

-- after a move
pub moved_tidy : (v w : WriterView) → w.table ≡ v.table → w.free ≡ v.free → w.unlinked ≡ v.unlinked →
    (AreLinkedOnce (layout_of v.table.shape) 0 v.view.seen → AreLinkedOnce (layout_of v.table.shape) 0 w.view.seen) → IsTidy v → IsTidy w
moved_tidy v w table free unlinked once tidy = record {
  once = subst (λ (t : TableView). AreLinkedOnce (layout_of t.shape) 0 w.view.seen) (sym table) (once tidy.once);
  reserve = λ some. subst (λ n. 0 < n) (λ i. length (sym free i) + length (sym unlinked i))
      (tidy.reserve (subst (λ (t : TableView). 0 < t.shape.elements) table some));
}

-- a key that is linked nowhere is so after a move
pub moved_nowhere : (k : TableShape) (key : List ℕ) (v w : WriterView) →
    ((key : List ℕ) (element : ℕ) → IsLinkedAs (layout_of k) 0 key element w.view.seen → IsLinkedAs (layout_of k) 0 key element v.view.seen) →
    Finds k key None v → Finds k key None w
moved_nowhere k key v w old none way l = let was = old key l.0 (way, l.1) in none was.0 (l.0, was.1)

-- what the writer's calls tell of a table, as the clauses say it of the writer
module _ (t : TableView) (v w : WriterView) (e : v.table ≡ t) where
  pub moves_so : (ms : List Move) → OnlyMoves ms v.view.mine → Works v ms w → w.free ≡ v.free → w.unlinked ≡ v.unlinked →
      StayLinked t.shape v.view.seen w.view.seen → Moves v w
  moves_so ms only works free unlinked stay = record {
    moves = ms;
    only = only;
    works = works;
    free = free;
    unlinked = unlinked;
    stay = subst (λ (z : TableView). StayLinked z.shape v.view.seen w.view.seen) (sym e) stay;
  }

  pub links_so : (key value : List ℕ) (way element word : ℕ) → word_in way v.view.mine ≡ 0 → v.free ≡ w.free ++ element ∷ [] → Names word element →
      Puts way word element key value v w → w.unlinked ≡ v.unlinked → IsLinkedUnder (layout_of t.shape) 0 key way w.view.seen → Links key value v w
  links_so key value way element word empty taken names puts unlinked under = record {
    way = way;
    element = element;
    word = word;
    empty = empty;
    taken = taken;
    names = names;
    puts = puts;
    unlinked = unlinked;
    under = subst (λ (z : TableView). IsLinkedUnder (layout_of z.shape) 0 key way w.view.seen) (sym e) under;
  }

-- two elements are free, so there is one
pub not_none : (free : List ℕ) → 2 ≤ length free → free ≡ [] → ⊥
not_none free two none = let long = ap (λ (z : List ℕ). length z) none in absurd (omega (arith, two, long))

pub full_so : (free : List ℕ) (p : Type 0) → 2 ≤ length free → (free ≡ []) ⊎ p → p
full_so free p two = ⊎_elim (λ (none : free ≡ []). absurd (not_none free two none)) (λ q. q)

-- where both buckets were full, a word has gone aside
pub aside_so : (key : List ℕ) (v w : WriterView) → AreFull v.view key → MakesOneWay key v.view w.view → GoesAside key v.view w.view
aside_so key v w full (inl t) = t.1
aside_so key v w full (inr t) = absurd (t.0 full)
