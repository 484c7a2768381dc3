-- What copying leaves linked.
use Rattle.bpf_model.proofs.Prelude.{◌≡◌, ◌≢◌, ℕ, zero, suc, ◌+◌, ◌-◌, ◌*◌, ◌<◌, List, [], ◌∷◌, ◌++◌, refl, sym, ap, ◌∙◌, subst, ⊎_elim, arith, Option, Some}
use Rattle.bpf_model.proofs.Prelude.{None, Result, Ok, Err, OnOk, IfErr, dite, ℕ_discrete}
use Rattle.table_words.proofs.Prelude.{Names, word_in, IsLawful, IsLinkedUnder, IsLinkedAs, IsLinkedSomewhere}
use Rattle.map_table.proofs.Prelude.{Move, Scan, TableShape, View, layout_of, IsKnown, TableView, OnlyLoads, Reads, stored_of, MakesSeat, Works, WriterView}
use Rattle.table_words.specs.Found.{Links as LinksIn}
use Rattle.table_words.proofs.Moments.{at_last, lawful_early}
use Rattle.table_words.proofs.Moved.{kept_linked, null_refutes_kept}
use Rattle.table_words.proofs.Steps.{nothing_named}
use Rattle.map_table.proofs.Filling.{own_list, went_me, went_shape}
use Rattle.map_table.proofs.Going.{went_known}
use Rattle.map_table.proofs.Keeping.{loads_quiet}
use Rattle.host_tables.specs.declared.fault.How.{How}
use Rattle.host_tables.specs.declared.fault.How.TheVariants.{Any}
use Rattle.host_tables.specs.declared.fault.SetFault.{SetFault}
use Rattle.host_tables.specs.declared.fault.SetFault.TheVariants.{Exists, Missing, NoElement, NoWay, Held}
use Rattle.host_tables.specs.Copies.{AreAlike, IsFoundBehind, IsThere, CopiesKey, Copies, LoadsValues, StopsCopying}
use Rattle.host_tables.specs.Tables.{FindsNoRoom, IsNoRoom, IsNotSet, IsWhy, Links, LinksNew, MakesRoom, Moves, PutsUnder, Replaces, Seeks, Sets, OpenTable}
use Rattle.host_tables.specs.Tables.{needed_for, seats_left}
use Rattle.host_tables.specs.Walks.{LoadsKey}
use Rattle.host_tables.proofs.Linked.{Leaves, words_leave, same_key, linked_before, linked_after}
use Rattle.host_tables.proofs.Tidy.{searches_leave, freed_finds, puts_leave, all_moves, at_end, at_first}

-- where no seat is made as many are left
pub same_seats : (t : TableView) (v w : WriterView) (o : OpenTable) → record { table = t; writer = v; seats = seats_left t v } ≡ o →
    w.view.next ≡ v.view.next → seats_left t w ≡ o.seats
same_seats t v w o is same = ap (λ n. t.shape.readers + 1 - n) same ∙ ap (λ (q : OpenTable). q.seats) is

-- a writer of a table of this shape
pub record Knows (k : TableShape) (w : WriterView) : Type 0 where
  pub me : w.view.me ≡ 0
  pub shape : w.view.shape ≡ k
  pub table : w.table.shape ≡ k
  pub known : IsKnown w.view

pub writer_knows : (t : TableView) (v : WriterView) (o : OpenTable) → record { table = t; writer = v; seats = seats_left t v } ≡ o → v.table ≡ t →
    v.view.me ≡ 0 → v.view.shape ≡ v.table.shape → IsKnown v.view → Knows o.table.shape v
writer_knows t v o is at me shape known =
    let here : v.table.shape ≡ o.table.shape = ap (λ (z : TableView). z.shape) at ∙ ap (λ (z : OpenTable). z.table.shape) is in
    record { me = me; shape = shape ∙ here; table = here; known = known }

pub knows_after : (k : TableShape) (v w : WriterView) (ms : List Move) → Knows k v → Works v ms w → Knows k w
knows_after k v w ms b works = record {
  me = went_me v.view w.view (ms ++ v.view.mine) works.went ∙ b.me;
  shape = went_shape v.view w.view (ms ++ v.view.mine) works.went ∙ b.shape;
  table = ap (λ (t : TableView). t.shape) works.table ∙ b.table;
  known = went_known v.view w.view (ms ++ v.view.mine) works.went;
}

-- what is linked stays so in each way that is left
abbrev pub StaysThere : TableShape → WriterView → WriterView → Type 0
StaysThere k v w = (key : List ℕ) → IsThere k key v → IsThere k key w

left_there : (k : TableShape) (v w : WriterView) (ms : List Move) → Knows k v → Works v ms w → ((way : ℕ) → Leaves way ms) → StaysThere k v w
left_there k v w ms b works h key l =
    (l.0, linked_after k v.view w.view ms b.shape b.me b.known works.went key l.0 (h l.0) l.1)

was_there : (k : TableShape) (v w : WriterView) (ms : List Move) → Knows k v → Works v ms w → ((way : ℕ) → Leaves way ms) → (key : List ℕ) (way : ℕ) →
    IsLinkedUnder (layout_of k) 0 key way w.view.seen → IsLinkedUnder (layout_of k) 0 key way v.view.seen
was_there k v w ms b works h key way l = linked_before k v.view w.view ms b.shape b.me b.known works.went key way (h way) l

-- a call makes no seat
pub works_next : (v w : WriterView) (ms : List Move) → Works v ms w → w.view.next ≡ v.view.next
works_next v w ms works = ap (λ (z : View). z.next) works.went.1

-- what one call leaves: the facts of the writer, how many readers have a seat, and what is linked
pub record Kept (k : TableShape) (v w : WriterView) : Type 0 where
  pub knows : Knows k w
  pub next : w.view.next ≡ v.view.next
  pub stays : StaysThere k v w

kept_then : (k : TableShape) (u v w : WriterView) → Kept k u v → Kept k v w → Kept k u w
kept_then k u v w p q = record { knows = q.knows; next = q.next ∙ p.next; stays = λ key l. q.stays key (p.stays key l) }

kept_same : (k : TableShape) (v w : WriterView) → Knows k v → w ≡ v → Kept k v w
kept_same k v w b is = record {
  knows = subst (Knows k) (sym is) b;
  next = ap (λ (z : WriterView). z.view.next) is;
  stays = λ key l. subst (IsThere k key) (sym is) l;
}

sought_kept : (k : TableShape) (key : List ℕ) (found : Option ℕ) (v w : WriterView) → Knows k v → Seeks key found v w → Kept k v w
sought_kept k key found v w b s = record {
  knows = knows_after k v w s.moves b s.works;
  next = works_next v w s.moves s.works;
  stays = left_there k v w s.moves b s.works (searches_leave (layout_of v.table.shape) 0 s.moves s.only);
}

room_kept : (k : TableShape) (needed : ℕ) (v w : WriterView) → Knows k v → MakesRoom needed v w → Kept k v w
room_kept k needed v w b room = ⊎_elim
    (λ t. kept_same k v w b t.0)
    (λ t. let r = t.2 in record {
      knows = knows_after k v w r.moves b r.looks.1;
      next = works_next v w r.moves r.looks.1;
      stays = λ key l. (
        l.0,
        subst (λ (z : TableShape). IsLinkedUnder (layout_of z) 0 key l.0 w.view.seen) b.table
            (freed_finds v w r.moves b.me (b.shape ∙ sym b.table) b.known r.looks key (Some l.0)
            (subst (λ (z : TableShape). IsLinkedUnder (layout_of z) 0 key l.0 v.view.seen) (sym b.table) l.1)),
      );
    })
    room

-- one more reader
pub seat_kept : (k : TableShape) (v w : WriterView) → Knows k v → MakesSeat v w → StaysThere k v w
seat_kept k v w b m key l =
    subst (IsThere k key) (sym m.seated) (left_there k v m.looked (Scan v.view.next m.word ∷ []) b m.looks (λ way. tt) key l)

moves_kept : (k : TableShape) (v w : WriterView) → Knows k v → Moves v w → Kept k v w
moves_kept k v w b m = record {
  knows = knows_after k v w m.moves b m.works;
  next = works_next v w m.moves m.works;
  stays = λ key l.
      let stay = m.stay in
      let old : IsLinkedAs (layout_of v.table.shape) 0 key l.1.0 v.view.seen =
      (l.0, subst (λ (z : TableShape). LinksIn (layout_of z) 0 key l.0 l.1.0 v.view.seen) (sym b.table) l.1.1) in
      let last = at_last (IsLinkedAs (layout_of v.table.shape) 0 key l.1.0) stay.0 v.view.seen (stay.2 key l.1.0 old) in
      let now = subst (IsLinkedAs (layout_of v.table.shape) 0 key l.1.0) (sym stay.1) last in
      (now.0, (l.1.0, subst (λ (z : TableShape). LinksIn (layout_of z) 0 key now.0 l.1.0 w.view.seen) b.table now.1));
}

-- a way that is linked under a key is not empty
not_empty : (k : TableShape) (key : List ℕ) (way : ℕ) (v : WriterView) → Knows k v → word_in way v.view.mine ≡ 0 →
    IsLinkedUnder (layout_of k) 0 key way v.view.seen → ⊥
not_empty k key way v b none l = nothing_named l.0
    (subst (λ z. Names z l.0) (ap (word_in way) (own_list v.view b.me b.known) ∙ none) l.1.names)

links_kept : (k : TableShape) (key value : List ℕ) (v w : WriterView) → Knows k v → Links key value v w → Kept k v w × IsThere k key w
links_kept k key value v w b l =
    let ms = all_moves v w key value b.me (b.shape ∙ sym b.table) b.known l.way l.word l.element l.puts in
    let works = l.puts.4 in (
      record {
        knows = knows_after k v w ms b works;
        next = works_next v w ms works;
        stays = λ theirs old.
            let ne : l.way ≢ old.0 = λ same. not_empty k theirs l.way v b l.empty
            (subst (λ z. IsLinkedUnder (layout_of k) 0 theirs z v.view.seen) (sym same) old.1) in (
              old.0,
              linked_after k v.view w.view ms b.shape b.me b.known works.went theirs old.0
                  (puts_leave v w key value b.me (b.shape ∙ sym b.table) b.known l.way l.word l.element l.puts old.0 ne) old.1,
            );
      },
      (l.way, subst (λ (z : TableShape). IsLinkedUnder (layout_of z) 0 key l.way w.view.seen) b.table l.under),
    )

new_kept : (k : TableShape) (key value : List ℕ) (v w : WriterView) → Knows k v → LinksNew key value v w → Kept k v w × IsThere k key w
new_kept k key value v w b l =
    let ready : Kept k v l.ready = ⊎_elim (λ t. kept_same k v l.ready b t.0) (λ t. moves_kept k v l.ready b t.1) l.way in
    let last = links_kept k key value l.ready w ready.knows l.links in
    (kept_then k v l.ready w ready last.0, last.1)

replaces_kept : (k : TableShape) (way : ℕ) (key value : List ℕ) (v w : WriterView) → Knows k v → Replaces way key value v w → Kept k v w × IsThere k key w
replaces_kept k way key value v w b r =
    let ms = all_moves v w key value b.me (b.shape ∙ sym b.table) b.known way r.word r.element r.puts in
    let works = r.puts.4 in
    let stays = r.stays in
    let first = at_first v w key value b.me (b.shape ∙ sym b.table) b.known way stays.0 v.view.seen stays.2 in
    let last = subst (IsLinkedUnder (layout_of v.table.shape) 0 key way) (sym stays.1)
    (at_end v w key value b.me (b.shape ∙ sym b.table) b.known way stays.0 v.view.seen stays.2) in
    let under = subst (λ (z : TableShape). IsLinkedUnder (layout_of z) 0 key way w.view.seen) b.table last in
    let was = subst (λ (z : TableShape). IsLinkedUnder (layout_of z) 0 key way v.view.seen) b.table first in (
      record {
        knows = knows_after k v w ms b works;
        next = works_next v w ms works;
        stays = λ theirs old. dite (ℕ_discrete way old.0)
            (λ same.
            let here = same_key (layout_of k) 0 key theirs way v.view.seen was
            (subst (λ z. IsLinkedUnder (layout_of k) 0 theirs z v.view.seen) (sym same) old.1) in
            (way, subst (λ z. IsLinkedUnder (layout_of k) 0 z way w.view.seen) here under))
            (λ ne. (
              old.0,
              linked_after k v.view w.view ms b.shape b.me b.known works.went theirs old.0
                  (puts_leave v w key value b.me (b.shape ∙ sym b.table) b.known way r.word r.element r.puts old.0 ne) old.1,
            ));
      },
      (way, under),
    )

put_kept : (k : TableShape) (found : Option ℕ) (key value : List ℕ) (v w : WriterView) → Knows k v → PutsUnder found key value v w →
    Kept k v w × IsThere k key w
put_kept k (Some way) key value v w b p = replaces_kept k way key value v w b p
put_kept k None key value v w b p = new_kept k key value v w b p

-- a key that is set is linked, and each that was linked still is
pub sets_kept : (k : TableShape) (key value : List ℕ) (how : How) (v w : WriterView) → Knows k v → Sets key value how v w → Kept k v w × IsThere k key w
sets_kept k key value how v w b s =
    let sought = sought_kept k key s.found v s.sought b s.seeks in
    let ready = room_kept k (needed_for s.found) s.sought s.puts.ready sought.knows s.puts.room in
    let put = put_kept k s.found key value s.puts.ready w ready.knows s.puts.puts in
    (kept_then k v s.sought w sought (kept_then k s.sought s.puts.ready w ready put.0), put.1)

-- a key that could not be set changes nothing that is linked
no_room_kept : (k : TableShape) (key : List ℕ) (found : Option ℕ) (v w : WriterView) (fault : SetFault) → Knows k v → IsNoRoom key found v w fault →
    Kept k v w
no_room_kept k key found v w Exists b p = absurd p
no_room_kept k key found v w Missing b p = absurd p
no_room_kept k key found v w NoElement b p = kept_same k v w b p.0
no_room_kept k key found v w NoWay b p = moves_kept k v w b p.1.moves
no_room_kept k key found v w Held b p = moves_kept k v w b p.1.moves

short_kept : (k : TableShape) (key : List ℕ) (found : Option ℕ) (v w : WriterView) (fault : SetFault) → Knows k v → FindsNoRoom key found v w fault →
    Kept k v w
short_kept k key found v w fault b p =
    let ready = room_kept k (needed_for found) v p.0 b p.1 in
    kept_then k v p.0 w ready (no_room_kept k key found p.0 w fault ready.knows p.2)

why_kept : (k : TableShape) (key : List ℕ) (how : How) (found : Option ℕ) (v w : WriterView) (fault : SetFault) → Knows k v →
    IsWhy key how found v w fault → Kept k v w
why_kept k key how found v w Exists b p = kept_same k v w b p.2
why_kept k key how found v w Missing b p = kept_same k v w b p.2
why_kept k key how found v w NoElement b p = short_kept k key found v w NoElement b p.1
why_kept k key how found v w NoWay b p = short_kept k key found v w NoWay b p.1
why_kept k key how found v w Held b p = short_kept k key found v w Held b p.1

not_set_kept : (k : TableShape) (key : List ℕ) (how : How) (v w : WriterView) (fault : SetFault) → Knows k v → IsNotSet key how v w fault → Kept k v w
not_set_kept k key how v w fault b s =
    let sought = sought_kept k key s.found v s.sought b s.seeks in
    kept_then k v s.sought w sought (why_kept k key how s.found s.sought w fault sought.knows s.why)

-- whether a key is set or not, what is linked stays
pub set_kept : (k : TableShape) (key value : List ℕ) (how : How) (v w : WriterView) (r : Result (Unit {0}) SetFault) → Knows k v →
    OnOk r (Sets key value how v w) → IfErr r (IsNotSet key how v w) → Kept k v w
set_kept k key value how v w (Ok x) b sets fails = (sets_kept k key value how v w b sets).0
set_kept k key value how v w (Err fault) b sets fails = not_set_kept k key how v w fault b fails

-- what loading a key, or values, leaves
key_loaded : (k : TableShape) (way : ℕ) (key : List ℕ) (v w : WriterView) → Knows k v → LoadsKey way key v w → Kept k v w
key_loaded k way key v w b l = record {
  knows = knows_after k v w l.moves b l.works;
  next = works_next v w l.moves l.works;
  stays = left_there k v w l.moves b l.works (searches_leave (layout_of v.table.shape) 0 l.moves l.only);
}

values_loaded : (k : TableShape) (way : ℕ) (words : List ℕ) (v w : WriterView) → Knows k v → LoadsValues way words v w → Kept k v w
values_loaded k way words v w b l = record {
  knows = knows_after k v w l.moves b l.works;
  next = works_next v w l.moves l.works;
  stays = left_there k v w l.moves b l.works (λ way. words_leave way l.moves (loads_quiet l.moves l.only).words);
}

-- what copying leaves: the writer of the one table only loads
pub record Copied (k l : TableShape) (n : ℕ) (v a w b : WriterView) : Type 0 where
  pub here : Kept k v w
  pub before : (key : List ℕ) (way : ℕ) → IsLinkedUnder (layout_of k) 0 key way w.view.seen → IsLinkedUnder (layout_of k) 0 key way v.view.seen
  pub kept : Kept l a b
  pub linked : (key : List ℕ) (way : ℕ) → way < n → IsLinkedUnder (layout_of k) 0 key way w.view.seen → IsThere l key b

-- one more way
module _ (k l : TableShape) (n : ℕ) (v a u c w b : WriterView) (p : Copied k l n v a u c) where
  nothing_copied : word_in n u.view.mine ≡ 0 → w ≡ u → b ≡ c → Copied k l (suc n) v a w b
  nothing_copied none same_w same_b =
      subst (λ (z : WriterView × WriterView). Copied k l (suc n) v a z.0 z.1) (λ i. (sym same_w i, sym same_b i)) record {
        here = p.here;
        before = p.before;
        kept = p.kept;
        linked = λ key way low x. dite (ℕ_discrete way n)
            (λ here. absurd (not_empty k key n u p.here.knows none (subst (λ z. IsLinkedUnder (layout_of k) 0 key z u.view.seen) here x)))
            (λ ne. p.linked key way (omega (arith, low, ne)) x);
      }

  key_copied : CopiesKey n u c w b → Copied k l (suc n) v a w b
  key_copied q =
      let lk = q.loads_key in
      let lv = q.loads_values in
      let met = key_loaded k n q.key u q.met p.here.knows lk in
      let last = values_loaded k n q.words q.met w met.knows lv in
      let set = sets_kept l q.key q.words Any c b p.kept.knows q.sets in
      let back : (key : List ℕ) (way : ℕ) → IsLinkedUnder (layout_of k) 0 key way w.view.seen → IsLinkedUnder (layout_of k) 0 key way q.met.view.seen =
      was_there k q.met w lv.moves met.knows lv.works (λ way. words_leave way lv.moves (loads_quiet lv.moves lv.only).words) in
      let older : (key : List ℕ) (way : ℕ) → IsLinkedUnder (layout_of k) 0 key way w.view.seen → IsLinkedUnder (layout_of k) 0 key way u.view.seen =
      λ key way x.
      was_there k u q.met lk.moves p.here.knows lk.works (searches_leave (layout_of u.table.shape) 0 lk.moves lk.only) key way (back key way x) in
      let under = subst (λ (z : TableShape). IsLinkedUnder (layout_of z) 0 q.key n q.met.view.seen) p.here.knows.table lk.under in
      record {
        here = kept_then k v u w p.here (kept_then k u q.met w met last);
        before = λ key way x. p.before key way (older key way x);
        kept = kept_then l a c b p.kept set.0;
        linked = λ key way low x. dite (ℕ_discrete way n)
            (λ here. let same = same_key (layout_of k) 0 q.key key n q.met.view.seen under
            (subst (λ z. IsLinkedUnder (layout_of k) 0 key z q.met.view.seen) here (back key way x)) in
            subst (λ z. IsThere l z b) same set.1)
            (λ ne. set.0.stays key (p.linked key way (omega (arith, low, ne)) (older key way x)));
      }

pub copied : (k l : TableShape) (n : ℕ) (v a w b : WriterView) → Knows k v → Knows l a → Copies n v a w b → Copied k l n v a w b
copied k l zero v a w b p q is =
    subst (λ (z : WriterView × WriterView). Copied k l zero v a z.0 z.1) (λ i. (sym is.0 i, sym is.1 i)) record {
      here = kept_same k v v p refl;
      before = λ key way x. x;
      kept = kept_same l a a q refl;
      linked = λ key way low x. absurd (omega (arith, low));
    }
copied k l (suc n) v a w b p q c =
    let so_far = copied k l n v a c.0 c.1 p q c.2 in
    ⊎_elim
    (λ t. nothing_copied k l n v a c.0 c.1 w b so_far t.0 t.1 t.2)
    (λ t. key_copied k l n v a c.0 c.1 w b so_far t)
    c.3

-- a copy that stopped changes nothing that is linked in either table, and so does one that did not
stopped : (k l s : TableShape) (v a w b : WriterView) (fault : SetFault) → Knows k v → Knows l a → StopsCopying s v a w b fault → Kept k v w × Kept l a b
stopped k l s v a w b fault p q x =
    let so_far = copied k l x.count v a x.u x.c p q x.copies in
    let at = x.stops in
    let met = key_loaded k x.count at.key x.u at.met so_far.here.knows at.loads_key in
    let last = values_loaded k x.count at.words at.met w met.knows at.loads_values in (
      kept_then k v x.u w so_far.here (kept_then k x.u at.met w met last),
      kept_then l a x.c b so_far.kept (not_set_kept l at.key Any x.c b fault so_far.kept.knows at.fails),
    )

pub both_kept : (k l s : TableShape) (n : ℕ) (v a w b : WriterView) (r : Result (Unit {0}) SetFault) → Knows k v → Knows l a →
    OnOk r (Copies n v a w b) → IfErr r (StopsCopying s v a w b) → Kept k v w × Kept l a b
both_kept k l s n v a w b (Ok x) p q copies stops = let c = copied k l n v a w b p q copies in (c.here, c.kept)
both_kept k l s n v a w b (Err fault) p q copies stops = stopped k l s v a w b fault p q stops

-- after a copy each of its keys is found
pub found_behind : (k : TableShape) (key : List ℕ) (early : List (ℕ × Move)) (v : View) → v.shape ≡ k → IsKnown v →
    IsLinkedSomewhere (layout_of k) 0 key early → IsFoundBehind k key early v
found_behind k key early v shape known l after late between is before during only null =
    let lawful : IsLawful (layout_of k) (after ++ (late ++ (between ++ early))) =
    subst (λ (z : TableShape × List (ℕ × Move)). IsLawful (layout_of z.0) z.1) (λ i. (shape i, is i)) known.0 in
    let now = lawful_early (layout_of k) after (late ++ (between ++ early)) lawful in
    let then = lawful_early (layout_of k) late (between ++ early) now in
    let there = at_last (IsLinkedSomewhere (layout_of k) 0 key) between early (kept_linked (layout_of k) 0 key between early then l before) in
    null_refutes_kept (layout_of k) late (between ++ early) now 0 key v.me there.0 there.1 during only null

-- the values of tables that are alike have as many words
pub alike_stored : (k l : TableShape) → AreAlike k l → stored_of k ≡ stored_of l
alike_stored k l alike i = alike.words i * alike.copies i

-- reading words only loads
pub reads_only : (element from n : ℕ) (words : List ℕ) (ms : List Move) → Reads element from words n ms → OnlyLoads ms
reads_only element from zero words ms r = subst OnlyLoads (sym r) tt
reads_only element from (suc n) words ms r = subst OnlyLoads (sym r.1) (reads_only element from n words r.0 r.2)

pub ok_then : {A E : Type 0} (r : Result A E) (P Q : Type 0) → (P → Q) → OnOk r P → OnOk r Q
ok_then (Ok x) P Q f p = f p
ok_then (Err e) P Q f p = tt
