-- Each step keeps the rule.
use Rattle.table_words.proofs.Prelude.{◌≡◌, ◌≢◌, ◌⊎◌, ℕ, zero, suc, ◌+◌, ◌-◌, ◌*◌, ◌/◌, ◌%◌, ◌<◌, ◌≤◌, List, [], ◌∷◌, ◌++◌, length, get_or, set, refl, sym}
use Rattle.table_words.proofs.Prelude.{ap, ◌∙◌, subst, ⊎_elim, inl, inr, arith, eq-eqb, ne_eqb, ◌==◌, if◌then◌else◌, length-set, get_or-set_other}
use Rattle.table_words.proofs.Prelude.{get_or-set_same, ◌^◌, dite, none, ℕ_discrete, moves_of, inside, section_word, word_in, IsLawful, Holds, IsSpare}
use Rattle.table_words.proofs.Prelude.{IsOpenTo, Settles, MayDo, MayDouble, MayLink, IsReader, word_at}
use Rattle.map_table.proofs.Prelude.{Move, Open, Close, Learn, Load, Store, Put, Double, Scan, TableShape, View, layout_of, section_stride, ways_from}
use Rattle.map_table.proofs.Prelude.{ways_of, width_of, count_of, Kept, dealt, did, Gains, base_of, index_in, opens, closes, learns, stores, adds, puts}
use Rattle.map_table.proofs.Prelude.{doubles, scans, IsKnown}
use Rattle.std.proofs.Common.{set-set}
use Rattle.std.proofs.lemmas.List.{length-append}
use mathlib.Core.Option.{some, some-injective, some-ne-none}
use lib.ListN.{get_elem?}
use lib.Seq.{set-get_or}
use Rattle.atomic_table.specs.Table.{State, Me, step, keeps, stepped, Allows, Splits}
use Rattle.atomic_table.proofs.Lists.{at_set}
use Rattle.map_table.specs.Law.{Fits, writer_of, reader_of, loads}
use Rattle.map_table.proofs.Lists.{moves_self, moves_else, IsQuiet, IsStill, IsIdle, quiet, still, idle, stored_here, stored_in_another, stored_beside}
use Rattle.table_words.proofs.Steps.{put_here, put_there, doubled_here, doubled_there}
use Rattle.map_table.proofs.Own.{may_later, double_later}
use Rattle.map_table.proofs.Places.{IsAt, load_move, store_move, same_place, place_within}

abbrev St : Type 0
St = State ℕ View

-- a writer's part of a history
writers_own : (es : List (ℕ × Move)) (v : View) → v.me ≡ 0 → moves_of v.me es ≡ v.mine → moves_of 0 es ≡ v.mine
writers_own es v writer is = ap (λ z. moves_of z es) (sym writer) ∙ is

-- an element that is there is there again once another is put in its place
some_here : {A : Type 0} (l : List A) (i : ℕ) (a b : A) → get_elem? l i ≡ some a → get_elem? (set l i b) i ≡ some b
some_here [] i a b e = absurd (some-ne-none a (sym e))
some_here (x ∷ xs) zero a b e = refl
some_here (x ∷ xs) (suc i) a b e = some_here xs i a b e

-- nothing stands before a list that is the whole
no_more : {A : Type 0} (xs ys : List A) → ys ≡ xs ++ ys → xs ≡ []
no_more [] ys e = refl
no_more (x ∷ xs) ys e = absurd (let n = ap length e ∙ length-append (x ∷ xs) ys in omega (arith, n))

-- of two steps of one seat on one word the second is left
twice : (s : St) (i x y id : ℕ) (cs : List (ℕ × ℕ)) (a b : View) →
    stepped (stepped s i x id cs a keeps) i y id cs b keeps ≡ stepped s i y id cs b keeps
twice s i x y id cs a b = λ j. record { words = set-set s.words i x y j; homes = s.homes; views = set-set s.views id a b j }

module _ (k : TableShape) where
  -- the words after a step are those of the history after it
  pub record Follows (s : St) (log : List (ℕ × Move)) (i x me : ℕ) (m : Move) : Type 0 where
    pub ways : (way : ℕ) → way < ways_of k → get_or (set s.words i x) (ways_from k + way) 0 ≡ word_in way (moves_of 0 ((me, m) ∷ log))
    pub sections : (q : ℕ) → q < k.readers → get_or (set s.words i x) (q * section_stride) 0 ≡ section_word (moves_of (q + 1) ((me, m) ∷ log))
    pub stored : (slot place : ℕ) → slot < k.elements → place < width_of k →
        get_or (set s.words i x) (index_in k slot place) 0 ≡ word_at slot place ((me, m) ∷ log)

  fits_after : (log : List (ℕ × Move)) (next : ℕ) (seat_of : ℕ → ℕ) (id : ℕ) (v : View) (m : Move) (f : Fits k log next seat_of id v)
      → Fits k ((v.me, m) ∷ log) next seat_of id (did v m f.later.0)
  fits_after log next seat_of id v m f = record {
    shape = f.shape;
    seat = f.seat;
    known = f.known;
    deals = f.deals;
    mine = moves_self v.me m log ∙ ap (λ ms. m ∷ ms) f.mine;
    later = ([], ap (λ es. (v.me, m) ∷ es) f.later.1);
  }

  fits_still : (log : List (ℕ × Move)) (next : ℕ) (seat_of : ℕ → ℕ) (id j : ℕ) (v u : View) (m : Move) →
      Fits k log next seat_of id v → Fits k log next seat_of j u → j ≢ id
      → Fits k ((v.me, m) ∷ log) next seat_of j u
  fits_still log next seat_of id j v u m f g apart = record {
    shape = g.shape;
    seat = g.seat;
    known = g.known;
    deals = g.deals;
    mine = moves_else v.me u.me m log (λ e. apart (sym g.seat ∙ (ap seat_of (sym e) ∙ f.seat))) ∙ g.mine;
    later = ((v.me, m) ∷ g.later.0, ap (λ es. (v.me, m) ∷ es) g.later.1);
  }

  pub advance : (s : St) (r : Kept k s) (id i x : ℕ) (v : View) (cs : List (ℕ × ℕ)) (m : Move) →
      get_elem? s.views id ≡ some v → MayDo (layout_of k) r.log v.me m → Follows s r.log i x v.me m
      → (w : View) × Kept k (stepped s i x id cs w keeps) × Gains v m w
  advance s r id i x v cs m at may go =
      let f = r.each_seat id v at in
      let w = did v m f.later.0 in
      let lawful : IsLawful (layout_of k) ((v.me, m) ∷ r.log) = (may, r.lawful) in (
        w,
        record {
          log = (v.me, m) ∷ r.log;
          next = r.next;
          seat_of = r.seat_of;
          wide = length-set s.words i x ∙ r.wide;
          ways = go.ways;
          sections = go.sections;
          stored = go.stored;
          lawful = lawful;
          fresh = λ who n. let known = f.known in moves_else v.me who m r.log (λ e. absurd (omega arith)) ∙ r.fresh who n;
          each_seat = λ j u e. ⊎_elim
              (λ (t : (j ≡ id) × (w ≡ u)). subst (λ (y : ℕ × View).
              Fits k ((v.me, m) ∷ r.log) r.next r.seat_of y.0 y.1) (λ a. (sym t.0 a, t.1 a))
              (fits_after r.log r.next r.seat_of id v m f))
              (λ (t : (j ≢ id) × (get_elem? s.views j ≡ some u)). fits_still r.log r.next r.seat_of id j v u m f (r.each_seat j u t.1) t.0)
              (at_set s.views id j w u e);
        },
        (
          f.later.0,
          refl,
          subst (λ (y : TableShape × List (ℕ × Move)). IsLawful (layout_of y.0) ((v.me, m) ∷ y.1)) (λ a. (sym f.shape a, f.later.1 a)) lawful,
          ap (moves_of v.me) (ap (λ es. (v.me, m) ∷ es) (sym f.later.1)) ∙ (moves_self v.me m r.log ∙ ap (λ ms. m ∷ ms) f.mine),
        ),
      )

  -- a load puts none
  follows_load : (s : St) (r : Kept k s) (i me : ℕ) (m : Move) → IsQuiet m → IsStill m → IsIdle m → Follows s r.log i (get_or s.words i 0) me m
  follows_load s r i me m q z d = let same : set s.words i (get_or s.words i 0) ≡ s.words = set-get_or s.words i 0 in record {
    ways = λ slot l. ap (λ ws. get_or ws (ways_from k + slot) 0) same ∙ (r.ways slot l ∙ sym (quiet me 0 slot m r.log q));
    sections = λ j l. ap (λ ws. get_or ws (j * section_stride) 0) same ∙ (r.sections j l ∙ sym (still me (j + 1) m r.log z));
    stored = λ slot place l w. ap (λ ws. get_or ws (index_in k slot place) 0) same ∙ (r.stored slot place l w ∙ sym (idle me slot place m r.log d));
  }

  -- a step on a header or a section puts no word of a slot
  stored_behind : (s : St) (r : Kept k s) (i x me : ℕ) (m : Move) → i < base_of k → IsIdle m → (slot place : ℕ) → slot < k.elements → place < width_of k
      → get_or (set s.words i x) (index_in k slot place) 0 ≡ word_at slot place ((me, m) ∷ r.log)
  stored_behind s r i x me m low d slot place l w = get_or-set_other s.words i (index_in k slot place) x 0
      (λ e. absurd (omega arith)) ∙ (r.stored slot place l w ∙ sym (idle me slot place m r.log d))

  -- a store puts the word of its slot and place, and no other
  follows_store : (s : St) (r : Kept k s) (i n p x me : ℕ) → IsAt k i n p → n < k.elements → p < width_of k → Follows s r.log i x me (Store n p x)
  follows_store s r i n p x me is low in_slot = let within = place_within k n p low in_slot in let wide = r.wide in record {
    ways = λ slot l. get_or-set_other s.words i (ways_from k + slot) x 0 (λ e. absurd (omega arith)) ∙
        (r.ways slot l ∙ sym (quiet me 0 slot (Store n p x) r.log tt));
    sections = λ j l. get_or-set_other s.words i (j * section_stride) x 0 (λ e. absurd (omega arith)) ∙
        (r.sections j l ∙ sym (still me (j + 1) (Store n p x) r.log tt));
    stored = λ slot place l w.
        let other = λ (ne : index_in k slot place ≢ i). get_or-set_other s.words i (index_in k slot place) x 0 ne ∙ r.stored slot place l w in
        dite (ℕ_discrete n slot)
        (λ e. dite (ℕ_discrete p place)
        (λ f. ap (λ z. get_or (set s.words i x) z 0) ((λ a. index_in k (sym e a) (sym f a)) ∙ sym is) ∙
        (get_or-set_same s.words i x 0 (omega arith) ∙ sym (stored_here me n p slot place x r.log e f)))
        (λ ne. other (λ z. ne (same_place k n p slot place in_slot w (z ∙ is)).1) ∙ sym (stored_beside me n p slot place x r.log e ne)))
        (λ ne. other (λ z. ne (same_place k n p slot place in_slot w (z ∙ is)).0) ∙ sym (stored_in_another me n p slot place x r.log ne));
  }

  same_way : (s : St) (r : Kept k s) (i slot : ℕ) → slot < ways_of k → ways_from k + slot ≡ i → get_or s.words i 0 ≡ word_in slot (moves_of 0 r.log)
  same_way s r i slot l e = ap (λ j. get_or s.words j 0) (sym e) ∙ r.ways slot l

  pub learns_ok : (slots id : ℕ) (me : Me ℕ View) (i : ℕ) → ways_from k ≤ i → i < base_of k → IsReader (layout_of k) me.0.me →
      inside me.0.mine ≡ 1 → Allows (Kept k) slots id me i (λ n. n) (learns (step slots i 0 0 none) me)
  learns_ok slots id me i low high reader inside_now s r _ at _ =
      let f = r.each_seat id me.0 at in
      let e : me.0.shape.readers ≡ k.readers = ap (λ (z : TableShape). z.readers) f.shape in
      let slot : ℕ = i - ways_from me.0.shape in
      let t = advance s r id i (get_or s.words i 0) me.0 me.1 (Learn slot (get_or s.words i 0)) at
      (reader, ap inside f.mine ∙ inside_now, same_way s r i slot (omega arith) (omega arith))
      (follows_load s r i me.0.me (Learn slot (get_or s.words i 0)) tt tt tt) in
      (t.0, keeps, tt, t.1, (t.2, refl))

  pub loads_ok : (slots id : ℕ) (me : Me ℕ View) (i slot place : ℕ) → IsAt k i slot place → slot < k.elements →
      place < width_of k → (me.0.me ≡ 0) ⊎ Holds slot me.0.mine
      → Allows (Kept k) slots id me i (λ n. n) (loads (step slots i 0 0 none) me)
  loads_ok slots id me i slot place is low in_slot known s r _ at _ =
      let f = r.each_seat id me.0 at in
      let x : ℕ = get_or s.words i 0 in
      let p : ℕ = i - base_of me.0.shape in
      let m : Move = Load (p / width_of me.0.shape) (p % width_of me.0.shape) x in
      let same : m ≡ Load slot place x = load_move me.0.shape k i slot place x f.shape is in_slot in
      let may : MayDo (layout_of k) r.log me.0.me (Load slot place x) = (
        ⊎_elim (λ w. inl w) (λ l. inr (subst (Holds slot) (sym f.mine) l)) known,
        ap (λ z. get_or s.words z 0) is ∙
            r.stored slot place low in_slot,
      ) in
      let t = advance s r id i x me.0 me.1 m at (subst (MayDo (layout_of k) r.log me.0.me) (sym same) may) (follows_load s r i me.0.me m tt tt tt) in
      (t.0, keeps, tt, t.1, (subst (λ (z : TableShape). base_of z ≤ i) (sym f.shape) (omega arith), t.2, refl))

  pub scans_ok : (slots id : ℕ) (me : Me ℕ View) (i r : ℕ) → i ≡ r * section_stride → r < k.readers → me.0.me ≡ 0 →
      Allows (Kept k) slots id me i (λ n. n) (scans (step slots i 0 0 none) me)
  unfolding advance
  scans_ok slots id me i q is low writer s r _ at _ =
      let f = r.each_seat id me.0 at in
      let reader : ℕ = i / section_stride + 1 in
      let m : Move = Scan reader (get_or s.words i 0) in
      let unmade : me.0.next ≤ reader → moves_of reader ((me.0.me, m) ∷ (f.later.0 ++ me.0.seen)) ≡ [] = λ n.
      let next = f.deals writer in
      moves_else me.0.me reader m (f.later.0 ++ me.0.seen) (λ e. absurd (omega arith)) ∙
      (ap (moves_of reader) (sym f.later.1) ∙ r.fresh reader (omega arith)) in
      let own : i / section_stride ≡ q = omega arith in
      let t = advance s r id i (get_or s.words i 0) me.0 me.1 m at (
        writer,
        subst (λ (z : ℕ × ℕ). get_or s.words z.0 0 ≡ section_word (moves_of (z.1 + 1) r.log))
            (λ a. (sym is a, sym own a)) (r.sections q low),
      ) (follows_load s r i me.0.me m tt tt tt) in
      (t.0, keeps, tt, t.1, (t.2, refl, unmade))

  pub stores_ok : (slots id : ℕ) (me : Me ℕ View) (i slot place x : ℕ) → IsAt k i slot place → slot < k.elements →
      place < width_of k → ((me.0.me ≡ 0) × IsSpare k.readers slot me.0.mine)
      ⊎ (Holds slot me.0.mine × (k.key_words ≤ place) × IsOpenTo (layout_of k) me.0.me slot place)
      → Allows (Kept k) slots id me i (λ _. x) (λ _. stores (step slots i x 0 none) me x)
  stores_ok slots id me i slot place x is low in_slot may s r _ at _ =
      let f = r.each_seat id me.0 at in
      let p : ℕ = i - base_of me.0.shape in
      let m : Move = Store (p / width_of me.0.shape) (p % width_of me.0.shape) x in
      let same : m ≡ Store slot place x = store_move me.0.shape k i slot place x f.shape is in_slot in
      let does : MayDo (layout_of k) r.log me.0.me (Store slot place x) = ⊎_elim
      (λ (w : (me.0.me ≡ 0) × IsSpare k.readers slot me.0.mine).
      inl (w.0, subst (IsSpare k.readers slot) (sym (ap (λ z. moves_of z r.log) (sym w.0) ∙ f.mine)) w.1))
      (λ l. inr (subst (Holds slot) (sym f.mine) l.0, l.1, l.2)) may in
      let t = advance s r id i x me.0 me.1 m at (subst (MayDo (layout_of k) r.log me.0.me) (sym same) does)
      (subst (Follows s r.log i x me.0.me) (sym same)
      (follows_store s r i slot place x me.0.me is low in_slot)) in
      (t.0, keeps, tt, t.1, (subst (λ (z : TableShape). base_of z ≤ i) (sym f.shape) (omega arith), t.2, refl))

  -- A step that adds is a load, and a store of the sum.
  pub adds_ok : (slots id : ℕ) (me : Me ℕ View) (i slot place amount : ℕ) → IsAt k i slot place → slot < k.elements →
      place < width_of k → Holds slot me.0.mine → k.key_words ≤ place → IsOpenTo (layout_of k) me.0.me slot place
      → Allows (Kept k) slots id me i (λ n. (n + amount) % 2 ^ 64) (adds (step slots i amount 0 none) me)
  unfolding advance
  adds_ok slots id me i slot place amount is low in_slot known behind open_to s r _ at _ =
      let f = r.each_seat id me.0 at in
      let x : ℕ = get_or s.words i 0 in
      let y : ℕ = (x + amount) % 2 ^ 64 in
      let p : ℕ = i - base_of me.0.shape in
      let m : Move = Load (p / width_of me.0.shape) (p % width_of me.0.shape) x in
      let n : Move = Store (p / width_of me.0.shape) (p % width_of me.0.shape) y in
      let same_load : m ≡ Load slot place x = load_move me.0.shape k i slot place x f.shape is in_slot in
      let same : n ≡ Store slot place y = store_move me.0.shape k i slot place y f.shape is in_slot in
      let holds : Holds slot (moves_of me.0.me r.log) = subst (Holds slot) (sym f.mine) known in
      let may : MayDo (layout_of k) r.log me.0.me (Load slot place x) =
      (inr holds, ap (λ z. get_or s.words z 0) is ∙ r.stored slot place low in_slot) in
      let t = advance s r id i x me.0 me.1 m at (subst (MayDo (layout_of k) r.log me.0.me) (sym same_load) may)
      (follows_load s r i me.0.me m tt tt tt) in
      let s1 : St = stepped s i x id me.1 t.0 keeps in
      let r1 : Kept k s1 = t.1 in
      let now : get_elem? s1.views id ≡ some t.0 = some_here s.views id me.0 t.0 at in
      let still_holds : Holds slot (moves_of me.0.me ((me.0.me, m) ∷ r.log)) =
      subst (Holds slot) (sym (moves_self me.0.me m r.log)) holds in
      let stores_may : MayDo (layout_of k) ((me.0.me, m) ∷ r.log) me.0.me (Store slot place y) = inr (still_holds, behind, open_to) in
      let u = advance s1 r1 id i y t.0 me.1 n now (subst (MayDo (layout_of k) ((me.0.me, m) ∷ r.log) me.0.me) (sym same) stores_may)
      (subst (Follows s1 r1.log i y me.0.me) (sym same) (follows_store s1 r1 i slot place y me.0.me is low in_slot)) in
      let g = r1.each_seat id t.0 now in
      let between : g.later.0 ≡ [] = no_more g.later.0 t.0.seen (sym (ap (λ es. (me.0.me, m) ∷ es) f.later.1) ∙ g.later.1) in
      let kept : Kept k (stepped s i y id me.1 u.0 keeps) = subst (Kept k) (twice s i x y id me.1 t.0 u.0) u.1 in (
        u.0,
        keeps,
        tt,
        kept,
        (
          subst (λ (z : TableShape). base_of z ≤ i) (sym f.shape) (omega arith),
          (t.2.0, u.2.1 ∙ (λ j. did t.0 n (between j)), u.2.2, u.2.3),
          refl,
        ),
      )

  -- a step that sets the section word of its own reader
  follows_section : (s : St) (r : Kept k s) (i n x me : ℕ) (m : Move) → i ≡ n * section_stride → n < k.readers →
      me ≡ n + 1 → IsQuiet m → IsIdle m → x ≡ section_word (m ∷ moves_of me r.log) → Follows s r.log i x me m
  follows_section s r i n x me m at low mine q d sets = let wide = r.wide in record {
    ways = λ slot l. get_or-set_other s.words i (ways_from k + slot) x 0 (λ e. absurd (omega arith)) ∙
        (r.ways slot l ∙ sym (quiet me 0 slot m r.log q));
    sections = λ j l. dite (ℕ_discrete j n)
        (λ e. ap (λ z. get_or (set s.words i x) z 0) (ap (λ z. z * section_stride) e ∙ sym at) ∙ (get_or-set_same s.words i x 0 (omega arith)
        ∙ sym (subst (λ z. section_word (moves_of z ((me, m) ∷ r.log)) ≡ x) (mine ∙ ap (λ z. z + 1) (sym e))
        (ap section_word (moves_self me m r.log) ∙ sym sets))))
        (λ ne. get_or-set_other s.words i (j * section_stride) x 0 (λ e. ne (omega arith)) ∙
        (r.sections j l ∙ sym (ap section_word (moves_else me (j + 1) m r.log (λ e. ne (omega arith))))));
    stored = stored_behind s r i x me m (omega arith) d;
  }

  -- what it announces
  section_told : (v w : View) (m : Move) (x : ℕ) → Gains v m w → x ≡ section_word (m ∷ v.mine) → x ≡ section_word w.mine
  section_told v w m x g is = is ∙ ap (λ (z : View). section_word z.mine) (sym g.1)

  pub opens_ok : (slots id : ℕ) (me : Me ℕ View) (i n x : ℕ) → i ≡ n * section_stride → n < k.readers → me.0.me ≡ n + 1
      → x ≡ section_word (Open ∷ me.0.mine) → Allows (Kept k) slots id me i (λ _. x) (λ _. opens (step slots i x 0 none) me x)
  opens_ok slots id me i n x is low mine word s r _ at _ =
      let f = r.each_seat id me.0 at in
      let t = advance s r id i x me.0 me.1 Open at (omega arith, omega arith)
      (follows_section s r i n x me.0.me Open is low mine tt tt (word ∙ ap (λ ms. section_word (Open ∷ ms)) (sym f.mine))) in
      (t.0, keeps, tt, t.1, (t.2, refl, section_told me.0 t.0 Open x t.2 word))

  pub closes_ok : (slots id : ℕ) (me : Me ℕ View) (i n x : ℕ) → i ≡ n * section_stride → n < k.readers → me.0.me ≡ n + 1
      → x ≡ section_word (Close ∷ me.0.mine) → Allows (Kept k) slots id me i (λ _. x) (λ _. closes (step slots i x 0 none) me x)
  closes_ok slots id me i n x is low mine word s r _ at _ =
      let f = r.each_seat id me.0 at in
      let t = advance s r id i x me.0 me.1 Close at (omega arith, omega arith)
      (follows_section s r i n x me.0.me Close is low mine tt tt (word ∙ ap (λ ms. section_word (Close ∷ ms)) (sym f.mine))) in
      (t.0, keeps, tt, t.1, (t.2, refl, section_told me.0 t.0 Close x t.2 word))

  pub puts_ok : (slots id : ℕ) (me : Me ℕ View) (i x : ℕ) → ways_from k ≤ i → i < base_of k → me.0.me ≡ 0 → IsKnown me.0 →
      (x ≡ 0) ⊎ MayLink (layout_of k) me.0.seen (i - ways_from me.0.shape) x →
      Settles k.readers (i - ways_from me.0.shape) x me.0.mine →
      Allows (Kept k) slots id me i (λ _. x) (λ _. puts (step slots i x 0 none) me x)
  puts_ok slots id me i x low high writer knows may settles s r _ at _ =
      let f = r.each_seat id me.0 at in
      let wide = r.wide in
      let e : me.0.shape.readers ≡ k.readers = ap (λ (z : TableShape). z.readers) f.shape in
      let way : ℕ = i - ways_from me.0.shape in
      let m : Move = Put way x in
      let go : Follows s r.log i x me.0.me m = record {
        ways = λ other l. dite (ℕ_discrete way other)
            (λ same. let here : ways_from k + other ≡ i = omega arith in
            ap (λ j. get_or (set s.words i x) j 0) here ∙ (get_or-set_same s.words i x 0 (omega arith)
            ∙ sym (subst (λ (z : ℕ × ℕ). word_in z.1 (moves_of z.0 ((me.0.me, m) ∷ r.log)) ≡ x)
            (λ a. (writer a, same a)) (ap (word_in way) (moves_self me.0.me m r.log) ∙
            put_here way way x (moves_of me.0.me r.log) refl))))
            (λ ne. get_or-set_other s.words i (ways_from k + other) x 0 (λ z. ne (omega arith)) ∙ (r.ways other l
            ∙ sym (subst (λ z. word_in other (moves_of z ((me.0.me, m) ∷ r.log)) ≡ word_in other
            (moves_of z r.log)) writer (ap (word_in other) (moves_self me.0.me m r.log) ∙
            put_there way other x (moves_of me.0.me r.log) ne))));
        sections = λ j l. get_or-set_other s.words i (j * section_stride) x 0 (λ z. absurd (omega arith)) ∙
            (r.sections j l ∙ sym (still me.0.me (j + 1) m r.log tt));
        stored = stored_behind s r i x me.0.me m high tt;
      } in
      let later : (x ≡ 0) ⊎ MayLink (layout_of k) r.log way x = may_later (layout_of k) r.log f.later.0 me.0.seen way x f.later.1 r.lawful
      (writers_own r.log me.0 writer f.mine ∙ sym (writers_own me.0.seen me.0 writer knows.1)) may in
      let now : Settles k.readers way x (moves_of 0 r.log) = subst (Settles k.readers way x) (sym (writers_own r.log me.0 writer f.mine)) settles in
      let t = advance s r id i x me.0 me.1 m at (writer, later, now) go in
      (t.0, keeps, tt, t.1, (t.2, refl))

  pub doubles_ok : (slots id : ℕ) (me : Me ℕ View) (i from x : ℕ) → ways_from k ≤ i → i < base_of k → me.0.me ≡ 0 → IsKnown me.0 →
      MayDouble (layout_of k) me.0.seen from (i - ways_from me.0.shape) x →
      Allows (Kept k) slots id me i (λ _. x) (λ _. doubles (step slots i x 0 none) me x)
  doubles_ok slots id me i from x low high writer knows may s r _ at _ =
      let f = r.each_seat id me.0 at in
      let wide = r.wide in
      let e : me.0.shape.readers ≡ k.readers = ap (λ (z : TableShape). z.readers) f.shape in
      let way : ℕ = i - ways_from me.0.shape in
      let m : Move = Double from way x in
      let go : Follows s r.log i x me.0.me m = record {
        ways = λ other l. dite (ℕ_discrete way other)
            (λ same. let here : ways_from k + other ≡ i = omega arith in
            ap (λ j. get_or (set s.words i x) j 0) here ∙ (get_or-set_same s.words i x 0 (omega arith)
            ∙ sym (subst (λ (z : ℕ × ℕ). word_in z.1 (moves_of z.0 ((me.0.me, m) ∷ r.log)) ≡ x)
            (λ a. (writer a, same a)) (ap (word_in way) (moves_self me.0.me m r.log) ∙
            doubled_here from way way x (moves_of me.0.me r.log) refl))))
            (λ ne. get_or-set_other s.words i (ways_from k + other) x 0 (λ z. ne (omega arith)) ∙ (r.ways other l
            ∙ sym (subst (λ z. word_in other (moves_of z ((me.0.me, m) ∷ r.log)) ≡ word_in other
            (moves_of z r.log)) writer (ap (word_in other) (moves_self me.0.me m r.log) ∙
            doubled_there from way other x (moves_of me.0.me r.log) ne))));
        sections = λ j l. get_or-set_other s.words i (j * section_stride) x 0 (λ z. absurd (omega arith)) ∙
            (r.sections j l ∙ sym (still me.0.me (j + 1) m r.log tt));
        stored = stored_behind s r i x me.0.me m high tt;
      } in
      let later : MayDouble (layout_of k) r.log from way x = double_later (layout_of k) r.log f.later.0 me.0.seen from way x f.later.1 r.lawful
      (writers_own r.log me.0 writer f.mine ∙ sym (writers_own me.0.seen me.0 writer knows.1)) may in
      let t = advance s r id i x me.0 me.1 m at (writer, later) go in
      (t.0, keeps, tt, t.1, ((from, t.2), refl))

  at_end : {A : Type 0} (l : List A) (a b : A) (j : ℕ) → get_elem? (l ++ a ∷ []) j ≡ some b → (get_elem? l j ≡ some b) ⊎ ((j ≡ length l) × (a ≡ b))
  at_end [] a b zero e = inr (refl, some-injective a b e)
  at_end [] a b (suc j) e = absurd (some-ne-none b (sym e))
  at_end (x ∷ xs) a b zero e = inl e
  at_end (x ∷ xs) a b (suc j) e = ⊎_elim (λ t. inl t) (λ t. inr (ap suc t.0, t.1)) (at_end xs a b j e)

  pub deals_ok : (id : ℕ) (v : View) → v.me ≡ 0 → Splits (Kept k) id v (dealt v) (reader_of v)
  deals_ok id v writer s r at =
      let f = r.each_seat id v at in
      let fk = f.known in
      let is : v.next ≡ r.next = f.deals writer in
      let vs : List View = set s.views id (dealt v) in
      let seats : ℕ → ℕ = λ who. if who == r.next then length vs else r.seat_of who in
      let old : (who : ℕ) → who < r.next → seats who ≡ r.seat_of who = λ who l. rw (ne_eqb who r.next (λ e. absurd (omega arith))) refl in record {
        log = r.log;
        next = r.next + 1;
        seat_of = seats;
        wide = r.wide;
        ways = r.ways;
        sections = r.sections;
        stored = r.stored;
        lawful = r.lawful;
        fresh = λ who n. r.fresh who (omega arith);
        each_seat = λ j u e. ⊎_elim
            (λ (t : get_elem? vs j ≡ some u). ⊎_elim
            (λ (p : (j ≡ id) × (dealt v ≡ u)). subst (λ (y : ℕ × View). Fits k r.log (r.next + 1) seats y.0 y.1) (λ a. (sym p.0 a, p.1 a)) record {
              shape = f.shape;
              seat = old v.me f.known ∙ f.seat;
              known = omega arith;
              deals = λ _. ap (λ z. z + 1) is;
              mine = f.mine;
              later = f.later;
            })
            (λ (p : (j ≢ id) × (get_elem? s.views j ≡ some u)). let g = r.each_seat j u p.1 in let gk = g.known in record {
              shape = g.shape;
              seat = old u.me g.known ∙ g.seat;
              known = omega arith;
              deals = λ z. absurd (p.0 (sym g.seat ∙ (ap r.seat_of (z ∙ sym writer) ∙ f.seat)));
              mine = g.mine;
              later = g.later;
            })
            (at_set s.views id j (dealt v) u t))
            (λ (t : (j ≡ length vs) × (reader_of v ≡ u)). subst (λ (y : ℕ × View). Fits k r.log (r.next + 1) seats y.0 y.1) (λ a. (sym t.0 a, t.1 a)) record {
              shape = f.shape;
              seat = rw (eq-eqb v.next r.next is) refl;
              known = omega arith;
              deals = λ z. absurd (omega arith);
              mine = r.fresh v.next (omega arith);
              later = f.later;
            })
            (at_end vs (reader_of v) u j e);
      }

  pub starts : (ws : List ℕ) → length ws ≡ count_of k → ((j : ℕ) → get_or ws j 0 ≡ 0) → Kept k record { words = ws; homes = []; views = writer_of k ∷ [] }
  starts ws wide zeros = record {
    log = [];
    next = 1;
    seat_of = λ _. 0;
    wide = wide;
    ways = λ slot _. zeros (ways_from k + slot);
    sections = λ r _. zeros (r * section_stride);
    stored = λ slot place _ _. zeros (index_in k slot place);
    lawful = tt;
    fresh = λ _ _. refl;
    each_seat = one;
  }
    where
      one : (j : ℕ) (u : View) → get_elem? (writer_of k ∷ []) j ≡ some u → Fits k [] 1 (λ _. 0) j u
      one zero u e = subst (Fits k [] 1 (λ _. 0) 0) (some-injective _ _ e)
          record {
            shape = refl;
            seat = refl;
            known = omega arith;
            deals = λ _. refl;
            mine = refl;
            later =
                ([], refl);
          }
      one (suc j) u e = absurd (some-ne-none u (sym e))
