-- Each step keeps the rule.
use Rattle.bpf_model.proofs.Prelude.{◌≡◌, ◌≢◌, ◌⊎◌, ℕ, zero, suc, ◌+◌, ◌-◌, ◌*◌, ◌/◌, ◌%◌, ◌<◌, ◌≤◌, List, [], ◌∷◌, ◌++◌, length, get_or, set, refl, sym, ap}
use Rattle.bpf_model.proofs.Prelude.{◌∙◌, subst, ⊎_elim, inl, inr, arith, ◌==◌, if◌then◌else◌, dite, some, none, some-injective, some-ne-none, ℕ_discrete}
use Rattle.read_table.proofs.Prelude.{moves_of, inside, header_in, IsLawful, IsLearnt, IsSpare, MayDo, MayLink, IsReader, word_at_place, section_stride}
use Rattle.read_table.proofs.Prelude.{headers_from, width_of, count_of, Kept, Gains, base_of, index_in, opens, closes, learns, stores, changes, scans}
use Rattle.std.proofs.Common.{eq-eqb, ne_eqb, append-nil, length-set, get_or-set_other, get_or-set_same}
use lib.ListN.{get_elem?}
use lib.Seq.{set-get_or}
use Rattle.atomic_table.specs.Table.{State, Me, step, keeps, stepped, Allows, Splits}
use Rattle.atomic_table.proofs.Lists.{at_set}
use Rattle.read_table.specs.declared.view.Move.{Move}
use Rattle.read_table.specs.declared.view.Move.TheVariants.{Open, Close, Learn, Load, Store, Header, Scan}
use Rattle.read_table.specs.declared.view.TableShape.{TableShape}
use Rattle.read_table.specs.declared.view.View.{View}
use Rattle.read_table.specs.Law.{Fits, writer_of, dealt, reader_of, did, loads}
use Rattle.read_table.proofs.Lists.{moves_self, moves_else, IsQuiet, IsStill, IsIdle, quiet, still, idle, stored_here, stored_in_another, stored_beside}
use Rattle.read_table.proofs.Places.{IsAt, load_move, store_move, same_place, place_within}

abbrev St : Type 0
St = State ℕ View

module _ (k : TableShape) where
  -- the words after a step are those of the history after it
  pub record Follows (s : St) (log : List (ℕ × Move)) (i x me : ℕ) (m : Move) : Type 0 where
    pub headers : (slot : ℕ) → slot < k.slots → get_or (set s.words i x) (headers_from k + slot) 0 ≡ header_in slot (moves_of 0 ((me, m) ∷ log))
    pub sections : (q : ℕ) → q < k.readers → get_or (set s.words i x) (q * section_stride) 0 ≡ inside (moves_of (q + 1) ((me, m) ∷ log))
    pub stored : (slot place : ℕ) → slot < k.slots → place < width_of k →
        get_or (set s.words i x) (index_in k slot place) 0 ≡ word_at_place slot place ((me, m) ∷ log)

  fits_after : (log : List (ℕ × Move)) (next : ℕ) (seat_of : ℕ → ℕ) (id : ℕ) (v : View) (m : Move) (f : Fits k log next seat_of id v)
      → Fits k ((v.me, m) ∷ log) next seat_of id (did v m f.later.0)
  fits_after log next seat_of id v m f = record {
    shape = f.shape;
    seat = f.seat;
    known = f.known;
    deals = f.deals;
    mine = moves_self v.me m log ∙ ap (λ ms. m ∷ ms) f.mine;
    later = ([], ap (λ es. (v.me, m) ∷ es) f.later.1);
  }

  fits_still : (log : List (ℕ × Move)) (next : ℕ) (seat_of : ℕ → ℕ) (id j : ℕ) (v u : View) (m : Move) →
      Fits k log next seat_of id v → Fits k log next seat_of j u → j ≢ id
      → Fits k ((v.me, m) ∷ log) next seat_of j u
  fits_still log next seat_of id j v u m f g apart = record {
    shape = g.shape;
    seat = g.seat;
    known = g.known;
    deals = g.deals;
    mine = moves_else v.me u.me m log (λ e. apart (sym g.seat ∙ (ap seat_of (sym e) ∙ f.seat))) ∙ g.mine;
    later = ((v.me, m) ∷ g.later.0, ap (λ es. (v.me, m) ∷ es) g.later.1);
  }

  pub advance : (s : St) (r : Kept k s) (id i x : ℕ) (v : View) (cs : List (ℕ × ℕ)) (m : Move) →
      get_elem? s.views id ≡ some v → MayDo k r.log v.me m → Follows s r.log i x v.me m
      → (w : View) × Kept k (stepped s i x id cs w keeps) × Gains v m w
  advance s r id i x v cs m at may go =
      let f = r.each_seat id v at in
      let w = did v m f.later.0 in
      let lawful : IsLawful k ((v.me, m) ∷ r.log) = (may, r.lawful) in (
        w,
        record {
          log = (v.me, m) ∷ r.log;
          next = r.next;
          seat_of = r.seat_of;
          wide = length-set s.words i x ∙ r.wide;
          headers = go.headers;
          sections = go.sections;
          stored = go.stored;
          lawful = lawful;
          fresh = λ who n. let known = f.known in moves_else v.me who m r.log (λ e. absurd (omega arith)) ∙ r.fresh who n;
          each_seat = λ j u e. ⊎_elim
              (λ (t : (j ≡ id) × (w ≡ u)). subst (λ (y : ℕ × View).
              Fits k ((v.me, m) ∷ r.log) r.next r.seat_of y.0 y.1) (λ a. (sym t.0 a, t.1 a))
              (fits_after r.log r.next r.seat_of id v m f))
              (λ (t : (j ≢ id) × (get_elem? s.views j ≡ some u)). fits_still r.log r.next r.seat_of id j v u m f (r.each_seat j u t.1) t.0)
              (at_set s.views id j w u e);
        },
        (
          f.later.0,
          refl,
          subst (λ (y : TableShape × List (ℕ × Move)). IsLawful y.0 ((v.me, m) ∷ y.1)) (λ a. (sym f.shape a, f.later.1 a)) lawful,
          ap (moves_of v.me) (ap (λ es. (v.me, m) ∷ es) (sym f.later.1)) ∙ (moves_self v.me m r.log ∙ ap (λ ms. m ∷ ms) f.mine),
        ),
      )

  -- a load changes none
  follows_load : (s : St) (r : Kept k s) (i me : ℕ) (m : Move) → IsQuiet m → IsStill m → IsIdle m → Follows s r.log i (get_or s.words i 0) me m
  follows_load s r i me m q z d = let same : set s.words i (get_or s.words i 0) ≡ s.words = set-get_or s.words i 0 in record {
    headers = λ slot l. ap (λ ws. get_or ws (headers_from k + slot) 0) same ∙ (r.headers slot l ∙ sym (quiet me 0 slot m r.log q));
    sections = λ j l. ap (λ ws. get_or ws (j * section_stride) 0) same ∙ (r.sections j l ∙ sym (still me (j + 1) m r.log z));
    stored = λ slot place l w. ap (λ ws. get_or ws (index_in k slot place) 0) same ∙ (r.stored slot place l w ∙ sym (idle me slot place m r.log d));
  }

  -- a step on a header or a section changes no word of a slot
  stored_behind : (s : St) (r : Kept k s) (i x me : ℕ) (m : Move) → i < base_of k → IsIdle m → (slot place : ℕ) → slot < k.slots → place < width_of k
      → get_or (set s.words i x) (index_in k slot place) 0 ≡ word_at_place slot place ((me, m) ∷ r.log)
  stored_behind s r i x me m low d slot place l w = get_or-set_other s.words i (index_in k slot place) x 0
      (λ e. absurd (omega arith)) ∙ (r.stored slot place l w ∙ sym (idle me slot place m r.log d))

  -- a store changes the word of its slot and place, and no other
  follows_store : (s : St) (r : Kept k s) (i n p x me : ℕ) → IsAt k i n p → n < k.slots → p < width_of k → Follows s r.log i x me (Store n p x)
  follows_store s r i n p x me is low in_slot = let within = place_within k n p low in_slot in let wide = r.wide in record {
    headers = λ slot l. get_or-set_other s.words i (headers_from k + slot) x 0 (λ e. absurd (omega arith)) ∙
        (r.headers slot l ∙ sym (quiet me 0 slot (Store n p x) r.log tt));
    sections = λ j l. get_or-set_other s.words i (j * section_stride) x 0 (λ e. absurd (omega arith)) ∙
        (r.sections j l ∙ sym (still me (j + 1) (Store n p x) r.log tt));
    stored = λ slot place l w.
        let other = λ (ne : index_in k slot place ≢ i). get_or-set_other s.words i (index_in k slot place) x 0 ne ∙ r.stored slot place l w in
        dite (ℕ_discrete n slot)
        (λ e. dite (ℕ_discrete p place)
        (λ f. ap (λ z. get_or (set s.words i x) z 0) ((λ a. index_in k (sym e a) (sym f a)) ∙ sym is) ∙
        (get_or-set_same s.words i x 0 (omega arith) ∙ sym (stored_here me n p slot place x r.log e f)))
        (λ ne. other (λ z. ne (same_place k n p slot place in_slot w (z ∙ is)).1) ∙ sym (stored_beside me n p slot place x r.log e ne)))
        (λ ne. other (λ z. ne (same_place k n p slot place in_slot w (z ∙ is)).0) ∙ sym (stored_in_another me n p slot place x r.log ne));
  }

  same_slot : (s : St) (r : Kept k s) (i slot : ℕ) → slot < k.slots → headers_from k + slot ≡ i → get_or s.words i 0 ≡ header_in slot (moves_of 0 r.log)
  same_slot s r i slot l e = ap (λ j. get_or s.words j 0) (sym e) ∙ r.headers slot l

  pub learns_ok : (slots id : ℕ) (me : Me ℕ View) (i : ℕ) → headers_from k ≤ i → i < base_of k → IsReader k me.0.me →
      inside me.0.mine ≡ 1 → Allows (Kept k) slots id me i (λ n. n) (learns (step slots i 0 0 none) me)
  learns_ok slots id me i low high reader inside_now s r _ at _ =
      let f = r.each_seat id me.0 at in
      let e : me.0.shape.readers ≡ k.readers = ap (λ (z : TableShape). z.readers) f.shape in
      let slot : ℕ = i - headers_from me.0.shape in
      let t = advance s r id i (get_or s.words i 0) me.0 me.1 (Learn slot (get_or s.words i 0)) at
      (reader, ap inside f.mine ∙ inside_now, same_slot s r i slot (omega arith) (omega arith))
      (follows_load s r i me.0.me (Learn slot (get_or s.words i 0)) tt tt tt) in
      (t.0, keeps, tt, t.1, (t.2, refl))

  pub loads_ok : (slots id : ℕ) (me : Me ℕ View) (i slot place : ℕ) → IsAt k i slot place → slot < k.slots →
      place < width_of k → (me.0.me ≡ 0) ⊎ IsLearnt slot me.0.mine
      → Allows (Kept k) slots id me i (λ n. n) (loads (step slots i 0 0 none) me)
  loads_ok slots id me i slot place is low in_slot known s r _ at _ =
      let f = r.each_seat id me.0 at in
      let x : ℕ = get_or s.words i 0 in
      let p : ℕ = i - base_of me.0.shape in
      let m : Move = Load (p / width_of me.0.shape) (p % width_of me.0.shape) x in
      let same : m ≡ Load slot place x = load_move me.0.shape k i slot place x f.shape is in_slot in
      let may : MayDo k r.log me.0.me (Load slot place x) = (
        ⊎_elim (λ w. inl w) (λ l. inr (subst (IsLearnt slot) (sym f.mine) l)) known,
        ap (λ z. get_or s.words z 0) is ∙
            r.stored slot place low in_slot,
      ) in
      let t = advance s r id i x me.0 me.1 m at (subst (MayDo k r.log me.0.me) (sym same) may) (follows_load s r i me.0.me m tt tt tt) in
      (t.0, keeps, tt, t.1, (subst (λ (z : TableShape). base_of z ≤ i) (sym f.shape) (omega arith), t.2, refl))

  pub scans_ok : (slots id : ℕ) (me : Me ℕ View) (i r : ℕ) → i ≡ r * section_stride → r < k.readers → me.0.me ≡ 0 →
      Allows (Kept k) slots id me i (λ n. n) (scans (step slots i 0 0 none) me)
  scans_ok slots id me i q is low writer s r _ at _ =
      let m : Move = Scan (i / section_stride + 1) (get_or s.words i 0) in
      let own : i / section_stride ≡ q = omega arith in
      let t = advance s r id i (get_or s.words i 0) me.0 me.1 m at (
        writer,
        subst (λ (z : ℕ × ℕ). get_or s.words z.0 0 ≡ inside (moves_of (z.1 + 1) r.log))
            (λ a. (sym is a, sym own a)) (r.sections q low),
      ) (follows_load s r i me.0.me m tt tt tt) in
      (t.0, keeps, tt, t.1, (t.2, refl))

  pub stores_ok : (slots id : ℕ) (me : Me ℕ View) (i slot place x : ℕ) → IsAt k i slot place → slot < k.slots →
      place < width_of k → ((me.0.me ≡ 0) × IsSpare k.readers slot me.0.mine) ⊎ (IsLearnt slot me.0.mine × (k.key_words ≤ place))
      → Allows (Kept k) slots id me i (λ _. x) (λ _. stores (step slots i x 0 none) me x)
  stores_ok slots id me i slot place x is low in_slot may s r _ at _ =
      let f = r.each_seat id me.0 at in
      let p : ℕ = i - base_of me.0.shape in
      let m : Move = Store (p / width_of me.0.shape) (p % width_of me.0.shape) x in
      let same : m ≡ Store slot place x = store_move me.0.shape k i slot place x f.shape is in_slot in
      let does : MayDo k r.log me.0.me (Store slot place x) = ⊎_elim
      (λ (w : (me.0.me ≡ 0) × IsSpare k.readers slot me.0.mine).
      inl (w.0, subst (IsSpare k.readers slot) (sym (ap (λ z. moves_of z r.log) (sym w.0) ∙ f.mine)) w.1))
      (λ l. inr (subst (IsLearnt slot) (sym f.mine) l.0, l.1)) may in
      let t = advance s r id i x me.0 me.1 m at (subst (MayDo k r.log me.0.me) (sym same) does)
      (subst (Follows s r.log i x me.0.me) (sym same)
      (follows_store s r i slot place x me.0.me is low in_slot)) in
      (t.0, keeps, tt, t.1, (subst (λ (z : TableShape). base_of z ≤ i) (sym f.shape) (omega arith), t.2, refl))

  -- a step that sets the section word of its own reader
  follows_section : (s : St) (r : Kept k s) (i n x me : ℕ) (m : Move) → i ≡ n * section_stride → n < k.readers →
      me ≡ n + 1 → IsQuiet m → IsIdle m → ((ms : List Move) → inside (m ∷ ms) ≡ x) → Follows s r.log i x me m
  follows_section s r i n x me m at low mine q d sets = let wide = r.wide in record {
    headers = λ slot l. get_or-set_other s.words i (headers_from k + slot) x 0 (λ e. absurd (omega arith)) ∙
        (r.headers slot l ∙ sym (quiet me 0 slot m r.log q));
    sections = λ j l. dite (ℕ_discrete j n)
        (λ e. ap (λ z. get_or (set s.words i x) z 0) (ap (λ z. z * section_stride) e ∙ sym at) ∙ (get_or-set_same s.words i x 0 (omega arith)
        ∙ sym (subst (λ z. inside (moves_of z ((me, m) ∷ r.log)) ≡ x) (mine ∙ ap (λ z. z + 1) (sym e))
        (ap inside (moves_self me m r.log) ∙ sets (moves_of me r.log)))))
        (λ ne. get_or-set_other s.words i (j * section_stride) x 0 (λ e. ne (omega arith)) ∙
        (r.sections j l ∙ sym (ap inside (moves_else me (j + 1) m r.log (λ e. ne (omega arith))))));
    stored = stored_behind s r i x me m (omega arith) d;
  }

  pub opens_ok : (slots id : ℕ) (me : Me ℕ View) (i n : ℕ) → i ≡ n * section_stride → n < k.readers → me.0.me ≡ n + 1
      → Allows (Kept k) slots id me i (λ _. 1) (λ _. opens (step slots i 1 0 none) me 1)
  opens_ok slots id me i n is low mine s r _ at _ =
      let t = advance s r id i 1 me.0 me.1 Open at (omega arith, omega arith) (follows_section s r i n 1 me.0.me Open is low mine tt tt (λ ms. refl)) in
      (t.0, keeps, tt, t.1, (t.2, refl))

  pub closes_ok : (slots id : ℕ) (me : Me ℕ View) (i n : ℕ) → i ≡ n * section_stride → n < k.readers → me.0.me ≡ n + 1
      → Allows (Kept k) slots id me i (λ _. 0) (λ _. closes (step slots i 0 0 none) me 0)
  closes_ok slots id me i n is low mine s r _ at _ =
      let t = advance s r id i 0 me.0 me.1 Close at (omega arith, omega arith) (follows_section s r i n 0 me.0.me Close is low mine tt tt (λ ms. refl)) in
      (t.0, keeps, tt, t.1, (t.2, refl))

  header_same : (slot w : ℕ) (ms : List Move) → header_in slot (Header slot w ∷ ms) ≡ w
  header_same slot w ms = rw (eq-eqb slot slot refl) refl

  header_else : (slot other w : ℕ) (ms : List Move) → slot ≢ other → header_in other (Header slot w ∷ ms) ≡ header_in other ms
  header_else slot other w ms ne = rw (ne_eqb slot other ne) refl

  pub changes_ok : (slots id : ℕ) (me : Me ℕ View) (i x : ℕ) → headers_from k ≤ i → i < base_of k → me.0.me ≡ 0 →
      x ≡ header_in (i - headers_from me.0.shape) me.0.mine + 1
      → (x % 2 ≡ 1 → MayLink k.readers (i - headers_from me.0.shape) me.0.mine) →
      Allows (Kept k) slots id me i (λ _. x) (λ _. changes (step slots i x 0 none) me x)
  changes_ok slots id me i x low high writer is may s r _ at _ =
      let f = r.each_seat id me.0 at in
      let wide = r.wide in
      let e : me.0.shape.readers ≡ k.readers = ap (λ (z : TableShape). z.readers) f.shape in
      let slot : ℕ = i - headers_from me.0.shape in
      let m : Move = Header slot x in
      let own : moves_of 0 r.log ≡ me.0.mine = ap (λ z. moves_of z r.log) (sym writer) ∙ f.mine in
      let go : Follows s r.log i x me.0.me m = record {
        headers = λ other l. dite (ℕ_discrete slot other)
            (λ same. let here : headers_from k + other ≡ i = omega arith in
            ap (λ j. get_or (set s.words i x) j 0) here ∙ (get_or-set_same s.words i x 0 (omega arith)
            ∙ sym (subst (λ (z : ℕ × ℕ). header_in z.1 (moves_of z.0 ((me.0.me, m) ∷ r.log)) ≡ x)
            (λ a. (writer a, same a)) (ap (header_in slot) (moves_self me.0.me m r.log) ∙
            header_same slot x (moves_of me.0.me r.log)))))
            (λ ne. get_or-set_other s.words i (headers_from k + other) x 0 (λ z. ne (omega arith)) ∙ (r.headers other l
            ∙ sym (subst (λ z. header_in other (moves_of z ((me.0.me, m) ∷ r.log)) ≡ header_in other
            (moves_of z r.log)) writer (ap (header_in other) (moves_self me.0.me m r.log) ∙
            header_else slot other x (moves_of me.0.me r.log) ne))));
        sections = λ j l. get_or-set_other s.words i (j * section_stride) x 0 (λ z. absurd (omega arith)) ∙
            (r.sections j l ∙ sym (still me.0.me (j + 1) m r.log tt));
        stored = stored_behind s r i x me.0.me m high tt;
      } in
      let t = advance s r id i x me.0 me.1 m at
      (writer, subst (λ ms. x ≡ header_in slot ms + 1) (sym own) is, λ odd. subst (λ ms. MayLink k.readers slot ms) (sym own) (may odd)) go in
      (t.0, keeps, tt, t.1, (t.2, refl))

  at_end : {A : Type 0} (l : List A) (a b : A) (j : ℕ) → get_elem? (l ++ a ∷ []) j ≡ some b → (get_elem? l j ≡ some b) ⊎ ((j ≡ length l) × (a ≡ b))
  at_end [] a b zero e = inr (refl, some-injective a b e)
  at_end [] a b (suc j) e = absurd (some-ne-none b (sym e))
  at_end (x ∷ xs) a b zero e = inl e
  at_end (x ∷ xs) a b (suc j) e = ⊎_elim (λ t. inl t) (λ t. inr (ap suc t.0, t.1)) (at_end xs a b j e)

  pub deals_ok : (id : ℕ) (v : View) → v.me ≡ 0 → Splits (Kept k) id v (dealt v) (reader_of v)
  deals_ok id v writer s r at =
      let f = r.each_seat id v at in
      let fk = f.known in
      let is : v.next ≡ r.next = f.deals writer in
      let vs : List View = set s.views id (dealt v) in
      let seats : ℕ → ℕ = λ who. if who == r.next then length vs else r.seat_of who in
      let old : (who : ℕ) → who < r.next → seats who ≡ r.seat_of who = λ who l. rw (ne_eqb who r.next (λ e. absurd (omega arith))) refl in record {
        log = r.log;
        next = r.next + 1;
        seat_of = seats;
        wide = r.wide;
        headers = r.headers;
        sections = r.sections;
        stored = r.stored;
        lawful = r.lawful;
        fresh = λ who n. r.fresh who (omega arith);
        each_seat = λ j u e. ⊎_elim
            (λ (t : get_elem? vs j ≡ some u). ⊎_elim
            (λ (p : (j ≡ id) × (dealt v ≡ u)). subst (λ (y : ℕ × View). Fits k r.log (r.next + 1) seats y.0 y.1) (λ a. (sym p.0 a, p.1 a)) record {
              shape = f.shape;
              seat = old v.me f.known ∙ f.seat;
              known = omega arith;
              deals = λ _. ap (λ z. z + 1) is;
              mine = f.mine;
              later = f.later;
            })
            (λ (p : (j ≢ id) × (get_elem? s.views j ≡ some u)). let g = r.each_seat j u p.1 in let gk = g.known in record {
              shape = g.shape;
              seat = old u.me g.known ∙ g.seat;
              known = omega arith;
              deals = λ z. absurd (p.0 (sym g.seat ∙ (ap r.seat_of (z ∙ sym writer) ∙ f.seat)));
              mine = g.mine;
              later = g.later;
            })
            (at_set s.views id j (dealt v) u t))
            (λ (t : (j ≡ length vs) × (reader_of v ≡ u)). subst (λ (y : ℕ × View). Fits k r.log (r.next + 1) seats y.0 y.1) (λ a. (sym t.0 a, t.1 a)) record {
              shape = f.shape;
              seat = rw (eq-eqb v.next r.next is) refl;
              known = omega arith;
              deals = λ z. absurd (omega arith);
              mine = r.fresh v.next (omega arith);
              later = (r.log, sym (append-nil r.log));
            })
            (at_end vs (reader_of v) u j e);
      }

  pub starts : (ws : List ℕ) → length ws ≡ count_of k → ((j : ℕ) → get_or ws j 0 ≡ 0) → Kept k record { words = ws; homes = []; views = writer_of k ∷ [] }
  starts ws wide zeros = record {
    log = [];
    next = 1;
    seat_of = λ _. 0;
    wide = wide;
    headers = λ slot _. zeros (headers_from k + slot);
    sections = λ r _. zeros (r * section_stride);
    stored = λ slot place _ _. zeros (index_in k slot place);
    lawful = tt;
    fresh = λ _ _. refl;
    each_seat = one;
  }
    where
      one : (j : ℕ) (u : View) → get_elem? (writer_of k ∷ []) j ≡ some u → Fits k [] 1 (λ _. 0) j u
      one zero u e = subst (Fits k [] 1 (λ _. 0) 0) (some-injective _ _ e)
          record {
            shape = refl;
            seat = refl;
            known = omega arith;
            deals = λ _. refl;
            mine = refl;
            later =
                ([], refl);
          }
      one (suc j) u e = absurd (some-ne-none u (sym e))
