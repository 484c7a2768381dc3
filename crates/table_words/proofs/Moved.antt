-- A key that the writer moves is found throughout.
use Rattle.table_words.proofs.Prelude.{◌≡◌, ◌≢◌, ◌⊎◌, ℕ, ◌*◌, ◌%◌, ◌<◌, ◌≤◌, List, [], ◌∷◌, ◌++◌, refl, sym, ap, ◌∙◌, subst, ⊎_elim, inl, inr, arith, None}
use Rattle.table_words.proofs.Prelude.{length, dite, ℕ_discrete, Layout, Names, bucket_of, moves_of, inside, section_word, word_in, IsMoving, IsSettled}
use Rattle.table_words.proofs.Prelude.{since_double, HavePassed, IsReader, MayDo, IsLawful, OnlySearches, AnswersLookup, IsLinkedAs, Throughout}
use Rattle.table_words.proofs.Prelude.{StaysInside, StaysFound, BearsKey, IsLinkedUnder, IsLinkedSomewhere, OnlyMoves, AreLinkedOnce, PutsNoKeyTwice}
use Rattle.table_words.proofs.Prelude.{PutNoKeyTwice, FoundOther, FoundGone}
use Rattle.table_words.specs.declared.moves.Move.{Move}
use Rattle.table_words.specs.declared.moves.Move.TheVariants.{Open, Close, Learn, Load, Store, Put, Double, Scan}
use Rattle.table_words.specs.Found.{Links}
use Rattle.table_words.specs.Moved.{Keeps, OnlyKeeps}
use Rattle.table_words.proofs.Steps.{own, others, key_step, nothing_named}
use Rattle.table_words.proofs.Words.{word_parity, word_stays}
use Rattle.table_words.proofs.Standing.{Quiet, Putting, Doubling, Changed, step, here_at, put_alone, put_settled, one_way, moved_ways}
use Rattle.table_words.proofs.Moments.{History, at_last, inside_rest, searches_inside, stays_found}
use Rattle.table_words.proofs.Looks.{moves_append}
use Rattle.table_words.proofs.Once.{stays_once}
use Rattle.table_words.proofs.Writing.{refuted_looked}
use Rattle.table_words.proofs.Walks.{was_inside}

-- what a look finds
record LooksNow (reader : ℕ) (p : ℕ → Type 0) (m : Move) : Type 0 where
  word : ℕ
  is : m ≡ Scan reader word
  so : p word

other_head : (reader word : ℕ) (m : Move) (ms : List Move) → FoundOther reader word (m ∷ ms) →
    LooksNow reader (λ x. x ≢ word) m ⊎ FoundOther reader word ms
other_head reader word Open ms h = inr h
other_head reader word Close ms h = inr h
other_head reader word (Learn w x) ms h = inr h
other_head reader word (Load e p x) ms h = inr h
other_head reader word (Store e p x) ms h = inr h
other_head reader word (Put w x) ms h = inr h
other_head reader word (Double v w x) ms h = inr h
other_head reader word (Scan r x) ms h = ⊎_elim
    (λ (t : (r ≡ reader) × (x ≢ word)). inl record { word = x; is = ap (λ z. Scan z x) t.0; so = t.1 })
    (λ t. inr t) h

gone_head : (reader : ℕ) (m : Move) (ms : List Move) → FoundGone reader (m ∷ ms) →
    LooksNow reader (λ x. (x % 2 ≡ 0) ⊎ FoundOther reader x ms) m ⊎ FoundGone reader ms
gone_head reader Open ms h = inr h
gone_head reader Close ms h = inr h
gone_head reader (Learn w x) ms h = inr h
gone_head reader (Load e p x) ms h = inr h
gone_head reader (Store e p x) ms h = inr h
gone_head reader (Put w x) ms h = inr h
gone_head reader (Double v w x) ms h = inr h
gone_head reader (Scan r x) ms h = ⊎_elim
    (λ (t : (r ≡ reader) × ((x % 2 ≡ 0) ⊎ FoundOther reader x ms)). inl record { word = x; is = ap (λ z. Scan z x) t.0; so = t.1 })
    (λ t. inr t) h

-- in a section each look at its reader finds the number that it has
look_is : (k : Layout) (reader word : ℕ) (e : ℕ × Move) (late early : History) → MayDo k (late ++ early) e.0 e.1 → e.1 ≡ Scan reader word →
    StaysInside (moves_of reader late) → word ≡ section_word (moves_of reader early)
look_is k reader word e late early may is s =
    let look : MayDo k (late ++ early) e.0 (Scan reader word) = subst (λ (z : Move). MayDo k (late ++ early) e.0 z) is may in
    look.1 ∙ (ap section_word (moves_append reader late early) ∙ word_stays (moves_of reader late) (moves_of reader early) s)

no_other : (k : Layout) (reader : ℕ) (late early : History) → IsLawful k (late ++ early) → StaysInside (moves_of reader late) →
    FoundOther reader (section_word (moves_of reader early)) (moves_of 0 late) → ⊥
no_other k reader [] early lawful s f = absurd f
no_other k reader (e ∷ late) early lawful s f =
    let rest = inside_rest reader e late s in
    let number = section_word (moves_of reader early) in
    dite (ℕ_discrete e.0 0)
    (λ writer. ⊎_elim
    (λ (t : LooksNow reader (λ x. x ≢ number) e.1). t.so (look_is k reader t.word e late early lawful.0 t.is rest))
    (λ t. no_other k reader late early lawful.1 rest t)
    (other_head reader number e.1 (moves_of 0 late) (subst (FoundOther reader number) (own 0 e late writer) f)))
    (λ ne. no_other k reader late early lawful.1 rest (subst (FoundOther reader number) (others 0 e late ne) f))

-- so a reader is not found gone while it is inside one section
not_gone : (k : Layout) (reader : ℕ) (late early : History) → IsLawful k (late ++ early) → StaysInside (moves_of reader late) →
    inside (moves_of reader early) ≡ 1 → FoundGone reader (moves_of 0 late) → ⊥
not_gone k reader [] early lawful s one f = absurd f
not_gone k reader (e ∷ late) early lawful s one f =
    let rest = inside_rest reader e late s in
    dite (ℕ_discrete e.0 0)
    (λ writer. ⊎_elim
    (λ (t : LooksNow reader (λ x. (x % 2 ≡ 0) ⊎ FoundOther reader x (moves_of 0 late)) e.1).
    let is = look_is k reader t.word e late early lawful.0 t.is rest in
    ⊎_elim
    (λ (even : t.word % 2 ≡ 0).
    let odd : t.word % 2 ≡ 1 = ap (λ z. z % 2) is ∙ (word_parity (moves_of reader early) ∙ one) in absurd (omega (arith, even, odd)))
    (λ (other : FoundOther reader t.word (moves_of 0 late)).
    no_other k reader late early lawful.1 rest (subst (λ z. FoundOther reader z (moves_of 0 late)) is other)) t.so)
    (λ t. not_gone k reader late early lawful.1 rest one t)
    (gone_head reader e.1 (moves_of 0 late) (subst (FoundGone reader) (own 0 e late writer) f)))
    (λ ne. not_gone k reader late early lawful.1 rest one (subst (FoundGone reader) (others 0 e late ne) f))

-- what was found was found by more moves
other_front : (reader word : ℕ) (ns ms : List Move) → FoundOther reader word ns → FoundOther reader word (ns ++ ms)
other_front reader word [] ms f = absurd f
other_front reader word (Open ∷ ns) ms f = other_front reader word ns ms f
other_front reader word (Close ∷ ns) ms f = other_front reader word ns ms f
other_front reader word (Learn w x ∷ ns) ms f = other_front reader word ns ms f
other_front reader word (Load e p x ∷ ns) ms f = other_front reader word ns ms f
other_front reader word (Store e p x ∷ ns) ms f = other_front reader word ns ms f
other_front reader word (Put w x ∷ ns) ms f = other_front reader word ns ms f
other_front reader word (Double v w x ∷ ns) ms f = other_front reader word ns ms f
other_front reader word (Scan r x ∷ ns) ms f = ⊎_elim (λ (t : (r ≡ reader) × (x ≢ word)). inl t) (λ t. inr (other_front reader word ns ms t)) f

pub gone_front : (reader : ℕ) (ns ms : List Move) → FoundGone reader ns → FoundGone reader (ns ++ ms)
gone_front reader [] ms f = absurd f
gone_front reader (Open ∷ ns) ms f = gone_front reader ns ms f
gone_front reader (Close ∷ ns) ms f = gone_front reader ns ms f
gone_front reader (Learn w x ∷ ns) ms f = gone_front reader ns ms f
gone_front reader (Load e p x ∷ ns) ms f = gone_front reader ns ms f
gone_front reader (Store e p x ∷ ns) ms f = gone_front reader ns ms f
gone_front reader (Put w x ∷ ns) ms f = gone_front reader ns ms f
gone_front reader (Double v w x ∷ ns) ms f = gone_front reader ns ms f
gone_front reader (Scan r x ∷ ns) ms f = ⊎_elim
    (λ (t : (r ≡ reader) × ((x % 2 ≡ 0) ⊎ FoundOther reader x ns)).
    inl (t.0, ⊎_elim (λ (even : x % 2 ≡ 0). inl even) (λ other. inr (other_front reader x ns ms other)) t.1))
    (λ t. inr (gone_front reader ns ms t)) f

pub gone_back : (reader : ℕ) (ns ms : List Move) → FoundGone reader ms → FoundGone reader (ns ++ ms)
gone_back reader [] ms f = f
gone_back reader (Open ∷ ns) ms f = gone_back reader ns ms f
gone_back reader (Close ∷ ns) ms f = gone_back reader ns ms f
gone_back reader (Learn w x ∷ ns) ms f = gone_back reader ns ms f
gone_back reader (Load e p x ∷ ns) ms f = gone_back reader ns ms f
gone_back reader (Store e p x ∷ ns) ms f = gone_back reader ns ms f
gone_back reader (Put w x ∷ ns) ms f = gone_back reader ns ms f
gone_back reader (Double v w x ∷ ns) ms f = gone_back reader ns ms f
gone_back reader (Scan r x ∷ ns) ms f = inr (gone_back reader ns ms f)

-- the writer moves something, or not
moved_or_not : (ms : List Move) → ((from : ℕ) × (to : ℕ) × IsMoving from to ms) ⊎ IsSettled ms
moved_or_not [] = inr (λ f t m. m)
moved_or_not (Open ∷ ms) = moved_or_not ms
moved_or_not (Close ∷ ms) = moved_or_not ms
moved_or_not (Learn w x ∷ ms) = moved_or_not ms
moved_or_not (Load e p x ∷ ms) = moved_or_not ms
moved_or_not (Store e p x ∷ ms) = moved_or_not ms
moved_or_not (Put w x ∷ ms) = inr (λ f t m. m)
moved_or_not (Double v w x ∷ ms) = inl (v, w, (refl, refl))
moved_or_not (Scan r x ∷ ms) = moved_or_not ms

one_move : (from to f t : ℕ) (ms : List Move) → IsMoving from to ms → IsMoving f t ms → (from ≡ f) × (to ≡ t)
one_move from to f t [] m n = absurd m
one_move from to f t (Open ∷ ms) m n = one_move from to f t ms m n
one_move from to f t (Close ∷ ms) m n = one_move from to f t ms m n
one_move from to f t (Learn w x ∷ ms) m n = one_move from to f t ms m n
one_move from to f t (Load e p x ∷ ms) m n = one_move from to f t ms m n
one_move from to f t (Store e p x ∷ ms) m n = one_move from to f t ms m n
one_move from to f t (Put w x ∷ ms) m n = absurd m
one_move from to f t (Double v w x ∷ ms) m n = (sym m.0 ∙ n.0, sym m.1 ∙ n.1)
one_move from to f t (Scan r x ∷ ms) m n = one_move from to f t ms m n

-- What stands in a way stays where the step leaves the way's word, stands in each way with that word, and in no empty one.
record IsStanding (k : Layout) (At : ℕ → History → Type 0) : Type 0 where
  still : (e : ℕ × Move) (es : History) (way : ℕ) → MayDo k es e.0 e.1 → word_in way (moves_of 0 (e ∷ es)) ≡ word_in way (moves_of 0 es) → At way es →
      At way (e ∷ es)
  same_word : (es : History) (one other : ℕ) → word_in one (moves_of 0 es) ≡ word_in other (moves_of 0 es) → At one es → At other es
  some : (es : History) (way : ℕ) → word_in way (moves_of 0 es) ≡ 0 → At way es → ⊥

-- What stays linked, as a reader in a section finds it. So is told what a put does that ends no move, by what is known of the step.
module _ (k : Layout) (At : ℕ → History → Type 0) (Known : ℕ × Move → History → Type 0) (i : IsStanding k At) (who : ℕ) (reader : IsReader k who)
    (put_over : (e : ℕ × Move) (es : History) → IsLawful k (e ∷ es) → (c : Changed k e es) → Putting k e es c.way c.word → IsSettled (moves_of 0 es) →
    (way : ℕ) → c.way ≡ way → At way es → Known e es → At way (e ∷ es)) where
  -- it is known of each step
  abbrev AllKnown : History → History → Type 0
  AllKnown [] early = Unit {0}
  AllKnown (e ∷ late) early = Known e (late ++ early) × AllKnown late early

  -- It stood in one way all the time. If it is moved now, that is the first way of the move; and in the second it stood
  -- all the time as well, or the move began meanwhile.
  record Stood (late early : History) : Type 0 where
    way : ℕ
    all : Throughout (At way) late early
    second : (from to : ℕ) → IsMoving from to (moves_of 0 (late ++ early)) → (way ≢ to) ×
        (way ≡ from → Throughout (At to) late early ⊎ ((older : List Move) × (moves_of 0 late ≡ since_double (moves_of 0 (late ++ early)) ++ older)))

  at_last_way : (way : ℕ) (late early : History) → Throughout (At way) late early → At way (late ++ early)
  at_last_way way [] early t = t
  at_last_way way (e ∷ late) early t = t.0

  -- a way whose word a step leaves
  still_all : (e : ℕ × Move) (late early : History) (way : ℕ) → MayDo k (late ++ early) e.0 e.1 →
      word_in way (moves_of 0 (e ∷ (late ++ early))) ≡ word_in way (moves_of 0 (late ++ early)) → Throughout (At way) late early →
      Throughout (At way) (e ∷ late) early
  still_all e late early way may same t = (i.still e (late ++ early) way may same (at_last_way way late early t), t)

  -- at first
  in_second : (early : History) → IsLawful k early → (way from to : ℕ) → IsMoving from to (moves_of 0 early) → way ≢ to → At way early → Stood [] early
  in_second early lawful way from to moving ne l =
      let m = moved_ways k early lawful from to moving in
      record {
        way = way;
        all = l;
        second = λ f t n.
            let is = one_move from to f t (moves_of 0 early) moving n in
            let same : way ≡ f → word_in way (moves_of 0 early) ≡ word_in t (moves_of 0 early) = λ at_f.
            ap (λ z. word_in z (moves_of 0 early)) (at_f ∙ sym is.0) ∙ (m.at_from ∙ (sym m.at_to ∙ ap (λ z. word_in z (moves_of 0 early)) is.1)) in (
              λ at_t. ne (at_t ∙ sym is.1),
              λ at_f. inl (i.same_word early way t (same at_f) l),
            );
      }

  at_first : (early : History) → IsLawful k early → (way : ℕ) → At way early → Stood [] early
  at_first early lawful way l = ⊎_elim
      (λ (t : (from : ℕ) × (to : ℕ) × IsMoving from to (moves_of 0 early)).
      let m = moved_ways k early lawful t.0 t.1 t.2 in
      dite (ℕ_discrete way t.1)
      (λ at_to.
      let same : word_in way (moves_of 0 early) ≡ word_in t.0 (moves_of 0 early) = ap (λ z. word_in z (moves_of 0 early)) at_to ∙ (m.at_to ∙ sym m.at_from) in
      in_second early lawful t.0 t.0 t.1 t.2 m.two (i.same_word early way t.0 same l))
      (λ ne. in_second early lawful way t.0 t.1 t.2 ne l))
      (λ (none : IsSettled (moves_of 0 early)). record { way = way; all = l; second = λ f t n. absurd (none f t n) })
      (moved_or_not (moves_of 0 early))

  -- one more step
  module _ (e : ℕ × Move) (late early : History) (lawful : IsLawful k (e ∷ (late ++ early))) (s : Stood late early) where
    abbrev before : History
    before = late ++ early

    quiet_stood : Quiet e before → Stood (e ∷ late) early
    quiet_stood q = record {
      way = s.way;
      all = still_all e late early s.way lawful.0 (q.same s.way) s.all;
      second = λ f t n.
          let was = s.second f t (q.back f t n) in (
            was.0,
            λ at_f. ⊎_elim
                (λ (all : Throughout (At t) late early). inl (still_all e late early t lawful.0 (q.same t) all))
                (λ (o : (older : List Move) × (moves_of 0 late ≡ since_double (moves_of 0 before) ++ older)). inr (o.0, q.since late o.0 o.1))
                (was.1 at_f),
          );
    }

    -- a way that a step leaves, after a put
    stood_after : (c : Changed k e before) → Putting k e before c.way c.word → (way : ℕ) → c.way ≢ way → Throughout (At way) late early → Stood (e ∷ late) early
    stood_after c p way ne all = record {
      way = way;
      all = still_all e late early way lawful.0 (c.there way ne) all;
      second = λ f t n. absurd (put_settled k e before c.way c.word p f t n);
    }

    -- the second way was emptied, or the first, once each reader had left
    move_ended : (c : Changed k e before) → Putting k e before c.way c.word → StaysInside (moves_of who late) → inside (moves_of who early) ≡ 1 →
        (from to : ℕ) → IsMoving from to (moves_of 0 before) → Stood (e ∷ late) early
    move_ended c p inside_all one from to moving =
        let m = moved_ways k before lawful.1 from to moving in
        let was = s.second from to moving in
        ⊎_elim
        (λ (at_to : c.way ≡ to). stood_after c p s.way (λ is. was.0 (sym is ∙ at_to)) s.all)
        (λ (at_from : (c.way ≡ from) × HavePassed k.readers (moves_of 0 before)). dite (ℕ_discrete s.way from)
        (λ here. ⊎_elim
        (λ (all : Throughout (At to) late early). stood_after c p to (λ is. m.two (sym at_from.0 ∙ is)) all)
        (λ (o : (older : List Move) × (moves_of 0 late ≡ since_double (moves_of 0 before) ++ older)).
        let gone : FoundGone who (moves_of 0 late) = subst (FoundGone who) (sym o.1)
        (gone_front who (since_double (moves_of 0 before)) o.0 (at_from.1 who reader.0 reader.1)) in
        absurd (not_gone k who late early lawful.1 inside_all one gone))
        (was.1 here))
        (λ ne. stood_after c p s.way (λ is. ne (sym is ∙ at_from.0)) s.all))
        (p.settles from to moving).1

    put_stood : (c : Changed k e before) → Putting k e before c.way c.word → StaysInside (moves_of who late) → inside (moves_of who early) ≡ 1 →
        Known e before → Stood (e ∷ late) early
    put_stood c p inside_all one known = ⊎_elim
        (λ (t : (from : ℕ) × (to : ℕ) × IsMoving from to (moves_of 0 before)). move_ended c p inside_all one t.0 t.1 t.2)
        (λ (none : IsSettled (moves_of 0 before)). dite (ℕ_discrete c.way s.way)
        (λ here. record {
          way = s.way;
          all = (put_over e before lawful c p none s.way here (at_last_way s.way late early s.all) known, s.all);
          second = λ f t n. absurd (put_settled k e before c.way c.word p f t n);
        })
        (λ ne. stood_after c p s.way ne s.all))
        (moved_or_not (moves_of 0 before))

    double_stood : (c : Changed k e before) → Doubling k e before c.way c.word → Stood (e ∷ late) early
    double_stood c d =
        let ne : c.way ≢ s.way = λ is. i.some before s.way (ap (λ z. word_in z (moves_of 0 before)) (sym is) ∙ d.may.empty)
        (at_last_way s.way late early s.all) in
        record {
          way = s.way;
          all = still_all e late early s.way lawful.0 (c.there s.way ne) s.all;
          second = λ f t n.
              let is : (d.from ≡ f) × (c.way ≡ t) = subst (IsMoving f t) d.mine n in
              (λ at_t. ne (is.1 ∙ sym at_t), λ at_f. inr (moves_of 0 (e ∷ late), ap (λ ms. since_double ms ++ moves_of 0 (e ∷ late)) (sym d.mine)));
        }

  stood : (late early : History) → IsLawful k (late ++ early) → StaysInside (moves_of who late) → inside (moves_of who early) ≡ 1 →
      (way : ℕ) → At way early → AllKnown late early → Stood late early
  stood [] early lawful s one way l known = at_first early lawful way l
  stood (e ∷ late) early lawful s one way l known =
      let rest = inside_rest who e late s in
      let ih = stood late early lawful.1 rest one way l known.1 in
      ⊎_elim
      (λ (q : Quiet e (late ++ early)). quiet_stood e late early lawful ih q)
      (λ (c : Changed k e (late ++ early)). ⊎_elim
      (λ (p : Putting k e (late ++ early) c.way c.word). put_stood e late early lawful ih c p rest one known.0)
      (λ (d : Doubling k e (late ++ early) c.way c.word). double_stood e late early lawful ih c d)
      c.how)
      (step k e (late ++ early) lawful.0)

  -- so it stood in one way all the time
  stays_in_one : (late early : History) → IsLawful k (late ++ early) → StaysInside (moves_of who late) → inside (moves_of who early) ≡ 1 →
      (way : ℕ) → At way early → AllKnown late early → (w : ℕ) × Throughout (At w) late early
  stays_in_one late early lawful s one way l known = let all = stood late early lawful s one way l known in (all.way, all.all)

-- an element that stays linked
module _ (k : Layout) (table : ℕ) (key : List ℕ) (element who : ℕ) (reader : IsReader k who) where
  abbrev ElementAt : ℕ → History → Type 0
  ElementAt way es = Links k table key way element es

  abbrev LinkedAfter : ℕ × Move → History → Type 0
  LinkedAfter e es = IsLinkedAs k table key element (e ∷ es)

  element_stands : IsStanding k ElementAt
  element_stands = record {
    still = λ e es way may same l. record {
      names = subst (λ z. Names z element) (sym same) l.names;
      table_is = l.table_is;
      key_is = key_step k es e element may (λ spare. spare.0 (way, l.names)) ∙ l.key_is;
    };
    same_word = λ es one other same l. record { names = subst (λ z. Names z element) same l.names; table_is = l.table_is; key_is = l.key_is };
    some = λ es way none l. nothing_named element (subst (λ z. Names z element) none l.names);
  }

  -- another word in its only way would unlink it
  element_over : (e : ℕ × Move) (es : History) → IsLawful k (e ∷ es) → (c : Changed k e es) → Putting k e es c.way c.word → IsSettled (moves_of 0 es) →
      (way : ℕ) → c.way ≡ way → ElementAt way es → LinkedAfter e es → ElementAt way (e ∷ es)
  element_over e es lawful c p none way here old l = absurd (dite (ℕ_discrete c.way l.0)
      (λ at_l. put_alone k es c.way c.word way element p.may (subst (λ z. Names z element) (here_at k e es c l.0 at_l) l.1.names) old.names)
      (λ ne. ne (here ∙ sym (one_way k es lawful.1 none l.0 way element (subst (λ z. Names z element) (c.there l.0 ne) l.1.names) old.names))))

  first_known : (late early : History) → Throughout (IsLinkedAs k table key element) late early → IsLinkedAs k table key element early
  first_known [] early t = t
  first_known (e ∷ late) early t = first_known late early t.1

  all_known : (late early : History) → Throughout (IsLinkedAs k table key element) late early →
      AllKnown k ElementAt LinkedAfter element_stands who reader element_over late early
  all_known [] early t = tt
  all_known (e ∷ late) early t = (t.0, all_known late early t.1)

  under_all : (way : ℕ) (late early : History) → Throughout (ElementAt way) late early → StaysFound k table key way late early
  under_all way [] early t = (element, t)
  under_all way (e ∷ late) early t = ((element, t.0), under_all way late early t.1)

  -- so its key stays in one way
  pub stays_somewhere : (late early : History) → IsLawful k (late ++ early) → StaysInside (moves_of who late) → inside (moves_of who early) ≡ 1 →
      Throughout (IsLinkedAs k table key element) late early → (way : ℕ) × StaysFound k table key way late early
  stays_somewhere late early lawful s one t =
      let first = first_known late early t in
      let all = stays_in_one k ElementAt LinkedAfter element_stands who reader element_over late early lawful s one first.0 first.1 (all_known late early t) in
      (all.0, under_all all.0 late early all.1)

-- a key whose elements are only replaced, and moved
module _ (k : Layout) (table : ℕ) (key : List ℕ) (who : ℕ) (reader : IsReader k who) where
  abbrev KeyAt : ℕ → History → Type 0
  KeyAt way es = IsLinkedUnder k table key way es

  abbrev KeyKept : ℕ × Move → History → Type 0
  KeyKept e es = Keeps k table key es e.1

  key_stands : IsStanding k KeyAt
  key_stands = record {
    still = λ e es way may same l. (
      l.0,
      record {
        names = subst (λ z. Names z l.0) (sym same) l.1.names;
        table_is = l.1.table_is;
        key_is = key_step k es e l.0 may (λ spare. spare.0 (way, l.1.names)) ∙ l.1.key_is;
      },
    );
    same_word = λ es one other same l.
        (l.0, record { names = subst (λ z. Names z l.0) same l.1.names; table_is = l.1.table_is; key_is = l.1.key_is });
    some = λ es way none l. nothing_named l.0 (subst (λ z. Names z l.0) none l.1.names);
  }

  -- another word in its way has the key
  key_over : (e : ℕ × Move) (es : History) → IsLawful k (e ∷ es) → (c : Changed k e es) → Putting k e es c.way c.word → IsSettled (moves_of 0 es) →
      (way : ℕ) → c.way ≡ way → KeyAt way es → KeyKept e es → KeyAt way (e ∷ es)
  key_over e es lawful c p none way here old known =
      let keeps : Keeps k table key es (Put c.way c.word) = subst (Keeps k table key es) p.is known in
      ⊎_elim
      (λ (not : IsLinkedUnder k table key c.way es → ⊥). absurd (not (subst (λ z. IsLinkedUnder k table key z es) (sym here) old)))
      (λ (t : BearsKey k table key es c.word ⊎ ((from : ℕ) × (to : ℕ) × IsMoving from to (moves_of 0 es))). ⊎_elim
      (λ (b : BearsKey k table key es c.word). (
        b.0,
        record {
          names = subst (λ z. Names z b.0) (sym (here_at k e es c way here)) b.1;
          table_is = b.2;
          key_is = c.keys b.0 ∙ b.3;
        },
      ))
      (λ (m : (from : ℕ) × (to : ℕ) × IsMoving from to (moves_of 0 es)). absurd (none m.0 m.1 m.2)) t)
      keeps

  all_kept : (late early : History) → OnlyKeeps k table key late early → AllKnown k KeyAt KeyKept key_stands who reader key_over late early
  all_kept [] early o = tt
  all_kept (e ∷ late) early o = (o.0, all_kept late early o.1)

  pub kept_somewhere : (late early : History) → IsLawful k (late ++ early) → StaysInside (moves_of who late) → inside (moves_of who early) ≡ 1 →
      (way : ℕ) → IsLinkedUnder k table key way early → OnlyKeeps k table key late early → (w : ℕ) × StaysFound k table key w late early
  kept_somewhere late early lawful s one way l o =
      stays_in_one k KeyAt KeyKept key_stands who reader key_over late early lawful s one way l (all_kept late early o)

bucket_back : (bucket : ℕ) → bucket_of (bucket * 8) ≡ bucket
bucket_back bucket = omega arith

-- an element that stays linked, moved or not, is not answered by null
pub null_refutes_elements : (k : Layout) (late early : History) → IsLawful k (late ++ early) → (table : ℕ) (key : List ℕ) (who element : ℕ) →
    OnlySearches k table (moves_of who late) → AnswersLookup k table key (moves_of who late) None →
    Throughout (IsLinkedAs k table key element) late early → ⊥
null_refutes_elements k late early lawful table key who element only null t =
    let first = k.first table key * 8 in
    let s = searches_inside k table (moves_of who late) only in
    let looked = refuted_looked k table key first (moves_of who late) (null first (inl (bucket_back (k.first table key)))) in
    let seen = was_inside k who first late early lawful s looked in
    let w = stays_somewhere k table key element who seen.0 late early lawful s seen.1 t in
    stays_found k table key who w.0 late early lawful only null w.1

-- nor is a key that is only replaced and moved
pub null_refutes_kept : (k : Layout) (late early : History) → IsLawful k (late ++ early) → (table : ℕ) (key : List ℕ) (who way : ℕ) →
    IsLinkedUnder k table key way early → OnlyKeeps k table key late early → OnlySearches k table (moves_of who late) →
    AnswersLookup k table key (moves_of who late) None → ⊥
null_refutes_kept k late early lawful table key who way l o only null =
    let first = k.first table key * 8 in
    let s = searches_inside k table (moves_of who late) only in
    let looked = refuted_looked k table key first (moves_of who late) (null first (inl (bucket_back (k.first table key)))) in
    let seen = was_inside k who first late early lawful s looked in
    let w = kept_somewhere k table key who seen.0 late early lawful s seen.1 way l o in
    stays_found k table key who w.0 late early lawful only null w.1

-- a word is not written in a second way once the first was emptied
pub doubled_late : (k : Layout) (es : History) (from to word : ℕ) → word_in from (moves_of 0 es) ≡ 0 → MayDo k es 0 (Double from to word) → ⊥
doubled_late k es from to word none may =
    nothing_named may.1.element (subst (λ z. Names z may.1.element) (sym may.1.there ∙ none) may.1.names)

-- nor is the first emptied before each reader has left
pub emptied_early : (k : Layout) (es : History) → IsLawful k es → (from to reader word : ℕ) → IsMoving from to (moves_of 0 es) → 0 < reader →
    reader ≤ k.readers → (FoundGone reader (since_double (moves_of 0 es)) → ⊥) → MayDo k es 0 (Put from word) → ⊥
emptied_early k es lawful from to reader word moving some few unseen may = ⊎_elim
    (λ (same : from ≡ to). (moved_ways k es lawful from to moving).two same)
    (λ (t : (from ≡ from) × HavePassed k.readers (moves_of 0 es)). unseen (t.1 reader some few))
    (may.2 from to moving).1

only_rest : (m : Move) (ms bs : List Move) → OnlyMoves (m ∷ ms) bs → OnlyMoves ms bs
only_rest Open ms bs o = o
only_rest Close ms bs o = o
only_rest (Learn w x) ms bs o = o
only_rest (Load e p x) ms bs o = o
only_rest (Store e p x) ms bs o = o
only_rest (Put w x) ms bs o = o.1
only_rest (Double v w x) ms bs o = o
only_rest (Scan r x) ms bs o = o

only_moves_rest : (e : ℕ × Move) (late : History) (bs : List Move) → OnlyMoves (moves_of 0 (e ∷ late)) bs → OnlyMoves (moves_of 0 late) bs
only_moves_rest e late bs o = dite (ℕ_discrete e.0 0)
    (λ mine. only_rest e.1 (moves_of 0 late) bs (subst (λ ms. OnlyMoves ms bs) (own 0 e late mine) o))
    (λ ne. subst (λ ms. OnlyMoves ms bs) (others 0 e late ne) o)

-- a put among them ends a move
put_ends : (k : Layout) (e : ℕ × Move) (late early : History) (way word : ℕ) → Putting k e (late ++ early) way word →
    OnlyMoves (moves_of 0 (e ∷ late)) (moves_of 0 early) → (from : ℕ) × (to : ℕ) × IsMoving from to (moves_of 0 (late ++ early))
put_ends k e late early way word p o = dite (ℕ_discrete e.0 0)
    (λ mine.
    let only : OnlyMoves (Put way word ∷ moves_of 0 late) (moves_of 0 early) = subst (λ ms. OnlyMoves ms (moves_of 0 early))
    (own 0 e late mine ∙ ap (λ m. m ∷ moves_of 0 late) p.is) o in
    (only.0.0, only.0.1, subst (IsMoving only.0.0 only.0.1) (sym (moves_append 0 late early)) only.0.2))
    (λ ne.
    let is = ap (λ (ms : List Move). length ms) (sym (others 0 e (late ++ early) ne) ∙ p.mine) in absurd (omega (arith, is)))

-- an element that is linked stays so
module _ (k : Layout) (table : ℕ) (key : List ℕ) (element : ℕ) where
  links_still : (e : ℕ × Move) (es : History) (way : ℕ) → MayDo k es e.0 e.1 → word_in way (moves_of 0 (e ∷ es)) ≡ word_in way (moves_of 0 es) →
      Links k table key way element es → IsLinkedAs k table key element (e ∷ es)
  links_still e es way may same l = (
    way,
    record {
      names = subst (λ z. Names z element) (sym same) l.names;
      table_is = l.table_is;
      key_is = key_step k es e element may (λ spare. spare.0 (way, l.names)) ∙ l.key_is;
    },
  )

  -- a move that ends leaves it in its other way
  end_leaves : (e : ℕ × Move) (es : History) → IsLawful k (e ∷ es) → (c : Changed k e es) → Putting k e es c.way c.word → (from to : ℕ) →
      IsMoving from to (moves_of 0 es) → IsLinkedAs k table key element es → IsLinkedAs k table key element (e ∷ es)
  end_leaves e es lawful c p from to moving l =
      let m = moved_ways k es lawful.1 from to moving in
      let other : (one two : ℕ) → c.way ≡ one → one ≢ two → word_in one (moves_of 0 es) ≡ word_in two (moves_of 0 es) → c.way ≡ l.0 →
      IsLinkedAs k table key element (e ∷ es) = λ one two at ne same here.
      links_still e es two lawful.0 (c.there two (λ is. ne (sym at ∙ is))) record {
        names = subst (λ z. Names z element) (ap (λ z. word_in z (moves_of 0 es)) (sym here ∙ at) ∙ same) l.1.names;
        table_is = l.1.table_is;
        key_is = l.1.key_is;
      } in
      dite (ℕ_discrete c.way l.0)
      (λ here. ⊎_elim
      (λ (at_to : c.way ≡ to). other to from at_to (λ is. m.two (sym is)) (m.at_to ∙ sym m.at_from) here)
      (λ (at_from : (c.way ≡ from) × HavePassed k.readers (moves_of 0 es)). other from to at_from.0 m.two (m.at_from ∙ sym m.at_to) here)
      (p.settles from to moving).1)
      (λ ne. links_still e es l.0 lawful.0 (c.there l.0 ne) l.1)

  linked_on : (e : ℕ × Move) (late early : History) → IsLawful k (e ∷ (late ++ early)) → OnlyMoves (moves_of 0 (e ∷ late)) (moves_of 0 early) →
      IsLinkedAs k table key element (late ++ early) → IsLinkedAs k table key element (e ∷ (late ++ early))
  linked_on e late early lawful only l = ⊎_elim
      (λ (q : Quiet e (late ++ early)). links_still e (late ++ early) l.0 lawful.0 (q.same l.0) l.1)
      (λ (c : Changed k e (late ++ early)). ⊎_elim
      (λ (p : Putting k e (late ++ early) c.way c.word).
      let m = put_ends k e late early c.way c.word p only in
      end_leaves e (late ++ early) lawful c p m.0 m.1 m.2 l)
      (λ (d : Doubling k e (late ++ early) c.way c.word).
      let ne : c.way ≢ l.0 = λ is. nothing_named element (subst (λ z. Names z element)
      (ap (λ z. word_in z (moves_of 0 (late ++ early))) (sym is) ∙ d.may.empty) l.1.names) in
      links_still e (late ++ early) l.0 lawful.0 (c.there l.0 ne) l.1)
      c.how)
      (step k e (late ++ early) lawful.0)

  pub stays_linked : (late early : History) → IsLawful k (late ++ early) → OnlyMoves (moves_of 0 late) (moves_of 0 early) →
      IsLinkedAs k table key element early → Throughout (IsLinkedAs k table key element) late early
  stays_linked [] early lawful only l = l
  stays_linked (e ∷ late) early lawful only l =
      let t = stays_linked late early lawful.1 (only_moves_rest e late (moves_of 0 early) only) l in
      (linked_on e late early lawful only (at_last (IsLinkedAs k table key element) late early t), t)

-- a key that is only replaced and moved stays linked
module _ (k : Layout) (table : ℕ) (key : List ℕ) where
  kept_on : (e : ℕ × Move) (es : History) → IsLawful k (e ∷ es) → Keeps k table key es e.1 → IsLinkedSomewhere k table key es →
      IsLinkedSomewhere k table key (e ∷ es)
  kept_on e es lawful keeps l =
      let element : ℕ = l.1.0 in
      let under : IsLinkedAs k table key element (e ∷ es) → IsLinkedSomewhere k table key (e ∷ es) = λ a. (a.0, (element, a.1)) in
      let still : word_in l.0 (moves_of 0 (e ∷ es)) ≡ word_in l.0 (moves_of 0 es) → IsLinkedSomewhere k table key (e ∷ es) =
      λ same. under (links_still k table key element e es l.0 lawful.0 same l.1.1) in
      ⊎_elim
      (λ (q : Quiet e es). still (q.same l.0))
      (λ (c : Changed k e es). ⊎_elim
      (λ (p : Putting k e es c.way c.word). ⊎_elim
      (λ (not : IsLinkedUnder k table key c.way es → ⊥).
      still (c.there l.0 (λ is. not (subst (λ z. IsLinkedUnder k table key z es) (sym is) l.1))))
      (λ (t : BearsKey k table key es c.word ⊎ ((from : ℕ) × (to : ℕ) × IsMoving from to (moves_of 0 es))). ⊎_elim
      (λ (b : BearsKey k table key es c.word). (
        c.way,
        (b.0, record { names = subst (λ z. Names z b.0) (sym c.here) b.1; table_is = b.2; key_is = c.keys b.0 ∙ b.3 }),
      ))
      (λ (m : (from : ℕ) × (to : ℕ) × IsMoving from to (moves_of 0 es)).
      under (end_leaves k table key element e es lawful c p m.0 m.1 m.2 (l.0, l.1.1))) t)
      (subst (Keeps k table key es) p.is keeps))
      (λ (d : Doubling k e es c.way c.word). still (c.there l.0 (λ is. nothing_named element (subst (λ z. Names z element)
      (ap (λ z. word_in z (moves_of 0 es)) (sym is) ∙ d.may.empty) l.1.1.names))))
      c.how)
      (step k e es lawful.0)

  pub kept_linked : (late early : History) → IsLawful k (late ++ early) → IsLinkedSomewhere k table key early → OnlyKeeps k table key late early →
      Throughout (IsLinkedSomewhere k table key) late early
  kept_linked [] early lawful l o = l
  kept_linked (e ∷ late) early lawful l o =
      let t = kept_linked late early lawful.1 l o.1 in
      (kept_on e (late ++ early) lawful o.0 (at_last (IsLinkedSomewhere k table key) late early t), t)

-- an element that is linked was so before
module _ (k : Layout) (table : ℕ) (key : List ℕ) (element : ℕ) where
  was_in : (e : ℕ × Move) (es : History) (way at : ℕ) → MayDo k es e.0 e.1 → word_in way (moves_of 0 (e ∷ es)) ≡ word_in at (moves_of 0 es) →
      Links k table key way element (e ∷ es) → IsLinkedAs k table key element es
  was_in e es way at may same l =
      let was = subst (λ z. Names z element) same l.names in (
        at,
        record { names = was; table_is = l.table_is; key_is = sym (key_step k es e element may (λ spare. spare.0 (at, was))) ∙ l.key_is },
      )

  linked_back : (e : ℕ × Move) (late early : History) → IsLawful k (e ∷ (late ++ early)) → OnlyMoves (moves_of 0 (e ∷ late)) (moves_of 0 early) →
      IsLinkedAs k table key element (e ∷ (late ++ early)) → IsLinkedAs k table key element (late ++ early)
  linked_back e late early lawful only l = ⊎_elim
      (λ (q : Quiet e (late ++ early)). was_in e (late ++ early) l.0 l.0 lawful.0 (q.same l.0) l.1)
      (λ (c : Changed k e (late ++ early)). dite (ℕ_discrete c.way l.0)
      (λ same.
      let here = here_at k e (late ++ early) c l.0 same in
      ⊎_elim
      (λ (p : Putting k e (late ++ early) c.way c.word).
      let m = put_ends k e late early c.way c.word p only in
      let none = (p.settles m.0 m.1 m.2).0 in
      absurd (nothing_named element (subst (λ z. Names z element) (here ∙ none) l.1.names)))
      (λ (d : Doubling k e (late ++ early) c.way c.word).
      was_in e (late ++ early) l.0 d.from lawful.0 (here ∙ sym d.may.there) l.1)
      c.how)
      (λ ne. was_in e (late ++ early) l.0 l.0 lawful.0 (c.there l.0 ne) l.1))
      (step k e (late ++ early) lawful.0)

  pub linked_early : (late early : History) → IsLawful k (late ++ early) → OnlyMoves (moves_of 0 late) (moves_of 0 early) →
      IsLinkedAs k table key element (late ++ early) → IsLinkedAs k table key element early
  linked_early [] early lawful only l = l
  linked_early (e ∷ late) early lawful only l = linked_early late early lawful.1 (only_moves_rest e late (moves_of 0 early) only)
      (linked_back e late early lawful only l)

-- no key is linked twice by it
puts_nothing : (k : Layout) (table : ℕ) (who : ℕ) (m : Move) (es : History) → MayDo k es who m →
    ((way word : ℕ) → Putting k (who, m) es way word → (from : ℕ) × (to : ℕ) × IsMoving from to (moves_of 0 es)) → PutsNoKeyTwice k table es m
puts_nothing k table who Open es may ends = tt
puts_nothing k table who Close es may ends = tt
puts_nothing k table who (Learn w x) es may ends = tt
puts_nothing k table who (Load e p x) es may ends = tt
puts_nothing k table who (Store e p x) es may ends = tt
puts_nothing k table who (Double v w x) es may ends = tt
puts_nothing k table who (Scan r x) es may ends = tt
puts_nothing k table who (Put w x) es may ends = λ key other b l.
    let m = ends w x record { is = refl; mine = own 0 (who, Put w x) es may.0; may = may.1; settles = may.2 } in
    let none : x ≡ 0 = (may.2 m.0 m.1 m.2).0 in
    absurd (nothing_named b.0 (subst (λ z. Names z b.0) none b.1))

none_twice : (k : Layout) (table : ℕ) (late early : History) → IsLawful k (late ++ early) → OnlyMoves (moves_of 0 late) (moves_of 0 early) →
    PutNoKeyTwice k table late early
none_twice k table [] early lawful only = tt
none_twice k table (e ∷ late) early lawful only = (
  puts_nothing k table e.0 e.1 (late ++ early) lawful.0 (λ way word p. put_ends k e late early way word p only),
  none_twice k table late early lawful.1 (only_moves_rest e late (moves_of 0 early) only),
)

pub moves_once : (k : Layout) (late early : History) → IsLawful k (late ++ early) → (table : ℕ) → IsSettled (moves_of 0 (late ++ early)) →
    OnlyMoves (moves_of 0 late) (moves_of 0 early) → AreLinkedOnce k table early → AreLinkedOnce k table (late ++ early)
moves_once k late early lawful table none only once = stays_once k late early lawful table none once (none_twice k table late early lawful only)
