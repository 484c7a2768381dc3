-- What stands in ways.
use Rattle.table_words.proofs.Prelude.{◌≡◌, ◌≢◌, ◌⊎◌, ℕ, ◌<◌, List, [], ◌∷◌, ◌++◌, refl, sym, ap, ◌∙◌, subst, ⊎_elim, inl, inr, dite, ℕ_discrete, Layout}
use Rattle.table_words.proofs.Prelude.{IsCandidate, Names, tag_in, moves_of, word_in, key_of, IsMoving, IsSettled, since_double, AreOneOrMoved, Settles}
use Rattle.table_words.proofs.Prelude.{MayDouble, MayLink, MayDo, IsLawful}
use Rattle.table_words.specs.declared.moves.Move.{Move}
use Rattle.table_words.specs.declared.moves.Move.TheVariants.{Open, Close, Learn, Load, Store, Put, Double, Scan}
use Rattle.table_words.proofs.Steps.{own, others, put_here, put_there, doubled_here, doubled_there, key_step, key_put, key_doubled, one_name}
use Rattle.table_words.proofs.Steps.{nothing_named}

-- What a step leaves of the words in ways: all of them, or all but one, in which the writer puts a word.
pub record Quiet (e : ℕ × Move) (es : List (ℕ × Move)) : Type 0 where
  pub same : (way : ℕ) → word_in way (moves_of 0 (e ∷ es)) ≡ word_in way (moves_of 0 es)
  -- and what is moved is moved still
  pub onward : (from to : ℕ) → IsMoving from to (moves_of 0 es) → IsMoving from to (moves_of 0 (e ∷ es))
  pub back : (from to : ℕ) → IsMoving from to (moves_of 0 (e ∷ es)) → IsMoving from to (moves_of 0 es)
  -- since the move began, no more was done than since some steps
  pub since : (late : List (ℕ × Move)) (older : List Move) → moves_of 0 late ≡ since_double (moves_of 0 es) ++ older →
      moves_of 0 (e ∷ late) ≡ since_double (moves_of 0 (e ∷ es)) ++ older

-- the writer puts a word in a way: 0, or that of a spare element
pub record Putting (k : Layout) (e : ℕ × Move) (es : List (ℕ × Move)) (way word : ℕ) : Type 0 where
  pub is : e.1 ≡ Put way word
  pub mine : moves_of 0 (e ∷ es) ≡ Put way word ∷ moves_of 0 es
  pub may : (word ≡ 0) ⊎ MayLink k es way word
  pub settles : Settles k.readers way word (moves_of 0 es)

-- or that of another way
pub record Doubling (k : Layout) (e : ℕ × Move) (es : List (ℕ × Move)) (way word : ℕ) : Type 0 where
  pub from : ℕ
  pub is : e.1 ≡ Double from way word
  pub mine : moves_of 0 (e ∷ es) ≡ Double from way word ∷ moves_of 0 es
  pub may : MayDouble k es from way word

pub record Changed (k : Layout) (e : ℕ × Move) (es : List (ℕ × Move)) : Type 0 where
  pub way : ℕ
  pub word : ℕ
  pub here : word_in way (moves_of 0 (e ∷ es)) ≡ word
  pub there : (w : ℕ) → way ≢ w → word_in w (moves_of 0 (e ∷ es)) ≡ word_in w (moves_of 0 es)
  pub keys : (element : ℕ) → key_of k element (e ∷ es) ≡ key_of k element es
  pub how : Putting k e es way word ⊎ Doubling k e es way word

quiet_by : (who : ℕ) (m : Move) (es : List (ℕ × Move)) → ((way : ℕ) (ms : List Move) → word_in way (m ∷ ms) ≡ word_in way ms) →
    ((from to : ℕ) (ms : List Move) → IsMoving from to ms → IsMoving from to (m ∷ ms)) →
    ((from to : ℕ) (ms : List Move) → IsMoving from to (m ∷ ms) → IsMoving from to ms) →
    ((ms : List Move) → since_double (m ∷ ms) ≡ m ∷ since_double ms) → Quiet (who, m) es
quiet_by who m es same onward back since = record {
  same = λ way. dite (ℕ_discrete who 0)
      (λ writer. ap (word_in way) (own 0 (who, m) es writer) ∙ same way (moves_of 0 es))
      (λ ne. ap (word_in way) (others 0 (who, m) es ne));
  onward = λ from to moving. dite (ℕ_discrete who 0)
      (λ writer. subst (IsMoving from to) (sym (own 0 (who, m) es writer)) (onward from to (moves_of 0 es) moving))
      (λ ne. subst (IsMoving from to) (sym (others 0 (who, m) es ne)) moving);
  back = λ from to moving. dite (ℕ_discrete who 0)
      (λ writer. back from to (moves_of 0 es) (subst (IsMoving from to) (own 0 (who, m) es writer) moving))
      (λ ne. subst (IsMoving from to) (others 0 (who, m) es ne) moving);
  since = λ late older is. dite (ℕ_discrete who 0)
      (λ writer. own 0 (who, m) late writer ∙ (ap (λ ms. m ∷ ms) is ∙
      ap (λ ms. ms ++ older) (sym (since (moves_of 0 es)) ∙ ap since_double (sym (own 0 (who, m) es writer)))))
      (λ ne. others 0 (who, m) late ne ∙ (is ∙ ap (λ ms. since_double ms ++ older) (sym (others 0 (who, m) es ne))));
}

of_step : (k : Layout) (who : ℕ) (m : Move) (es : List (ℕ × Move)) → MayDo k es who m → Quiet (who, m) es ⊎ Changed k (who, m) es
of_step k who Open es may = inl (quiet_by who Open es (λ way ms. refl) (λ f t ms h. h) (λ f t ms h. h) (λ ms. refl))
of_step k who Close es may = inl (quiet_by who Close es (λ way ms. refl) (λ f t ms h. h) (λ f t ms h. h) (λ ms. refl))
of_step k who (Learn w x) es may = inl (quiet_by who (Learn w x) es (λ way ms. refl) (λ f t ms h. h) (λ f t ms h. h) (λ ms. refl))
of_step k who (Load s p x) es may = inl (quiet_by who (Load s p x) es (λ way ms. refl) (λ f t ms h. h) (λ f t ms h. h) (λ ms. refl))
of_step k who (Store s p x) es may = inl (quiet_by who (Store s p x) es (λ way ms. refl) (λ f t ms h. h) (λ f t ms h. h) (λ ms. refl))
of_step k who (Scan r x) es may = inl (quiet_by who (Scan r x) es (λ way ms. refl) (λ f t ms h. h) (λ f t ms h. h) (λ ms. refl))
of_step k who (Put w x) es may =
    let is = own 0 (who, Put w x) es may.0 in
    inr record {
      way = w;
      word = x;
      here = ap (word_in w) is ∙ put_here w w x (moves_of 0 es) refl;
      there = λ v ne. ap (word_in v) is ∙ put_there w v x (moves_of 0 es) ne;
      keys = λ element. key_put k es who element w x;
      how = inl record { is = refl; mine = is; may = may.1; settles = may.2 };
    }
of_step k who (Double v w x) es may =
    let is = own 0 (who, Double v w x) es may.0 in
    inr record {
      way = w;
      word = x;
      here = ap (word_in w) is ∙ doubled_here v w w x (moves_of 0 es) refl;
      there = λ u ne. ap (word_in u) is ∙ doubled_there v w u x (moves_of 0 es) ne;
      keys = λ element. key_doubled k es who element v w x;
      how = inr record { from = v; is = refl; mine = is; may = may.1 };
    }

pub step : (k : Layout) (e : ℕ × Move) (es : List (ℕ × Move)) → MayDo k es e.0 e.1 → Quiet e es ⊎ Changed k e es
step k e es may = of_step k e.0 e.1 es may

-- the way that is changed has the word
pub here_at : (k : Layout) (e : ℕ × Move) (es : List (ℕ × Move)) (c : Changed k e es) (way : ℕ) → c.way ≡ way → word_in way (moves_of 0 (e ∷ es)) ≡ c.word
here_at k e es c way same = subst (λ z. word_in z (moves_of 0 (e ∷ es)) ≡ c.word) same c.here

-- the way may bear the element
pub record Fits (k : Layout) (es : List (ℕ × Move)) (way word element : ℕ) : Type 0 where
  pub within : element < k.elements
  pub bucket : IsCandidate k (k.table_of element) (key_of k element es) way
  pub tag : tag_in word ≡ k.tag (k.table_of element) (key_of k element es)

fits_still : (k : Layout) (es fs : List (ℕ × Move)) (way word element : ℕ) → key_of k element fs ≡ key_of k element es →
    Fits k es way word element → Fits k fs way word element
fits_still k es fs way word element same f = record {
  within = f.within;
  bucket = subst (λ key. IsCandidate k (k.table_of element) key way) (sym same) f.bucket;
  tag = f.tag ∙ ap (k.tag (k.table_of element)) (sym same);
}

-- a way that was empty, or has just been linked
put_fits : (k : Layout) (es : List (ℕ × Move)) (way word element : ℕ) → (word ≡ 0) ⊎ MayLink k es way word → Names word element → Fits k es way word element
put_fits k es way word element (inl zero_word) names = absurd (nothing_named element (subst (λ z. Names z element) zero_word names))
put_fits k es way word element (inr m) names =
    let same = one_name word m.element element m.names names in
    subst (Fits k es way word) same record { within = m.within; bucket = m.bucket; tag = m.tag }

-- or has just got the word of another, in which it fits
double_fits : (k : Layout) (es : List (ℕ × Move)) (from way word element : ℕ) (m : MayDouble k es from way word) → Names word element →
    Fits k es from (word_in from (moves_of 0 es)) element → Fits k es way word element
double_fits k es from way word element m names f = record {
  within = f.within;
  bucket = subst (λ z. IsCandidate k (k.table_of z) (key_of k z es) way) (one_name word m.element element m.names names) m.bucket;
  tag = ap tag_in (sym m.there) ∙ f.tag;
}

-- a way names only an element whose key has its bucket and its tag
pub fits : (k : Layout) (es : List (ℕ × Move)) → IsLawful k es → (way element : ℕ) → Names (word_in way (moves_of 0 es)) element →
    Fits k es way (word_in way (moves_of 0 es)) element
fits k [] lawful way element names = absurd (nothing_named element names)
fits k (e ∷ es) lawful way element names = ⊎_elim
    (λ (q : Quiet e es).
    let was = subst (λ z. Names z element) (q.same way) names in
    subst (λ z. Fits k (e ∷ es) way z element) (sym (q.same way))
    (fits_still k es (e ∷ es) way (word_in way (moves_of 0 es)) element
    (key_step k es e element lawful.0 (λ spare. spare.0 (way, was))) (fits k es lawful.1 way element was)))
    (λ (c : Changed k e es). dite (ℕ_discrete c.way way)
    (λ same.
    let is = here_at k e es c way same in
    let now : Names c.word element = subst (λ z. Names z element) is names in
    let fit : Fits k es c.way c.word element = ⊎_elim
    (λ (p : Putting k e es c.way c.word). put_fits k es c.way c.word element p.may now)
    (λ (d : Doubling k e es c.way c.word). double_fits k es d.from c.way c.word element d.may now
    (fits k es lawful.1 d.from element (subst (λ z. Names z element) (sym d.may.there) now)))
    c.how in
    subst (λ z. Fits k (e ∷ es) way z element) (sym is)
    (fits_still k es (e ∷ es) way c.word element (c.keys element) (subst (λ w. Fits k es w c.word element) same fit)))
    (λ ne.
    let is = c.there way ne in
    subst (λ z. Fits k (e ∷ es) way z element) (sym is)
    (fits_still k es (e ∷ es) way (word_in way (moves_of 0 es)) element (c.keys element)
    (fits k es lawful.1 way element (subst (λ z. Names z element) is names)))))
    (step k e es lawful.0)

-- each way is empty, or names an element
pub named : (k : Layout) (es : List (ℕ × Move)) → IsLawful k es → (way : ℕ) →
    (word_in way (moves_of 0 es) ≡ 0) ⊎ ((element : ℕ) × Names (word_in way (moves_of 0 es)) element)
named k [] lawful way = inl refl
named k (e ∷ es) lawful way = ⊎_elim
    (λ (q : Quiet e es). subst (λ z. (z ≡ 0) ⊎ ((element : ℕ) × Names z element)) (sym (q.same way)) (named k es lawful.1 way))
    (λ (c : Changed k e es). dite (ℕ_discrete c.way way)
    (λ same. subst (λ z. (z ≡ 0) ⊎ ((element : ℕ) × Names z element)) (sym (here_at k e es c way same))
    (⊎_elim
    (λ (p : Putting k e es c.way c.word). ⊎_elim (λ (z : c.word ≡ 0). inl z) (λ (m : MayLink k es c.way c.word). inr (m.element, m.names)) p.may)
    (λ (d : Doubling k e es c.way c.word). inr (d.may.element, d.may.names)) c.how))
    (λ ne. subst (λ z. (z ≡ 0) ⊎ ((element : ℕ) × Names z element)) (sym (c.there way ne)) (named k es lawful.1 way)))
    (step k e es lawful.0)

-- what is put in a way is not in another
pub put_alone : (k : Layout) (es : List (ℕ × Move)) (way word other element : ℕ) → (word ≡ 0) ⊎ MayLink k es way word → Names word element →
    Names (word_in other (moves_of 0 es)) element → ⊥
put_alone k es way word other element (inl zero_word) names there = nothing_named element (subst (λ z. Names z element) zero_word names)
put_alone k es way word other element (inr m) names there =
    m.spare.0 (other, subst (Names (word_in other (moves_of 0 es))) (sym (one_name word m.element element m.names names)) there)

-- a word that is put ends a move, and begins none
pub put_settled : (k : Layout) (e : ℕ × Move) (es : List (ℕ × Move)) (way word : ℕ) → Putting k e es way word → IsSettled (moves_of 0 (e ∷ es))
put_settled k e es way word p from to moving = subst (IsMoving from to) p.mine moving

-- of the ways of a move a put empties one
pub put_moved : (k : Layout) (e : ℕ × Move) (es : List (ℕ × Move)) (way word a b : ℕ) → Putting k e es way word → way ≢ a → way ≢ b →
    IsMoving a b (moves_of 0 es) → ⊥
put_moved k e es way word a b p not_a not_b moving =
    ⊎_elim (λ (is : way ≡ b). not_b is) (λ is. not_a is.0) (p.settles a b moving).1

-- ways that name one element stay one, or those of a move
module _ (k : Layout) (e : ℕ × Move) (es : List (ℕ × Move)) (way word a b element : ℕ)
    (there : (w : ℕ) → way ≢ w → word_in w (moves_of 0 (e ∷ es)) ≡ word_in w (moves_of 0 es))
    (ih : (a b : ℕ) → Names (word_in a (moves_of 0 es)) element → Names (word_in b (moves_of 0 es)) element → AreOneOrMoved a b (moves_of 0 es))
    (here : word_in way (moves_of 0 (e ∷ es)) ≡ word) where
  named_here : (c : ℕ) → way ≡ c → Names (word_in c (moves_of 0 (e ∷ es))) element → Names word element
  named_here c at_c names = subst (λ z. Names z element) (subst (λ z. word_in z (moves_of 0 (e ∷ es)) ≡ word) at_c here) names

  named_there : (c : ℕ) → way ≢ c → Names (word_in c (moves_of 0 (e ∷ es))) element → Names (word_in c (moves_of 0 es)) element
  named_there c ne names = subst (λ z. Names z element) (there c ne) names

  put_ways : Putting k e es way word → Names (word_in a (moves_of 0 (e ∷ es))) element → Names (word_in b (moves_of 0 (e ∷ es))) element →
      AreOneOrMoved a b (moves_of 0 (e ∷ es))
  put_ways p na nb = dite (ℕ_discrete way a)
      (λ at_a. dite (ℕ_discrete way b)
      (λ at_b. inl (sym at_a ∙ at_b))
      (λ not_b. absurd (put_alone k es way word b element p.may (named_here a at_a na) (named_there b not_b nb))))
      (λ not_a. dite (ℕ_discrete way b)
      (λ at_b. absurd (put_alone k es way word a element p.may (named_here b at_b nb) (named_there a not_a na)))
      (λ not_b. ⊎_elim
      (λ (same : a ≡ b). inl same)
      (λ (m : IsMoving a b (moves_of 0 es) ⊎ IsMoving b a (moves_of 0 es)). absurd (⊎_elim
      (λ t. put_moved k e es way word a b p not_a not_b t)
      (λ t. put_moved k e es way word b a p not_b not_a t) m))
      (ih a b (named_there a not_a na) (named_there b not_b nb))))

  -- while nothing is moved one way at most names the element
  settled_ways : IsSettled (moves_of 0 es) → (c d : ℕ) → Names (word_in c (moves_of 0 es)) element → Names (word_in d (moves_of 0 es)) element → c ≡ d
  settled_ways none c d nc nd = ⊎_elim
      (λ (same : c ≡ d). same)
      (λ (m : IsMoving c d (moves_of 0 es) ⊎ IsMoving d c (moves_of 0 es)). absurd (⊎_elim (λ t. none c d t) (λ t. none d c t) m))
      (ih c d nc nd)

  moves_to : (d : Doubling k e es way word) (c : ℕ) → way ≡ c → IsMoving d.from c (moves_of 0 (e ∷ es))
  moves_to d c at_c = subst (IsMoving d.from c) (sym d.mine) (refl, at_c)

  double_ways : Doubling k e es way word → Names (word_in a (moves_of 0 (e ∷ es))) element → Names (word_in b (moves_of 0 (e ∷ es))) element →
      AreOneOrMoved a b (moves_of 0 (e ∷ es))
  double_ways d na nb =
      let first : Names word element → Names (word_in d.from (moves_of 0 es)) element = λ n. subst (λ z. Names z element) (sym d.may.there) n in
      dite (ℕ_discrete way a)
      (λ at_a. dite (ℕ_discrete way b)
      (λ at_b. inl (sym at_a ∙ at_b))
      (λ not_b.
      let from_is = settled_ways d.may.settled d.from b (first (named_here a at_a na)) (named_there b not_b nb) in
      inr (inr (subst (λ z. IsMoving z a (moves_of 0 (e ∷ es))) from_is (moves_to d a at_a)))))
      (λ not_a. dite (ℕ_discrete way b)
      (λ at_b.
      let from_is = settled_ways d.may.settled d.from a (first (named_here b at_b nb)) (named_there a not_a na) in
      inr (inl (subst (λ z. IsMoving z b (moves_of 0 (e ∷ es))) from_is (moves_to d b at_b))))
      (λ not_b. inl (settled_ways d.may.settled a b (named_there a not_a na) (named_there b not_b nb))))

-- one way at most names an element, but for one that is moved
pub one_or_moved : (k : Layout) (es : List (ℕ × Move)) → IsLawful k es → (a b element : ℕ) →
    Names (word_in a (moves_of 0 es)) element → Names (word_in b (moves_of 0 es)) element → AreOneOrMoved a b (moves_of 0 es)
one_or_moved k [] lawful a b element p q = absurd (nothing_named element p)
one_or_moved k (e ∷ es) lawful a b element p q = ⊎_elim
    (λ (t : Quiet e es). ⊎_elim
    (λ (same : a ≡ b). inl same)
    (λ (m : IsMoving a b (moves_of 0 es) ⊎ IsMoving b a (moves_of 0 es)).
    inr (⊎_elim (λ z. inl (t.onward a b z)) (λ z. inr (t.onward b a z)) m))
    (one_or_moved k es lawful.1 a b element (subst (λ z. Names z element) (t.same a) p) (subst (λ z. Names z element) (t.same b) q)))
    (λ (c : Changed k e es). ⊎_elim
    (λ (put : Putting k e es c.way c.word).
    put_ways k e es c.way c.word a b element c.there (λ a b na nb. one_or_moved k es lawful.1 a b element na nb) c.here put p q)
    (λ (d : Doubling k e es c.way c.word).
    double_ways k e es c.way c.word a b element c.there (λ a b na nb. one_or_moved k es lawful.1 a b element na nb) c.here d p q)
    c.how)
    (step k e es lawful.0)

-- one way at most, while nothing is moved
pub one_way : (k : Layout) (es : List (ℕ × Move)) → IsLawful k es → IsSettled (moves_of 0 es) → (a b element : ℕ) →
    Names (word_in a (moves_of 0 es)) element → Names (word_in b (moves_of 0 es)) element → a ≡ b
one_way k es lawful none a b element p q = ⊎_elim
    (λ (same : a ≡ b). same)
    (λ (m : IsMoving a b (moves_of 0 es) ⊎ IsMoving b a (moves_of 0 es)). absurd (⊎_elim (λ t. none a b t) (λ t. none b a t) m))
    (one_or_moved k es lawful a b element p q)

-- both ways of a move have one word, which names an element
pub record Moved (es : List (ℕ × Move)) (from to : ℕ) : Type 0 where
  pub word : ℕ
  pub element : ℕ
  pub names : Names word element
  pub at_from : word_in from (moves_of 0 es) ≡ word
  pub at_to : word_in to (moves_of 0 es) ≡ word
  pub two : from ≢ to

doubled_ways : (k : Layout) (e : ℕ × Move) (es : List (ℕ × Move)) (c : Changed k e es) (d : Doubling k e es c.way c.word) → Moved (e ∷ es) d.from c.way
doubled_ways k e es c d =
    let ne : c.way ≢ d.from = λ same. nothing_named d.may.element
    (subst (λ z. Names z d.may.element) (sym d.may.there ∙ (ap (λ z. word_in z (moves_of 0 es)) (sym same) ∙ d.may.empty)) d.may.names) in
    record {
      word = c.word;
      element = d.may.element;
      names = d.may.names;
      at_from = c.there d.from ne ∙ d.may.there;
      at_to = c.here;
      two = λ same. ne (sym same);
    }

pub moved_ways : (k : Layout) (es : List (ℕ × Move)) → IsLawful k es → (from to : ℕ) → IsMoving from to (moves_of 0 es) → Moved es from to
moved_ways k [] lawful from to moving = absurd moving
moved_ways k (e ∷ es) lawful from to moving = ⊎_elim
    (λ (q : Quiet e es).
    let m = moved_ways k es lawful.1 from to (q.back from to moving) in
    record {
      word = m.word;
      element = m.element;
      names = m.names;
      at_from = q.same from ∙ m.at_from;
      at_to = q.same to ∙ m.at_to;
      two = m.two;
    })
    (λ (c : Changed k e es). ⊎_elim
    (λ (p : Putting k e es c.way c.word). absurd (put_settled k e es c.way c.word p from to moving))
    (λ (d : Doubling k e es c.way c.word).
    let is : (d.from ≡ from) × (c.way ≡ to) = subst (IsMoving from to) d.mine moving in
    subst (λ (z : ℕ × ℕ). Moved (e ∷ es) z.0 z.1) (λ i. (is.0 i, is.1 i)) (doubled_ways k e es c d))
    c.how)
    (step k e es lawful.0)
