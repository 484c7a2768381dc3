-- What is so at the moments of a stretch.
use Rattle.table_words.proofs.Prelude.{◌≡◌, ◌≢◌, ◌⊎◌, ℕ, suc, ◌%◌, ◌^◌, ◌<◌, List, [], ◌∷◌, ◌++◌, refl, sym, ap, ◌∙◌, subst, ⊎_elim, inl, inr, arith, dite}
use Rattle.table_words.proofs.Prelude.{ℕ_discrete, ne_eqb, Some, None, slice_index, Layout, IsCandidate, Names, tag_in, bucket_of, moves_of, word_in}
use Rattle.table_words.proofs.Prelude.{key_of, Holds, IsSpare, MayLink, MayDo, IsLawful, OnlySearches, FoundIn, IsElse, Refuted, AnswersLookup}
use Rattle.table_words.proofs.Prelude.{IsLinkedUnder, Throughout, Sometime, StaysInside, StaysFound}
use Rattle.table_words.specs.declared.moves.Move.{Move}
use Rattle.table_words.specs.declared.moves.Move.TheVariants.{Open, Close, Learn, Load, Store, Put, Double, Scan}
use Rattle.table_words.specs.History.{generation}
use Rattle.table_words.proofs.Steps.{own, others, key_step, key_learn, key_word, one_name, nothing_named}
use Rattle.table_words.proofs.Holding.{spare_unheld}
use Rattle.table_words.proofs.Standing.{fits}

abbrev pub History : Type 0
History = List (ℕ × Move)

pub lawful_early : (k : Layout) (late early : History) → IsLawful k (late ++ early) → IsLawful k early
lawful_early k [] early h = h
lawful_early k (e ∷ late) early h = lawful_early k late early h.1

-- moments
pub at_end : (p : History → Type 0) (late early : History) → p (late ++ early) → Sometime p late early
at_end p [] early h = h
at_end p (e ∷ late) early h = inl h

pub at_start : (p : History → Type 0) (late early : History) → p early → Sometime p late early
at_start p [] early h = h
at_start p (e ∷ late) early h = inr (at_start p late early h)

pub sometime_to : (p q : History → Type 0) (late early : History) → ((es : History) → p es → q es) → Sometime p late early → Sometime q late early
sometime_to p q [] early f h = f early h
sometime_to p q (e ∷ late) early f h = ⊎_elim (λ z. inl (f (e ∷ (late ++ early)) z)) (λ z. inr (sometime_to p q late early f z)) h

pub at_last : (p : History → Type 0) (late early : History) → Throughout p late early → p (late ++ early)
at_last p [] early t = t
at_last p (e ∷ late) early t = t.0

pub always_and_never : (p : History → Type 0) (late early : History) → Throughout p late early → Sometime (λ es. p es → ⊥) late early → ⊥
always_and_never p [] early all h = h all
always_and_never p (e ∷ late) early all h = ⊎_elim (λ z. z all.0) (λ z. always_and_never p late early all.1 z) h

-- a step of the stretch is the holder's own, or leaves its list
tail_inside : (m : Move) (ms : List Move) → StaysInside (m ∷ ms) → StaysInside ms
tail_inside Open ms h = absurd h
tail_inside Close ms h = absurd h
tail_inside (Learn w x) ms h = h
tail_inside (Load e p x) ms h = h
tail_inside (Store e p x) ms h = h
tail_inside (Put w x) ms h = h
tail_inside (Double v w x) ms h = h
tail_inside (Scan r x) ms h = h

pub inside_rest : (who : ℕ) (e : ℕ × Move) (late : History) → StaysInside (moves_of who (e ∷ late)) → StaysInside (moves_of who late)
inside_rest who e late h = dite (ℕ_discrete e.0 who)
    (λ mine. tail_inside e.1 (moves_of who late) (subst StaysInside (own who e late mine) h))
    (λ ne. subst StaysInside (others who e late ne) h)

holds_head : (element : ℕ) (m : Move) (ms ns : List Move) → StaysInside (m ∷ ms) → Holds element ns → Holds element (m ∷ ns)
holds_head element Open ms ns s h = absurd s
holds_head element Close ms ns s h = absurd s
holds_head element (Learn w x) ms ns s h = inr h
holds_head element (Load e p x) ms ns s h = h
holds_head element (Store e p x) ms ns s h = h
holds_head element (Put w x) ms ns s h = h
holds_head element (Double v w x) ms ns s h = h
holds_head element (Scan r x) ms ns s h = h

pub holds_step : (who element : ℕ) (e : ℕ × Move) (late es : History) → StaysInside (moves_of who (e ∷ late)) → Holds element (moves_of who es) →
    Holds element (moves_of who (e ∷ es))
holds_step who element e late es s h = dite (ℕ_discrete e.0 who)
    (λ mine. subst (Holds element) (sym (own who e es mine))
    (holds_head element e.1 (moves_of who late) (moves_of who es) (subst StaysInside (own who e late mine) s) h))
    (λ ne. subst (Holds element) (sym (others who e es ne)) h)

-- what is held stays so while the section is open
pub holds_on : (who element : ℕ) (late early : History) → StaysInside (moves_of who late) → Holds element (moves_of who early) →
    Holds element (moves_of who (late ++ early))
holds_on who element [] early s h = h
holds_on who element (e ∷ late) early s h =
    holds_step who element e late (late ++ early) s (holds_on who element late early (inside_rest who e late s) h)

-- an element that is not spare is not linked anew
linked_again : (k : Layout) (element who : ℕ) (m : Move) (es : History) → MayDo k es who m → (IsSpare k.readers element (moves_of 0 es) → ⊥) →
    generation element (m ∷ moves_of 0 es) ≡ generation element (moves_of 0 es)
linked_again k element who Open es may kept = refl
linked_again k element who Close es may kept = refl
linked_again k element who (Learn w x) es may kept = refl
linked_again k element who (Load e p x) es may kept = refl
linked_again k element who (Store e p x) es may kept = refl
linked_again k element who (Double v w x) es may kept = refl
linked_again k element who (Scan r x) es may kept = refl
linked_again k element who (Put w x) es may kept = rw (ne_eqb (x % 2 ^ 32) (suc element) (λ names. ⊎_elim
    (λ (none : x ≡ 0). nothing_named element (subst (λ z. Names z element) none names))
    (λ (l : MayLink k es w x). kept (subst (λ z. IsSpare k.readers z (moves_of 0 es)) (one_name x l.element element l.names names) l.spare))
    may.1)) refl

generation_step : (k : Layout) (element : ℕ) (e : ℕ × Move) (es : History) → MayDo k es e.0 e.1 → (IsSpare k.readers element (moves_of 0 es) → ⊥) →
    generation element (moves_of 0 (e ∷ es)) ≡ generation element (moves_of 0 es)
generation_step k element e es may kept = dite (ℕ_discrete e.0 0)
    (λ writer. ap (generation element) (own 0 e es writer) ∙ linked_again k element e.0 e.1 es may kept)
    (λ ne. ap (generation element) (others 0 e es ne))

-- a held element keeps its generation and its key
pub held_stays : (k : Layout) (late early : History) → IsLawful k (late ++ early) → (who element : ℕ) → StaysInside (moves_of who late) →
    Holds element (moves_of who early) →
    (generation element (moves_of 0 (late ++ early)) ≡ generation element (moves_of 0 early)) × (key_of k element (late ++ early) ≡ key_of k element early)
held_stays k [] early lawful who element s h = (refl, refl)
held_stays k (e ∷ late) early lawful who element s h =
    let rest = inside_rest who e late s in
    let now = holds_on who element late early rest h in
    let kept : IsSpare k.readers element (moves_of 0 (late ++ early)) → ⊥ = λ spare. spare_unheld k (late ++ early) lawful.1 who element spare now in
    let ih = held_stays k late early lawful.1 who element rest h in
    (generation_step k element e (late ++ early) lawful.0 kept ∙ ih.0, key_step k (late ++ early) e element lawful.0 kept ∙ ih.1)

-- the stretch of a lookup stays in its section
pub searches_inside : (k : Layout) (table : ℕ) (ms : List Move) → OnlySearches k table ms → StaysInside ms
searches_inside k table [] h = tt
searches_inside k table (Open ∷ ms) h = absurd h
searches_inside k table (Close ∷ ms) h = absurd h
searches_inside k table (Learn w x ∷ ms) h = searches_inside k table ms h
searches_inside k table (Load e p x ∷ ms) h = searches_inside k table ms h.1
searches_inside k table (Store e p x ∷ ms) h = absurd h
searches_inside k table (Put w x ∷ ms) h = absurd h
searches_inside k table (Double v w x ∷ ms) h = absurd h
searches_inside k table (Scan r x ∷ ms) h = absurd h

-- the element was found by this move, or before it
pub record FindsNow (way element : ℕ) (m : Move) : Type 0 where
  pub word : ℕ
  pub is : m ≡ Learn way word
  pub names : Names word element

found_head : (way element : ℕ) (m : Move) (ms : List Move) → FoundIn way element (m ∷ ms) → FindsNow way element m ⊎ FoundIn way element ms
found_head way element Open ms h = inr h
found_head way element Close ms h = inr h
found_head way element (Learn w x) ms h = ⊎_elim
    (λ (t : (w ≡ way) × Names x element). inl record { word = x; is = ap (λ z. Learn z x) t.0; names = t.1 })
    (λ t. inr t) h
found_head way element (Load e p x) ms h = inr h
found_head way element (Store e p x) ms h = inr h
found_head way element (Put w x) ms h = inr h
found_head way element (Double v w x) ms h = inr h
found_head way element (Scan r x) ms h = inr h

pub found_step : (who way element : ℕ) (e : ℕ × Move) (late : History) → FoundIn way element (moves_of who (e ∷ late)) →
    ((e.0 ≡ who) × FindsNow way element e.1) ⊎ FoundIn way element (moves_of who late)
found_step who way element e late h = dite (ℕ_discrete e.0 who)
    (λ mine. ⊎_elim (λ t. inl (mine, t)) (λ t. inr t) (found_head way element e.1 (moves_of who late) (subst (FoundIn way element) (own who e late mine) h)))
    (λ ne. inr (subst (FoundIn way element) (others who e late ne) h))

-- who found an element in its section holds it
pub found_holds : (who way element : ℕ) (late early : History) → StaysInside (moves_of who late) → FoundIn way element (moves_of who late) →
    Holds element (moves_of who (late ++ early))
found_holds who way element [] early s h = absurd h
found_holds who way element (e ∷ late) early s h = ⊎_elim
    (λ (t : (e.0 ≡ who) × FindsNow way element e.1).
    let is : moves_of who (e ∷ (late ++ early)) ≡ Learn way t.1.word ∷ moves_of who (late ++ early) =
    own who e (late ++ early) t.0 ∙ ap (λ z. z ∷ moves_of who (late ++ early)) t.1.is in
    subst (Holds element) (sym is) (inl t.1.names))
    (λ t. holds_step who element e late (late ++ early) s (found_holds who way element late early (inside_rest who e late s) t))
    (found_step who way element e late h)

-- by all this, the element stands in the way with this key
pub record Stood (k : Layout) (way element : ℕ) (key : List ℕ) (es : History) : Type 0 where
  pub lawful : IsLawful k es
  pub names : Names (word_in way (moves_of 0 es)) element
  pub key_is : key_of k element es ≡ key

pub learnt_stood : (k : Layout) (way element x : ℕ) (key : List ℕ) (es : History) (e : ℕ × Move) → IsLawful k es → MayDo k es e.0 e.1 →
    e.1 ≡ Learn way x → Names x element → key_of k element (e ∷ es) ≡ key → Stood k way element key es
learnt_stood k way element x key es e lawful may is names key_now =
    let m : MayDo k es e.0 (Learn way x) = subst (λ (z : Move). MayDo k es e.0 z) is may in record {
      lawful = lawful;
      names = subst (λ z. Names z element) m.2 names;
      key_is = sym (subst (λ (z : Move). key_of k element ((e.0, z) ∷ es) ≡ key_of k element es) (sym is) (key_learn k es e.0 element way x)) ∙ key_now;
    }

-- an element that was found in a way stood there then, with the key that it has at the end
pub found_stood : (k : Layout) (who way element : ℕ) (key : List ℕ) (late early : History) → IsLawful k (late ++ early) →
    StaysInside (moves_of who late) → FoundIn way element (moves_of who late) → key_of k element (late ++ early) ≡ key →
    Sometime (Stood k way element key) late early
found_stood k who way element key [] early lawful s h is = absurd h
found_stood k who way element key (e ∷ late) early lawful s h is = ⊎_elim
    (λ (t : (e.0 ≡ who) × FindsNow way element e.1). inr (at_end (Stood k way element key) late early
    (learnt_stood k way element t.1.word key (late ++ early) e lawful.1 lawful.0 t.1.is t.1.names is)))
    (λ t. let rest = inside_rest who e late s in
    let now = found_holds who way element late early rest t in
    let same = key_step k (late ++ early) e element lawful.0 (λ spare. spare_unheld k (late ++ early) lawful.1 who element spare now) in
    inr (found_stood k who way element key late early lawful.1 rest t (sym same ∙ is)))
    (found_step who way element e late h)

module _ (k : Layout) (table : ℕ) (key : List ℕ) where
  abbrev Never : ℕ → History → Type 0
  Never way es = IsLinkedUnder k table key way es → ⊥

  -- a word with another tag, or with no element, names none with the key
  else_names : (way word : ℕ) (es : History) → IsLawful k es → word ≡ word_in way (moves_of 0 es) → IsElse k table key word → Never way es
  else_names way word es lawful is other l =
      let names : Names word l.0 = subst (λ z. Names z l.0) (sym is) l.1.names in
      let tag : tag_in word ≡ k.tag table key = ap tag_in is ∙ ((fits k es lawful way l.0 l.1.names).tag ∙ λ i. k.tag (l.1.table_is i) (l.1.key_is i)) in
      ⊎_elim (λ (none : word % 2 ^ 32 ≡ 0). absurd (omega (arith, sym none ∙ names))) (λ ne. ne tag) other

  -- nor does a way in which an element with another key stood
  other_stood : (way element p x : ℕ) (theirs : List ℕ) (es : History) → p < k.key_words table →
      (k.table_of element ≡ table → x ≡ slice_index theirs p) → x ≢ slice_index key p → Stood k way element theirs es → Never way es
  other_stood way element p x theirs es low at ne s l =
      let same : l.0 ≡ element = one_name (word_in way (moves_of 0 es)) l.0 element l.1.names s.names in
      let table_is : k.table_of element ≡ table = ap k.table_of (sym same) ∙ l.1.table_is in
      let key_now : theirs ≡ key = sym s.key_is ∙ (ap (λ z. key_of k z es) (sym same) ∙ l.1.key_is) in
      ne (at table_is ∙ ap (λ z. slice_index z p) key_now)

  -- a move refutes the way, or what came before it does
  head_refutes : (who way : ℕ) (m : Move) (late early : History) → MayDo k (late ++ early) who m → IsLawful k (late ++ early) →
      OnlySearches k table (m ∷ moves_of who late) → Refuted k table key way (m ∷ moves_of who late) →
      Sometime (Never way) late early ⊎ (OnlySearches k table (moves_of who late) × Refuted k table key way (moves_of who late))
  head_refutes who way Open late early may lawful s r = absurd s
  head_refutes who way Close late early may lawful s r = absurd s
  head_refutes who way (Store e p x) late early may lawful s r = absurd s
  head_refutes who way (Put w x) late early may lawful s r = absurd s
  head_refutes who way (Double v w x) late early may lawful s r = absurd s
  head_refutes who way (Scan q x) late early may lawful s r = absurd s
  head_refutes who way (Learn w x) late early may lawful s r = ⊎_elim
      (λ (t : (w ≡ way) × IsElse k table key x). inl (at_end (Never way) late early
      (else_names way x (late ++ early) lawful (may.2 ∙ ap (λ z. word_in z (moves_of 0 (late ++ early))) t.0) t.1)))
      (λ t. inr (s, t)) r
  head_refutes who way (Load e p x) late early may lawful s r = ⊎_elim
      (λ (t : FoundIn way e (moves_of who late) × (p < k.key_words table) × (x ≢ slice_index key p)).
      let theirs = key_of k e (late ++ early) in
      inl (sometime_to (Stood k way e theirs) (Never way) late early
      (λ es z. other_stood way e p x theirs es t.1
      (λ is. may.1 ∙ sym (key_word k e p (late ++ early) (subst (λ n. p < k.key_words n) (sym is) t.1))) t.2 z)
      (found_stood k who way e theirs late early lawful (searches_inside k table (moves_of who late) s.1) t.0 refl)))
      (λ t. inr (s.1, t)) r

  -- a way that a stretch refutes named no element with the key at some moment of it
  pub refuted_sometime : (who way : ℕ) (late early : History) → IsLawful k (late ++ early) → OnlySearches k table (moves_of who late) →
      Refuted k table key way (moves_of who late) → Sometime (Never way) late early
  refuted_sometime who way [] early lawful s r = absurd r
  refuted_sometime who way (e ∷ late) early lawful s r = dite (ℕ_discrete e.0 who)
      (λ mine. let is = own who e late mine in ⊎_elim (λ t. inr t)
      (λ (t : OnlySearches k table (moves_of who late) × Refuted k table key way (moves_of who late)).
      inr (refuted_sometime who way late early lawful.1 t.0 t.1))
      (head_refutes who way e.1 late early (subst (λ z. MayDo k (late ++ early) z e.1) mine lawful.0) lawful.1
      (subst (OnlySearches k table) is s) (subst (Refuted k table key way) is r)))
      (λ ne. let is = others who e late ne in
      inr (refuted_sometime who way late early lawful.1 (subst (OnlySearches k table) is s) (subst (Refuted k table key way) is r)))

  -- a way of another bucket never names one
  elsewhere : (way : ℕ) (es : History) → IsLawful k es → (IsCandidate k table key way → ⊥) → Never way es
  elsewhere way es lawful not l =
      not (subst (λ (z : ℕ × List ℕ). IsCandidate k z.0 z.1 way) (λ i. (l.1.table_is i, l.1.key_is i)) (fits k es lawful way l.0 l.1.names).bucket)

  pub null_refutes : (who way : ℕ) (late early : History) → IsLawful k (late ++ early) → OnlySearches k table (moves_of who late) →
      AnswersLookup k table key (moves_of who late) None → Sometime (Never way) late early
  null_refutes who way late early lawful s null = dite (ℕ_discrete (bucket_of way) (k.first table key))
      (λ one. refuted_sometime who way late early lawful s (null way (inl one)))
      (λ not_one. dite (ℕ_discrete (bucket_of way) (k.second table key))
      (λ two. refuted_sometime who way late early lawful s (null way (inr two)))
      (λ not_two. at_start (Never way) late early
      (elsewhere way early (lawful_early k late early lawful) (λ c. ⊎_elim not_one not_two c))))

  -- so a key that stays linked in a way is found
  pub stays_found : (who way : ℕ) (late early : History) → IsLawful k (late ++ early) → OnlySearches k table (moves_of who late) →
      AnswersLookup k table key (moves_of who late) None → StaysFound k table key way late early → ⊥
  stays_found who way late early lawful s null all =
      always_and_never (IsLinkedUnder k table key way) late early all (null_refutes who way late early lawful s null)

-- who was answered an element holds it
pub hit_held : (k : Layout) (late early : History) (table : ℕ) (key : List ℕ) (who element : ℕ) → OnlySearches k table (moves_of who late) →
    AnswersLookup k table key (moves_of who late) (Some element) → Holds element (moves_of who (late ++ early))
hit_held k late early table key who element s a =
    found_holds who a.0.0 element late early (searches_inside k table (moves_of who late) s) a.0.2
