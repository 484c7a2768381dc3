-- What the writer does to keys that are linked, and to elements that are to be filled anew.
use Rattle.table_words.proofs.Prelude.{◌≡◌, ◌≢◌, ◌⊎◌, ℕ, ◌%◌, ◌<◌, ◌≤◌, List, [], ◌∷◌, ◌++◌, refl, sym, ap, ◌∙◌, subst, ⊎_elim, inl, inr, arith, dite}
use Rattle.table_words.proofs.Prelude.{ℕ_discrete, Layout, Names, moves_of, word_in, IsLinked, Holds, FoundSince, HasLeft, Cleared, IsSpare, IsOpenTo}
use Rattle.table_words.proofs.Prelude.{MayDo, MayLink, IsLawful, Refuted, FoundIn, IsLinkedUnder, Throughout, StaysFound, BearsKey, KeepsKey, OnlyReplaces}
use Rattle.table_words.proofs.Prelude.{OnlyScans, FoundOther, FoundGone, LookedAt}
use Rattle.table_words.specs.declared.moves.Move.{Move}
use Rattle.table_words.specs.declared.moves.Move.TheVariants.{Open, Close, Learn, Load, Store, Put, Double, Scan}
use Rattle.table_words.specs.Scanned.{FoundOutside, AllOutside}
use Rattle.table_words.proofs.Steps.{key_step, put_here, one_name, nothing_named}
use Rattle.table_words.proofs.Holding.{held, spare_unheld}
use Rattle.table_words.proofs.Standing.{Quiet, Putting, Doubling, Changed, step, here_at}
use Rattle.table_words.proofs.Moments.{History}

put_zero : (way : ℕ) (ms : List Move) → word_in way (Put way 0 ∷ ms) ≡ 0
put_zero way ms = put_here way way 0 ms refl

module _ (k : Layout) (table : ℕ) (key : List ℕ) (way : ℕ) where
  abbrev Linked : History → Type 0
  Linked es = IsLinkedUnder k table key way es

  -- where the way's word stays
  linked_still : (e : ℕ × Move) (es : History) → MayDo k es e.0 e.1 → word_in way (moves_of 0 (e ∷ es)) ≡ word_in way (moves_of 0 es) → Linked es →
      Linked (e ∷ es)
  linked_still e es may same l = (
    l.0,
    record {
      names = subst (λ z. Names z l.0) (sym same) l.1.names;
      table_is = l.1.table_is;
      key_is = key_step k es e l.0 may (λ spare. spare.0 (way, l.1.names)) ∙ l.1.key_is;
    },
  )

  -- where another word is put there
  linked_anew : (e : ℕ × Move) (es : History) (word : ℕ) → word_in way (moves_of 0 (e ∷ es)) ≡ word → Changed k e es → BearsKey k table key es word →
      Linked (e ∷ es)
  linked_anew e es word here c b = (
    b.0,
    record {
      names = subst (λ z. Names z b.0) (sym here) b.1;
      table_is = b.2;
      key_is = c.keys b.0 ∙ b.3;
    },
  )

  one_more : (e : ℕ × Move) (es : History) → MayDo k es e.0 e.1 → KeepsKey k table key way es e.1 → Linked es → Linked (e ∷ es)
  one_more e es may keeps l = ⊎_elim
      (λ (q : Quiet e es). linked_still e es may (q.same way) l)
      (λ (c : Changed k e es). dite (ℕ_discrete c.way way)
      (λ same. ⊎_elim
      (λ (p : Putting k e es c.way c.word). let put : KeepsKey k table key way es (Put c.way c.word) = subst (KeepsKey k table key way es) p.is keeps in
      ⊎_elim
      (λ (not : c.way ≡ way → ⊥). absurd (not same))
      (λ (b : BearsKey k table key es c.word). linked_anew e es c.word (here_at k e es c way same) c b) put)
      (λ (d : Doubling k e es c.way c.word). absurd (nothing_named l.0
      (subst (λ z. Names z l.0) (ap (λ z. word_in z (moves_of 0 es)) (sym same) ∙ d.may.empty) l.1.names)))
      c.how)
      (λ ne. linked_still e es may (c.there way ne) l))
      (step k e es may)

  end_of : (late early : History) → Throughout Linked late early → Linked (late ++ early)
  end_of [] early t = t
  end_of (e ∷ late) early t = t.0

  -- a key that is only replaced stays found
  pub only_replaced : (late early : History) → IsLawful k (late ++ early) → Linked early → OnlyReplaces k table key way late early →
      StaysFound k table key way late early
  only_replaced [] early lawful l r = l
  only_replaced (e ∷ late) early lawful l r =
      let t = only_replaced late early lawful.1 l r.1 in
      (one_more e (late ++ early) lawful.0 r.0 (end_of late early t), t)

  -- a way that is emptied between doesn't
  pub emptied : (after before early : History) → StaysFound k table key way (after ++ (0, Put way 0) ∷ before) early → ⊥
  emptied [] before early t =
      let l = t.0 in
      nothing_named l.0 (subst (λ z. Names z l.0) (put_zero way (moves_of 0 (before ++ early))) l.1.names)
  emptied (e ∷ after) before early t = emptied after before early t.1

-- scans take back nothing that was seen
module _ (readers element : ℕ) where
  cleared_by : (low high r : ℕ) (ms ws : List Move) → OnlyScans low high ms → FoundOutside r ms → Cleared r element (ms ++ ws)
  cleared_by low high r [] ws s f = absurd f
  cleared_by low high r (Open ∷ ms) ws s f = absurd s
  cleared_by low high r (Close ∷ ms) ws s f = absurd s
  cleared_by low high r (Learn w x ∷ ms) ws s f = absurd s
  cleared_by low high r (Load e p x ∷ ms) ws s f = absurd s
  cleared_by low high r (Store e p x ∷ ms) ws s f = absurd s
  cleared_by low high r (Put w x ∷ ms) ws s f = absurd s
  cleared_by low high r (Double v w x ∷ ms) ws s f = absurd s
  cleared_by low high r (Scan q x ∷ ms) ws s f = ⊎_elim (λ (t : (q ≡ r) × (x % 2 ≡ 0)). inl (t.0, inl t.1)) (λ t. inr (cleared_by low high r ms ws s.2 t)) f

  pub unlinked_still : (low high : ℕ) (ms ws : List Move) → OnlyScans low high ms → IsLinked element (ms ++ ws) → IsLinked element ws
  unlinked_still low high [] ws s l = l
  unlinked_still low high (Open ∷ ms) ws s l = absurd s
  unlinked_still low high (Close ∷ ms) ws s l = absurd s
  unlinked_still low high (Learn w x ∷ ms) ws s l = absurd s
  unlinked_still low high (Load e p x ∷ ms) ws s l = absurd s
  unlinked_still low high (Store e p x ∷ ms) ws s l = absurd s
  unlinked_still low high (Put w x ∷ ms) ws s l = absurd s
  unlinked_still low high (Double v w x ∷ ms) ws s l = absurd s
  unlinked_still low high (Scan q x ∷ ms) ws s l = unlinked_still low high ms ws s.2 (l.0, l.1)

  -- one scan of all readers frees all that was unlinked before it
  pub scan_frees : (ms ws : List Move) → OnlyScans 0 readers ms → AllOutside readers ms → (IsLinked element ws → ⊥) → IsSpare readers element (ms ++ ws)
  scan_frees ms ws s all not = (λ l. not (unlinked_still 0 readers ms ws s l), λ r some within. cleared_by 0 readers r ms ws s (all r some within))

-- what is put in a way is held by nobody
pub put_unheld : (k : Layout) (es : History) → IsLawful k es → (who element way word : ℕ) → MayDo k es 0 (Put way word) → Names word element →
    Holds element (moves_of who es) → ⊥
put_unheld k es lawful who element way word may names h = ⊎_elim
    (λ (none : word ≡ 0). nothing_named element (subst (λ z. Names z element) none names))
    (λ (m : MayLink k es way word). spare_unheld k es lawful who element
    (subst (λ z. IsSpare k.readers z (moves_of 0 es)) (one_name word m.element element m.names names) m.spare) h)
    may.1

-- what the writer fills is held by nobody
pub filled_unheld : (k : Layout) (es : History) → IsLawful k es → (who element place word : ℕ) → MayDo k es 0 (Store element place word) →
    Holds element (moves_of who es) → ⊥
filled_unheld k es lawful who element place word may h = ⊎_elim
    (λ (w : (0 ≡ 0) × IsSpare k.readers element (moves_of 0 es)). spare_unheld k es lawful who element w.1 h)
    (λ (r : Holds element (moves_of 0 es) × (k.key_words (k.table_of element) ≤ place) × IsOpenTo k 0 element place).
    let reader = (held k es lawful 0 element r.0).reader in absurd (omega (arith, reader.0))) may

-- null has looked at each way of both buckets
pub found_looked : (way element : ℕ) (ms : List Move) → FoundIn way element ms → LookedAt way ms
found_looked way element [] h = absurd h
found_looked way element (Open ∷ ms) h = found_looked way element ms h
found_looked way element (Close ∷ ms) h = found_looked way element ms h
found_looked way element (Learn w x ∷ ms) h = ⊎_elim (λ (t : (w ≡ way) × Names x element). inl t.0) (λ t. inr (found_looked way element ms t)) h
found_looked way element (Load e p x ∷ ms) h = found_looked way element ms h
found_looked way element (Store e p x ∷ ms) h = found_looked way element ms h
found_looked way element (Put w x ∷ ms) h = found_looked way element ms h
found_looked way element (Double v w x ∷ ms) h = found_looked way element ms h
found_looked way element (Scan r x ∷ ms) h = found_looked way element ms h

pub refuted_looked : (k : Layout) (table : ℕ) (key : List ℕ) (way : ℕ) (ms : List Move) → Refuted k table key way ms → LookedAt way ms
refuted_looked k table key way [] h = absurd h
refuted_looked k table key way (Open ∷ ms) h = refuted_looked k table key way ms h
refuted_looked k table key way (Close ∷ ms) h = refuted_looked k table key way ms h
refuted_looked k table key way (Learn w x ∷ ms) h = ⊎_elim (λ t. inl t.0) (λ t. inr (refuted_looked k table key way ms t)) h
refuted_looked k table key way (Load e p x ∷ ms) h = ⊎_elim (λ t. found_looked way e ms t.0) (λ t. refuted_looked k table key way ms t) h
refuted_looked k table key way (Store e p x ∷ ms) h = refuted_looked k table key way ms h
refuted_looked k table key way (Put w x ∷ ms) h = refuted_looked k table key way ms h
refuted_looked k table key way (Double v w x ∷ ms) h = refuted_looked k table key way ms h
refuted_looked k table key way (Scan r x ∷ ms) h = refuted_looked k table key way ms h

-- a number that was found since the element was unlinked was found in that stretch
found_in : (reader element x y way word : ℕ) (ms ws : List Move) → Names (word_in way ws) element → y ≢ x →
    FoundSince reader element y (ms ++ Put way word ∷ ws) → FoundOther reader x ms
found_in reader element x y way word [] ws names ne f = absurd (f.0 names)
found_in reader element x y way word (Open ∷ ms) ws names ne f = found_in reader element x y way word ms ws names ne f
found_in reader element x y way word (Close ∷ ms) ws names ne f = found_in reader element x y way word ms ws names ne f
found_in reader element x y way word (Learn w z ∷ ms) ws names ne f = found_in reader element x y way word ms ws names ne f
found_in reader element x y way word (Load e p z ∷ ms) ws names ne f = found_in reader element x y way word ms ws names ne f
found_in reader element x y way word (Store e p z ∷ ms) ws names ne f = found_in reader element x y way word ms ws names ne f
found_in reader element x y way word (Put w z ∷ ms) ws names ne f = found_in reader element x y way word ms ws names ne f.1
found_in reader element x y way word (Double v w z ∷ ms) ws names ne f = found_in reader element x y way word ms ws names ne f
found_in reader element x y way word (Scan r z ∷ ms) ws names ne f = ⊎_elim
    (λ (t : (r ≡ reader) × (z ≡ y)). inl (t.0, λ e. ne (sym t.1 ∙ e)))
    (λ t. inr (found_in reader element x y way word ms ws names ne t)) f

-- A reader that was found neither outside nor with two numbers since the element was unlinked is not cleared.
not_cleared : (reader element way word : ℕ) (ms ws : List Move) → (FoundGone reader ms → ⊥) → Names (word_in way ws) element →
    Cleared reader element (ms ++ Put way word ∷ ws) → ⊥
not_cleared reader element way word [] ws unseen names c = c.0 names
not_cleared reader element way word (Open ∷ ms) ws unseen names c = not_cleared reader element way word ms ws unseen names c
not_cleared reader element way word (Close ∷ ms) ws unseen names c = not_cleared reader element way word ms ws unseen names c
not_cleared reader element way word (Learn w x ∷ ms) ws unseen names c = not_cleared reader element way word ms ws unseen names c
not_cleared reader element way word (Load e p x ∷ ms) ws unseen names c = not_cleared reader element way word ms ws unseen names c
not_cleared reader element way word (Store e p x ∷ ms) ws unseen names c = not_cleared reader element way word ms ws unseen names c
not_cleared reader element way word (Put w x ∷ ms) ws unseen names c = not_cleared reader element way word ms ws unseen names c.1
not_cleared reader element way word (Double v w x ∷ ms) ws unseen names c = not_cleared reader element way word ms ws unseen names c
not_cleared reader element way word (Scan r x ∷ ms) ws unseen names c = ⊎_elim
    (λ (t : (r ≡ reader) × HasLeft reader element x (ms ++ Put way word ∷ ws)). unseen (inl (
      t.0,
      ⊎_elim
          (λ (even : x % 2 ≡ 0). inl even)
          (λ (o : (y : ℕ) × (y ≢ x) × FoundSince reader element y (ms ++ Put way word ∷ ws)).
          inr (found_in reader element x o.0 way word ms ws names o.1 o.2)) t.1,
    )))
    (λ t. not_cleared reader element way word ms ws (λ z. unseen (inr z)) names t) c

pub skipped : (readers reader element way word : ℕ) (ms ws : List Move) → 0 < reader → reader ≤ readers → (FoundGone reader ms → ⊥) →
    Names (word_in way ws) element → IsSpare readers element (ms ++ Put way word ∷ ws) → ⊥
skipped readers reader element way word ms ws some within unseen names spare =
    not_cleared reader element way word ms ws unseen names (spare.1 reader some within)

-- nor does one odd number since clear it, whatever was found before
pub one_odd_number : (readers reader element way word found : ℕ) (ws : List Move) → 0 < reader → reader ≤ readers → found % 2 ≡ 1 →
    Names (word_in way ws) element → IsSpare readers element (Scan reader found ∷ Put way word ∷ ws) → ⊥
one_odd_number readers reader element way word found ws some within odd names spare =
    skipped readers reader element way word (Scan reader found ∷ []) ws some within
    (λ g. ⊎_elim
    (λ (t : (reader ≡ reader) × ((found % 2 ≡ 0) ⊎ ⊥)). ⊎_elim (λ (even : found % 2 ≡ 0). absurd (omega (arith, even, odd))) (λ n. n) t.1)
    (λ n. n) g)
    names spare
