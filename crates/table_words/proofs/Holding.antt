-- An element that a reader holds is linked, or the reader has not left its section since it was unlinked.
use Rattle.table_words.proofs.Prelude.{◌≡◌, ◌≢◌, ℕ, ◌%◌, List, [], ◌∷◌, ◌++◌, sym, ap, ◌∙◌, subst, ⊎_elim, arith, dite, ℕ_discrete, Layout, Names}
use Rattle.table_words.proofs.Prelude.{moves_of, inside, section_word, word_in, word_at, IsLinked, Holds, FoundSince, HasLeft, Cleared, IsSpare, IsReader}
use Rattle.table_words.proofs.Prelude.{MayDo, IsLawful}
use Rattle.table_words.specs.declared.moves.Move.{Move}
use Rattle.table_words.specs.declared.moves.Move.TheVariants.{Open, Close, Learn, Load, Store, Put, Double, Scan}
use Rattle.table_words.proofs.Steps.{own, others, put_there, doubled_there, nothing_named}
use Rattle.table_words.proofs.Words.{word_parity}

-- of what the reader did, ms, and what the writer did, ws
pub record Held (k : Layout) (who element : ℕ) (ms ws : List Move) : Type 0 where
  pub reader : IsReader k who
  pub open_now : inside ms ≡ 1
  pub kept : (IsLinked element ws → ⊥) → Cleared who element ws → ⊥
  -- each look since found the number that the section has
  pub looks : (IsLinked element ws → ⊥) → (x : ℕ) → x ≢ section_word ms → FoundSince who element x ws → ⊥

-- what is linked stays so, if the way that is written named something else
still_linked : (element w x : ℕ) (ws : List Move) → (Names (word_in w ws) element → ⊥) → IsLinked element ws → IsLinked element (Put w x ∷ ws)
still_linked element w x ws not l = dite (ℕ_discrete w l.0)
    (λ same. absurd (not (subst (λ z. Names (word_in z ws) element) (sym same) l.1)))
    (λ ne. (l.0, subst (λ z. Names z element) (sym (put_there w l.0 x ws ne)) l.1))

-- nor does a word in a second way, which was empty, unlink anything
still_doubled : (element v w x : ℕ) (ws : List Move) → word_in w ws ≡ 0 → IsLinked element ws → IsLinked element (Double v w x ∷ ws)
still_doubled element v w x ws empty l = dite (ℕ_discrete w l.0)
    (λ same. absurd (nothing_named element (subst (λ z. Names z element) (ap (λ z. word_in z ws) (sym same) ∙ empty) l.1)))
    (λ ne. (l.0, subst (λ z. Names z element) (sym (doubled_there v w l.0 x ws ne)) l.1))

-- the writer's next move
writes : (k : Layout) (who element : ℕ) (es : List (ℕ × Move)) (m : Move) → MayDo k es 0 m →
    Held k who element (moves_of who es) (moves_of 0 es) → Held k who element (moves_of who es) (m ∷ moves_of 0 es)
writes k who element es Open may h = absurd (omega arith)
writes k who element es Close may h = absurd (omega arith)
writes k who element es (Learn w x) may h = absurd (omega arith)
writes k who element es (Load e p x) may h = record { reader = h.reader; open_now = h.open_now; kept = h.kept; looks = h.looks }
writes k who element es (Store e p x) may h = record { reader = h.reader; open_now = h.open_now; kept = h.kept; looks = h.looks }
writes k who element es (Put w x) may h = record {
  reader = h.reader;
  open_now = h.open_now;
  kept = λ not c. h.kept (λ l. not (still_linked element w x (moves_of 0 es) c.0 l)) c.1;
  looks = λ not y ne f. h.looks (λ l. not (still_linked element w x (moves_of 0 es) f.0 l)) y ne f.1;
}
writes k who element es (Double v w x) may h =
    let still = still_doubled element v w x (moves_of 0 es) may.1.empty in record {
      reader = h.reader;
      open_now = h.open_now;
      kept = λ not c. h.kept (λ l. not (still l)) c;
      looks = λ not y ne f. h.looks (λ l. not (still l)) y ne f;
    }
writes k who element es (Scan r x) may h =
    let is : r ≡ who → x ≡ section_word (moves_of who es) = λ e. may.1 ∙ ap (λ w. section_word (moves_of w es)) e in
    record {
      reader = h.reader;
      open_now = h.open_now;
      kept = λ not c. ⊎_elim
          (λ (z : (r ≡ who) × HasLeft who element x (moves_of 0 es)). ⊎_elim
          (λ (even : x % 2 ≡ 0). let o = h.open_now in let p = word_parity (moves_of who es) in
          let e = ap (λ n. n % 2) (is z.0) in absurd (omega (arith, o, p, e, even)))
          (λ (other : (y : ℕ) × (y ≢ x) × FoundSince who element y (moves_of 0 es)).
          h.looks not other.0 (λ e. other.1 (e ∙ sym (is z.0))) other.2) z.1)
          (λ z. h.kept not z) c;
      looks = λ not y ne f. ⊎_elim
          (λ (z : (r ≡ who) × (x ≡ y)). ne (sym z.1 ∙ is z.0))
          (λ z. h.looks not y ne z) f;
    }

-- the reader's own next move
reads : (k : Layout) (who element : ℕ) (es : List (ℕ × Move)) (m : Move) → MayDo k es who m →
    (Holds element (moves_of who es) → Held k who element (moves_of who es) (moves_of 0 es)) →
    Holds element (m ∷ moves_of who es) → Held k who element (m ∷ moves_of who es) (moves_of 0 es)
reads k who element es Open may ih known = absurd known
reads k who element es Close may ih known = absurd known
reads k who element es (Learn w x) may ih known = ⊎_elim
    (λ (t : Names x element). record {
      reader = may.0;
      open_now = may.1;
      kept = λ not c. not (w, subst (λ z. Names z element) may.2 t);
      looks = λ not y ne f. not (w, subst (λ z. Names z element) may.2 t);
    })
    (λ t. let h = ih t in record { reader = h.reader; open_now = h.open_now; kept = h.kept; looks = h.looks }) known
reads k who element es (Load e p x) may ih known = let h = ih known in record { reader = h.reader; open_now = h.open_now; kept = h.kept; looks = h.looks }
reads k who element es (Store e p x) may ih known = let h = ih known in record { reader = h.reader; open_now = h.open_now; kept = h.kept; looks = h.looks }
reads k who element es (Put w x) may ih known = let h = ih known in record { reader = h.reader; open_now = h.open_now; kept = h.kept; looks = h.looks }
reads k who element es (Double v w x) may ih known = let h = ih known in record { reader = h.reader; open_now = h.open_now; kept = h.kept; looks = h.looks }
reads k who element es (Scan r x) may ih known = let h = ih known in record { reader = h.reader; open_now = h.open_now; kept = h.kept; looks = h.looks }

pub held : (k : Layout) (es : List (ℕ × Move)) → IsLawful k es → (who element : ℕ) → Holds element (moves_of who es) →
    Held k who element (moves_of who es) (moves_of 0 es)
held k [] lawful who element known = absurd known
held k (e ∷ es) lawful who element known = dite (ℕ_discrete e.0 who)
    (λ mine. let h = reads k who element es e.1 (subst (λ z. MayDo k es z e.1) mine lawful.0) (held k es lawful.1 who element)
    (subst (Holds element) (own who e es mine) known) in
    let r = h.reader in
    let other = others 0 e es (λ z. absurd (omega arith)) in
    subst (λ (y : List Move × List Move). Held k who element y.0 y.1) (λ a. (sym (own who e es mine) a, sym other a)) h)
    (λ ne. let same = others who e es ne in
    let h = held k es lawful.1 who element (subst (Holds element) same known) in
    dite (ℕ_discrete e.0 0)
    (λ writer. subst (λ (y : List Move × List Move). Held k who element y.0 y.1) (λ a. (sym same a, sym (own 0 e es writer) a))
    (writes k who element es e.1 (subst (λ z. MayDo k es z e.1) writer lawful.0) h))
    (λ reader. subst (λ (y : List Move × List Move). Held k who element y.0 y.1) (λ a. (sym same a, sym (others 0 e es reader) a)) h))

-- nobody holds a spare element
pub spare_unheld : (k : Layout) (es : List (ℕ × Move)) → IsLawful k es → (who element : ℕ) →
    IsSpare k.readers element (moves_of 0 es) → Holds element (moves_of who es) → ⊥
spare_unheld k es lawful who element spare known =
    let h = held k es lawful who element known in
    h.kept spare.0 (spare.1 who h.reader.0 h.reader.1)

pub before : (k : Layout) (after es : List (ℕ × Move)) (e : ℕ × Move) → IsLawful k (after ++ e ∷ es) → MayDo k es e.0 e.1 × IsLawful k es
before k [] es e h = h
before k (x ∷ after) es e h = before k after es e h.1

-- a load finds what was stored last
pub finds_stored : (k : Layout) (es : List (ℕ × Move)) → IsLawful k es →
    (after early : List (ℕ × Move)) (who element place x : ℕ) → es ≡ after ++ (who, Load element place x) ∷ early →
    x ≡ word_at element place early
finds_stored k es lawful after early who element place x e =
    (before k after early (who, Load element place x) (subst (IsLawful k) e lawful)).0.1
