-- What nobody but the writer changes.
use Rattle.table_words.proofs.Prelude.{◌≡◌, ◌≢◌, ◌⊎◌, ℕ, ◌≤◌, List, [], ◌∷◌, ◌++◌, length, refl, sym, ap, ◌∙◌, subst, ⊎_elim, inl, inr, arith, dite}
use Rattle.table_words.proofs.Prelude.{ℕ_discrete, Layout, IsCandidate, moves_of, word_in, key_of, IsSettled, Holds, IsSpare, IsOpenTo, MayDo, MayDouble}
use Rattle.table_words.proofs.Prelude.{MayLink, IsLawful}
use Rattle.map_table.proofs.Prelude.{Move, Open, Close, Learn, Load, Store, Put, Double, Scan}
use Rattle.table_words.proofs.Steps.{own, others, key_stored, key_learn, key_load, key_put, key_doubled, key_other}

-- a reader's step leaves each key
pub readers_leave : (k : Layout) (es : List (ℕ × Move)) (who element : ℕ) (m : Move) → who ≢ 0 → MayDo k es who m →
    key_of k element ((who, m) ∷ es) ≡ key_of k element es
readers_leave k es who element Open ne may = key_other k es who element Open (λ p old. refl)
readers_leave k es who element Close ne may = key_other k es who element Close (λ p old. refl)
readers_leave k es who element (Learn w x) ne may = key_learn k es who element w x
readers_leave k es who element (Load s p x) ne may = key_load k es who element s p x
readers_leave k es who element (Put w x) ne may = key_put k es who element w x
readers_leave k es who element (Double f w x) ne may = key_doubled k es who element f w x
readers_leave k es who element (Scan r x) ne may = key_other k es who element (Scan r x) (λ p old. refl)
readers_leave k es who element (Store s p x) ne may = ⊎_elim
    (λ (w : (who ≡ 0) × IsSpare k.readers s (moves_of 0 es)). absurd (ne w.0))
    (λ (r : Holds s (moves_of who es) × (k.key_words (k.table_of s) ≤ p) × IsOpenTo k who s p). key_stored k es who element s p x r.1) may

pub longer : (between es : List (ℕ × Move)) → length (moves_of 0 es) ≤ length (moves_of 0 (between ++ es))
longer [] es = omega arith
longer (e ∷ between) es =
    let ih = longer between es in
    dite (ℕ_discrete e.0 0)
    (λ writer. let is = ap (λ (ms : List Move). length ms) (own 0 e (between ++ es) writer) in omega (arith, ih, is))
    (λ ne. let is = ap (λ (ms : List Move). length ms) (others 0 e (between ++ es) ne) in omega (arith, ih, is))

-- while the writer does nothing, each key stays
pub keys_stay : (k : Layout) (between es : List (ℕ × Move)) (element : ℕ) → IsLawful k (between ++ es) →
    moves_of 0 (between ++ es) ≡ moves_of 0 es → key_of k element (between ++ es) ≡ key_of k element es
keys_stay k [] es element lawful same = refl
keys_stay k (e ∷ between) es element lawful same = dite (ℕ_discrete e.0 0)
    (λ writer.
    let long = longer between es in
    let is = ap (λ (ms : List Move). length ms) (sym (own 0 e (between ++ es) writer) ∙ same) in
    absurd (omega (arith, long, is)))
    (λ ne. readers_leave k (between ++ es) e.0 element e.1 ne lawful.0 ∙
    keys_stay k between es element lawful.1 (sym (others 0 e (between ++ es) ne) ∙ same))

-- so what the writer may put in a way, it still may
pub may_later : (k : Layout) (log between es : List (ℕ × Move)) (way x : ℕ) → log ≡ between ++ es → IsLawful k log → moves_of 0 log ≡ moves_of 0 es →
    (x ≡ 0) ⊎ MayLink k es way x → (x ≡ 0) ⊎ MayLink k log way x
may_later k log between es way x is lawful same (inl none) = inl none
may_later k log between es way x is lawful same (inr m) =
    let key : key_of k m.element log ≡ key_of k m.element es = ap (key_of k m.element) is ∙
    keys_stay k between es m.element (subst (IsLawful k) is lawful) (ap (moves_of 0) (sym is) ∙ same) in
    inr record {
      element = m.element;
      names = m.names;
      within = m.within;
      spare = subst (IsSpare k.readers m.element) (sym same) m.spare;
      bucket = subst (λ z. IsCandidate k (k.table_of m.element) z way) (sym key) m.bucket;
      tag = m.tag ∙ ap (k.tag (k.table_of m.element)) (sym key);
    }

-- and in a second way
pub double_later : (k : Layout) (log between es : List (ℕ × Move)) (from to x : ℕ) → log ≡ between ++ es → IsLawful k log → moves_of 0 log ≡ moves_of 0 es →
    MayDouble k es from to x → MayDouble k log from to x
double_later k log between es from to x is lawful same m =
    let key : key_of k m.element log ≡ key_of k m.element es = ap (key_of k m.element) is ∙
    keys_stay k between es m.element (subst (IsLawful k) is lawful) (ap (moves_of 0) (sym is) ∙ same) in
    record {
      element = m.element;
      names = m.names;
      there = ap (word_in from) same ∙ m.there;
      empty = ap (word_in to) same ∙ m.empty;
      bucket = subst (λ z. IsCandidate k (k.table_of m.element) z to) (sym key) m.bucket;
      settled = subst IsSettled (sym same) m.settled;
    }
