-- A word that is one reader's own.
use Rattle.table_words.proofs.Prelude.{◌≡◌, ◌≢◌, ℕ, ◌<◌, ◌≤◌, List, [], ◌∷◌, refl, sym, ap, ◌∙◌, ⊎_elim, arith, eq-eqb, ne_eqb, dite, ℕ_discrete, Layout}
use Rattle.table_words.proofs.Prelude.{moves_of, word_after, word_at, Holds, IsSpare, IsOpenTo, MayDo, IsLawful}
use Rattle.table_words.specs.declared.moves.Move.{Move}
use Rattle.table_words.specs.declared.moves.Move.TheVariants.{Open, Close, Learn, Load, Store, Put, Double, Scan}
use Rattle.table_words.specs.History.{with_writer}

-- the step of another reader leaves it
others_leave : (k : Layout) (es : List (ℕ × Move)) (who other element place old : ℕ) (m : Move) → 0 < who →
    k.owner (k.table_of element) place ≡ who → other ≢ 0 → other ≢ who → MayDo k es other m → word_after element place m old ≡ old
others_leave k es who other element place old Open some own writer ne may = refl
others_leave k es who other element place old Close some own writer ne may = refl
others_leave k es who other element place old (Learn w x) some own writer ne may = refl
others_leave k es who other element place old (Load s p x) some own writer ne may = refl
others_leave k es who other element place old (Put w x) some own writer ne may = refl
others_leave k es who other element place old (Double v w x) some own writer ne may = refl
others_leave k es who other element place old (Scan r x) some own writer ne may = refl
others_leave k es who other element place old (Store s p x) some own writer ne may = dite (ℕ_discrete s element)
    (λ same. dite (ℕ_discrete p place)
    (λ here. ⊎_elim
    (λ (w : (other ≡ 0) × IsSpare k.readers s (moves_of 0 es)). absurd (writer w.0))
    (λ (r : Holds s (moves_of other es) × (k.key_words (k.table_of s) ≤ p) × IsOpenTo k other s p).
    let mine : k.owner (k.table_of s) p ≡ who = (λ i. k.owner (k.table_of (same i)) (here i)) ∙ own in ⊎_elim
    (λ none. absurd (omega (arith, some, sym mine ∙ none)))
    (λ theirs. absurd (ne (sym theirs ∙ mine))) r.2) may)
    (λ there. rw (eq-eqb s element same) (rw (ne_eqb p place there) refl)))
    (λ elsewhere. rw (ne_eqb s element elsewhere) refl)

kept_writer : (who : ℕ) (e : ℕ × Move) (es : List (ℕ × Move)) → e.0 ≡ 0 → with_writer who (e ∷ es) ≡ e ∷ with_writer who es
kept_writer who e es is = rw (eq-eqb e.0 0 is) refl

kept_own : (who : ℕ) (e : ℕ × Move) (es : List (ℕ × Move)) → e.0 ≢ 0 → e.0 ≡ who → with_writer who (e ∷ es) ≡ e ∷ with_writer who es
kept_own who e es ne is = rw (ne_eqb e.0 0 ne) (rw (eq-eqb e.0 who is) refl)

left_out : (who : ℕ) (e : ℕ × Move) (es : List (ℕ × Move)) → e.0 ≢ 0 → e.0 ≢ who → with_writer who (e ∷ es) ≡ with_writer who es
left_out who e es ne other = rw (ne_eqb e.0 0 ne) (rw (ne_eqb e.0 who other) refl)

-- it is what the reader or the writer stored there last
pub own_word : (k : Layout) (es : List (ℕ × Move)) → IsLawful k es → (who element place : ℕ) → 0 < who →
    k.owner (k.table_of element) place ≡ who → word_at element place es ≡ word_at element place (with_writer who es)
own_word k [] lawful who element place some own = refl
own_word k (e ∷ es) lawful who element place some own =
    let ih = own_word k es lawful.1 who element place some own in
    let both = ap (word_after element place e.1) ih in
    dite (ℕ_discrete e.0 0)
    (λ writer. both ∙ ap (word_at element place) (sym (kept_writer who e es writer)))
    (λ ne. dite (ℕ_discrete e.0 who)
    (λ mine. both ∙ ap (word_at element place) (sym (kept_own who e es ne mine)))
    (λ other. others_leave k es who e.0 element place (word_at element place es) e.1 some own ne other lawful.0 ∙
    (ih ∙ ap (word_at element place) (sym (left_out who e es ne other)))))

-- at another's place a reader may not store
pub others_place : (k : Layout) (es : List (ℕ × Move)) (who element place word : ℕ) → 0 < who →
    k.owner (k.table_of element) place ≢ 0 → k.owner (k.table_of element) place ≢ who → MayDo k es who (Store element place word) → ⊥
others_place k es who element place word some owned other may = ⊎_elim
    (λ (w : (who ≡ 0) × IsSpare k.readers element (moves_of 0 es)). absurd (omega (arith, some, w.0)))
    (λ (r : Holds element (moves_of who es) × (k.key_words (k.table_of element) ≤ place) × IsOpenTo k who element place).
    ⊎_elim (λ none. owned none) (λ mine. other mine) r.2) may
