-- The words of an element that a reader holds stay while no reader stores in it.
use Rattle.table_words.proofs.Prelude.{◌≡◌, ℕ, ◌≤◌, [], ◌∷◌, ◌++◌, refl, ap, ◌∙◌, subst, ⊎_elim, arith, ne_eqb, dite, ℕ_discrete, Layout, moves_of}
use Rattle.table_words.proofs.Prelude.{word_after, word_at, Holds, IsSpare, IsOpenTo, MayDo, IsLawful, StaysInside}
use Rattle.table_words.specs.declared.moves.Move.{Move}
use Rattle.table_words.specs.declared.moves.Move.TheVariants.{Open, Close, Learn, Load, Store, Put, Double, Scan}
use Rattle.table_words.specs.Whole.{OnlyWriterStores}
use Rattle.table_words.proofs.Holding.{held, spare_unheld}
use Rattle.table_words.proofs.Moments.{History, inside_rest, holds_on}

-- the writer holds nothing
writer_holds_none : (k : Layout) (es : History) → IsLawful k es → (who element : ℕ) → who ≡ 0 → Holds element (moves_of who es) → ⊥
writer_holds_none k es lawful who element writer h =
    let some = (held k es lawful who element h).reader.0 in
    absurd (omega (arith, some, writer))

-- one step leaves each word of an element that is not spare, if no reader stores in it
word_stays : (k : Layout) (es : History) → IsLawful k es → (who element place old : ℕ) (m : Move) → MayDo k es who m →
    (IsSpare k.readers element (moves_of 0 es) → ⊥) → ((p x : ℕ) → m ≡ Store element p x → who ≡ 0) → word_after element place m old ≡ old
word_stays k es lawful who element place old Open may kept only = refl
word_stays k es lawful who element place old Close may kept only = refl
word_stays k es lawful who element place old (Learn w x) may kept only = refl
word_stays k es lawful who element place old (Load s p x) may kept only = refl
word_stays k es lawful who element place old (Put w x) may kept only = refl
word_stays k es lawful who element place old (Double v w x) may kept only = refl
word_stays k es lawful who element place old (Scan r x) may kept only = refl
word_stays k es lawful who element place old (Store s p x) may kept only = dite (ℕ_discrete s element)
    (λ same. ⊎_elim
    (λ (w : (who ≡ 0) × IsSpare k.readers s (moves_of 0 es)).
    absurd (kept (subst (λ z. IsSpare k.readers z (moves_of 0 es)) same w.1)))
    (λ (r : Holds s (moves_of who es) × (k.key_words (k.table_of s) ≤ p) × IsOpenTo k who s p).
    absurd (writer_holds_none k es lawful who s (only p x (ap (λ z. Store z p x) same)) r.0)) may)
    (λ elsewhere. rw (ne_eqb s element elsewhere) refl)

-- so do all, through any stretch of a section that holds it
pub values_stay : (k : Layout) (late early : History) → IsLawful k (late ++ early) → (who element : ℕ) → StaysInside (moves_of who late) →
    Holds element (moves_of who early) → OnlyWriterStores element late → (place : ℕ) →
    word_at element place (late ++ early) ≡ word_at element place early
values_stay k [] early lawful who element s h only place = refl
values_stay k (e ∷ late) early lawful who element s h only place =
    let rest = inside_rest who e late s in
    let now = holds_on who element late early rest h in
    let kept : IsSpare k.readers element (moves_of 0 (late ++ early)) → ⊥ = λ spare. spare_unheld k (late ++ early) lawful.1 who element spare now in
    word_stays k (late ++ early) lawful.1 e.0 element place (word_at element place (late ++ early)) e.1 lawful.0 kept only.0 ∙
    values_stay k late early lawful.1 who element rest h only.1 place
