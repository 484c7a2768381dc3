-- What a lookup answers was linked under its key.
use Rattle.table_words.proofs.Prelude.{◌≡◌, ◌⊎◌, ℕ, ◌<◌, List, [], ◌∷◌, ◌++◌, refl, sym, ap, ◌∙◌, subst, ⊎_elim, inl, inr, arith, dite, ℕ_discrete, Some}
use Rattle.table_words.proofs.Prelude.{length, slice_index, Layout, moves_of, word_at, key_of, Holds, MayDo, IsLawful, OnlySearches, HadWord}
use Rattle.table_words.proofs.Prelude.{AnswersLookup, IsLinkedAs, Sometime, StaysInside}
use Rattle.table_words.specs.declared.moves.Move.{Move}
use Rattle.table_words.specs.declared.moves.Move.TheVariants.{Open, Close, Learn, Load, Store, Put, Double, Scan}
use Rattle.table_words.specs.Layout.{IsApart}
use Rattle.table_words.proofs.Steps.{own, others, key_step, key_load, key_word, key_is}
use Rattle.table_words.proofs.Holding.{spare_unheld}
use Rattle.table_words.proofs.Standing.{fits}
use Rattle.table_words.proofs.Moments.{History, Stood, found_stood, sometime_to, inside_rest, holds_step, searches_inside}

had_head : (element place word : ℕ) (m : Move) (ms : List Move) → HadWord element place word (m ∷ ms) →
    (m ≡ Load element place word) ⊎ HadWord element place word ms
had_head element place word Open ms h = inr h
had_head element place word Close ms h = inr h
had_head element place word (Learn w x) ms h = inr h
had_head element place word (Load e p x) ms h = ⊎_elim
    (λ (t : (e ≡ element) × (p ≡ place) × (x ≡ word)). inl (λ i. Load (t.0 i) (t.1 i) (t.2 i)))
    (λ t. inr t) h
had_head element place word (Store e p x) ms h = inr h
had_head element place word (Put w x) ms h = inr h
had_head element place word (Double v w x) ms h = inr h
had_head element place word (Scan r x) ms h = inr h

had_step : (who element place word : ℕ) (e : ℕ × Move) (late : History) → HadWord element place word (moves_of who (e ∷ late)) →
    ((e.0 ≡ who) × (e.1 ≡ Load element place word)) ⊎ HadWord element place word (moves_of who late)
had_step who element place word e late h = dite (ℕ_discrete e.0 who)
    (λ mine. ⊎_elim (λ t. inl (mine, t)) (λ t. inr t)
    (had_head element place word e.1 (moves_of who late) (subst (HadWord element place word) (own who e late mine) h)))
    (λ ne. inr (subst (HadWord element place word) (others who e late ne) h))

-- who loads a word of an element holds it
load_holds : (k : Layout) (who element place word : ℕ) (e : ℕ × Move) (es : History) → 0 < who → MayDo k es e.0 e.1 → e.0 ≡ who →
    e.1 ≡ Load element place word → Holds element (moves_of who es)
load_holds k who element place word e es some may mine is =
    let m : MayDo k es who (Load element place word) = subst (λ (z : ℕ × Move). MayDo k es z.0 z.1) (λ i. (mine i, is i)) may in
    ⊎_elim (λ (writer : who ≡ 0). absurd (omega (arith, some, writer))) (λ h. h) m.0

had_holds : (k : Layout) (who element place word : ℕ) (late early : History) → 0 < who → IsLawful k (late ++ early) →
    StaysInside (moves_of who late) → HadWord element place word (moves_of who late) → Holds element (moves_of who (late ++ early))
had_holds k who element place word [] early some lawful s h = absurd h
had_holds k who element place word (e ∷ late) early some lawful s h = holds_step who element e late (late ++ early) s (⊎_elim
    (λ (t : (e.0 ≡ who) × (e.1 ≡ Load element place word)). load_holds k who element place word e (late ++ early) some lawful.0 t.0 t.1)
    (λ t. had_holds k who element place word late early some lawful.1 (inside_rest who e late s) t)
    (had_step who element place word e late h))

loaded_word : (k : Layout) (element place word : ℕ) (e : ℕ × Move) (es : History) → MayDo k es e.0 e.1 → e.1 ≡ Load element place word →
    place < k.key_words (k.table_of element) → word ≡ slice_index (key_of k element (e ∷ es)) place
loaded_word k element place word e es may is low =
    let m : MayDo k es e.0 (Load element place word) = subst (λ (z : Move). MayDo k es e.0 z) is may in
    let same : key_of k element (e ∷ es) ≡ key_of k element es =
    subst (λ (z : Move). key_of k element ((e.0, z) ∷ es) ≡ key_of k element es) (sym is) (key_load k es e.0 element element place word) in
    m.1 ∙ (sym (key_word k element place es low) ∙ ap (λ z. slice_index z place) (sym same))

-- a word that was found in the section is the one that the key still has
pub had_word : (k : Layout) (who element place word : ℕ) (late early : History) → 0 < who → IsLawful k (late ++ early) →
    StaysInside (moves_of who late) → HadWord element place word (moves_of who late) → place < k.key_words (k.table_of element) →
    word ≡ slice_index (key_of k element (late ++ early)) place
had_word k who element place word [] early some lawful s h low = absurd h
had_word k who element place word (e ∷ late) early some lawful s h low = ⊎_elim
    (λ (t : (e.0 ≡ who) × (e.1 ≡ Load element place word)). loaded_word k element place word e (late ++ early) lawful.0 t.1 low)
    (λ t. let rest = inside_rest who e late s in
    let now = had_holds k who element place word late early some lawful.1 rest t in
    let same = key_step k (late ++ early) e element lawful.0 (λ spare. spare_unheld k (late ++ early) lawful.1 who element spare now) in
    had_word k who element place word late early some lawful.1 rest t low ∙ ap (λ z. slice_index z place) (sym same))
    (had_step who element place word e late h)

pub sometime_some : (p : History → Type 0) (q : Type 0) (late early : History) → ((es : History) → p es → q) → Sometime p late early → q
sometime_some p q [] early f h = f early h
sometime_some p q (e ∷ late) early f h = ⊎_elim (λ z. f (e ∷ (late ++ early)) z) (λ z. sometime_some p q late early f z) h

-- a hit was linked under the key at some moment
pub hit_linked : (k : Layout) (table : ℕ) → IsApart k table → (key : List ℕ) → length key ≡ k.key_words table → (who element : ℕ) (late early : History) →
    0 < who → IsLawful k (late ++ early) → OnlySearches k table (moves_of who late) →
    AnswersLookup k table key (moves_of who late) (Some element) →
    Sometime (IsLinkedAs k table key element) late early
hit_linked k table apart key count who element late early some lawful s a =
    let inside = searches_inside k table (moves_of who late) s in
    let way = a.0.0 in
    let theirs = key_of k element (late ++ early) in
    let moment = found_stood k who way element theirs late early lawful inside a.0.2 refl in
    let table_is : k.table_of element ≡ table = sometime_some (Stood k way element theirs) (k.table_of element ≡ table) late early
    (λ es z. apart element way key (key_of k element es) a.0.1 (fits k es z.lawful way element z.names).bucket) moment in
    let words : (p : ℕ) → p < k.key_words (k.table_of element) → slice_index key p ≡ word_at element p (late ++ early) = λ p low.
    had_word k who element p (slice_index key p) late early some lawful inside (a.1 p (subst (λ n. p < k.key_words n) table_is low)) low
    ∙ key_word k element p (late ++ early) low in
    let same : theirs ≡ key = key_is k element key (late ++ early) (count ∙ ap k.key_words (sym table_is)) words in
    sometime_to (Stood k way element theirs) (IsLinkedAs k table key element) late early
    (λ es z. (way, record { names = z.names; table_is = table_is; key_is = z.key_is ∙ same })) moment
