-- What a reader that learns ways in a section finds there.
use Rattle.table_words.proofs.Prelude.{◌≡◌, ◌⊎◌, ℕ, ◌<◌, List, [], ◌∷◌, ◌++◌, refl, sym, ap, ◌∙◌, subst, ⊎_elim, inl, inr, slice_index, dite, ℕ_discrete}
use Rattle.table_words.proofs.Prelude.{Layout, Names, moves_of, inside, key_of, Holds, IsReader, MayDo, IsLawful, FoundIn, HadWord, IsLinkedUnder}
use Rattle.table_words.proofs.Prelude.{StaysInside, StaysFound, LookedAt, Meets}
use Rattle.table_words.specs.declared.moves.Move.{Move}
use Rattle.table_words.specs.declared.moves.Move.TheVariants.{Open, Close, Learn, Load, Store, Put, Double, Scan}
use Rattle.table_words.specs.Walks.{LearnsEach, MeetsNow}
use Rattle.table_words.proofs.Steps.{own, others, key_step}
use Rattle.table_words.proofs.Words.{inside_same}
use Rattle.table_words.proofs.Holding.{spare_unheld}
use Rattle.table_words.proofs.Standing.{fits}
use Rattle.table_words.proofs.Moments.{History, at_last, inside_rest, FindsNow, found_step, found_holds, Stood, learnt_stood, found_stood}
use Rattle.table_words.proofs.Looks.{moves_append}
use Rattle.table_words.proofs.Hits.{had_word, sometime_some}
use Rattle.table_words.proofs.Writing.{found_looked}

-- the way is learnt by this move, or was before it
record LearnsNow (way : ℕ) (m : Move) : Type 0 where
  word : ℕ
  is : m ≡ Learn way word

looked_head : (way : ℕ) (m : Move) (ms : List Move) → LookedAt way (m ∷ ms) → LearnsNow way m ⊎ LookedAt way ms
looked_head way Open ms h = inr h
looked_head way Close ms h = inr h
looked_head way (Learn w x) ms h = ⊎_elim
    (λ (t : w ≡ way). inl record { word = x; is = ap (λ z. Learn z x) t })
    (λ t. inr t) h
looked_head way (Load e p x) ms h = inr h
looked_head way (Store e p x) ms h = inr h
looked_head way (Put w x) ms h = inr h
looked_head way (Double v w x) ms h = inr h
looked_head way (Scan r x) ms h = inr h

looked_step : (who way : ℕ) (e : ℕ × Move) (late : History) → LookedAt way (moves_of who (e ∷ late)) →
    ((e.0 ≡ who) × LearnsNow way e.1) ⊎ LookedAt way (moves_of who late)
looked_step who way e late h = dite (ℕ_discrete e.0 who)
    (λ mine. ⊎_elim (λ t. inl (mine, t)) (λ t. inr t) (looked_head way e.1 (moves_of who late) (subst (LookedAt way) (own who e late mine) h)))
    (λ ne. inr (subst (LookedAt way) (others who e late ne) h))

-- a step that learns a way
learning : (k : Layout) (who way word : ℕ) (e : ℕ × Move) (es : History) → MayDo k es e.0 e.1 → e.0 ≡ who → e.1 ≡ Learn way word →
    MayDo k es who (Learn way word)
learning k who way word e es may mine is = subst (λ (z : ℕ × Move). MayDo k es z.0 z.1) (λ i. (mine i, is i)) may

-- who learns a way in a section is a reader, and was inside before the first step of the section's stretch
pub was_inside : (k : Layout) (who way : ℕ) (late early : History) → IsLawful k (late ++ early) → StaysInside (moves_of who late) →
    LookedAt way (moves_of who late) → IsReader k who × (inside (moves_of who early) ≡ 1)
was_inside k who way [] early lawful s h = absurd h
was_inside k who way (e ∷ late) early lawful s h =
    let rest = inside_rest who e late s in ⊎_elim
    (λ (t : (e.0 ≡ who) × LearnsNow way e.1).
    let may = learning k who way t.1.word e (late ++ early) lawful.0 t.0 t.1.is in
    (may.0, sym (inside_same (moves_of who late) (moves_of who early) rest) ∙ (ap inside (sym (moves_append who late early)) ∙ may.1)))
    (λ t. was_inside k who way late early lawful.1 rest t)
    (looked_step who way e late h)

found_more : (way element : ℕ) (m : Move) (ms : List Move) → FoundIn way element ms → FoundIn way element (m ∷ ms)
found_more way element Open ms h = h
found_more way element Close ms h = h
found_more way element (Learn w x) ms h = inr h
found_more way element (Load e p x) ms h = h
found_more way element (Store e p x) ms h = h
found_more way element (Put w x) ms h = h
found_more way element (Double v w x) ms h = h
found_more way element (Scan r x) ms h = h

found_later : (who way element : ℕ) (e : ℕ × Move) (late : History) → FoundIn way element (moves_of who late) →
    FoundIn way element (moves_of who (e ∷ late))
found_later who way element e late h = dite (ℕ_discrete e.0 who)
    (λ mine. subst (FoundIn way element) (sym (own who e late mine)) (found_more way element e.1 (moves_of who late) h))
    (λ ne. subst (FoundIn way element) (sym (others who e late ne)) h)

-- an element that was met was found
pub met_found : (k : Layout) (table : ℕ) (key : List ℕ) (who way element : ℕ) (late early : History) → Meets k table key who way element late early →
    FoundIn way element (moves_of who late)
met_found k table key who way element [] early h = absurd h
met_found k table key who way element (e ∷ late) early h = ⊎_elim
    (λ (t : MeetsNow k table key who way element e (late ++ early)).
    let is : moves_of who (e ∷ late) ≡ Learn way t.word ∷ moves_of who late = own who e late t.who_is ∙ ap (λ z. z ∷ moves_of who late) t.learns in
    subst (FoundIn way element) (sym is) (inl (refl, t.names)))
    (λ (t : Meets k table key who way element late early).
    found_later who way element e late (met_found k table key who way element late early t)) h

-- a key that stays in a way is met where the way is learnt
meets_key : (k : Layout) (table : ℕ) (key : List ℕ) (who way : ℕ) (late early : History) → IsLawful k (late ++ early) →
    LookedAt way (moves_of who late) → StaysFound k table key way late early → (element : ℕ) × Meets k table key who way element late early
meets_key k table key who way [] early lawful h stays = absurd h
meets_key k table key who way (e ∷ late) early lawful h stays = ⊎_elim
    (λ (t : (e.0 ≡ who) × LearnsNow way e.1).
    let l = at_last (IsLinkedUnder k table key way) late early stays.1 in
    let may = learning k who way t.1.word e (late ++ early) lawful.0 t.0 t.1.is in (
      l.0,
      inl record {
        word = t.1.word;
        who_is = t.0;
        learns = t.1.is;
        names = subst (λ z. Names z l.0) (sym may.2) l.1.names;
        linked = l.1;
      },
    ))
    (λ t. let m = meets_key k table key who way late early lawful.1 t stays.1 in (m.0, inr m.1))
    (looked_step who way e late h)

pub meets_keys : (k : Layout) (table : ℕ) (key : List ℕ) (who way n : ℕ) (late early : History) → IsLawful k (late ++ early) →
    StaysInside (moves_of who late) → LearnsEach n (moves_of who late) → way < n → StaysFound k table key way late early →
    (element : ℕ) × Meets k table key who way element late early × Holds element (moves_of who (late ++ early))
meets_keys k table key who way n late early lawful s each low stays =
    let m = meets_key k table key who way late early lawful (each way low) stays in
    (m.0, m.1, found_holds who way m.0 late early s (met_found k table key who way m.0 late early m.1))

-- an element that was found in a way was linked there then, under the key that it has at the end
pub found_meets : (k : Layout) (who way element : ℕ) (key : List ℕ) (late early : History) → IsLawful k (late ++ early) →
    StaysInside (moves_of who late) → FoundIn way element (moves_of who late) → key_of k element (late ++ early) ≡ key →
    Meets k (k.table_of element) key who way element late early
found_meets k who way element key [] early lawful s h is = absurd h
found_meets k who way element key (e ∷ late) early lawful s h is = ⊎_elim
    (λ (t : (e.0 ≡ who) × FindsNow way element e.1).
    let stood = learnt_stood k way element t.1.word key (late ++ early) e lawful.1 lawful.0 t.1.is t.1.names is in
    inl record {
      word = t.1.word;
      who_is = t.0;
      learns = t.1.is;
      names = t.1.names;
      linked = record { names = stood.names; table_is = refl; key_is = stood.key_is };
    })
    (λ t. let rest = inside_rest who e late s in
    let now = found_holds who way element late early rest t in
    let same = key_step k (late ++ early) e element lawful.0 (λ spare. spare_unheld k (late ++ early) lawful.1 who element spare now) in
    inr (found_meets k who way element key late early lawful.1 rest t (sym same ∙ is)))
    (found_step who way element e late h)

-- and each word of its key that was loaded is that key's
pub meets_linked : (k : Layout) (who way element : ℕ) (late early : History) → IsLawful k (late ++ early) →
    StaysInside (moves_of who late) → FoundIn way element (moves_of who late) →
    (element < k.elements) × Meets k (k.table_of element) (key_of k element (late ++ early)) who way element late early ×
    Holds element (moves_of who (late ++ early)) ×
    ((place word : ℕ) → place < k.key_words (k.table_of element) → HadWord element place word (moves_of who late) →
    word ≡ slice_index (key_of k element (late ++ early)) place)
meets_linked k who way element late early lawful s found =
    let theirs = key_of k element (late ++ early) in
    let reader = was_inside k who way late early lawful s (found_looked way element (moves_of who late) found) in (
      sometime_some (Stood k way element theirs) (element < k.elements) late early
          (λ es z. (fits k es z.lawful way element z.names).within) (found_stood k who way element theirs late early lawful s found refl),
      found_meets k who way element theirs late early lawful s found refl,
      found_holds who way element late early s found,
      λ place word low had. had_word k who element place word late early reader.0.0 lawful s had low,
    )
