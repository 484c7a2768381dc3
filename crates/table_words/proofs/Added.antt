-- Amounts that are added to a word add up.
use Rattle.table_words.proofs.Prelude.{◌≡◌, ℕ, ◌+◌, ◌%◌, ◌^◌, List, [], ◌∷◌, ◌++◌, refl, ap, ◌∙◌, subst, ⊎_elim, arith, eq-eqb, ne_eqb, dite, ℕ_discrete}
use Rattle.table_words.proofs.Prelude.{Layout, word_after, word_at, MayDo, IsLawful}
use Rattle.table_words.specs.declared.moves.Move.{Move}
use Rattle.table_words.specs.declared.moves.Move.TheVariants.{Open, Close, Learn, Load, Store, Put, Double, Scan}
use Rattle.table_words.specs.Added.{StoresNothingAt, OnlyAdds}

-- a move that stores nothing there leaves the word
left : (element place old : ℕ) (m : Move) → StoresNothingAt element place m → word_after element place m old ≡ old
left element place old Open off = refl
left element place old Close off = refl
left element place old (Learn w x) off = refl
left element place old (Load s p x) off = refl
left element place old (Put w x) off = refl
left element place old (Double v w x) off = refl
left element place old (Scan r x) off = refl
left element place old (Store s p x) off = dite (ℕ_discrete s element)
    (λ same. dite (ℕ_discrete p place)
    (λ here. absurd (off x (ap (λ z. Store z p x) same ∙ ap (λ z. Store element z x) here)))
    (λ beside. rw (eq-eqb s element same) (rw (ne_eqb p place beside) refl)))
    (λ there. rw (ne_eqb s element there) refl)

-- a store leaves there what it stores
stored : (element place x old : ℕ) (m : Move) → m ≡ Store element place x → word_after element place m old ≡ x
stored element place x old m is = ap (λ z. word_after element place z old) is ∙
    rw (eq-eqb element element refl) (rw (eq-eqb place place refl) refl)

-- a load found the word
found : (k : Layout) (es : List (ℕ × Move)) (who element place x : ℕ) (m : Move) → MayDo k es who m → m ≡ Load element place x →
    x ≡ word_at element place es
found k es who element place x m may is = (subst (MayDo k es who) is may).1

-- one amount more
one_more : (old now was rest amount total word : ℕ) → total ≡ rest + amount → old % 2 ^ 64 ≡ (was + rest) % 2 ^ 64 → word ≡ old →
    now ≡ (word + amount) % 2 ^ 64 → now % 2 ^ 64 ≡ (was + total) % 2 ^ 64
one_more old now was rest amount total word sum before loaded is = omega (arith, sum, before, loaded, is)

module _ (k : Layout) (element place : ℕ) where
  one_pair : (total : ℕ) (e f : ℕ × Move) (es early : List (ℕ × Move)) → IsLawful k (f ∷ (es ++ early)) → (word amount rest : ℕ) →
      f.1 ≡ Load element place word → e.1 ≡ Store element place ((word + amount) % 2 ^ 64) → total ≡ rest + amount →
      word_at element place (es ++ early) % 2 ^ 64 ≡ (word_at element place early + rest) % 2 ^ 64 →
      word_at element place (e ∷ (f ∷ (es ++ early))) % 2 ^ 64 ≡ (word_at element place early + total) % 2 ^ 64
  one_pair total e f es early lawful word amount rest loads stores sum before =
      let old = word_at element place (es ++ early) in
      let between = word_after element place f.1 old in
      one_more old (word_after element place e.1 between) (word_at element place early) rest amount total word sum before
      (found k (es ++ early) f.0 element place word f.1 lawful.0 loads)
      (stored element place ((word + amount) % 2 ^ 64) between e.1 stores)

  pub add_up : (total : ℕ) (late early : List (ℕ × Move)) → IsLawful k (late ++ early) → OnlyAdds element place late total →
      word_at element place (late ++ early) % 2 ^ 64 ≡ (word_at element place early + total) % 2 ^ 64
  add_up total [] early lawful none = omega (arith, none)
  add_up total (e ∷ []) early lawful only =
      let same = left element place (word_at element place early) e.1 only.0 in
      let none = only.1 in
      omega (arith, same, none)
  add_up total (e ∷ (f ∷ es)) early lawful only = ⊎_elim
      (λ (o : StoresNothingAt element place e.1 × OnlyAdds element place (f ∷ es) total).
      ap (λ z. z % 2 ^ 64) (left element place (word_at element place ((f ∷ es) ++ early)) e.1 o.0) ∙
      add_up total (f ∷ es) early lawful.1 o.1)
      (λ (p : (word amount rest : ℕ) × (e.0 ≡ f.0) × (f.1 ≡ Load element place word) × (e.1 ≡ Store element place ((word + amount) % 2 ^ 64))
      × OnlyAdds element place es rest × (total ≡ rest + amount)).
      one_pair total e f es early lawful.1 p.0 p.1 p.2 p.4 p.5 p.7 (add_up p.2 es early lawful.1.1 p.6))
      only
