-- What the writer's looks at a reader tell.
use Rattle.table_words.proofs.Prelude.{◌≡◌, ◌≢◌, ◌⊎◌, ℕ, ◌%◌, ◌^◌, ◌<◌, List, [], ◌∷◌, ◌++◌, refl, sym, ap, ◌∙◌, subst, ⊎_elim, inl, inr, dite, ℕ_discrete}
use Rattle.table_words.proofs.Prelude.{Layout, moves_of, inside, opened, section_word, IsLinked, FoundSince, Cleared, IsLawful, StaysInside}
use Rattle.table_words.specs.declared.moves.Move.{Move}
use Rattle.table_words.specs.declared.moves.Move.TheVariants.{Open, Close, Learn, Load, Store, Put, Double, Scan}
use Rattle.table_words.specs.Found.{StaysUnlinked}
use Rattle.table_words.proofs.Steps.{own, others}
use Rattle.table_words.proofs.Words.{word_low, word_parity, one_section, odd_else}
use Rattle.table_words.proofs.Moments.{History, lawful_early}

-- of a reader that has not left since, all looks found one odd number
pub one_number : (reader element : ℕ) (ms : List Move) → (Cleared reader element ms → ⊥) → (x y : ℕ) →
    FoundSince reader element x ms → FoundSince reader element y ms → (x ≡ y) × (x % 2 ≡ 1)
one_number reader element [] not x y f g = absurd f
one_number reader element (Open ∷ ms) not x y f g = one_number reader element ms not x y f g
one_number reader element (Close ∷ ms) not x y f g = one_number reader element ms not x y f g
one_number reader element (Learn w z ∷ ms) not x y f g = one_number reader element ms not x y f g
one_number reader element (Load e p z ∷ ms) not x y f g = one_number reader element ms not x y f g
one_number reader element (Store e p z ∷ ms) not x y f g = one_number reader element ms not x y f g
one_number reader element (Put w z ∷ ms) not x y f g = one_number reader element ms (λ c. not (f.0, c)) x y f.1 g.1
one_number reader element (Double v w z ∷ ms) not x y f g = one_number reader element ms not x y f g
one_number reader element (Scan r z ∷ ms) not x y f g =
    let odd : r ≡ reader → z % 2 ≡ 1 = λ here. odd_else z (λ even. not (inl (here, inl even))) in
    let same : (o : ℕ) → r ≡ reader → FoundSince reader element o ms → o ≡ z =
    λ o here found. dite (ℕ_discrete o z) (λ e. e) (λ ne. absurd (not (inl (here, inr (o, ne, found))))) in
    ⊎_elim
    (λ (a : (r ≡ reader) × (z ≡ x)). ⊎_elim
    (λ (b : (r ≡ reader) × (z ≡ y)). (sym a.1 ∙ b.1, ap (λ o. o % 2) (sym a.1) ∙ odd a.0))
    (λ (b : FoundSince reader element y ms). (sym a.1 ∙ sym (same y a.0 b), ap (λ o. o % 2) (sym a.1) ∙ odd a.0)) g)
    (λ (a : FoundSince reader element x ms). ⊎_elim
    (λ (b : (r ≡ reader) × (z ≡ y)). (same x b.0 a ∙ b.1, ap (λ o. o % 2) (same x b.0 a) ∙ odd b.0))
    (λ (b : FoundSince reader element y ms). one_number reader element ms (λ c. not (inr c)) x y a b) g) f

-- two numbers since, or an even one, clear the reader
pub two_numbers : (reader element : ℕ) (ms : List Move) (x y : ℕ) → (x ≢ y) ⊎ (x % 2 ≡ 0) →
    FoundSince reader element x ms → FoundSince reader element y ms → Cleared reader element ms
two_numbers reader element [] x y d f g = absurd f
two_numbers reader element (Open ∷ ms) x y d f g = two_numbers reader element ms x y d f g
two_numbers reader element (Close ∷ ms) x y d f g = two_numbers reader element ms x y d f g
two_numbers reader element (Learn w z ∷ ms) x y d f g = two_numbers reader element ms x y d f g
two_numbers reader element (Load e p z ∷ ms) x y d f g = two_numbers reader element ms x y d f g
two_numbers reader element (Store e p z ∷ ms) x y d f g = two_numbers reader element ms x y d f g
two_numbers reader element (Put w z ∷ ms) x y d f g = (f.0, two_numbers reader element ms x y d f.1 g.1)
two_numbers reader element (Double v w z ∷ ms) x y d f g = two_numbers reader element ms x y d f g
two_numbers reader element (Scan r z ∷ ms) x y d f g = ⊎_elim
    (λ (a : (r ≡ reader) × (z ≡ x)). ⊎_elim
    (λ (ne : x ≢ y). ⊎_elim
    (λ (b : (r ≡ reader) × (z ≡ y)). absurd (ne (sym a.1 ∙ b.1)))
    (λ (b : FoundSince reader element y ms). inl (a.0, inr (y, λ e. ne (sym a.1 ∙ sym e), b))) g)
    (λ (even : x % 2 ≡ 0). inl (a.0, inl (ap (λ o. o % 2) a.1 ∙ even))) d)
    (λ (a : FoundSince reader element x ms). ⊎_elim
    (λ (b : (r ≡ reader) × (z ≡ y)). ⊎_elim
    (λ (ne : x ≢ y). inl (b.0, inr (x, λ e. ne (e ∙ b.1), a)))
    (λ (even : x % 2 ≡ 0). inr (two_numbers reader element ms x x (inr even) a a)) d)
    (λ (b : FoundSince reader element y ms). inr (two_numbers reader element ms x y d a b)) g) f

-- what was found since stays found while the element stays unlinked
found_head : (reader element word : ℕ) (m : Move) (ms : List Move) → (IsLinked element ms → ⊥) → FoundSince reader element word ms →
    FoundSince reader element word (m ∷ ms)
found_head reader element word Open ms not f = f
found_head reader element word Close ms not f = f
found_head reader element word (Learn w x) ms not f = f
found_head reader element word (Load e p x) ms not f = f
found_head reader element word (Store e p x) ms not f = f
found_head reader element word (Put w x) ms not f = ((λ names. not (w, names)), f)
found_head reader element word (Double v w x) ms not f = f
found_head reader element word (Scan r x) ms not f = inr f

found_step : (reader element word : ℕ) (e : ℕ × Move) (es : History) → (IsLinked element (moves_of 0 es) → ⊥) →
    FoundSince reader element word (moves_of 0 es) → FoundSince reader element word (moves_of 0 (e ∷ es))
found_step reader element word e es not f = dite (ℕ_discrete e.0 0)
    (λ writer. subst (FoundSince reader element word) (sym (own 0 e es writer)) (found_head reader element word e.1 (moves_of 0 es) not f))
    (λ ne. subst (FoundSince reader element word) (sym (others 0 e es ne)) f)

unlinked_end : (element : ℕ) (late early : History) → StaysUnlinked element late early → IsLinked element (moves_of 0 (late ++ early)) → ⊥
unlinked_end element [] early s = s
unlinked_end element (e ∷ late) early s = s.0

found_on : (reader element word : ℕ) (late early : History) → StaysUnlinked element late early →
    FoundSince reader element word (moves_of 0 early) → FoundSince reader element word (moves_of 0 (late ++ early))
found_on reader element word [] early s f = f
found_on reader element word (e ∷ late) early s f =
    found_step reader element word e (late ++ early) (unlinked_end element late early s.1) (found_on reader element word late early s.1 f)

pub moves_append : (who : ℕ) (late early : History) → moves_of who (late ++ early) ≡ moves_of who late ++ moves_of who early
moves_append who [] early = refl
moves_append who (e ∷ late) early = dite (ℕ_discrete e.0 who)
    (λ mine. own who e (late ++ early) mine ∙ (ap (λ ms. e.1 ∷ ms) (moves_append who late early) ∙
    ap (λ ms. ms ++ moves_of who early) (sym (own who e late mine))))
    (λ ne. others who e (late ++ early) ne ∙ (moves_append who late early ∙ ap (λ ms. ms ++ moves_of who early) (sym (others who e late ne))))

-- a look leaves the word of each reader
word_looked : (who r x : ℕ) (es : History) → section_word (moves_of who ((0, Scan r x) ∷ es)) ≡ section_word (moves_of who es)
word_looked who r x es = dite (ℕ_discrete 0 who)
    (λ mine. ap section_word (own who (0, Scan r x) es mine))
    (λ ne. ap section_word (others who (0, Scan r x) es ne))

-- the first of two looks at a reader, what was done between, and the second
module _ (k : Layout) (reader element x y : ℕ) (between early : History) where
  abbrev first : History
  first = (0, Scan reader x) ∷ early

  -- what was done since the first
  abbrev since : History → History
  since late = late ++ (0, Scan reader y) ∷ between

  at_second : (late : History) → IsLawful k (since late ++ first) → y ≡ section_word (moves_of reader between ++ moves_of reader first)
  at_second [] lawful = lawful.0.1 ∙ ap section_word (moves_append reader between first)
  at_second (e ∷ late) lawful = at_second late lawful.1

  at_first : (late : History) → IsLawful k (since late ++ first) → x ≡ section_word (moves_of reader first)
  at_first late lawful = (lawful_early k (since late) first lawful).0.1 ∙ sym (word_looked reader reader x early)

  found_second : (late : History) → StaysUnlinked element (since late) first → FoundSince reader element y (moves_of 0 (since late ++ first))
  found_second [] s = inl (refl, refl)
  found_second (e ∷ late) s =
      found_step reader element y e (since late ++ first) (unlinked_end element (since late) first s.1) (found_second late s.1)

  found_first : (late : History) → StaysUnlinked element (since late) first → FoundSince reader element x (moves_of 0 (since late ++ first))
  found_first late s = found_on reader element x (since late) first s (inl (refl, refl))

  early_is : (late : History) → IsLawful k (since late ++ first) → x ≡ section_word (moves_of reader early)
  early_is late lawful = at_first late lawful ∙ word_looked reader reader x early

  -- a reader that has not left since an element was unlinked stayed inside one section between the looks
  pub waits_for_one : (late : History) → IsLawful k (since late ++ first) → StaysUnlinked element (since late) first →
      (Cleared reader element (moves_of 0 (since late ++ first)) → ⊥) →
      (x ≡ y) × (inside (moves_of reader early) ≡ 1) × (opened (moves_of reader early) < 2 ^ 62 → StaysInside (moves_of reader between))
  waits_for_one late lawful s not =
      let n = one_number reader element (moves_of 0 (since late ++ first)) not x y (found_first late s) (found_second late s) in
      let was = at_first late lawful in
      let now = at_second late lawful in
      let here = early_is late lawful in (
        n.0,
        sym (word_parity (moves_of reader early)) ∙ (ap (λ z. z % 2) (sym here) ∙ n.1),
        λ few. one_section (moves_of reader between) (moves_of reader first) x (sym now ∙ sym n.0) (sym was) n.1 (word_low (moves_of reader early) x here few),
      )

  -- a reader that began or ended a section between the looks has left
  pub moved_clears : (late : History) → IsLawful k (since late ++ first) → StaysUnlinked element (since late) first →
      (StaysInside (moves_of reader between) → ⊥) → opened (moves_of reader early) < 2 ^ 62 → Cleared reader element (moves_of 0 (since late ++ first))
  moved_clears late lawful s moved few =
      let ms = moves_of 0 (since late ++ first) in
      let was = at_first late lawful in
      let now = at_second late lawful in
      let low = word_low (moves_of reader early) x (early_is late lawful) few in
      dite (ℕ_discrete x y)
      (λ same. dite (ℕ_discrete (x % 2) 0)
      (λ even. two_numbers reader element ms x y (inr even) (found_first late s) (found_second late s))
      (λ ne. absurd (moved (one_section (moves_of reader between) (moves_of reader first) x (sym now ∙ sym same) (sym was) (odd_else x ne) low))))
      (λ ne. two_numbers reader element ms x y (inl ne) (found_first late s) (found_second late s))
