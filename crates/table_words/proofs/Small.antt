-- The small histories are lawful, and without the scan, or with one number found twice, they aren't.
use Rattle.table_words.proofs.Prelude.{◌≡◌, ℕ, ◌<◌, ◌≤◌, List, [], ◌∷◌, refl, subst, inl, inr, arith, Bool, true, false, ◌==◌, if◌then◌else◌, Names}
use Rattle.table_words.proofs.Prelude.{moves_of, IsLinked, IsSpare, HavePassed, IsReader, IsLawful}
use Rattle.table_words.specs.declared.moves.Move.{Move}
use Rattle.table_words.specs.declared.moves.Move.TheVariants.{Double, Scan}
use Rattle.table_words.specs.Small.{small, naming, linked, found, moved, moved_too_early, moved_back, replaced, left, reused, reused_beside, scanned_twice}
use Rattle.table_words.specs.Small.{reused_too_early, reused_by_one_number}
use Rattle.table_words.proofs.Steps.{nothing_named}
use Rattle.table_words.proofs.Writing.{filled_unheld}
use Rattle.table_words.proofs.Moved.{emptied_early}

neither : (b : Bool) (v w element : ℕ) → (Names v element → ⊥) → (Names w element → ⊥) → Names (if b then v else w) element → ⊥
neither true v w element p q h = p h
neither false v w element p q h = q h

one_not_zero : Names (naming 1) 0 → ⊥
one_not_zero h = absurd (omega (arith, h))

zero_not_one : Names (naming 0) 1 → ⊥
zero_not_one h = absurd (omega (arith, h))

reader : IsReader small 1
reader = (omega arith, omega arith)

at_first : IsSpare 1 0 []
at_first = (λ l. nothing_named 0 l.1, λ r some within. tt)

one_first : IsSpare 1 1 (moves_of 0 found)
one_first = (λ l. neither (9 == l.0) (naming 0) 0 1 zero_not_one (nothing_named 1) l.1, λ r some within. (nothing_named 1, tt))

shadowed : (b : Bool) (v w z element : ℕ) → (Names v element → ⊥) → (Names z element → ⊥) → Names (if b then v else (if b then w else z)) element → ⊥
shadowed true v w z element p q h = p h
shadowed false v w z element p q h = q h

zero_later : IsLinked 0 (moves_of 0 replaced) → ⊥
zero_later l = shadowed (9 == l.0) (naming 1) (naming 0) 0 0 one_not_zero (nothing_named 0) l.1

only_one : (r : ℕ) → 0 < r → r ≤ 1 → 1 ≡ r
only_one r some within = omega (arith, some, within)

zero_again : (ms : List Move) → ms ≡ moves_of 0 replaced → IsSpare 1 0 (Scan 1 2 ∷ ms)
zero_again ms is = (λ l. zero_later (subst (IsLinked 0) is (l.0, l.1)), λ r some within. inl (only_one r some within, inl refl))

linked_lawful : IsLawful small linked
linked_lawful = (
  (
    refl,
    inr record {
      element = 0;
      names = refl;
      within = omega arith;
      spare = at_first;
      bucket = inr refl;
      tag = refl;
    },
    λ f t m. absurd m,
  ),
  (inl (refl, at_first), (inl (refl, at_first), tt)),
)

found_lawful : IsLawful small found
found_lawful = ((inr (inl refl), refl), ((reader, refl, refl), (reader, linked_lawful)))

pub replaced_lawful : IsLawful small replaced
replaced_lawful = (
  (
    refl,
    inr record {
      element = 1;
      names = refl;
      within = omega arith;
      spare = one_first;
      bucket = inr refl;
      tag = refl;
    },
    λ f t m. absurd m,
  ),
  (inl (refl, one_first), (inl (refl, one_first), found_lawful)),
)

left_lawful : IsLawful small left
left_lawful = (reader, (inr (inl refl, omega arith, inl refl), ((inr (inl refl), refl), replaced_lawful)))

pub reused_lawful : IsLawful small reused
reused_lawful = (
  (
    refl,
    inr record {
      element = 0;
      names = refl;
      within = omega arith;
      spare = zero_again (moves_of 0 replaced) refl;
      bucket = inl refl;
      tag = refl;
    },
    λ f t m. absurd m,
  ),
  (inl (refl, zero_again (moves_of 0 replaced) refl), ((refl, refl), left_lawful)),
)

pub too_early : IsLawful small reused_too_early → ⊥
too_early h = filled_unheld small replaced replaced_lawful 1 0 0 6 h.0 (inl refl)

-- the two looks found 1 and 3
zero_beside : (ms : List Move) → ms ≡ moves_of 0 replaced → IsSpare 1 0 (Scan 1 3 ∷ Scan 1 1 ∷ ms)
zero_beside ms is = (
  λ l. zero_later (subst (IsLinked 0) is (l.0, l.1)),
  λ r some within. let r_is = only_one r some within in inl (r_is, inr (1, (λ e. absurd (omega (arith, e))), inl (r_is, refl))),
)

pub beside_lawful : IsLawful small reused_beside
beside_lawful = (
  inl (refl, zero_beside (moves_of 0 replaced) refl),
  ((refl, refl), ((reader, refl, refl), (reader, (reader, ((refl, refl), replaced_lawful))))),
)

twice_lawful : IsLawful small scanned_twice
twice_lawful = ((refl, refl), ((refl, refl), replaced_lawful))

pub one_number_too_early : IsLawful small reused_by_one_number → ⊥
one_number_too_early h = filled_unheld small scanned_twice twice_lawful 1 0 0 6 h.0 (inl refl)

reader_out : HavePassed 1 (Scan 1 2 ∷ Double 9 1 (naming 0) ∷ moves_of 0 found)
reader_out r some within = inl (only_one r some within, inl refl)

doubled_lawful : IsLawful small ((0, Double 9 1 (naming 0)) ∷ found)
doubled_lawful = (
  (
    refl,
    record {
      element = 0;
      names = refl;
      there = refl;
      empty = refl;
      bucket = inl refl;
      settled = λ f t m. m;
    },
  ),
  found_lawful,
)

pub moved_lawful : IsLawful small moved
moved_lawful = ((refl, inl refl, λ f t m. (refl, inr (m.0, reader_out))), ((refl, refl), (reader, doubled_lawful)))

pub moved_back_lawful : IsLawful small moved_back
moved_back_lawful = ((refl, inl refl, λ f t m. (refl, inl m.1)), doubled_lawful)

pub moved_past_reader : IsLawful small moved_too_early → ⊥
moved_past_reader h = emptied_early small ((0, Double 9 1 (naming 0)) ∷ found) doubled_lawful 9 1 1 0 (refl, refl) (omega arith) (omega arith) (λ n. n) h.0
