-- What a reader learnt as linked keeps its generation while its section is open.
use Rattle.bpf_model.proofs.Prelude.{◌≡◌, ◌⊎◌, ℕ, ◌+◌, ◌%◌, List, [], ◌∷◌, ◌++◌, refl, sym, ap, ◌∙◌, subst, ⊎_elim, inl, inr, arith, dite, ℕ_discrete}
use Rattle.read_table.proofs.Prelude.{moves_of, inside, header_in, word_at_place, Knows, IsLearnt, Cleared, MayLink, IsSpare, IsReader, MayDo, IsLawful}
use Rattle.std.proofs.Common.{eq-eqb, ne_eqb}
use Rattle.read_table.specs.declared.view.Move.{Move}
use Rattle.read_table.specs.declared.view.Move.TheVariants.{Open, Close, Learn, Load, Store, Header, Scan}
use Rattle.read_table.specs.declared.view.TableShape.{TableShape}
use Rattle.read_table.specs.History.{generation}

-- of what the reader did, a, and what the writer did, b
record Safe (k : TableShape) (who slot h : ℕ) (a b : List Move) : Type 0 where
  reader : IsReader k who
  open_now : inside a ≡ 1
  odd : h % 2 ≡ 1
  held : (header_in slot b ≡ h) ⊎ ((header_in slot b ≡ h + 1) × (Cleared who slot b → ⊥))

-- the writer's next move
writes : (k : TableShape) (who slot h : ℕ) (es : List (ℕ × Move)) (m : Move) → MayDo k es 0 m →
    Safe k who slot h (moves_of who es) (moves_of 0 es) → Safe k who slot h (moves_of who es) (m ∷ moves_of 0 es)
writes k who slot h es Open may s = absurd (omega arith)
writes k who slot h es Close may s = absurd (omega arith)
writes k who slot h es (Learn x y) may s = absurd (omega arith)
writes k who slot h es (Load x p y) may s = record { reader = s.reader; open_now = s.open_now; odd = s.odd; held = s.held }
writes k who slot h es (Store x p y) may s = record { reader = s.reader; open_now = s.open_now; odd = s.odd; held = s.held }
writes k who slot h es (Scan r x) may s = record {
  reader = s.reader;
  open_now = s.open_now;
  odd = s.odd;
  held = ⊎_elim (λ t. inl t)
      (λ t. inr (
        t.0,
        λ c. ⊎_elim
            (λ (z : (r ≡ who) × (x ≡ 0)). let o = s.open_now in let e : inside (moves_of who es) ≡ 0 =
            ap (λ w. inside (moves_of w es)) (sym z.0) ∙ (sym may.1 ∙ z.1) in absurd (omega arith))
            t.1 c,
      )) s.held;
}
writes k who slot h es (Header x y) may s = dite (ℕ_discrete x slot)
    (λ same. let odd = s.odd in let is : header_in slot (Header x y ∷ moves_of 0 es) ≡ y = rw (eq-eqb x slot same) refl in
    let up : y ≡ header_in slot (moves_of 0 es) + 1 = may.1 ∙ ap (λ z. header_in z (moves_of 0 es) + 1) same in record {
      reader = s.reader;
      open_now = s.open_now;
      odd = s.odd;
      held = ⊎_elim
          (λ (t : header_in slot (moves_of 0 es) ≡ h). inr (is ∙ (up ∙ ap (λ z. z + 1) t), λ c. c.0 same))
          (λ (t : (header_in slot (moves_of 0 es) ≡ h + 1) × (Cleared who slot (moves_of 0 es) → ⊥)). let e = t.0 in
          let link : MayLink k.readers slot (moves_of 0 es) = subst (λ z. MayLink k.readers z (moves_of 0 es)) same (may.2 (omega arith)) in
          absurd (⊎_elim (λ (z : header_in slot (moves_of 0 es) ≡ 0). absurd (omega arith)) (λ all. t.1 (all who s.reader.0 s.reader.1)) link))
          s.held;
    })
    (λ ne. record {
      reader = s.reader;
      open_now = s.open_now;
      odd = s.odd;
      held = ⊎_elim (λ t. inl ((rw (ne_eqb x slot ne) refl) ∙ t)) (λ t. inr ((rw (ne_eqb x slot ne) refl) ∙ t.0, λ c. t.1 c.1)) s.held;
    })

-- the reader's own next move
reads : (k : TableShape) (who slot h : ℕ) (es : List (ℕ × Move)) (m : Move) → MayDo k es who m →
    (Knows slot h (moves_of who es) → Safe k who slot h (moves_of who es) (moves_of 0 es)) →
    Knows slot h (m ∷ moves_of who es)
    → Safe k who slot h (m ∷ moves_of who es) (moves_of 0 es)
reads k who slot h es Open may ih known = absurd known
reads k who slot h es Close may ih known = absurd known
reads k who slot h es (Learn x y) may ih known = ⊎_elim
    (λ (t : (x ≡ slot) × (y ≡ h) × (y % 2 ≡ 1)). record {
      reader = may.0;
      open_now = may.1;
      odd = subst (λ z. z % 2 ≡ 1) t.1 t.2;
      held = inl (ap (λ z. header_in z (moves_of 0 es)) (sym t.0) ∙ (sym may.2 ∙ t.1));
    })
    (λ t. let s = ih t in record { reader = s.reader; open_now = s.open_now; odd = s.odd; held = s.held }) known
reads k who slot h es (Load x p y) may ih known = let s = ih known in record { reader = s.reader; open_now = s.open_now; odd = s.odd; held = s.held }
reads k who slot h es (Store x p y) may ih known = let s = ih known in record { reader = s.reader; open_now = s.open_now; odd = s.odd; held = s.held }
reads k who slot h es (Header x y) may ih known = let s = ih known in record { reader = s.reader; open_now = s.open_now; odd = s.odd; held = s.held }
reads k who slot h es (Scan x y) may ih known = let s = ih known in record { reader = s.reader; open_now = s.open_now; odd = s.odd; held = s.held }

safe : (k : TableShape) (es : List (ℕ × Move)) → IsLawful k es → (who slot h : ℕ) → Knows slot h (moves_of who es) →
    Safe k who slot h (moves_of who es) (moves_of 0 es)
safe k [] lawful who slot h known = absurd known
safe k (e ∷ es) lawful who slot h known = dite (ℕ_discrete e.0 who)
    (λ mine. let own : moves_of who (e ∷ es) ≡ e.1 ∷ moves_of who es = rw (eq-eqb e.0 who mine) refl in
    let s = reads k who slot h es e.1 (subst (λ z. MayDo k es z e.1) mine lawful.0) (safe k es lawful.1 who slot h) (subst (Knows slot h) own known) in
    let r = s.reader in
    let other : moves_of 0 (e ∷ es) ≡ moves_of 0 es = rw (ne_eqb e.0 0 (λ z. absurd (omega arith))) refl in
    subst (λ (y : List Move × List Move). Safe k who slot h y.0 y.1) (λ a. (sym own a, sym other a)) s)
    (λ ne. let same : moves_of who (e ∷ es) ≡ moves_of who es = rw (ne_eqb e.0 who ne) refl in
    let s = safe k es lawful.1 who slot h (subst (Knows slot h) same known) in
    dite (ℕ_discrete e.0 0)
    (λ writer. let own : moves_of 0 (e ∷ es) ≡ e.1 ∷ moves_of 0 es = rw (eq-eqb e.0 0 writer) refl in
    subst (λ (y : List Move × List Move). Safe k who slot h y.0 y.1) (λ a. (sym same a, sym own a))
    (writes k who slot h es e.1 (subst (λ z. MayDo k es z e.1) writer lawful.0) s))
    (λ reader. let other : moves_of 0 (e ∷ es) ≡ moves_of 0 es = rw (ne_eqb e.0 0 reader) refl in
    subst (λ (y : List Move × List Move). Safe k who slot h y.0 y.1) (λ a. (sym same a, sym other a)) s))

half_up : (h : ℕ) → h % 2 ≡ 1 → generation (h + 1) ≡ generation h
half_up h odd = omega arith

-- the slot has the generation with which it was learnt
pub same_generation : (k : TableShape) (es : List (ℕ × Move)) → IsLawful k es → (who slot h : ℕ) →
    Knows slot h (moves_of who es) → generation (header_in slot (moves_of 0 es)) ≡ generation h
same_generation k es lawful who slot h known =
    let s = safe k es lawful who slot h known in
    ⊎_elim (λ (t : header_in slot (moves_of 0 es) ≡ h). ap generation t)
    (λ (t : (header_in slot (moves_of 0 es) ≡ h + 1) × (Cleared who slot (moves_of 0 es) → ⊥)). ap generation t.0
    ∙ half_up h s.odd) s.held

-- nobody has learnt a spare slot
pub spare_unlearnt : (k : TableShape) (es : List (ℕ × Move)) → IsLawful k es → (who slot : ℕ) →
    IsSpare k.readers slot (moves_of 0 es) → IsLearnt slot (moves_of who es) → ⊥
spare_unlearnt k es lawful who slot spare known =
    let s = safe k es lawful who slot known.0 known.1 in
    let odd = s.odd in
    let even = spare.0 in
    ⊎_elim
    (λ (t : header_in slot (moves_of 0 es) ≡ known.0). absurd (omega arith))
    (λ (t : (header_in slot (moves_of 0 es) ≡ known.0 + 1) × (Cleared who slot (moves_of 0 es) → ⊥)).
    let e = t.0 in
    ⊎_elim (λ (z : header_in slot (moves_of 0 es) ≡ 0). absurd (omega arith)) (λ all. t.1 (all who s.reader.0 s.reader.1)) spare.1) s.held

-- what came before a step was lawful, and the step was
pub lawful_before : (k : TableShape) (after before : List (ℕ × Move)) (e : ℕ × Move) →
    IsLawful k (after ++ e ∷ before) → MayDo k before e.0 e.1 × IsLawful k before
lawful_before k [] before e h = h
lawful_before k (x ∷ after) before e h = lawful_before k after before e h.1

-- a load finds what was stored last
pub finds_stored : (k : TableShape) (es : List (ℕ × Move)) → IsLawful k es →
    (after before : List (ℕ × Move)) (who slot place x : ℕ) → es ≡ after ++ (who, Load slot place x) ∷ before →
    x ≡ word_at_place slot place before
finds_stored k es lawful after before who slot place x e = (lawful_before k after before (who, Load slot place x) (subst (IsLawful k) e lawful)).0.1
