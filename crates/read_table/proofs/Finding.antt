-- A key that stays linked in a slot is found.
use Rattle.bpf_model.proofs.Prelude.{◌≡◌, ◌≢◌, ⊎_elim, ℕ, ◌%◌, ◌<◌, ◌≤◌, List, [], ◌∷◌, ◌++◌, refl, sym, ap, ◌∙◌, subst, arith, Option, Some, None, IsSome}
use Rattle.bpf_model.proofs.Prelude.{dite, ℕ_discrete, append_cancel_right}
use Rattle.read_table.proofs.Prelude.{moves_of, header_in, word_at_place, IsLearnt, IsSpare, MayDo, IsLawful, key_word, Refuted, AnswersLookup, IsLinkedUnder}
use Rattle.read_table.proofs.Prelude.{KeepsHeader, Holder, Goes}
use Rattle.std.proofs.Common.{eq-eqb, ne_eqb}
use Rattle.read_table.specs.declared.view.Move.{Move}
use Rattle.read_table.specs.declared.view.Move.TheVariants.{Open, Close, Learn, Load, Store, Header, Scan}
use Rattle.read_table.specs.declared.view.TableShape.{TableShape}
use Rattle.read_table.specs.declared.view.View.{View}
use Rattle.read_table.specs.Found.{StaysLinked, HasFound}
use Rattle.read_table.proofs.Going.{goes_known, went_mine}
use Rattle.read_table.proofs.Lists.{moves_else, stored_in_another, stored_beside}

-- an odd header is no even one
odd-even : (a : ℕ) → a % 2 ≡ 1 → a % 2 ≡ 0 → ⊥
odd-even a odd even = absurd (omega arith)

-- a move that leaves the slot's header
header-head : (slot : ℕ) (m : Move) (ms : List Move) → KeepsHeader slot (m ∷ []) → header_in slot (m ∷ ms) ≡ header_in slot ms
header-head slot Open ms h = refl
header-head slot Close ms h = refl
header-head slot (Learn s w) ms h = refl
header-head slot (Load s p x) ms h = refl
header-head slot (Store s p x) ms h = refl
header-head slot (Header s w) ms h = rw (ne_eqb s slot h.0) refl
header-head slot (Scan r x) ms h = refl

kept-head : (slot : ℕ) (m : Move) (ms : List Move) → KeepsHeader slot (m ∷ ms) → KeepsHeader slot (m ∷ []) × KeepsHeader slot ms
kept-head slot Open ms h = (tt, h)
kept-head slot Close ms h = (tt, h)
kept-head slot (Learn s w) ms h = (tt, h)
kept-head slot (Load s p x) ms h = (tt, h)
kept-head slot (Store s p x) ms h = (tt, h)
kept-head slot (Header s w) ms h = ((h.0, tt), h.1)
kept-head slot (Scan r x) ms h = (tt, h)

module _ (k : TableShape) (slot : ℕ) where
  abbrev Kept : List (ℕ × Move) → Type 0
  Kept late = KeepsHeader slot (moves_of 0 late)

  kept-rest : (e : ℕ × Move) (late : List (ℕ × Move)) → Kept (e ∷ late) → Kept late
  kept-rest e late h = dite (ℕ_discrete e.0 0)
      (λ own. let is : moves_of 0 (e ∷ late) ≡ e.1 ∷ moves_of 0 late = rw (eq-eqb e.0 0 own) refl in
      (kept-head slot e.1 (moves_of 0 late) (subst (KeepsHeader slot) is h)).1)
      (λ ne. subst (KeepsHeader slot) (moves_else e.0 0 e.1 late ne) h)

  -- the slot's header stays
  pub header-stays : (late early : List (ℕ × Move)) → Kept late → header_in slot (moves_of 0 (late ++ early)) ≡ header_in slot (moves_of 0 early)
  header-stays [] early kept = refl
  header-stays (e ∷ late) early kept = dite (ℕ_discrete e.0 0)
      (λ own. let is : moves_of 0 (e ∷ late) ≡ e.1 ∷ moves_of 0 late = rw (eq-eqb e.0 0 own) refl in
      let all : moves_of 0 (e ∷ (late ++ early)) ≡ e.1 ∷ moves_of 0 (late ++ early) = rw (eq-eqb e.0 0 own) refl in
      let p = kept-head slot e.1 (moves_of 0 late) (subst (KeepsHeader slot) is kept) in
      ap (header_in slot) all ∙ (header-head slot e.1 (moves_of 0 (late ++ early)) p.0 ∙ header-stays late early p.1))
      (λ ne. ap (header_in slot) (moves_else e.0 0 e.1 (late ++ early) ne) ∙ header-stays late early (kept-rest e late kept))

  -- a store that may be made leaves the key words of a linked slot
  stored-beside : (who s p x place : ℕ) (es : List (ℕ × Move)) → MayDo k es who (Store s p x) → header_in slot (moves_of 0 es) % 2 ≡ 1 →
      place < k.key_words → word_at_place slot place ((who, Store s p x) ∷ es) ≡ word_at_place slot place es
  stored-beside who s p x place es may odd low = dite (ℕ_discrete s slot)
      (λ same. ⊎_elim
      (λ (w : (who ≡ 0) × IsSpare k.readers s (moves_of 0 es)).
      absurd (odd-even (header_in slot (moves_of 0 es)) odd (subst (λ z. header_in z (moves_of 0 es) % 2 ≡ 0) same w.1.0)))
      (λ (r : IsLearnt s (moves_of who es) × (k.key_words ≤ p)). let high = r.1 in
      stored_beside who s p slot place x es same (λ e. absurd (omega (arith, high, low, e)))) may)
      (λ ne. stored_in_another who s p slot place x es ne)

  word-after : (who : ℕ) (m : Move) (place : ℕ) (es : List (ℕ × Move)) → MayDo k es who m → header_in slot (moves_of 0 es) % 2 ≡ 1 →
      place < k.key_words → word_at_place slot place ((who, m) ∷ es) ≡ word_at_place slot place es
  word-after who Open place es may odd low = refl
  word-after who Close place es may odd low = refl
  word-after who (Learn s h) place es may odd low = refl
  word-after who (Load s p x) place es may odd low = refl
  word-after who (Store s p x) place es may odd low = stored-beside who s p x place es may odd low
  word-after who (Header s w) place es may odd low = refl
  word-after who (Scan r x) place es may odd low = refl

  -- the key words of a linked slot stay
  pub words-stay : (late early : List (ℕ × Move)) → IsLawful k (late ++ early) → header_in slot (moves_of 0 early) % 2 ≡ 1 → Kept late →
      (place : ℕ) → place < k.key_words → word_at_place slot place (late ++ early) ≡ word_at_place slot place early
  words-stay [] early lawful odd kept place low = refl
  words-stay (e ∷ late) early lawful odd kept place low =
      let rest = kept-rest e late kept in
      word-after e.0 e.1 place (late ++ early) lawful.0 (ap (λ z. z % 2) (header-stays late early rest) ∙ odd) low ∙
      words-stay late early lawful.1 odd rest place low

-- a slot that is linked under a key stays so
pub stays : (k : TableShape) (key : List ℕ) (slot : ℕ) (late early : List (ℕ × Move)) → IsLawful k (late ++ early) →
    IsLinkedUnder k key slot early → KeepsHeader slot (moves_of 0 late) → IsLinkedUnder k key slot (late ++ early)
stays k key slot late early lawful l kept = record {
  within = l.within;
  linked = ap (λ z. z % 2) (header-stays k slot late early kept) ∙ l.linked;
  words = λ place low. l.words place low ∙ ap Some (sym (words-stay k slot late early lawful l.linked kept place low));
}

module _ (k : TableShape) (key : List ℕ) (slot : ℕ) where
  abbrev Linked : List (ℕ × Move) → Type 0
  Linked es = IsLinkedUnder k key slot es

  abbrev Refutes : List Move → Type 0
  Refutes ms = Refuted k key slot ms

  -- no move that may be made then refutes it
  not-now : (who : ℕ) (m : Move) (ms : List Move) (es : List (ℕ × Move)) → MayDo k es who m → Linked es → Refutes (m ∷ ms) → Refutes ms
  not-now who Open ms es may l r = r
  not-now who Close ms es may l r = r
  not-now who (Learn s h) ms es may l r = ⊎_elim
      (λ (t : (s ≡ slot) × (h % 2 ≡ 0)). absurd (odd-even (header_in slot (moves_of 0 es)) l.linked
      (ap (λ z. header_in z (moves_of 0 es) % 2) (sym t.0) ∙ (ap (λ z. z % 2) (sym may.2) ∙ t.1))))
      (λ z. z) r
  not-now who (Load s p x) ms es may l r = ⊎_elim
      (λ (t : (s ≡ slot) × (p < k.key_words) × (Some x ≢ key_word key p)). absurd (t.2
      (ap Some may.1 ∙ (ap (λ z. Some (word_at_place z p es)) t.0 ∙ sym (l.words p t.1)))))
      (λ z. z) r
  not-now who (Store s p x) ms es may l r = r
  not-now who (Header s w) ms es may l r = r
  not-now who (Scan q x) ms es may l r = r

  pub never-refuted : (who : ℕ) (late early : List (ℕ × Move)) → IsLawful k (late ++ early) → Linked early →
      KeepsHeader slot (moves_of 0 late) → Refutes (moves_of who late) → ⊥
  never-refuted who [] early lawful l kept r = absurd r
  never-refuted who (e ∷ late) early lawful l kept r =
      let rest = kept-rest k slot e late kept in
      dite (ℕ_discrete e.0 who)
      (λ own. let is : moves_of who (e ∷ late) ≡ e.1 ∷ moves_of who late = rw (eq-eqb e.0 who own) refl in
      never-refuted who late early lawful.1 l rest
      (not-now e.0 e.1 (moves_of who late) (late ++ early) lawful.0 (stays k key slot late early lawful.1 l rest) (subst Refutes is r)))
      (λ ne. never-refuted who late early lawful.1 l rest (subst Refutes (moves_else e.0 who e.1 late ne) r))

lawful-part : (k : TableShape) (newer es : List (ℕ × Move)) → IsLawful k (newer ++ es) → IsLawful k es
lawful-part k [] es h = h
lawful-part k (e ∷ newer) es h = lawful-part k newer es h.1

-- what stays linked is not answered by null
pub never-null : (k : TableShape) (es : List (ℕ × Move)) → IsLawful k es → (key : List ℕ) (slot who : ℕ) (before ns : List Move) →
    AnswersLookup k key ns None → StaysLinked k key slot who before ns es → ⊥
never-null k es lawful key slot who before ns null s =
    never-refuted k key slot who s.late s.early
    (lawful-part k s.newer (s.late ++ s.early) (subst (IsLawful k) s.history lawful)) s.was s.kept
    (subst (Refuted k key slot) (sym s.moves_are) (null slot s.was.within))

pub has-found : (v : View) → IsLawful v.shape v.seen → HasFound v
has-found v lawful key slot before ns null s = never-null v.shape v.seen lawful key slot v.me before ns null s

-- so a lookup finds it
pub lookup-finds : (k : TableShape) (key : List ℕ) (s t : Holder) (ms : List Move) (found : Option ℕ) → t.view.shape ≡ k → Goes s ms t →
    AnswersLookup k key ms found → (slot : ℕ) (ns : List Move) → t.view.mine ≡ ns ++ s.view.mine →
    StaysLinked k key slot s.view.me s.view.mine ns t.view.seen → IsSome found
lookup-finds k key s t ms None shape g null slot ns list stays-linked =
    let same : ms ≡ ns = append_cancel_right ms ns s.view.mine (sym (went_mine s.view t.view (ms ++ s.view.mine) g.went) ∙ list) in
    absurd (never-null k t.view.seen (subst (λ (z : TableShape). IsLawful z t.view.seen) shape (goes_known s t ms g).0) key slot s.view.me s.view.mine ns
    (subst (λ z. AnswersLookup k key z None) same null) stays-linked)
lookup-finds k key s t ms (Some found) shape g a slot ns list stays-linked = refl
