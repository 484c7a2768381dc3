-- What the writer stores in a spare element stays there.
use Rattle.table_words.proofs.Prelude.{◌≡◌, ◌≢◌, ℕ, ◌+◌, ◌<◌, ◌≤◌, List, [], ◌∷◌, ◌++◌, length, refl, sym, ap, ◌∙◌, subst, ⊎_elim, arith, eq-eqb, ne_eqb}
use Rattle.table_words.proofs.Prelude.{slice_index, dite, ℕ_discrete, Layout, moves_of, word_at, word_after, key_of, Holds, IsSpare, IsOpenTo, MayDo}
use Rattle.table_words.proofs.Prelude.{IsLawful}
use Rattle.map_table.proofs.Prelude.{Move, Open, Close, Learn, Load, Store, Put, Double, Scan, TableShape, View, layout_of, Went, IsKnown}
use Rattle.table_words.proofs.Steps.{own, others, key_is}
use Rattle.table_words.proofs.Holding.{spare_unheld}
use Rattle.map_table.proofs.Going.{went_known}
use Rattle.map_table.proofs.Own.{longer}

-- a reader's step leaves a spare element
leaves_spare : (k : Layout) (es : List (ℕ × Move)) (who element place : ℕ) (m : Move) → who ≢ 0 → MayDo k es who m → IsLawful k es →
    IsSpare k.readers element (moves_of 0 es) → word_after element place m (word_at element place es) ≡ word_at element place es
leaves_spare k es who element place Open ne may lawful spare = refl
leaves_spare k es who element place Close ne may lawful spare = refl
leaves_spare k es who element place (Learn w x) ne may lawful spare = refl
leaves_spare k es who element place (Load s p x) ne may lawful spare = refl
leaves_spare k es who element place (Put w x) ne may lawful spare = refl
leaves_spare k es who element place (Double f w x) ne may lawful spare = refl
leaves_spare k es who element place (Scan r x) ne may lawful spare = refl
leaves_spare k es who element place (Store s p x) ne may lawful spare = dite (ℕ_discrete s element)
    (λ same. ⊎_elim
    (λ (w : (who ≡ 0) × IsSpare k.readers s (moves_of 0 es)). absurd (ne w.0))
    (λ (r : Holds s (moves_of who es) × (k.key_words (k.table_of s) ≤ p) × IsOpenTo k who s p).
    absurd (spare_unheld k es lawful who element spare (subst (λ z. Holds z (moves_of who es)) same r.0))) may)
    (λ other. rw (ne_eqb s element other) refl)

-- while the writer does nothing
spare_words : (k : Layout) (between es : List (ℕ × Move)) (element place : ℕ) → IsLawful k (between ++ es) →
    moves_of 0 (between ++ es) ≡ moves_of 0 es → IsSpare k.readers element (moves_of 0 es) → word_at element place (between ++ es) ≡ word_at element place es
spare_words k [] es element place lawful same spare = refl
spare_words k (e ∷ between) es element place lawful same spare = dite (ℕ_discrete e.0 0)
    (λ writer.
    let long = longer between es in
    let is = ap (λ (ms : List Move). length ms) (sym (own 0 e (between ++ es) writer) ∙ same) in
    absurd (omega (arith, long, is)))
    (λ ne. let rest = sym (others 0 e (between ++ es) ne) ∙ same in
    leaves_spare k (between ++ es) e.0 element place e.1 ne lawful.0 lawful.1 (subst (IsSpare k.readers element) (sym rest) spare) ∙
    spare_words k between es element place lawful.1 rest spare)

abbrev pub tail_of : List Move → List Move
tail_of [] = []
tail_of (m ∷ ms) = ms

abbrev pub head_of : Move → List Move → Move
head_of d [] = d
head_of d (m ∷ ms) = m

-- while it makes one step
one_step : (k : Layout) (before es : List (ℕ × Move)) (element place : ℕ) (m : Move) → IsLawful k (before ++ es) →
    moves_of 0 (before ++ es) ≡ m ∷ moves_of 0 es → IsSpare k.readers element (moves_of 0 es) → IsSpare k.readers element (m ∷ moves_of 0 es) →
    word_at element place (before ++ es) ≡ word_after element place m (word_at element place es)
one_step k [] es element place m lawful is spare later =
    let long = ap (λ (ms : List Move). length ms) is in absurd (omega (arith, long))
one_step k (e ∷ before) es element place m lawful is spare later = dite (ℕ_discrete e.0 0)
    (λ writer. let list = sym (own 0 e (before ++ es) writer) ∙ is in
    let move : e.1 ≡ m = ap (head_of m) list in
    let rest : moves_of 0 (before ++ es) ≡ moves_of 0 es = ap tail_of list in
    ap (word_after element place e.1) (spare_words k before es element place lawful.1 rest spare) ∙
    ap (λ z. word_after element place z (word_at element place es)) move)
    (λ ne. let rest = sym (others 0 e (before ++ es) ne) ∙ is in
    leaves_spare k (before ++ es) e.0 element place e.1 ne lawful.0 lawful.1 (subst (IsSpare k.readers element) (sym rest) later) ∙
    one_step k before es element place m lawful.1 rest spare later)

pub own_list : (v : View) → v.me ≡ 0 → IsKnown v → moves_of 0 v.seen ≡ v.mine
own_list v writer known = ap (λ z. moves_of z v.seen) (sym writer) ∙ known.1

module _ (v w : View) (element at x : ℕ) (writer : v.me ≡ 0) (known : IsKnown v) (spare : IsSpare v.shape.readers element v.mine)
    (g : Went v (Store element at x ∷ v.mine) w) where
  stored : (q : ℕ) → word_at element q w.seen ≡ word_after element q (Store element at x) (word_at element q v.seen)
  stored q =
      let mine = own_list v writer known in
      let seen : w.seen ≡ g.0 ++ v.seen = ap (λ (z : View). z.seen) g.1 in
      let lawful : IsLawful (layout_of v.shape) (g.0 ++ v.seen) = subst (IsLawful (layout_of v.shape)) seen g.2 in
      let list : moves_of 0 (g.0 ++ v.seen) ≡ Store element at x ∷ moves_of 0 v.seen =
      ap (moves_of 0) (sym seen) ∙ (ap (λ z. moves_of z w.seen) (sym writer) ∙ (g.3 ∙ ap (λ z. Store element at x ∷ z) (sym mine))) in
      let now = subst (IsSpare v.shape.readers element) (sym mine) spare in
      ap (word_at element q) seen ∙ one_step (layout_of v.shape) g.0 v.seen element q (Store element at x) lawful list now (now.0, now.1)

  pub stored_at : word_at element at w.seen ≡ x
  stored_at = stored at ∙ (rw (eq-eqb element element refl) (rw (eq-eqb at at refl) refl))

  pub stored_else : (q : ℕ) → at ≢ q → word_at element q w.seen ≡ word_at element q v.seen
  stored_else q ne = stored q ∙ (rw (eq-eqb element element refl) (rw (ne_eqb at q ne) refl))

  pub spare_still : IsSpare w.shape.readers element w.mine
  spare_still = subst (λ (z : View). IsSpare z.shape.readers element z.mine) (sym g.1) (spare.0, spare.1)

pub went_shape : (v w : View) (ms : List Move) → Went v ms w → w.shape ≡ v.shape
went_shape v w ms g = ap (λ (z : View). z.shape) g.1

pub went_me : (v w : View) (ms : List Move) → Went v ms w → w.me ≡ v.me
went_me v w ms g = ap (λ (z : View). z.me) g.1

-- what a loop that fills an element keeps
abbrev pub HasFilled : TableShape → ℕ → ℕ → List ℕ → ℕ → View → View → Type 0
HasFilled k element from words place u v = IsSpare k.readers element v.mine ×
    ((p : ℕ) → p < place → word_at element (from + p) v.seen ≡ slice_index words p) ×
    ((p : ℕ) → p < from → word_at element p v.seen ≡ word_at element p u.seen)

pub filled_more : (k : TableShape) (u v w : View) (element from place x : ℕ) (words : List ℕ) (ms : List Move) → u.shape ≡ k → u.me ≡ 0 →
    Went u (ms ++ u.mine) v → HasFilled k element from words place u v → x ≡ slice_index words place →
    Went v (Store element (from + place) x ∷ v.mine) w → HasFilled k element from words (place + 1) u w
filled_more k u v w element from place x words ms is writer g had same h =
    let v_me = went_me u v (ms ++ u.mine) g ∙ writer in
    let v_shape : v.shape ≡ k = went_shape u v (ms ++ u.mine) g ∙ is in
    let w_shape : w.shape ≡ k = went_shape v w (Store element (from + place) x ∷ v.mine) h ∙ v_shape in
    let known = went_known u v (ms ++ u.mine) g in
    let spare = subst (λ (z : TableShape). IsSpare z.readers element v.mine) (sym v_shape) had.0 in (
      subst (λ (z : TableShape). IsSpare z.readers element w.mine) w_shape (spare_still v w element (from + place) x v_me known spare h),
      λ p l. dite (ℕ_discrete place p)
          (λ e. subst (λ z. word_at element (from + z) w.seen ≡ slice_index words z) e
          (stored_at v w element (from + place) x v_me known spare h ∙ same))
          (λ ne. stored_else v w element (from + place) x v_me known spare h (from + p) (λ e. ne (omega (arith, e))) ∙ had.1 p (omega (arith, l, ne))),
      λ p l. stored_else v w element (from + place) x v_me known spare h p (λ e. absurd (omega (arith, e, l))) ∙ had.2 p l,
    )

-- the key of an element whose key and value were stored
pub filled_key : (k : TableShape) (element : ℕ) (key : List ℕ) (es fs : List (ℕ × Move)) → length key ≡ k.key_words →
    ((p : ℕ) → p < length key → word_at element (0 + p) es ≡ slice_index key p) →
    ((p : ℕ) → p < k.key_words → word_at element p fs ≡ word_at element p es) → key_of (layout_of k) element fs ≡ key
filled_key k element key es fs count stored same = key_is (layout_of k) element key fs count
    (λ p l. let zero_more : 0 + p ≡ p = omega arith in
    sym (same p l ∙ (ap (λ z. word_at element z es) (sym zero_more) ∙ stored p (omega (arith, l, count)))))
