-- No element is lost: one that is neither free nor unlinked is linked.
use Rattle.table_words.proofs.Prelude.{◌≡◌, ℕ, zero, suc, ◌+◌, ◌<◌, ◌≤◌, List, [], ◌∷◌, ◌++◌, sym, ap, ◌∙◌, subst, arith, take, drop, range_with_len}
use Rattle.table_words.proofs.Prelude.{take-append-drop, dite, ℕ_discrete, Names, word_in, IsLinked}
use Rattle.map_table.proofs.Prelude.{Move, Put, TableShape, View, Went, writer_after, times_in, IsNoneLost}
use Rattle.table_words.proofs.Steps.{one_name, nothing_named}
use Rattle.map_table.proofs.Filling.{went_shape}
use Rattle.map_table.proofs.Keeping.{IsQuiet, same_word, here, there}
use Rattle.map_table.proofs.Members.{one_for, one_same, none_for, times_append, times_push}

-- after a stretch that puts nothing
pub quiet_none_lost : (v w : View) (ns : List Move) → IsQuiet ns → Went v (ns ++ v.mine) w → (free unlinked : List ℕ) →
    IsNoneLost v free unlinked → IsNoneLost w free unlinked
quiet_none_lost v w ns q g free unlinked each e low none =
    let l = each e (subst (λ (k : TableShape). e < k.elements) (went_shape v w (ns ++ v.mine) g) low) none in
    (l.0, subst (λ z. Names z e) (sym (same_word v w ns q g l.0)) l.1)

module _ (v w : View) (way word : ℕ) (g : Went v (Put way word ∷ v.mine) w) where
  low_before : (e : ℕ) → e < w.shape.elements → e < v.shape.elements
  low_before e low = subst (λ (k : TableShape). e < k.elements) (went_shape v w (Put way word ∷ v.mine) g) low

  -- what the way names now is linked
  linked_here : (element e : ℕ) → Names word element → element ≡ e → IsLinked e w.mine
  linked_here element e names same = (way, subst (λ z. Names z e) (sym (here v w way word g)) (subst (Names word) same names))

  -- what it didn't name before stays linked
  linked_there : (e : ℕ) → (Names (word_in way v.mine) e → ⊥) → IsLinked e v.mine → IsLinked e w.mine
  linked_there e not l = (
    l.0,
    subst (λ z. Names z e) (sym (there v w way word g l.0 (λ at. not (subst (λ z. Names (word_in z v.mine) e) (sym at) l.1)))) l.1,
  )

  pub linked_none_lost : (element : ℕ) (old free unlinked : List ℕ) → word_in way v.mine ≡ 0 → old ≡ free ++ element ∷ [] → Names word element →
      IsNoneLost v old unlinked → IsNoneLost w free unlinked
  linked_none_lost element old free unlinked empty is names each e low none = dite (ℕ_discrete element e)
      (λ same. linked_here element e names same)
      (λ ne. let t : times_in e old ≡ times_in e free + one_for e element = ap (times_in e) is ∙ times_push e element free in
      let z = none_for e element ne in
      linked_there e (λ there_named. nothing_named e (subst (λ x. Names x e) empty there_named)) (each e (low_before e low) (omega (arith, t, z, none))))

  -- one that the way named and that is unlinked now
  others_none_lost : (gone e : ℕ) (unlinked : List ℕ) → Names (word_in way v.mine) gone → times_in e (unlinked ++ gone ∷ []) ≡ 0 →
      (Names (word_in way v.mine) e → ⊥) × (times_in e unlinked ≡ 0)
  others_none_lost gone e unlinked named none =
      let t : times_in e (unlinked ++ gone ∷ []) ≡ times_in e unlinked + one_for e gone = times_push e gone unlinked in (
        λ also. let one = one_same e gone (one_name (word_in way v.mine) gone e named also) in absurd (omega (arith, t, one, none)),
        omega (arith, t, none),
      )

  pub emptied_none_lost : (gone : ℕ) (free unlinked : List ℕ) → Names (word_in way v.mine) gone → IsNoneLost v free unlinked →
      IsNoneLost w free (unlinked ++ gone ∷ [])
  emptied_none_lost gone free unlinked named each e low none =
      let a : times_in e free ≡ 0 = omega (arith, none) in
      let o = others_none_lost gone e unlinked named (omega (arith, none)) in
      let b = o.1 in
      linked_there e o.0 (each e (low_before e low) (omega (arith, a, b)))

  pub replaced_none_lost : (element gone : ℕ) (old free unlinked : List ℕ) → Names (word_in way v.mine) gone → old ≡ free ++ element ∷ [] →
      Names word element → IsNoneLost v old unlinked → IsNoneLost w free (unlinked ++ gone ∷ [])
  replaced_none_lost element gone old free unlinked named is names each e low none = dite (ℕ_discrete element e)
      (λ same. linked_here element e names same)
      (λ ne. let t : times_in e old ≡ times_in e free + one_for e element = ap (times_in e) is ∙ times_push e element free in
      let z = none_for e element ne in
      let a : times_in e free ≡ 0 = omega (arith, none) in
      let o = others_none_lost gone e unlinked named (omega (arith, none)) in
      let b = o.1 in
      linked_there e o.0 (each e (low_before e low) (omega (arith, t, z, a, b))))

-- after the first unlinked ones were freed
pub freed_none_lost : (v : View) (count : ℕ) (free unlinked : List ℕ) → IsNoneLost v free unlinked →
    IsNoneLost v (free ++ take count unlinked) (drop count unlinked)
freed_none_lost v count free unlinked each e low none =
    let a = times_append e free (take count unlinked) in
    let b = times_append e (take count unlinked) (drop count unlinked) in
    let c = ap (times_in e) (take-append-drop count unlinked) in
    each e low (omega (arith, a, b, c, none))

in_range : (e a n : ℕ) → a ≤ e → e < a + n → 1 ≤ times_in e (range_with_len a n)
in_range e a zero l m = absurd (omega (arith, l, m))
in_range e a (suc n) l m = dite (ℕ_discrete a e)
    (λ same. let one : one_for e a ≡ 1 = one_same e a same in omega (arith, one))
    (λ ne. let rest : 1 ≤ times_in e (range_with_len (a + 1) n) = in_range e (a + 1) n (omega (arith, l, ne)) (omega (arith, m)) in
    let z : one_for e a ≡ 0 = none_for e a ne in omega (arith, rest, z))

-- the writer at first
pub first_none_lost : (v : View) (n : ℕ) (k : TableShape) (free unlinked : List ℕ) → v ≡ writer_after n k → free ≡ range_with_len 0 k.elements →
    IsNoneLost v free unlinked
first_none_lost v n k free unlinked is all e low none =
    let same : v.shape.elements ≡ k.elements = ap (λ (z : View). z.shape.elements) is in
    let some = in_range e 0 k.elements (omega arith) (omega (arith, low, same)) in
    let there = ap (times_in e) all in absurd (omega (arith, some, there, none))
