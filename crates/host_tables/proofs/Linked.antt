-- What is linked in a way while the writer leaves it.
use Rattle.bpf_model.proofs.Prelude.{◌≡◌, ◌≢◌, ℕ, suc, List, [], ◌∷◌, ◌++◌, refl, sym, ap, ◌∙◌, subst, arith, dite, ℕ_discrete}
use Rattle.table_words.proofs.Prelude.{Layout, Names, moves_of, word_in, key_of, MayDo, IsLawful, IsLinkedUnder, AreLinkedOnce}
use Rattle.map_table.proofs.Prelude.{Move, Open, Close, Learn, Load, Store, Put, Double, Scan, TableShape, View, layout_of, Went, IsKnown}
use Rattle.table_words.proofs.Once.{linked_back}
use Rattle.table_words.proofs.Steps.{own, others, key_step, one_name, put_here, put_there, doubled_here, doubled_there}
use Rattle.map_table.proofs.Replacing.{stretch}

-- none of the moves puts a word in the way
abbrev pub Leaves : ℕ → List Move → Type 0
Leaves way [] = Unit {0}
Leaves way (Put w x ∷ ms) = (w ≢ way) × Leaves way ms
Leaves way (Double f w x ∷ ms) = (w ≢ way) × Leaves way ms
Leaves way (_ ∷ ms) = Leaves way ms

pub leaves_append : (way : ℕ) (ns ms : List Move) → Leaves way ns → Leaves way ms → Leaves way (ns ++ ms)
leaves_append way [] ms n m = m
leaves_append way (Open ∷ ns) ms n m = leaves_append way ns ms n m
leaves_append way (Close ∷ ns) ms n m = leaves_append way ns ms n m
leaves_append way (Learn w x ∷ ns) ms n m = leaves_append way ns ms n m
leaves_append way (Load e p x ∷ ns) ms n m = leaves_append way ns ms n m
leaves_append way (Store e p x ∷ ns) ms n m = leaves_append way ns ms n m
leaves_append way (Put w x ∷ ns) ms n m = (n.0, leaves_append way ns ms n.1 m)
leaves_append way (Double f w x ∷ ns) ms n m = (n.0, leaves_append way ns ms n.1 m)
leaves_append way (Scan r x ∷ ns) ms n m = leaves_append way ns ms n m

-- moves that change the word of no way, whatever it was, put none
pub words_leave : (way : ℕ) (ns : List Move) → ((w : ℕ) (ms : List Move) → word_in w (ns ++ ms) ≡ word_in w ms) → Leaves way ns
words_leave way [] same = tt
words_leave way (Open ∷ ns) same = words_leave way ns same
words_leave way (Close ∷ ns) same = words_leave way ns same
words_leave way (Learn w x ∷ ns) same = words_leave way ns same
words_leave way (Load e p x ∷ ns) same = words_leave way ns same
words_leave way (Store e p x ∷ ns) same = words_leave way ns same
words_leave way (Scan r x ∷ ns) same = words_leave way ns same
words_leave way (Put w x ∷ ns) same =
    let e : x ≡ suc x = sym (put_here w w x (ns ++ Put w (suc x) ∷ []) refl) ∙ (same w (Put w (suc x) ∷ []) ∙ put_here w w (suc x) [] refl) in
    absurd (omega (arith, e))
words_leave way (Double f w x ∷ ns) same =
    let e : x ≡ suc x = sym (doubled_here f w w x (ns ++ Put w (suc x) ∷ []) refl) ∙ (same w (Put w (suc x) ∷ []) ∙ put_here w w (suc x) [] refl) in
    absurd (omega (arith, e))

-- two keys that are linked in one way are one
pub same_key : (k : Layout) (table : ℕ) (one other : List ℕ) (way : ℕ) (es : List (ℕ × Move)) → IsLinkedUnder k table one way es →
    IsLinkedUnder k table other way es → one ≡ other
same_key k table one other way es p q =
    let same : p.0 ≡ q.0 = one_name (word_in way (moves_of 0 es)) p.0 q.0 p.1.names q.1.names in
    sym p.1.key_is ∙ (ap (λ z. key_of k z es) same ∙ q.1.key_is)

module _ (way : ℕ) where
  rest_leaves : (m : Move) (ms : List Move) → Leaves way (m ∷ ms) → Leaves way ms
  rest_leaves Open ms h = h
  rest_leaves Close ms h = h
  rest_leaves (Learn w x) ms h = h
  rest_leaves (Load e p x) ms h = h
  rest_leaves (Store e p x) ms h = h
  rest_leaves (Put w x) ms h = h.1
  rest_leaves (Double f w x) ms h = h.1
  rest_leaves (Scan r x) ms h = h

  head_leaves : (m : Move) (ms ws : List Move) → Leaves way (m ∷ ms) → word_in way (m ∷ ws) ≡ word_in way ws
  head_leaves Open ms ws h = refl
  head_leaves Close ms ws h = refl
  head_leaves (Learn w x) ms ws h = refl
  head_leaves (Load e p x) ms ws h = refl
  head_leaves (Store e p x) ms ws h = refl
  head_leaves (Put w x) ms ws h = put_there w way x ws h.0
  head_leaves (Double f w x) ms ws h = doubled_there f w way x ws h.0
  head_leaves (Scan r x) ms ws h = refl

  rest : (e : ℕ × Move) (late : List (ℕ × Move)) → Leaves way (moves_of 0 (e ∷ late)) → Leaves way (moves_of 0 late)
  rest e late h = dite (ℕ_discrete e.0 0)
      (λ mine. rest_leaves e.1 (moves_of 0 late) (subst (Leaves way) (own 0 e late mine) h))
      (λ ne. subst (Leaves way) (others 0 e late ne) h)

  same_word : (e : ℕ × Move) (late es : List (ℕ × Move)) → Leaves way (moves_of 0 (e ∷ late)) →
      word_in way (moves_of 0 (e ∷ es)) ≡ word_in way (moves_of 0 es)
  same_word e late es h = dite (ℕ_discrete e.0 0)
      (λ mine. ap (word_in way) (own 0 e es mine) ∙
      head_leaves e.1 (moves_of 0 late) (moves_of 0 es) (subst (Leaves way) (own 0 e late mine) h))
      (λ ne. ap (word_in way) (others 0 e es ne))

module _ (k : Layout) (table : ℕ) (key : List ℕ) (way : ℕ) where
  -- what is linked there before a step that leaves the way is so after it
  step_after : (e : ℕ × Move) (es : List (ℕ × Move)) → MayDo k es e.0 e.1 → word_in way (moves_of 0 (e ∷ es)) ≡ word_in way (moves_of 0 es) →
      IsLinkedUnder k table key way es → IsLinkedUnder k table key way (e ∷ es)
  step_after e es may same l = (
    l.0,
    record {
      names = subst (λ z. Names z l.0) (sym same) l.1.names;
      table_is = l.1.table_is;
      key_is = key_step k es e l.0 may (λ spare. spare.0 (way, l.1.names)) ∙ l.1.key_is;
    },
  )

  before_stretch : (late early : List (ℕ × Move)) → IsLawful k (late ++ early) → Leaves way (moves_of 0 late) →
      IsLinkedUnder k table key way (late ++ early) → IsLinkedUnder k table key way early
  before_stretch [] early lawful h l = l
  before_stretch (e ∷ late) early lawful h l = before_stretch late early lawful.1 (rest way e late h)
      (linked_back k table e (late ++ early) lawful key way (same_word way e late (late ++ early) h) l)

  after_stretch : (late early : List (ℕ × Move)) → IsLawful k (late ++ early) → Leaves way (moves_of 0 late) →
      IsLinkedUnder k table key way early → IsLinkedUnder k table key way (late ++ early)
  after_stretch [] early lawful h l = l
  after_stretch (e ∷ late) early lawful h l = step_after e (late ++ early) lawful.0 (same_word way e late (late ++ early) h)
      (after_stretch late early lawful.1 (rest way e late h) l)

-- after a stretch of the writer's steps
module _ (k : TableShape) (v w : View) (ms : List Move) (shape : v.shape ≡ k) (writer : v.me ≡ 0) (known : IsKnown v) (g : Went v (ms ++ v.mine) w) where
  seen : w.seen ≡ g.0 ++ v.seen
  seen = ap (λ (z : View). z.seen) g.1

  lawful : IsLawful (layout_of k) (g.0 ++ v.seen)
  lawful = subst (λ (z : TableShape). IsLawful (layout_of z) (g.0 ++ v.seen)) shape (subst (IsLawful (layout_of v.shape)) seen g.2)

  left : (way : ℕ) → Leaves way ms → Leaves way (moves_of 0 g.0)
  left way h = subst (Leaves way) (sym (stretch v w ms writer known g)) h

  pub linked_before : (key : List ℕ) (way : ℕ) → Leaves way ms → IsLinkedUnder (layout_of k) 0 key way w.seen →
      IsLinkedUnder (layout_of k) 0 key way v.seen
  linked_before key way h l = before_stretch (layout_of k) 0 key way g.0 v.seen lawful (left way h)
      (subst (IsLinkedUnder (layout_of k) 0 key way) seen l)

  pub linked_after : (key : List ℕ) (way : ℕ) → Leaves way ms → IsLinkedUnder (layout_of k) 0 key way v.seen →
      IsLinkedUnder (layout_of k) 0 key way w.seen
  linked_after key way h l = subst (IsLinkedUnder (layout_of k) 0 key way) (sym seen)
      (after_stretch (layout_of k) 0 key way g.0 v.seen lawful (left way h) l)

  -- the word of a way, by all that was done
  pub last_word : (way : ℕ) → word_in way (moves_of 0 w.seen) ≡ word_in way (ms ++ v.mine)
  last_word way = ap (word_in way) (ap (λ z. moves_of z w.seen) (sym writer) ∙ g.3)

  -- Where it leaves each way, each key stays linked once; and where it puts words in one way alone, if the key that is linked
  -- there then was linked in no other.
  pub once_left : ((way : ℕ) → Leaves way ms) → AreLinkedOnce (layout_of k) 0 v.seen → AreLinkedOnce (layout_of k) 0 w.seen
  once_left h once key one other p q = once key one other (linked_before key one (h one) p) (linked_before key other (h other) q)

  pub once_put : (way : ℕ) → ((other : ℕ) → way ≢ other → Leaves other ms) →
      ((key : List ℕ) (other : ℕ) → IsLinkedUnder (layout_of k) 0 key way w.seen → IsLinkedUnder (layout_of k) 0 key other v.seen → way ≡ other) →
      AreLinkedOnce (layout_of k) 0 v.seen → AreLinkedOnce (layout_of k) 0 w.seen
  once_put way h there once key one other p q = dite (ℕ_discrete way one)
      (λ at_one. dite (ℕ_discrete way other)
      (λ at_other. sym at_one ∙ at_other)
      (λ ne. sym at_one ∙ there key other (subst (λ z. IsLinkedUnder (layout_of k) 0 key z w.seen) (sym at_one) p) (linked_before key other (h other ne) q)))
      (λ not_one. dite (ℕ_discrete way other)
      (λ at_other. sym (there key one (subst (λ z. IsLinkedUnder (layout_of k) 0 key z w.seen) (sym at_other) q)
      (linked_before key one (h one not_one) p)) ∙ at_other)
      (λ not_other. once key one other (linked_before key one (h one not_one) p) (linked_before key other (h other not_other) q)))
