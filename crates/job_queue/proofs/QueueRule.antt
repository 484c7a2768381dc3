-- Each move keeps the queue's rule.
use Rattle.std.proofs.Common.{◌≡◌, ◌≢◌, ◌⊎◌, ℕ, zero, suc, ◌+◌, ◌<◌, ◌≤◌, Bool, true, false, true≢false, cond, List, [], ◌∷◌, ◌++◌, length, get_or, set, refl}
use Rattle.std.proofs.Common.{sym, ap, ◌∙◌, subst, ⊎_elim, inl, inr, arith, length-append}
use Rattle.std.specs.Prelude.{sum_by, eqb, Option, Some, None, is_some, MatchOption}
use Rattle.std.proofs.lemmas.List.Sums.{sum_by-cons, sum_by-append, sum_by-set}
use mathlib.Core.Option.{some, some-injective, some-ne-none}
use lib.ListN.{get_elem?}
use borrow.Author.Tests.{eqb-true, eqb-false}
use Rattle.crossbeam_queue.specs.Fifo.{Pushes, Pops, Forks, Merges, Learns, Held}
use Rattle.crossbeam_queue.proofs.Lists.{at_set}
use Rattle.atomic_table.proofs.Lists.{at_snoc}
use Rattle.job_queue.specs.declared.numbers.PassView.{PassView}
use Rattle.job_queue.specs.Numbers.{putter, taker, spent, with_number, without_number, with_another, with_taken_of, CountsFrom, WasTaken, times, taken_by_all}
use Rattle.job_queue.specs.Numbers.{passes_out, Puts, HandsOutOnce, HasTakenAll}

-- one where it is so
abbrev pub one_if : Bool → ℕ
one_if b = cond b 1 0

-- whether two numbers are the same, and what that counts
pub is_one : (x y : ℕ) (b : Bool) → eqb x y ≡ b →
    ((x ≡ y) × (one_if (eqb x y) ≡ 1)) ⊎ ((x ≢ y) × (one_if (eqb x y) ≡ 0))
is_one x y true e = inl (eqb-true x y e, ap (λ (t : Bool). one_if t) e)
is_one x y false e = inr (eqb-false x y e, ap (λ (t : Bool). one_if t) e)

-- a number that stands in the list was taken
pub was_taken : (x : ℕ) (xs : List ℕ) → 0 < times x xs → WasTaken x xs
was_taken x [] h = absurd (omega arith)
was_taken x (y ∷ ys) h = let c : times x (y ∷ ys) ≡ one_if (eqb y x) + times x ys = sum_by-cons (λ (z : ℕ). one_if (eqb z x)) y ys in
    ⊎_elim (λ (t : (y ≡ x) × (one_if (eqb y x) ≡ 1)). inl (sym t.0))
    (λ (t : (y ≢ x) × (one_if (eqb y x) ≡ 0)). inr (was_taken x ys (let none = t.1 in omega (arith, c, none, h))))
    (is_one y x (eqb y x) refl)

-- what is taken of two lists, one behind the other
pub taken_of_either : (x : ℕ) (xs ys : List ℕ) → WasTaken x (xs ++ ys) → WasTaken x xs ⊎ WasTaken x ys
taken_of_either x [] ys h = inr h
taken_of_either x (z ∷ zs) ys h = ⊎_elim (λ (e : x ≡ z). inl (inl e))
    (λ t. ⊎_elim (λ a. inl (inr a)) (λ b. inr b) (taken_of_either x zs ys t)) h

there : (views : List PassView) (by : ℕ) (v : PassView) → get_elem? views by ≡ some v →
    (by < length views) × (get_or views by v ≡ v)
there [] by v e = absurd (some-ne-none v (sym e))
there (u ∷ us) zero v e = (omega arith, some-injective u v e)
there (u ∷ us) (suc k) v e = let t = there us k v e in let l = t.0 in (omega arith, t.1)

-- a sum over all views, where one has changed
moved : (f : PassView → ℕ) (views : List PassView) (by : ℕ) (v w : PassView) → get_elem? views by ≡ some v →
    sum_by f (set views by w) + f v ≡ sum_by f views + f w
moved f views by v w at = let t = there views by v at in
    subst (λ (z : PassView). sum_by f (set views by w) + f z ≡ sum_by f views + f w) t.1 (sum_by-set f views by w v t.0)

closed_of : (b : Bool) → one_if b ≡ 0 → b ≡ false
closed_of true e = absurd (let no : suc 0 ≡ 0 = e in omega arith)
closed_of false e = refl

-- passes that came back have taken nothing
none_out : (views : List PassView) → passes_out views ≡ 0
    → ((j : ℕ) (u : PassView) → get_elem? views j ≡ some u → u.takes ≡ false → u.taken ≡ []) → (x : ℕ) → taken_by_all x views ≡ 0
none_out [] none each x = refl
none_out (u ∷ us) none each x =
    let a = sum_by-cons (λ (v : PassView). one_if v.takes) u us in
    let b = sum_by-cons (λ (v : PassView). times x v.taken) u us in
    let all : one_if u.takes + passes_out us ≡ 0 = sym a ∙ none in
    let here : times x u.taken ≡ 0 = ap (times x) (each 0 u refl (closed_of u.takes (omega arith))) in
    let rest : taken_by_all x us ≡ 0 = none_out us (omega arith) (λ j. each (suc j)) x in
    b ∙ omega (arith, here, rest)

from_push : (n : ℕ) (xs : List ℕ) (x : ℕ) → CountsFrom n xs → x ≡ n + length xs → CountsFrom n (xs ++ x ∷ [])
from_push n [] x f e = (omega arith, tt)
from_push n (y ∷ ys) x f e = (f.0, from_push (n + 1) ys x f.1 (omega arith))

-- after a change of the pass `by` from v to w
module _ (views : List PassView) (by : ℕ) (v w : PassView) (at : get_elem? views by ≡ some v) where
  each_set : (F : ℕ → PassView → Type 0) → F by w → ((j : ℕ) (u : PassView) → j ≢ by → get_elem? views j ≡ some u →
      F j u) → (j : ℕ) (u : PassView) → get_elem? (set views by w) j ≡ some u → F j u
  each_set F mine others j u e = ⊎_elim (λ (t : (j ≡ by) × (w ≡ u)). subst (λ (y : ℕ × PassView). F y.0 y.1) (λ i. (sym t.0 i, t.1 i)) mine)
      (λ (t : (j ≢ by) × (get_elem? views j ≡ some u)). others j u t.0 t.1) (at_set views by j w u e)

-- a step that changes neither what a pass may do nor how many are out
module _ (views : List PassView) (by : ℕ) (v w : PassView) (at : get_elem? views by ≡ some v) (takes : w.takes ≡ v.takes) where
  same_out : passes_out (set views by w) ≡ passes_out views
  same_out = let m = moved (λ (u : PassView). one_if u.takes) views by v w at in
      let e : one_if w.takes ≡ one_if v.takes = ap (λ (t : Bool). one_if t) takes in omega (arith, m, e)

pub puts : (n by : ℕ) (v : PassView) (x : ℕ) → v.puts ≡ true → x ≡ v.next → Pushes HandsOutOnce n by v x (λ w. w ≡ with_number v)
puts n by v x may is items views room h at =
    let own = h.putter by v at may in
    let w = with_number v in
    let len : length (items ++ x ∷ []) ≡ length items + 1 = length-append items (x ∷ []) in
    let out = same_out views by v w at refl in
    let all = λ (y : ℕ). moved (λ (u : PassView). times y u.taken) views by v w at in (
      w,
      record {
        front = h.front;
        in_order = from_push h.front items x h.in_order (is ∙ own.next);
        putter = each_set views by v w at (λ j u. u.puts ≡ true → Puts h.front (length (items ++ x ∷ [])) (set views by w) j u)
            (λ p. record {
              first = own.first;
              next = let e = own.next in omega (arith, e, len);
              takes = own.takes;
              out = subst (λ (m : ℕ). m ≤ v.out + 1) (sym out) own.out;
            })
            (λ j u ne e p. absurd (ne ((h.putter j u e p).first ∙ sym own.first)));
        back = each_set views by v w at (λ j u. u.takes ≡ false → u.taken ≡ []) (h.back by v at) (λ j u ne e. h.back j u e);
        once = λ y low. let a = all y in let b = h.once y low in omega (arith, a, b);
        later = λ y high. let a = all y in let b = h.later y high in omega (arith, a, b);
      },
      refl,
    )

pub takes : (by : ℕ) (v : PassView) → v.takes ≡ true → Pops HandsOutOnce by v (λ x w. w ≡ without_number x v)
takes by v may x items views h at =
    let w = without_number x v in
    let first : x ≡ h.front = h.in_order.0 in
    let len : length (x ∷ items) ≡ length items + 1 = omega arith in
    let out = same_out views by v w at refl in
    let all : (y : ℕ) → taken_by_all y (set views by w) ≡ taken_by_all y views + one_if (eqb x y) =
    λ y. let m = moved (λ (u : PassView). times y u.taken) views by v w at in
    let c = sum_by-cons (λ (z : ℕ). one_if (eqb z y)) x v.taken in omega (arith, m, c) in
    let kept : (j : ℕ) (u : PassView) → Puts h.front (length (x ∷ items)) views j u → Puts (h.front + 1) (length items) (set views by w) j u =
    λ j u own. record {
      first = own.first;
      next = let e = own.next in omega (arith, e, len);
      takes = own.takes;
      out = subst (λ (m : ℕ). m ≤ u.out + 1) (sym out) own.out;
    } in (
      w,
      record {
        front = h.front + 1;
        in_order = h.in_order.1;
        putter = each_set views by v w at (λ j u. u.puts ≡ true → Puts (h.front + 1) (length items) (set views by w) j u)
            (λ p. let own = kept by v (h.putter by v at p) in record { first = own.first; next = own.next; takes = own.takes; out = own.out })
            (λ j u ne e p. kept j u (h.putter j u e p));
        back = each_set views by v w at (λ j u. u.takes ≡ false → u.taken ≡ []) (λ closed. absurd (true≢false (sym may ∙ closed)))
            (λ j u ne e. h.back j u e);
        once = λ y low. let a = all y in ⊎_elim
            (λ (t : (x ≡ y) × (one_if (eqb x y) ≡ 1)). let b = h.later y (omega (arith, first, t.0)) in omega (arith, a, b, t.1))
            (λ (t : (x ≢ y) × (one_if (eqb x y) ≡ 0)). let ne : y ≢ h.front = λ e. t.0 (first ∙ sym e) in
            let b = h.once y (omega (arith, ne, low)) in omega (arith, a, b, t.1))
            (is_one x y (eqb x y) refl);
        later = λ y high. let a = all y in ⊎_elim
            (λ (t : (x ≡ y) × (one_if (eqb x y) ≡ 1)). absurd (let e = t.0 in omega (arith, first, e, high)))
            (λ (t : (x ≢ y) × (one_if (eqb x y) ≡ 0)). let b = h.later y (omega (arith, high)) in omega (arith, a, b, t.1))
            (is_one x y (eqb x y) refl);
      },
      refl,
    )

pub forks : (by : ℕ) (v : PassView) → v.puts ≡ true → Forks HandsOutOnce by v (with_another v) (taker [])
forks by v may items views h at =
    let own = h.putter by v at may in
    let w = with_another v in
    let r = taker [] in
    let changed = set views by w in
    let out : passes_out (changed ++ r ∷ []) ≡ passes_out views + 1 =
    sum_by-append (λ (u : PassView). one_if u.takes) changed (r ∷ []) ∙ ap (λ (n : ℕ). n + 1) (same_out views by v w at refl) in
    let all : (y : ℕ) → taken_by_all y (changed ++ r ∷ []) ≡ taken_by_all y views =
    λ y. let a = sum_by-append (λ (u : PassView). times y u.taken) changed (r ∷ []) in
    let m = moved (λ (u : PassView). times y u.taken) views by v w at in a ∙ omega (arith, m) in
    record {
      front = h.front;
      in_order = h.in_order;
      putter = λ j u e p. ⊎_elim
          (λ old. each_set views by v w at (λ k z. z.puts ≡ true → Puts h.front (length items) (changed ++ r ∷ []) k z)
          (λ q. record {
            first = own.first;
            next = own.next;
            takes = own.takes;
            out = let o = own.out in subst (λ (m : ℕ). m ≤ (v.out + 1) + 1) (sym out) (omega (arith, o));
          })
          (λ k z ne i q. absurd (ne ((h.putter k z i q).first ∙ sym own.first))) j u old p)
          (λ (is : r ≡ u). absurd (true≢false (sym (ap (λ (z : PassView). z.puts) is ∙ p))))
          (at_snoc changed r u j e);
      back = λ j u e closed. ⊎_elim
          (λ old. each_set views by v w at (λ k z. z.takes ≡ false → z.taken ≡ []) (h.back by v at) (λ k z ne i. h.back k z i) j u old closed)
          (λ (is : r ≡ u). sym (ap (λ (z : PassView). z.taken) is))
          (at_snoc changed r u j e);
      once = λ y low. all y ∙ h.once y low;
      later = λ y high. all y ∙ h.later y high;
    }

pub merges : (by : ℕ) (v : PassView) (other : ℕ) (o : PassView) → v.puts ≡ true → o.takes ≡ true →
    Merges HandsOutOnce by v other o (with_taken_of v o) spent
merges by v other o may live items views h at apart theirs =
    let own = h.putter by v at may in
    let w = with_taken_of v o in
    let changed = set views by w in
    let end = set changed other spent in
    let out : passes_out end + 1 ≡ passes_out views =
    let m = moved (λ (u : PassView). one_if u.takes) changed other o spent theirs in
    let one : one_if o.takes ≡ 1 = ap (λ (t : Bool). one_if t) live in
    let s = same_out views by v w at refl in omega (arith, m, one, s) in
    let all : (y : ℕ) → taken_by_all y end ≡ taken_by_all y views =
    λ y. let m = moved (λ (u : PassView). times y u.taken) views by v w at in
    let n = moved (λ (u : PassView). times y u.taken) changed other o spent theirs in
    let a = sum_by-append (λ (z : ℕ). one_if (eqb z y)) o.taken v.taken in omega (arith, m, n, a) in
    record {
      front = h.front;
      in_order = h.in_order;
      putter = each_set changed other o spent theirs (λ j u. u.puts ≡ true → Puts h.front (length items) end j u)
          (λ p. absurd (true≢false (sym p)))
          (λ j u _ e. each_set views by v w at (λ k z. z.puts ≡ true → Puts h.front (length items) end k z)
          (λ p. record {
            first = own.first;
            next = own.next;
            takes = own.takes;
            out = let l = own.out in omega (arith, l, out);
          })
          (λ k z ne i q. absurd (ne ((h.putter k z i q).first ∙ sym own.first))) j u e);
      back = each_set changed other o spent theirs (λ j u. u.takes ≡ false → u.taken ≡ []) (λ closed. refl)
          (λ j u _ e. each_set views by v w at (λ k z. z.takes ≡ false → z.taken ≡ [])
          (λ closed. absurd (true≢false (sym own.takes ∙ closed))) (λ k z ne i. h.back k z i) j u e);
      once = λ y low. all y ∙ h.once y low;
      later = λ y high. all y ∙ h.later y high;
    }

-- what the queue holds was put in
pub learns_room : (by : ℕ) (v : PassView) → Learns HandsOutOnce by v (λ items. v.puts ≡ true → length items ≤ v.next)
learns_room by v items views h at = λ may. let e = (h.putter by v at may).next in omega arith

-- where all others came back, this pass has taken what the queue no longer holds
pub learns_all : (by : ℕ) (v : PassView) → Learns HandsOutOnce by v (HasTakenAll v)
learns_all by v items views h at may home x low =
    let own = h.putter by v at may in
    let rest = set views by spent in
    let may_take : one_if v.takes ≡ 1 = ap (λ (t : Bool). one_if t) own.takes in
    let m = moved (λ (u : PassView). one_if u.takes) views by v spent at in
    let o = own.out in
    let none : passes_out rest ≡ 0 = omega (arith, m, may_take, o, home) in
    let zero_left : taken_by_all x rest ≡ 0 = none_out rest none (each_set views by v spent at (λ j u. u.takes ≡ false → u.taken ≡ [])
    (λ closed. refl) (λ j u ne e. h.back j u e)) x in
    let n = moved (λ (u : PassView). times x u.taken) views by v spent at in
    let e = own.next in
    let one = h.once x (omega (arith, e, low)) in
    omega (arith, n, zero_left, one)

-- where the queue was found empty and all others came back, each number that was put in was taken once, by this pass
pub left_once : (o : Option ℕ) (w v : PassView) (Q : ℕ → Type 0) → is_some o ≡ false → MatchOption o ((w ≡ v) × Held 0 (HasTakenAll v)) Q
    → v.puts ≡ true → v.out ≡ 0 → (k : ℕ) → k < v.next → times k v.taken ≡ 1
left_once None w v Q e (same, (items, none, all)) may home k low = all may home k (omega (arith, none, low))
left_once (Some x) w v Q e h may home k low = absurd (true≢false e)

pub left_none : (o : Option ℕ) (w v : PassView) (Q : ℕ → Type 0) → is_some o ≡ false → MatchOption o ((w ≡ v) × Held 0 (HasTakenAll v)) Q
    → v.puts ≡ true → v.out ≡ 0 → (k : ℕ) → k < v.next → WasTaken k v.taken
left_none o w v Q e h may home k low = was_taken k v.taken (let one = left_once o w v Q e h may home k low in omega (arith, one))
