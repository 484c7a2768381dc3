-- How many keys of a map are above a bound: fewer above one of them.
use Rattle.bpf_model.proofs.Prelude.{◌≡◌, ◌∙◌, ℕ, ◌+◌, ◌<◌, ◌≤◌, Bool, true, false, cond, List, [], ◌∷◌, Option, Some, None, sym, ap, subst, refl, arith}
use Rattle.bpf_model.proofs.Prelude.{nat_cmp, is_lt, slice_cmp, entries, get, get-entries, false≢true, none-some, exact_bytes, KeyMap}
use Rattle.std.specs.Ordering.{eq_by_cmp}
use Rattle.std.specs.FinMap.{find}
use Rattle.hash_index.specs.Order.{IsLess, IsAbove}
use Rattle.hash_index.specs.Replies.{is_above}
use Rattle.hash_index.proofs.Firsts.{less_tested, above_test}
use Rattle.hash_index.proofs.Orders.{less_trans}
use Rattle.bpf_model.proofs.Cases.{equal-is}

abbrev pub above_in : Option (List ℕ) → List (List ℕ × ℕ) → ℕ
above_in bound [] = 0
above_in bound (e ∷ es) = cond (is_above bound e.0) 1 0 + above_in bound es

-- how many keys of a map are above a bound
abbrev pub keys_above : KeyMap → Option (List ℕ) → ℕ
keys_above m bound = above_in bound (entries m)

-- what is above a key above the bound is above the bound
above_more : (bound : Option (List ℕ)) (key other : List ℕ) → IsAbove bound key → IsLess key other → IsAbove bound other
above_more None key other a l = tt
above_more (Some bound) key other a l = less_trans bound key other a l

above_later : (bound : Option (List ℕ)) (key other : List ℕ) → IsAbove bound key → is_above (Some key) other ≡ true → is_above bound other ≡ true
above_later bound key other a e = above_test bound other (above_more bound key other a (less_tested (slice_cmp nat_cmp key other) e))

one_le : (p q : Bool) (m n : ℕ) → (p ≡ true → q ≡ true) → m ≤ n → cond p 1 0 + m ≤ cond q 1 0 + n
one_le true true m n f l = omega arith
one_le true false m n f l = absurd (false≢true (f refl))
one_le false true m n f l = omega arith
one_le false false m n f l = omega arith

one_lt : (p q : Bool) (m n : ℕ) → (p ≡ true → q ≡ true) → m < n → cond p 1 0 + m < cond q 1 0 + n
one_lt true true m n f l = omega arith
one_lt true false m n f l = absurd (false≢true (f refl))
one_lt false true m n f l = omega arith
one_lt false false m n f l = omega arith

new_lt : (p q : Bool) (m n : ℕ) → p ≡ false → q ≡ true → m ≤ n → cond p 1 0 + m < cond q 1 0 + n
new_lt true q m n e f l = absurd (false≢true (sym e))
new_lt false true m n e f l = omega arith
new_lt false false m n e f l = absurd (false≢true f)

no_more : (bound : Option (List ℕ)) (key : List ℕ) → IsAbove bound key → (es : List (List ℕ × ℕ)) → above_in (Some key) es ≤ above_in bound es
no_more bound key a [] = omega arith
no_more bound key a (e ∷ es) = one_le _ _ _ _ (above_later bound key e.0 a) (no_more bound key a es)

-- at one entry: it has the key, or the key is among the rest
fewer_by : (bound : Option (List ℕ)) (key : List ℕ) (i : ℕ) → IsAbove bound key →
    (e : List ℕ × ℕ) (es : List (List ℕ × ℕ)) (b : Bool) → eq_by_cmp (slice_cmp nat_cmp) key e.0 ≡ b →
    cond b (Some e.1) (find (slice_cmp nat_cmp) key es) ≡ Some i →
    (find (slice_cmp nat_cmp) key es ≡ Some i → above_in (Some key) es < above_in bound es) →
    above_in (Some key) (e ∷ es) < above_in bound (e ∷ es)
fewer_by bound key i a e es true t g rest =
    let same : key ≡ e.0 = exact_bytes key e.0 (equal-is _ t) in
    let not_above : is_above (Some key) e.0 ≡ false = ap is_lt (equal-is _ t) in
    let above : is_above bound e.0 ≡ true = above_test bound e.0 (subst (IsAbove bound) same a) in
    new_lt _ _ _ _ not_above above (no_more bound key a es)
fewer_by bound key i a e es false t g rest = one_lt _ _ _ _ (above_later bound key e.0 a) (rest g)

fewer : (bound : Option (List ℕ)) (key : List ℕ) (i : ℕ) → IsAbove bound key → (es : List (List ℕ × ℕ)) →
    find (slice_cmp nat_cmp) key es ≡ Some i → above_in (Some key) es < above_in bound es
fewer bound key i a [] f = absurd (none-some i f)
fewer bound key i a (e ∷ es) f =
    fewer_by bound key i a e es (eq_by_cmp (slice_cmp nat_cmp) key e.0) refl f (fewer bound key i a es)

pub fewer_above : (m : KeyMap) (bound : Option (List ℕ)) (key : List ℕ) (i : ℕ) → get m key ≡ Some i → IsAbove bound key →
    keys_above m (Some key) < keys_above m bound
fewer_above m bound key i got above = fewer bound key i above (entries m) (sym (get-entries m key) ∙ got)
