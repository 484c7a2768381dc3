-- Slots in the order of their keys, found one after another.
use Rattle.bpf_model.proofs.Prelude.{◌≡◌, ℕ, suc, ◌<◌, ◌≤◌, List, [], ◌∷◌, ◌++◌, Option, Some, None, sym, subst, arith, append_assoc, IfSome, IfNone, get}
use Rattle.bpf_model.proofs.Prelude.{index_key, KeyMap, index_below}
use Rattle.model_laws.proofs.Prelude.{MAX_ENTRIES}
use Rattle.std.proofs.Common.{append-nil}
use Rattle.hash_index.specs.Order.{AreInOrder, IsAbove, IsNextOf, NoneAbove, NoneBetween}
use Rattle.model_laws.proofs.Indices.{index-gets}
use Rattle.map_kinds.proofs.Above.{keys_above, fewer_above}

next-as : (m : KeyMap) (f g : ℕ → List ℕ) (bound : Option (List ℕ)) (i : ℕ) → g i ≡ f i → IsNextOf m f bound i → IsNextOf m g bound i
next-as m f g bound i e h = record {
  linked = subst (λ k. get m k ≡ Some i) (sym e) h.linked;
  above = subst (IsAbove bound) (sym e) h.above;
  least = subst (NoneBetween m bound) (sym e) h.least;
}

-- the same slots, where another function gives each the same key
pub in-order-as : (m : KeyMap) (f g : ℕ → List ℕ) → ((i : ℕ) → get m (f i) ≡ Some i → g i ≡ f i) →
    (xs : List ℕ) (bound : Option (List ℕ)) → AreInOrder m f bound xs → AreInOrder m g bound xs
in-order-as m f g same [] bound h = h
in-order-as m f g same (i ∷ xs) bound h =
    let e : g i ≡ f i = same i h.0.linked in (
      next-as m f g bound i e h.0,
      subst (λ k. AreInOrder m g (Some k) xs) (sym e) (in-order-as m f g same xs (Some (f i)) h.1),
    )

-- The slots so far, and the next one: what comes in order behind the bound completes them.
pub record IsBegun (m : KeyMap) (key : ℕ → List ℕ) (done : List ℕ) (next : Option ℕ) : Type 0 where
  pub bound : Option (List ℕ)
  pub completes : (rest : List ℕ) → AreInOrder m key bound rest → AreInOrder m key None (done ++ rest)
  pub more : IfSome next (IsNextOf m key bound)
  pub ends : IfNone next (NoneAbove m bound)

-- how many slots are still to come
abbrev pub left_from : KeyMap → (ℕ → List ℕ) → Option ℕ → ℕ
left_from m key None = 0
left_from m key (Some i) = suc (keys_above m (Some (key i)))

-- the index that is found
pub index-next : (limit : ℕ) (bound : Option (List ℕ)) (o : Option ℕ) → limit ≤ MAX_ENTRIES → IfSome o (λ i. i < limit) →
    IfSome o (λ i. IsAbove bound (index_key i)) → IfSome o (λ i. NoneBetween (index_below limit) bound (index_key i)) →
    IfSome o (IsNextOf (index_below limit) index_key bound)
index-next limit bound None few some above least = tt
index-next limit bound (Some i) few some above least = record { linked = index-gets limit i few some; above = above; least = least }

module _ (m : KeyMap) (key : ℕ → List ℕ) where
  pub begun : (next : Option ℕ) → IfSome next (IsNextOf m key None) → IfNone next (NoneAbove m None) → IsBegun m key [] next
  begun next more ends = record { bound = None; completes = λ rest h. h; more = more; ends = ends }

  pub goes-on : (done : List ℕ) (next after : Option ℕ) (i : ℕ) → next ≡ Some i → IsBegun m key done next →
      IfSome after (IsNextOf m key (Some (key i))) → IfNone after (NoneAbove m (Some (key i))) → IsBegun m key (done ++ i ∷ []) after
  goes-on done next after i e b more ends = record {
    bound = Some (key i);
    completes = λ rest h. subst (AreInOrder m key None) (sym (append_assoc done (i ∷ []) rest))
        (b.completes (i ∷ rest) (subst (λ o. IfSome o (IsNextOf m key b.bound)) e b.more, h));
    more = more;
    ends = ends;
  }

  pub all-found : (done : List ℕ) (next : Option ℕ) → next ≡ None → IsBegun m key done next → AreInOrder m key None done
  all-found done next e b = subst (AreInOrder m key None) (append-nil done)
      (b.completes [] (subst (λ o. IfNone o (NoneAbove m b.bound)) e b.ends))

  pub fewer-left : (next after : Option ℕ) (i : ℕ) → next ≡ Some i → IfSome after (IsNextOf m key (Some (key i))) →
      left_from m key after < left_from m key next
  fewer-left next after i e more = subst (λ o. left_from m key after < left_from m key o) (sym e) (by after more)
    where
      by : (after : Option ℕ) → IfSome after (IsNextOf m key (Some (key i))) → left_from m key after < left_from m key (Some i)
      by None h = omega arith
      by (Some j) h = let l : keys_above m (Some (key j)) < keys_above m (Some (key i)) = fewer_above m (Some (key i)) (key j) j h.linked h.above in omega arith
