-- The place of a key, and what is left once a slot is put there.
use Rattle.bpf_model.proofs.Prelude.{◌≡◌, ◌∙◌, ℕ, ◌<◌, List, get_or, length, Option, Some, None, inl, inr, refl, sym, ap, arith, cond, eqb, subst}
use Rattle.bpf_model.proofs.Prelude.{slice_get, IfSome, get, insert, remove, same_map, cond-true, cond-false, cases_Bool, nat_list_cmp_total, exact_bytes}
use Rattle.bpf_model.proofs.Prelude.{same_Some, slice_get_read, option_flatten, KeyMap, same_key, same-same_key, get-set_other}
use Rattle.element_store.proofs.Prelude.{ArenaState, LinksOf, contents_of, is_at, link_at, times_in, with_link, chain_of}
use Rattle.element_store.proofs.Counts.{one_same}
use Rattle.element_store.proofs.Indexing.{get_at-insert, get_at-remove, times-get}
use Rattle.hash_index.specs.Chains.{StandsBehind, bucket_of}
use Rattle.hash_index.specs.Buckets.{IsPlaceIn}
use Rattle.hash_index.specs.declared.place.Place.{Place}

-- what is known of some number is known of this one
pub at_some : (o : Option ℕ) (P : ℕ → Type 0) (s : ℕ) → o ≡ Some s → IfSome o P → P s
at_some o P s e h = subst (λ (z : Option ℕ). IfSome z P) e h

pub place_in : (heads : List (Option ℕ)) (a : ArenaState) (key : List ℕ) (p : Place) (k : ℕ) (o : Option ℕ) →
    k ≡ bucket_of (length heads) key → p.home ≡ k → slice_get heads k ≡ Some o →
    IfSome p.slot (StandsBehind (chain_of a o) p.last) → IsPlaceIn heads a key p
place_in heads a key p k o home same at behind = record {
  home = same ∙ home;
  behind = λ q s here e.
      let y : o ≡ q = same_Some o q (sym at ∙ (ap (slice_get heads) (sym same) ∙ here)) in
      subst (λ z. StandsBehind (chain_of a z) p.last s) y (at_some p.slot (StandsBehind (chain_of a o) p.last) s e behind);
}

-- one slot is linked anew
pub one_link : (a b : ArenaState) (slot : ℕ) (o : Option ℕ) → b ≡ with_link a slot o → LinksOf (is_at (Some slot)) a b
one_link a b slot o new = record {
  rest = new ∙ ap (λ (z : ArenaState). let w : ArenaState = record a { links = z.links } in w) (sym new);
  others = λ j z. ap (λ (y : ArenaState). link_at y.links j) new ∙ ap option_flatten (get-set_other a.links slot j o (λ e.
      let c : cond {A = ℕ} (eqb slot j) 1 0 ≡ 1 = subst (λ x. cond {A = ℕ} (eqb slot x) 1 0 ≡ 1) (sym e) (one_same slot) in
      absurd (omega arith)));
}

pub remove-gone : (m : KeyMap) (k : List ℕ) → get (remove m k) k ≡ None
remove-gone m k = get_at-remove m k k ∙ cond-true _ _ _ (same-same_key k k refl)

pub insert_over : (m : KeyMap) (k : List ℕ) (i : ℕ) → insert (remove m k) k i ≡ insert m k i
insert_over m k i = same_map nat_list_cmp_total exact_bytes _ _ (λ q. get_at-insert (remove m k) k i q ∙ elim (cases_Bool (same_key q k)) [
  | inl y ↦ cond-true _ _ _ y ∙ sym (get_at-insert m k i q ∙ cond-true _ _ _ y)
  | inr n ↦ cond-false _ _ _ n ∙ (get_at-remove m k q ∙ (cond-false _ _ _ n ∙ sym (get_at-insert m k i q ∙ cond-false _ _ _ n)))
])

-- a slot is put in the place of one that was removed
pub gone_in : (m n : KeyMap) (k ko kn : List ℕ) → n ≡ remove m ko → ko ≡ k → kn ≡ k → get n kn ≡ None
gone_in m n k ko kn e s t = ap (λ x. get x kn) (e ∙ ap (remove m) s) ∙ (ap (get (remove m k)) t ∙ remove-gone m k)

pub put_over : (m n r : KeyMap) (k ko kn : List ℕ) (i : ℕ) → n ≡ remove m ko → ko ≡ k → kn ≡ k → r ≡ insert n kn i → r ≡ insert m k i
put_over m n r k ko kn i e s t f = f ∙ (ap (λ x. insert x kn i) (e ∙ ap (remove m) s) ∙ (ap (λ x. insert (remove m k) x i) t ∙ insert_over m k i))

pub head_at : (heads : List (Option ℕ)) (k : ℕ) (o : Option ℕ) → k < length heads → o ≡ get_or heads k o → slice_get heads k ≡ Some o
head_at heads k o inside e = slice_get_read heads (length heads) k o refl inside e

-- a slot that is found has the key
pub found_same : (key : ℕ → List ℕ) (xs : List ℕ) (k : List ℕ) (o : Option ℕ) (i : ℕ) → o ≡ get (contents_of key xs) k
    → o ≡ Some i → (0 < times_in i xs) × (key i ≡ k)
found_same key xs k o i f e = times-get key xs k i (sym f ∙ e)
