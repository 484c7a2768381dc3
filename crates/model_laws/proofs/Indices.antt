-- A key put into an index, and the indices of an array, by their keys.
use Rattle.bpf_model.proofs.Prelude.{◌≡◌, ◌≢◌, ◌∙◌, ℕ, zero, suc, ◌+◌, ◌<◌, ◌≤◌, ◌^◌, List, length, Some, None, inl, inr, refl, sym, ap, arith, is_some, get}
use Rattle.bpf_model.proofs.Prelude.{insert, len, get-empty, len-empty, get-insert, nat_cmp, slice_cmp, cases_eq, cond-true, cond-false, nat_list_cmp_total}
use Rattle.bpf_model.proofs.Prelude.{none-some, same_Some, index_key, KeyMap, index_below, option_cases, same-same_key, other-same_key, key_cases}
use Rattle.model_laws.proofs.Prelude.{MAX_ENTRIES}
use Rattle.std.specs.FinMap.{len-insert}
use Rattle.bpf_model.specs.declared.limits.TheConstants.{INDEX_BYTES}
use Rattle.model_laws.proofs.NewElements.{index-same}

pub insert-same : (m : KeyMap) (key : List ℕ) (i : ℕ) → get (insert m key i) key ≡ Some i
insert-same m key i = get-insert nat_list_cmp_total m key i key ∙ cond-true _ _ _ (same-same_key key key refl)

pub insert-other : (m : KeyMap) (key : List ℕ) (i : ℕ) (q : List ℕ) → q ≢ key → get (insert m key i) q ≡ get m q
insert-other m key i q ne = get-insert nat_list_cmp_total m key i q ∙ cond-false _ _ _ (other-same_key q key ne)

pub len-insert_new : (m : KeyMap) (key : List ℕ) (i : ℕ) → get m key ≡ None → len (insert m key i) ≡ len m + 1
len-insert_new m key i h = len-insert nat_list_cmp_total m key i ∙ cond-false _ _ _ (ap is_some h)

-- a key of the index is that of an index below the limit
pub index-got : (n : ℕ) (key : List ℕ) (i : ℕ) → get (index_below n) key ≡ Some i → (i < n) × (index_key i ≡ key)
index-got zero key i h = absurd (none-some i (sym (get-empty (slice_cmp nat_cmp) key) ∙ h))
index-got (suc n) key i h = elim (key_cases key (index_key n)) [
  | inl same ↦
      let at : get (insert (index_below n) (index_key n) n) key ≡ Some n =
      ap (get (insert (index_below n) (index_key n) n)) same ∙ insert-same (index_below n) (index_key n) n in
      let is : n ≡ i = same_Some n i (sym at ∙ h) in
      (omega arith, ap index_key (sym is) ∙ sym same)
  | inr ne ↦
      let r = index-got n key i (sym (insert-other (index_below n) (index_key n) n key ne) ∙ h) in
      let less : i < n = r.0 in
      (omega arith, r.1)
]

pub index-gets : (n i : ℕ) → n ≤ MAX_ENTRIES → i < n → get (index_below n) (index_key i) ≡ Some i
index-gets zero i most less = absurd (omega arith)
index-gets (suc n) i most less = elim (cases_eq i n) [
  | inl same ↦ ap (λ j. get (index_below (suc n)) (index_key j)) same ∙ (insert-same (index_below n) (index_key n) n ∙ ap Some (sym same))
  | inr ne ↦
      let below : i < n = omega (arith, ne) in
      insert-other (index_below n) (index_key n) n (index_key i) (λ e. ne (index-same i n (omega arith) (omega arith) e)) ∙ index-gets n i (omega arith) below
]

-- a key that is none of them
pub index-none : (n : ℕ) (key : List ℕ) → ((i : ℕ) → i < n → index_key i ≢ key) → get (index_below n) key ≡ None
index-none n key h = elim (option_cases (get (index_below n) key)) [
  | inl none ↦ none
  | inr some ↦ let r = index-got n key some.0 some.1 in absurd (h some.0 r.0 r.1)
]

pub index-past : (n i : ℕ) → n ≤ i → i < 2 ^ 32 → get (index_below n) (index_key i) ≡ None
index-past n i more real = index-none n (index_key i) (λ j less e. let same : j ≡ i = index-same j i (omega arith) real e in absurd (omega arith))

-- a key of another length is none
pub index-long : (n : ℕ) (key : List ℕ) → length key ≢ INDEX_BYTES → get (index_below n) key ≡ None
index-long n key ne = index-none n key (λ i less e. ne (ap length (sym e)))

pub len-index : (n : ℕ) → n ≤ MAX_ENTRIES → len (index_below n) ≡ n
len-index zero most = len-empty (slice_cmp nat_cmp) ℕ
len-index (suc n) most =
    let rest = len-index n (omega arith) in
    let more = len-insert_new (index_below n) (index_key n) n (index-past n n (omega arith) (omega arith)) in
    omega arith
