-- Accesses to elements.
use Rattle.bpf_model.proofs.Prelude.{◌≡◌, ℕ, List, Option, Some, None, refl, sym, ap, ◌∙◌, length, Bool, true, false, slice_get, slice_set, ℤ, if◌then◌else◌}
use Rattle.bpf_model.proofs.Prelude.{◌>>=◌, region_offset, number_at, Element, is_reclaimed, unless_reclaimed, accessible, changed, with_value, loaded_from}
use Rattle.bpf_model.proofs.Prelude.{stored_in, with_bytes}
use Rattle.reference_store.specs.Storing.{saved, SavesTo, StoresTo}
use Rattle.reference_store.proofs.Elements.{changed-at}

-- an access to an element: what is done to it, unless it is reclaimed
pub accessed : {A : Type 0} {r : Bool} (es : List Element) (n : ℕ) (e : Element) (f : Element → Option A) →
    slice_get es n ≡ Some e → is_reclaimed e.life ≡ r → (accessible es n >>= f) ≡ ((if r then None else Some e) >>= f)
accessed es n e f h r = ap (λ o. (o >>= unless_reclaimed) >>= f) h ∙ ap (λ b. (if b then None else Some e) >>= f) r

pub load-found : (es : List Element) (n : ℕ) (e : Element) (width at : ℕ) (offset : ℤ) → slice_get es n ≡ Some e →
    is_reclaimed e.life ≡ false → region_offset (length e.value) width offset ≡ Some at →
    (accessible es n >>= loaded_from width offset) ≡ number_at (slice_get e.value) at width
load-found es n e width at offset h r p = accessed es n e (loaded_from width offset) h r ∙ ap (λ o. o >>= λ at. number_at (slice_get e.value) at width) p

pub load-none : (es : List Element) (n : ℕ) (e : Element) (width : ℕ) (offset : ℤ) → slice_get es n ≡ Some e →
    is_reclaimed e.life ≡ false → region_offset (length e.value) width offset ≡ None →
    (accessible es n >>= loaded_from width offset) ≡ None
load-none es n e width offset h r p = accessed es n e (loaded_from width offset) h r ∙ ap (λ o. o >>= λ at. number_at (slice_get e.value) at width) p

saved-by : (width : ℕ) (offset : ℤ) (v : ℕ) (e : Element) (r : Bool) (p : Option ℕ) → is_reclaimed e.life ≡ r →
    region_offset (length e.value) width offset ≡ p →
    saved width offset v e ≡ ((if r then None else Some e) >>= λ e. p >>= λ at. Some (with_value (with_bytes at width v e.value) e))
saved-by width offset v e true p h g = ap (λ b. (if b then None else Some e) >>= λ e.
    region_offset (length e.value) width offset >>= λ at. Some (with_value (with_bytes at width v e.value) e)) h
saved-by width offset v e false p h g =
    ap (λ b. (if b then None else Some e) >>= λ e. region_offset (length e.value) width offset >>= λ at. Some (with_value (with_bytes at width v e.value) e)) h
    ∙ ap (λ q. q >>= λ at. Some (with_value (with_bytes at width v e.value) e)) g

-- a store to element n of the list
pub stores-to : (es : List Element) (n : ℕ) (e f : Element) (width : ℕ) (offset : ℤ) (v : ℕ) (b : Bool) →
    slice_get es n ≡ Some e → SavesTo e width offset v b f →
    StoresTo (accessible es n >>= stored_in es n width offset v) b (slice_set es n f)
stores-to es n e f width offset v b h s = by b (is_reclaimed e.life) (region_offset (length e.value) width offset) refl refl s
  where
    by : (b : Bool) (r : Bool) (p : Option ℕ) → is_reclaimed e.life ≡ r →
        region_offset (length e.value) width offset ≡ p → SavesTo e width offset v b f →
        StoresTo (accessible es n >>= stored_in es n width offset v) b (slice_set es n f)
    by true true p x y z = absurd (let q : None ≡ Some f = sym (saved-by width offset v e true p x y) ∙ z in cc)
    by false true p x y z = accessed es n e (stored_in es n width offset v) h x
    by true false None x y z = absurd (let q : None ≡ Some f = sym (saved-by width offset v e false None x y) ∙ z in cc)
    by false false None x y z = accessed es n e (stored_in es n width offset v) h x ∙
        ap (λ q. q >>= λ at. Some (changed (with_value (with_bytes at width v e.value)) es n)) y
    by true false (Some at) x y z =
        let q : Some (with_value (with_bytes at width v e.value) e) ≡ Some f = sym (saved-by width offset v e false (Some at) x y) ∙ z in
        let same : with_value (with_bytes at width v e.value) e ≡ f = cc in
        accessed es n e (stored_in es n width offset v) h x ∙ ap (λ q. q >>= λ at. Some (changed (with_value (with_bytes at width v e.value)) es n)) y
        ∙ ap Some (changed-at (with_value (with_bytes at width v e.value)) es n e h ∙ ap (slice_set es n) same)
    by false false (Some at) x y z = absurd (let q : Some (with_value (with_bytes at width v e.value) e) ≡ None =
        sym (saved-by width offset v e false (Some at) x y) ∙ z in cc)
