-- What a seat does for a shared run serves it.
use Rattle.bpf_model.proofs.Prelude.{◌≡◌, ◌⊎◌, ℕ, ◌+◌, ◌*◌, ◌/◌, ◌%◌, ◌^◌, ◌<◌, ◌≤◌, inl, inr, refl, sym, subst, arith, List, [], ◌∷◌, ◌++◌, Option, Some}
use Rattle.bpf_model.proofs.Prelude.{None, ℤ, pos, ◌+ℤ◌, byte_count, RunView, most_map_slots, slot_base}
use Rattle.machine.proofs.Prelude.{MayGive}
use Rattle.model_laws.proofs.Prelude.{Lookup, Width}
use Rattle.world_laws.proofs.Prelude.{IsSlotWord, bytes_in, found_word, regions}
use Rattle.machine.specs.declared.request.Request.{Request}
use Rattle.machine.specs.declared.request.Request.TheVariants as requests
use Rattle.shared_runs.specs.Tables.{Table, IsTable, IsSmall}
use Rattle.shared_runs.specs.Serving.{CanAnswer, GoesOnWith, IsServable, LeadsToWord, Serves, map_named}
use Rattle.shared_runs.specs.SharedRuns.{closing, opening}
use Rattle.shared_runs.specs.Words.{part_of}
use Rattle.shared_runs.proofs.Bytes.{part-below, some-bytes}

-- what the code finds out of an address: the element, the place in its value, and the byte of that word
abbrev pub LeadsThere : ℕ → ℤ → ℕ → ℕ → ℕ → Type 0
LeadsThere address offset element place low = (e p l : ℕ) → e < regions → p < 2 ^ 20 → l < 8 →
    pos address +ℤ offset ≡ pos (slot_base 0 e + (8 * p + l)) → (element ≡ e) × (place ≡ p) × (low ≡ l)

pub there : (k : Table) (ms : List k.Move) (address : ℕ) (offset : ℤ) (width : Width) (element place low : ℕ) → IsSmall k
    → LeadsThere address offset element place low → (l : LeadsToWord k ms address offset width) →
    (element ≡ l.element) × (place ≡ l.place) × (low ≡ l.low)
there k ms address offset width element place low small w l =
    let few = small.few in
    let short = small.short in
    let in_table = l.in_table in
    let in_value = l.in_value in
    let whole = l.whole in
    let some = some-bytes width in
    w l.element l.place l.low (omega (arith, few, in_table)) (omega (arith, short, in_value)) (omega (arith, whole, some)) l.at

-- so it is held, one of the table's, the place one of its value's, and the bytes those of one word
pub held-there : (k : Table) → IsTable k → (ms before mine : List k.Move) (address : ℕ) (offset : ℤ) (width : Width)
    (element place low : ℕ) → IsSmall k → LeadsThere address offset element place low → mine ≡ ms ++ before →
    LeadsToWord k ms address offset width →
    k.Holds element mine × (element < k.elements) × (place < k.value_words) × (low + byte_count width ≤ 8)
held-there k keeps ms before mine address offset width element place low small w e l =
    let t = there k ms address offset width element place low small w l in (
      subst (λ (m : List k.Move). k.Holds element m) (sym e)
          (subst (λ (s : ℕ). k.Holds s (ms ++ before)) (sym t.0) (keeps.holds_over l.element ms before l.held)),
      subst (λ (s : ℕ). s < k.elements) (sym t.0) l.in_table,
      subst (λ (s : ℕ). s < k.value_words) (sym t.1) l.in_value,
      subst (λ (s : ℕ). s + byte_count width ≤ 8) (sym t.2) l.whole,
    )

module _ (k : Table) (keeps : IsTable k) (v : RunView) (request : Request) where
  pub serves-load : (address : ℕ) (offset : ℤ) (width : Width) (element place low x : ℕ) →
      request ≡ requests.Load address offset width → IsSmall k → LeadsThere address offset element place low → x < 2 ^ 64 →
      Serves k v request (k.finds element place x ∷ []) (part_of x low (byte_count width))
  serves-load address offset width element place low x is small w below = λ c context ms can.
      let l = subst (λ (q : Request). CanAnswer k c context ms v q) is can in
      let t = there k ms address offset width element place low small w l.leads in
      let bytes = byte_count width in (
        subst (λ (s : ℕ). GoesOnWith k c context (k.finds s place x ∷ ms) v (part_of x low bytes)) (sym t.0)
            (subst (λ (p : ℕ). GoesOnWith k c context (k.finds l.leads.element p x ∷ ms) v (part_of x low bytes)) (sym t.1)
            (subst (λ (b : ℕ). GoesOnWith k c context (k.finds l.leads.element l.leads.place x ∷ ms) v (part_of x b bytes))
            (sym t.2) (l.goes_on x below))),
        subst (λ (q : Request). MayGive c v q (part_of x low bytes)) (sym is) (part-below x low width),
      )

  pub serves-store : (address : ℕ) (offset : ℤ) (width : Width) (number element place low : ℕ) →
      request ≡ requests.Store address offset width number → IsSmall k → LeadsThere address offset element place low →
      Serves k v request (k.writes element place number ∷ []) 0
  serves-store address offset width number element place low is small w = λ c context ms can.
      let l = subst (λ (q : Request). CanAnswer k c context ms v q) is can in
      let t = there k ms address offset width element place low small w l.leads in (
        subst (λ (s : ℕ). GoesOnWith k c context (k.writes s place number ∷ ms) v 0) (sym t.0)
            (subst (λ (p : ℕ). GoesOnWith k c context (k.writes l.leads.element p number ∷ ms) v 0) (sym t.1) (l.goes_on 0)),
        subst (λ (q : Request). MayGive c v q 0) (sym is) tt,
      )

  given : (map : ℕ) (found : Option ℕ) (ns : List k.Move) (key : List ℕ) → IsSmall k → k.LooksUp map key ns found →
      (found_word 0 found ≡ 0) ⊎ IsSlotWord (found_word 0 found)
  given map None ns key small a = inl refl
  given map (Some element) ns key small a =
      let in_table = keeps.hit_within map key ns element a in
      let few = small.few in
      let below : element < regions = omega (arith, in_table, few) in
      inr (record {
        map = element / most_map_slots;
        slot = element % most_map_slots;
        few_maps = omega (arith, below);
        few_slots = omega arith;
        is = omega arith;
      })

  pub serves-lookup : (ns : List k.Move) (found : Option ℕ) (word : ℕ) → request ≡ requests.Call Lookup → IsSmall k →
      k.LooksUp (map_named v) (bytes_in v 2 (8 * k.key_words (map_named v))) ns found → word ≡ found_word 0 found → Serves k v request ns word
  serves-lookup ns found word is small looked e = λ c context ms can.
      let l = subst (λ (q : Request). CanAnswer k c context ms v q) is can in (
        subst (λ (w : ℕ). GoesOnWith k c context (ns ++ ms) v w) (sym e) (l.goes_on ns found looked),
        subst (λ (q : Request). MayGive c v q word) (sym is)
            (subst (λ (w : ℕ). (w ≡ 0) ⊎ IsSlotWord w) (sym e)
            (given (map_named v) found ns (bytes_in v 2 (8 * k.key_words (map_named v))) small looked)),
      )

  pub serves-enter : request ≡ requests.Enter → Serves k v request (opening k v.depth) 0
  serves-enter is = λ c context ms can.
      let l = subst (λ (q : Request). CanAnswer k c context ms v q) is can in
      (l.goes_on 0, subst (λ (q : Request). MayGive c v q 0) (sym is) tt)

  pub serves-leave : request ≡ requests.Leave → Serves k v request (closing k v.depth) 0
  serves-leave is = λ c context ms can.
      let l = subst (λ (q : Request). CanAnswer k c context ms v q) is can in
      (l.goes_on 0, subst (λ (q : Request). MayGive c v q 0) (sym is) tt)

-- where a servable load or store leads
module _ {k : Table} (keeps : IsTable k) (small : IsSmall k) {mine : List k.Move} {v : RunView} {request : Request} {address : ℕ}
    {offset : ℤ} {width : Width} {element place low : ℕ} (s : IsServable k mine v request) (where_it : LeadsThere address offset element place low) where
  pub load-there : request ≡ requests.Load address offset width →
      k.Holds element mine × (element < k.elements) × (place < k.value_words) × (low + byte_count width ≤ 8)
  load-there is =
      let l = subst (λ (q : Request). CanAnswer k s.checked s.context s.moves v q) is s.can in
      held-there k keeps s.moves s.before mine address offset width element place low small where_it s.list l.leads

  pub store-there : (number : ℕ) → request ≡ requests.Store address offset width number →
      k.Holds element mine × (element < k.elements) × (place < k.value_words) × (low + byte_count width ≤ 8)
  store-there number is =
      let l = subst (λ (q : Request). CanAnswer k s.checked s.context s.moves v q) is s.can in
      held-there k keeps s.moves s.before mine address offset width element place low small where_it s.list l.leads
