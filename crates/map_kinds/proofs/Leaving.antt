-- What a delete and a reap leave of a map.
use Rattle.bpf_model.proofs.Prelude.{◌≡◌, ◌∙◌, ℕ, ◌+◌, ◌-◌, ◌<◌, List, [], ◌∷◌, ◌++◌, length, Option, Some, inl, inr, sym, ap, arith, Bool, true, subst, cond}
use Rattle.bpf_model.proofs.Prelude.{slice_set, count_by, ◌==◌, get, cond-true, cond-false, cases_Bool, get-below, MapView, uses_at}
use Rattle.element_store.proofs.Prelude.{worn_at, flag_in, is_last_use, given_back, reaped_lists}
use Rattle.model_laws.proofs.Prelude.{Given, Free, Worn, MapShape, given_at, reaped_view}
use Rattle.model_laws.proofs.Tallies.{count-set, one_of}
use Rattle.model_laws.specs.Views as views
use Rattle.model_laws.proofs.Lists.{len-remove_found}
use Rattle.map_kinds.specs.Parted.{PartsView}
use Rattle.map_kinds.specs.Updated.{unlinked_of}
use Rattle.map_kinds.specs.Shown.{map_view, IsMap, IsOfShape}
use Rattle.map_kinds.proofs.Lengths.{long-removed}

pub retired-kept : (shape : MapShape) (p r : PartsView) (key : List ℕ) (i n : ℕ) → IsMap shape p n →
    get p.index key ≡ Some i → r ≡ unlinked_of p key (Some i) r.arena.links → IsMap shape r (n - 1)
retired-kept shape p r key i n h g e =
    let k : IsMap shape (unlinked_of p key (Some i) r.arena.links) (n - 1) = record {
      valid = h.valid;
      hash = h.hash;
      arena = record {
        slots = h.arena.slots;
        key_len = h.arena.key_len;
        value_len = h.arena.value_len;
        limit =
            h.arena.limit;
        keys = h.arena.keys;
        values = h.arena.values;
      };
      keys = long-removed p.index key shape.key_len h.keys;
      count = ap (λ m. m - 1) h.count ∙ sym (len-remove_found p.index key i g);
    } in
    subst (λ (z : PartsView). IsMap shape z (n - 1)) (sym e) k

count-worn : (xs : List Bool) (i : ℕ) → worn_at xs i ≡ 0 → i < length xs → count_by (λ b. b) (slice_set xs i true) ≡ count_by (λ b. b) xs + 1
count-worn xs i w h =
    let x = get-below xs i h in
    let was : one_of x.0 ≡ 0 = sym (ap flag_in x.1) ∙ w in
    let more : count_by (λ b. b) (slice_set xs i true) + one_of x.0 ≡ count_by (λ b. b) xs + 1 = count-set (λ (b : Bool). b) xs i x.0 true x.1 in
    omega arith

module _ (shape : MapShape) (p : PartsView) (i : ℕ) (l : List (Option ℕ)) (a : IsOfShape shape p.arena) where
  pub given-is : given_at (map_view shape p) i ≡ cond (is_last_use p.arena i) Worn Free
  given-is = ap (λ n. cond {A = Given} (uses_at p.arena.slots i == n) Worn Free) (sym a.limit)

  abbrev by_last : Bool → MapView
  by_last b = record {
    shape = shape;
    slots = p.arena.slots;
    free = cond b p.arena.free (p.arena.free ++ i ∷ []);
    index = p.index;
    next = p.lists.next;
    waiting = p.lists.waiting;
    ready = (reaped_lists p.lists).ready;
    worn = count_by (λ b. b) (cond b (slice_set p.arena.worn i true) p.arena.worn);
  }

  abbrev with_worn : ℕ → MapView
  with_worn n = record {
    shape = shape;
    slots = p.arena.slots;
    free = p.arena.free;
    index = p.index;
    next =
        p.lists.next;
    waiting = p.lists.waiting;
    ready = (reaped_lists p.lists).ready;
    worn = n;
  }

  pub reaped-shown : worn_at p.arena.worn i ≡ 0 → i < length p.arena.worn →
      map_view shape (record {
        index = p.index;
        lists = reaped_lists p.lists;
        arena =
            given_back (record p.arena { links = l }) i;
      }) ≡ reaped_view (map_view shape p) i
  reaped-shown w h = elim (cases_Bool (is_last_use p.arena i)) [
    | inl y ↦
        ap (λ b. by_last b) y
        ∙ (ap (λ n. with_worn n) (count-worn p.arena.worn i w h)
        ∙ sym (ap (λ gv. views.slot_given_back gv i (map_view shape p)) (given-is ∙ cond-true _ _ _ y)))
    | inr n ↦ ap (λ b. by_last b) n ∙ sym (ap (λ gv. views.slot_given_back gv i (map_view shape p)) (given-is ∙ cond-false _ _ _ n))
  ]
