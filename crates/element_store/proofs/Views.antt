-- How the state shows what is done to one cell.
use Rattle.bpf_model.proofs.Prelude.{◌≡◌, ◌∙◌, ℕ, ◌+◌, List, [], ◌∷◌, ◌++◌, Option, Some, None, refl, sym, ap, subst, eqb, Bool, true, false, map, slice_get}
use Rattle.bpf_model.proofs.Prelude.{slice_set, slice_index, get_or_from_slice_get, cond-true, cond-false, SlotView, uses_at, map-set, get-map, set-same}
use Rattle.element_store.proofs.Prelude.{ArenaState, IsTaken, with_link, taken, given_back, is_last_use, given_cell, link_view, shown_link, is_worn}
use Rattle.element_store.proofs.Prelude.{state_with, relinked, linked_behind}
use Rattle.element_store.specs.declared.cell.SlotCell.{SlotCell}
use Rattle.element_store.specs.declared.cell.Standing.TheVariants.{Free, Taken, Worn}

pub map-set_same : {A B : Type 0} (f : A → B) (xs : List A) (i : ℕ) (x y : A) → slice_get xs i ≡ Some x → f y ≡ f x → map f (slice_set xs i y) ≡ map f xs
map-set_same f xs i x y h e = map-set f xs i y ∙ set-same (map f xs) i (f y) (get-map f xs i x h ∙ ap (λ z. Some z) (sym e))

pub same_state : (s s' : List SlotView) (f f' : List ℕ) (w w' : List Bool) (l l' : List (Option ℕ)) (g g' : List ℕ)
    (kl vl n : ℕ) → s ≡ s' → f ≡ f' → w ≡ w' → l ≡ l' → g ≡ g' →
    let a : ArenaState = record { slots = s; free = f; worn = w; links = l; generations = g; key_len = kl; value_len = vl; limit = n } in
    let b : ArenaState = record { slots = s'; free = f'; worn = w'; links = l'; generations = g'; key_len = kl; value_len = vl; limit = n } in
    a ≡ b
same_state s s' f f' w w' l l' g g' kl vl n p q r t u = cc

module _ (slots : List SlotView) (cells : List SlotCell) (kl vl limit i : ℕ) (c : SlotCell) (at : slice_get cells i ≡ Some c) where
  -- the link of a taken cell is set
  pub set_link_view : (free : List ℕ) (to : Option ℕ) → c.standing ≡ Taken →
      state_with slots (slice_set cells i (record c { link = to })) free kl vl limit ≡ with_link (state_with slots cells free kl vl limit) i to
  set_link_view free to st =
      same_state slots slots free free _ _ _ _ _ _ kl vl limit
      refl
      refl
      (map-set_same (λ (z : SlotCell). is_worn z.standing) cells i c (record c { link = to }) at refl)
      (map-set link_view cells i (record c { link = to }) ∙ ap (λ s. slice_set (map link_view cells) i (shown_link s to)) st)
      (map-set_same (λ (z : SlotCell). z.generation) cells i c (record c { link = to }) at refl)

  -- a free cell is taken
  pub take_view : (slots' : List SlotView) (ys : List ℕ) (key value : List ℕ) →
      slots' ≡ slice_set slots i (record { key = key; value = value; uses = uses_at slots i + 1 }) → c.standing ≡ Free
      →
      state_with slots' (slice_set cells i (record {
        uses = c.uses + 1;
        generation = c.generation;
        standing = Taken;
        link = None;
      })) ys kl vl limit ≡ taken (state_with slots cells (i ∷ ys) kl vl limit) i ys key value
  take_view slots' ys key value e st =
      same_state slots' _ ys ys _ _ _ _ _ _ kl vl limit
      e
      refl
      (map-set_same (λ (z : SlotCell). is_worn z.standing) cells i c
      (record { uses = c.uses + 1; generation = c.generation; standing = Taken; link = None }) at
      (ap is_worn (sym st)))
      (map-set link_view cells i _)
      (map-set_same (λ (z : SlotCell). z.generation) cells i c _ at refl)

  generation_is : slice_index (map (λ (z : SlotCell). z.generation) cells) i ≡ c.generation
  generation_is = get_or_from_slice_get _ i c.generation 0 (get-map (λ (z : SlotCell). z.generation) cells i c at)

  pub last_use_is : (free : List ℕ) (b : Bool) → uses_at slots i ≡ c.uses → eqb c.uses limit ≡ b → is_last_use (state_with slots cells free kl vl limit) i ≡ b
  last_use_is free b u e = ap (λ n. eqb n limit) u ∙ e

  -- a taken cell is given back, after its last use
  pub wear_view : (free : List ℕ) → uses_at slots i ≡ c.uses → eqb c.uses limit ≡ true →
      state_with slots (slice_set cells i (given_cell c Worn)) free kl vl limit ≡ given_back (state_with slots cells free kl vl limit) i
  wear_view free u last =
      let l : is_last_use (state_with slots cells free kl vl limit) i ≡ true = last_use_is free true u last in
      same_state slots slots _ _ _ _ _ _ _ _ kl vl limit
      refl
      (sym (cond-true _ _ _ l))
      (map-set (λ (z : SlotCell). is_worn z.standing) cells i _ ∙ sym (cond-true _ _ _ l))
      (map-set link_view cells i _)
      (map-set (λ (z : SlotCell). z.generation) cells i _ ∙ ap (λ g. slice_set (map (λ (z : SlotCell). z.generation) cells) i (g + 1)) (sym generation_is))

  -- a taken cell is given back, before its last use
  pub free_view : (free : List ℕ) → uses_at slots i ≡ c.uses → c.standing ≡ Taken → eqb c.uses limit ≡ false →
      state_with slots (slice_set cells i (given_cell c Free)) (free ++ i ∷ []) kl vl limit ≡ given_back (state_with slots cells free kl vl limit) i
  free_view free u st last =
      let l : is_last_use (state_with slots cells free kl vl limit) i ≡ false = last_use_is free false u last in
      same_state slots slots _ _ _ _ _ _ _ _ kl vl limit
      refl
      (sym (cond-false _ _ _ l))
      (map-set_same (λ (z : SlotCell). is_worn z.standing) cells i c _ at (ap is_worn (sym st)) ∙ sym (cond-false _ _ _ l))
      (map-set link_view cells i _)
      (map-set (λ (z : SlotCell). z.generation) cells i _ ∙ ap (λ g. slice_set (map (λ (z : SlotCell). z.generation) cells) i (g + 1)) (sym generation_is))

-- an arena that is another but for its links has the same slots taken
pub taken_same : (a b : ArenaState) (j : ℕ) → b ≡ record a { links = b.links } → IsTaken a j → IsTaken b j
taken_same a b j e t =
    let c : IsTaken (record a { links = b.links }) j = record { inside = t.inside; not_free = t.not_free; not_worn = t.not_worn } in
    subst (λ z. IsTaken z j) (sym e) c

-- the link of a free slot is not seen
pub behind_view : (slots : List SlotView) (cells : List SlotCell) (free : List ℕ) (kl vl limit : ℕ) (last : Option ℕ)
    (i : ℕ) → ((l : ℕ) (b : SlotCell) → last ≡ Some l → slice_get cells l ≡ Some b → b.standing ≡ Free) →
    state_with slots (linked_behind cells last i) free kl vl limit ≡ state_with slots cells free kl vl limit
behind_view slots cells free kl vl limit None i h = refl
behind_view slots cells free kl vl limit (Some l) i h = by_cell (slice_get cells l) refl
  where
    by_cell : (o : Option SlotCell) → slice_get cells l ≡ o →
        state_with slots (relinked cells l (Some i) o) free kl vl limit ≡ state_with slots cells free kl vl limit
    by_cell None at = refl
    by_cell (Some b) at =
        let st : b.standing ≡ Free = h l b refl at in
        let hide : shown_link b.standing (Some i) ≡ shown_link b.standing b.link = ap (λ s. shown_link s (Some i)) st
        ∙ sym (ap (λ s. shown_link s b.link) st) in
        same_state slots slots free free _ _ _ _ _ _ kl vl limit
        refl
        refl
        (map-set_same (λ (z : SlotCell). is_worn z.standing) cells l b (record b { link = Some i }) at refl)
        (map-set_same link_view cells l b (record b { link = Some i }) at hide)
        (map-set_same (λ (z : SlotCell). z.generation) cells l b (record b { link = Some i }) at refl)
