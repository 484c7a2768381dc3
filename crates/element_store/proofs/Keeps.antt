-- What is done to cells keeps them threaded.
use Rattle.bpf_model.proofs.Prelude.{◌≡◌, ◌≢◌, ◌∙◌, ℕ, ◌+◌, ◌<◌, ◌≤◌, List, [], ◌∷◌, ◌++◌, length, Option, Some, None, inl, inr, refl, sym, ap, arith, cond}
use Rattle.bpf_model.proofs.Prelude.{eqb, subst, map, slice_get, slice_set, same_Some, slice_get_within, option_cases, length-set, get-below, get-map}
use Rattle.bpf_model.proofs.Prelude.{get-set_cases, get-set_other, get-set_same}
use Rattle.element_store.proofs.Prelude.{times_in, worn_at, flag_in, IsThread, is_worn, free_count, taken_count, raw, raw_of, free_of, given_cell, IsThreaded}
use Rattle.element_store.proofs.Prelude.{AreCellsKept, last_left, first_with, relinked, linked_behind}
use Rattle.element_store.proofs.Counts.{one_cases, one_same, one_other, times-append, length_once}
use Rattle.element_store.proofs.Threading.{walk-thread, thread-agree, thread-some, thread-join, last-none, last-held, last-append, left-last}
use Rattle.element_store.specs.declared.cell.Standing.{Standing}
use Rattle.element_store.specs.declared.cell.Standing.TheVariants.{Free, Taken, Worn}
use Rattle.element_store.specs.declared.cell.SlotCell.{SlotCell}

pub free-is : (cells : List SlotCell) (first last : Option ℕ) (limit : ℕ) (ys : List ℕ) → IsThreaded cells first last limit ys → free_of cells first ≡ ys
free-is cells first last limit ys t = walk-thread (raw cells) first ys (length cells) t.thread (length_once (length cells) ys t.once t.inside)

pub kept_from : (cells : List SlotCell) (first last : Option ℕ) (limit : ℕ) (ys : List ℕ) →
    IsThreaded cells first last limit ys → AreCellsKept cells first last limit
kept_from cells first last limit ys t = subst (IsThreaded cells first last limit) (sym (free-is cells first last limit ys t)) t

-- what a taken slot's cell is known by
pub record IsTakenCell (cells : List SlotCell) (first : Option ℕ) (i : ℕ) : Type 0 where
  pub inside : i < length cells
  pub not_free : times_in i (free_of cells first) ≡ 0
  pub not_worn : worn_at (map (λ c. is_worn c.standing) cells) i ≡ 0

pub is_free : (s : Standing) → free_count s ≡ 1 → s ≡ Free
is_free Free h = refl
is_free Taken h = absurd (omega arith)
is_free Worn h = absurd (omega arith)

module _ (cells : List SlotCell) (first last : Option ℕ) (limit : ℕ) where
  -- the first free slot
  pub first_free : (i : ℕ) → AreCellsKept cells first last limit → first ≡ Some i → (ys : List ℕ) ×
      (free_of cells first ≡ i ∷ ys) × (c : SlotCell) × (slice_get cells i ≡ Some c) × (c.standing ≡ Free) ×
      (i < length cells)
  first_free i k e =
      let s = thread-some (raw cells) first (free_of cells first) i k.thread e in
      let one : times_in i (free_of cells first) ≡ times_in i (i ∷ s.0) = ap (times_in i) s.1 in
      let in_ : i < length cells = k.inside i (omega (arith, one_same i)) in
      let c = get-below cells i in_ in
      let st : times_in i (free_of cells first) ≡ free_count c.0.standing = k.standing i c.0 c.1 in
      let o : times_in i (free_of cells first) ≤ 1 = k.once i in
      (s.0, s.1, c.0, c.1, is_free c.0.standing (omega (arith, one_same i)), in_)

  pub took : (i : ℕ) (c d : SlotCell) → AreCellsKept cells first last limit → first ≡ Some i →
      slice_get cells i ≡ Some c → d.uses ≡ c.uses + 1 → d.generation ≡ c.generation → d.standing ≡ Taken →
      (ys : List ℕ) × (free_of cells first ≡ i ∷ ys) × IsThreaded (slice_set cells i d) c.link (last_left c.link last) limit ys
  took i c d k e at uses gen st =
      let s = first_free i k e in
      let ys : List ℕ = s.0 in
      let split : free_of cells first ≡ i ∷ ys = s.1 in
      let same : s.2 ≡ c = same_Some _ _ (sym s.3 ∙ at) in
      let was : c.standing ≡ Free = ap (λ (z : SlotCell). z.standing) (sym same) ∙ s.4 in
      let f : free_count c.standing ≡ 1 = ap free_count was in
      let g : taken_count c.standing ≡ 0 = ap taken_count was in
      let f' : free_count d.standing ≡ 0 = ap free_count st in
      let g' : taken_count d.standing ≡ 1 = ap taken_count st in
      let kk : IsThreaded cells first last limit (i ∷ ys) = subst (IsThreaded cells first last limit) split k in
      let gone : times_in i ys ≡ 0 = (let o : times_in i (i ∷ ys) ≤ 1 = kk.once i in omega (arith, one_same i)) in
      let apart : (j : ℕ) → 0 < times_in j ys → j ≢ i = λ j h y. let h' : 0 < times_in i ys = subst (λ z. 0 < times_in z ys) y h in absurd (omega arith) in
      let long : length (slice_set cells i d) ≡ length cells = length-set cells i d in
      let rest : IsThread (raw cells) c.link ys = subst (λ o. IsThread (raw cells) o ys) (ap raw_of at) kk.thread.1 in (
        ys,
        split,
        record {
          thread = thread-agree (raw cells) (raw (slice_set cells i d)) c.link ys (λ j h. ap raw_of (get-set_other cells i j d (apart j h))) rest;
          ends = left-last (raw cells) i last c.link ys rest kk.ends;
          once = λ j. let o : times_in j (i ∷ ys) ≤ 1 = kk.once j in omega arith;
          inside = λ j h. let h' : 0 < times_in j (i ∷ ys) = omega arith in let l : j < length cells = kk.inside j h' in omega arith;
          standing = λ j e h. elim (get-set_cases cells i j d e h) [
            | inl y ↦ ap (λ z. times_in z ys) y.0 ∙ (gone ∙ (sym f' ∙ ap (λ (z : SlotCell). free_count z.standing) y.1))
            | inr n ↦ let o : cond {A = ℕ} (eqb i j) 1 0 ≡ 0 =
                one_other i j (λ y. n.0 (sym y)) in let t : times_in j (i ∷ ys) ≡ free_count e.standing =
                kk.standing j e n.1 in omega arith
          ];
          used = λ j e h. elim (get-set_cases cells i j d e h) [
            | inl y ↦ let u : c.uses + free_count c.standing ≤ limit =
                kk.used i c at in subst (λ (z : SlotCell). z.uses + free_count z.standing ≤ limit) y.1 (omega arith)
            | inr n ↦ kk.used j e n.1
          ];
          given = λ j e h. elim (get-set_cases cells i j d e h) [
            | inl y ↦ let u : c.generation + taken_count c.standing ≤ c.uses =
                kk.given i c at in subst (λ (z : SlotCell). z.generation + taken_count z.standing ≤ z.uses) y.1
                (omega arith)
            | inr n ↦ kk.given j e n.1
          ];
          small = kk.small;
        },
      )

  -- a taken slot whose cell changes in other parts, or wears out
  pub stays : (i : ℕ) (c d : SlotCell) → AreCellsKept cells first last limit → times_in i (free_of cells first) ≡ 0 →
      slice_get cells i ≡ Some c → free_count d.standing ≡ 0 → d.uses ≤ limit →
      d.generation + taken_count d.standing ≤ d.uses →
      IsThreaded (slice_set cells i d) first last limit (free_of cells first)
  stays i c d k gone at f' u' g' =
      let ys : List ℕ = free_of cells first in
      let apart : (j : ℕ) → 0 < times_in j ys → j ≢ i = λ j h y. let h' : 0 < times_in i ys = subst (λ z. 0 < times_in z ys) y h in absurd (omega arith) in
      let long : length (slice_set cells i d) ≡ length cells = length-set cells i d in
      record {
        thread = thread-agree (raw cells) (raw (slice_set cells i d)) first ys (λ j h. ap raw_of (get-set_other cells i j d (apart j h))) k.thread;
        ends = k.ends;
        once = k.once;
        inside = λ j h. let l : j < length cells = k.inside j h in omega arith;
        standing = λ j e h. elim (get-set_cases cells i j d e h) [
          | inl y ↦ ap (λ z. times_in z ys) y.0 ∙ (gone ∙ (sym f' ∙ ap (λ (z : SlotCell). free_count z.standing) y.1))
          | inr n ↦ k.standing j e n.1
        ];
        used = λ j e h. elim (get-set_cases cells i j d e h) [
          | inl y ↦ subst (λ (z : SlotCell). z.uses + free_count z.standing ≤ limit) y.1 (omega arith)
          | inr n ↦ k.used j e n.1
        ];
        given = λ j e h. elim (get-set_cases cells i j d e h) [
          | inl y ↦ subst (λ (z : SlotCell). z.generation + taken_count z.standing ≤ z.uses) y.1 g'
          | inr n ↦ k.given j e n.1
        ];
        small = k.small;
      }

  is_taken : (s : Standing) → free_count s ≡ 0 → flag_in (Some (is_worn s)) ≡ 0 → s ≡ Taken
  is_taken Free h w = absurd (omega arith)
  is_taken Taken h w = refl
  is_taken Worn h w = absurd (omega arith)

  pub taken_cell : (i : ℕ) → AreCellsKept cells first last limit → IsTakenCell cells first i → (c : SlotCell) ×
      (slice_get cells i ≡ Some c) × (c.standing ≡ Taken) × (times_in i (free_of cells first) ≡ 0) ×
      (i < length cells)
  taken_cell i k t =
      let in_ : i < length cells = t.inside in
      let c = get-below cells i in_ in
      let gone : times_in i (free_of cells first) ≡ 0 = t.not_free in
      let f : free_count c.0.standing ≡ 0 = sym (k.standing i c.0 c.1) ∙ gone in
      let w : flag_in (Some (is_worn c.0.standing)) ≡ 0 = ap flag_in (sym (get-map (λ (z : SlotCell). is_worn z.standing) cells i c.0 c.1)) ∙ t.not_worn in
      (c.0, c.1, is_taken c.0.standing f w, gone, in_)

  -- a taken slot with a use left is free again, behind the others
  pub gave : (i : ℕ) (c d : SlotCell) → AreCellsKept cells first last limit → times_in i (free_of cells first) ≡ 0 →
      slice_get cells i ≡ Some c → d.uses ≡ c.uses → c.uses < limit → d.generation ≡ c.generation + 1 →
      c.standing ≡ Taken → d.standing ≡ Free → d.link ≡ None →
      IsThreaded (linked_behind (slice_set cells i d) last i) (first_with first last i) (Some i) limit (free_of cells first ++ i ∷ [])
  gave i c d k gone at uses under gen was st li =
      let within : i < length cells = slice_get_within cells i c at in
      let here : slice_get (slice_set cells i d) i ≡ Some d = get-set_same cells i d within in
      let g0 : c.generation + taken_count c.standing ≤ c.uses = k.given i c at in
      let g1 : taken_count c.standing ≡ 1 = ap taken_count was in
      let g2 : taken_count d.standing ≡ 0 = ap taken_count st in
      let f1 : free_count d.standing ≡ 1 = ap free_count st in
      let used : (j : ℕ) (e : SlotCell) → slice_get (slice_set cells i d) j ≡ Some e →
      e.uses + free_count e.standing ≤ limit = (λ j e h. elim (get-set_cases cells i j d e h) [
        | inl y ↦ subst (λ (z : SlotCell). z.uses + free_count z.standing ≤ limit) y.1 (omega arith)
        | inr n ↦ k.used j e n.1
      ]) in
      let given : (j : ℕ) (e : SlotCell) → slice_get (slice_set cells i d) j ≡ Some e →
      e.generation + taken_count e.standing ≤ e.uses = (λ j e h. elim (get-set_cases cells i j d e h) [
        | inl y ↦ subst (λ (z : SlotCell). z.generation + taken_count z.standing ≤ z.uses) y.1 (omega arith)
        | inr n ↦ k.given j e n.1
      ]) in
      let standing : (j : ℕ) (e : SlotCell) → slice_get (slice_set cells i d) j ≡ Some e →
      times_in j (free_of cells first ++ i ∷ []) ≡ free_count e.standing =
      (λ j e h. elim (get-set_cases cells i j d e h) [
        | inl y ↦ subst (λ z. times_in z (free_of cells first ++ i ∷ []) ≡ free_count e.standing) (sym y.0)
            (let q : free_count d.standing ≡ free_count e.standing =
            ap (λ (z : SlotCell). free_count z.standing) y.1 in omega
            (arith, times-append i (free_of cells first) (i ∷ []), one_same i))
        | inr n ↦ let q : times_in j (free_of cells first) ≡ free_count e.standing =
            k.standing j e n.1 in omega (
              arith,
              times-append j (free_of cells first) (i ∷ []),
              one_other i j (λ y. n.0 (sym y)),
            )
      ]) in
      let once : (j : ℕ) → times_in j (free_of cells first ++ i ∷ []) ≤ 1 = (λ j. elim (one_cases i j) [
        | inl y ↦ let z : times_in j (free_of cells first) ≡ 0 =
            subst (λ z. times_in z (free_of cells first) ≡ 0) y.0 gone in let o : cond {A = ℕ} (eqb i j) 1 0 ≡ 1 =
            y.1 in omega (arith, times-append j (free_of cells first) (i ∷ []))
        | inr n ↦ let z : times_in j (free_of cells first) ≤ 1 = k.once j in let o : cond {A = ℕ} (eqb i j) 1 0 ≡ 0 =
            n.1 in omega (arith, times-append j (free_of cells first) (i ∷ []))
      ]) in
      let inside : (j : ℕ) → 0 < times_in j (free_of cells first ++ i ∷ []) → j < length cells = (λ j h. elim (one_cases i j) [
        | inl y ↦ subst (λ z. z < length cells) y.0 within
        | inr n ↦ let o : cond {A = ℕ} (eqb i j) 1 0 ≡ 0 = n.1 in k.inside j (omega (arith, times-append j (free_of cells first) (i ∷ [])))
      ]) in
      elim (option_cases last) [
        | inl none ↦
            let e : free_of cells first ≡ [] = last-none (free_of cells first) (sym k.ends ∙ none) in
            subst (λ o. IsThreaded (linked_behind (slice_set cells i d) o i) (first_with first o i) (Some i) limit
            (free_of cells first ++ i ∷ [])) (sym none) (record {
              thread = subst (λ xs. IsThread (raw (slice_set cells i d)) (Some i) (xs ++ i ∷ [])) (sym e) (refl, ap raw_of here ∙ li);
              ends = sym (last-append (free_of cells first) (i ∷ []) i refl);
              once = once;
              inside = λ j h. let l : length (slice_set cells i d) ≡ length cells =
                  length-set cells i d in let m : j < length cells = inside j h in omega arith;
              standing = standing;
              used = used;
              given = given;
              small = k.small;
            })
        | inr some ↦ behind some.0 some.1 within here once inside standing used given
      ]
    where
      behind : (l : ℕ) → last ≡ Some l → i < length cells → slice_get (slice_set cells i d) i ≡ Some d →
          ((j : ℕ) → times_in j (free_of cells first ++ i ∷ []) ≤ 1) →
          ((j : ℕ) → 0 < times_in j (free_of cells first ++ i ∷ []) → j < length cells) →
          ((j : ℕ) (e : SlotCell) → slice_get (slice_set cells i d) j ≡ Some e → times_in j (free_of cells first ++ i ∷ []) ≡ free_count e.standing) →
          ((j : ℕ) (e : SlotCell) → slice_get (slice_set cells i d) j ≡ Some e → e.uses + free_count e.standing ≤ limit) →
          ((j : ℕ) (e : SlotCell) → slice_get (slice_set cells i d) j ≡ Some e → e.generation + taken_count e.standing ≤ e.uses) →
          IsThreaded (linked_behind (slice_set cells i d) last i) (first_with first last i) (Some i) limit (free_of cells first ++ i ∷ [])
      behind l la within here once inside standing used given =
          let held : 0 < times_in l (free_of cells first) = last-held (free_of cells first) l (sym k.ends ∙ la) in
          let ne : l ≢ i = λ y. let h' : 0 < times_in i (free_of cells first) =
          subst (λ z. 0 < times_in z (free_of cells first)) y held in absurd (omega arith) in
          let lw : l < length cells = k.inside l held in
          let b = get-below cells l lw in
          let before : slice_get (slice_set cells i d) l ≡ Some b.0 = get-set_other cells i l d ne ∙ b.1 in
          let e : SlotCell = record b.0 { link = Some i } in
          let two : List SlotCell = slice_set (slice_set cells i d) l (record b.0 { link = Some i }) in
          let is_two : linked_behind (slice_set cells i d) (Some l) i ≡ slice_set (slice_set cells i d) l
          (record b.0 { link = Some i }) = ap (relinked (slice_set cells i d) l (Some i)) before in
          let l1 : length (slice_set cells i d) ≡ length cells = length-set cells i d in
          let l2 : length (slice_set (slice_set cells i d) l (record b.0 { link = Some i })) ≡ length
          (slice_set cells i d) = length-set (slice_set cells i d) l _ in
          let at_l : raw (slice_set (slice_set cells i d) l (record b.0 { link = Some i })) l ≡ Some i =
          ap raw_of (get-set_same (slice_set cells i d) l (record b.0 { link = Some i }) (omega arith)) in
          let at_i : raw (slice_set (slice_set cells i d) l (record b.0 { link = Some i })) i ≡ None =
          ap raw_of (get-set_other (slice_set cells i d) l i (record b.0 { link = Some i }) (λ y. ne (sym y)) ∙
          here) ∙ li in
          subst (λ o. IsThreaded (linked_behind (slice_set cells i d) o i) (first_with first o i) (Some i) limit (free_of cells first ++ i ∷ [])) (sym la)
          (subst (λ cs. IsThreaded cs first (Some i) limit (free_of cells first ++ i ∷ [])) (sym is_two) (record {
            thread = thread-join (raw cells) (raw (slice_set (slice_set cells i d) l (record b.0 { link = Some i })))
                first (Some i) (free_of cells first) (i ∷ []) l k.thread (sym k.ends ∙ la) k.once at_l
                (λ j h n. ap raw_of (get-set_other (slice_set cells i d) l j _ n ∙
                get-set_other cells i j d (λ y. let h' : 0 < times_in i (free_of cells first) =
                subst (λ z. 0 < times_in z (free_of cells first)) y h in absurd (omega arith)))) (refl, at_i);
            ends = sym (last-append (free_of cells first) (i ∷ []) i refl);
            once = once;
            inside = λ j h. let m : j < length cells = inside j h in omega arith;
            standing = λ j x h. elim (get-set_cases (slice_set cells i d) l j (record b.0 { link = Some i }) x h) [
              | inl y ↦ subst (λ z. times_in z (free_of cells first ++ i ∷ []) ≡ free_count x.standing) (sym y.0)
                  (standing l b.0 before ∙ ap (λ (z : SlotCell). free_count z.standing) y.1)
              | inr n ↦ standing j x n.1
            ];
            used = λ j x h. elim (get-set_cases (slice_set cells i d) l j (record b.0 { link = Some i }) x h) [
              | inl y ↦ subst (λ (z : SlotCell). z.uses + free_count z.standing ≤ limit) y.1 (used l b.0 before)
              | inr n ↦ used j x n.1
            ];
            given = λ j x h. elim (get-set_cases (slice_set cells i d) l j (record b.0 { link = Some i }) x h) [
              | inl y ↦ subst (λ (z : SlotCell). z.generation + taken_count z.standing ≤ z.uses) y.1 (given l b.0 before)
              | inr n ↦ given j x n.1
            ];
            small = k.small;
          }))

  pub taken_at : (i : ℕ) (c : SlotCell) → AreCellsKept cells first last limit → IsTakenCell cells first i →
      slice_get cells i ≡ Some c → (c.standing ≡ Taken) × (times_in i (free_of cells first) ≡ 0)
  taken_at i c k t at = let s = taken_cell i k t in (ap (λ (z : SlotCell). z.standing) (same_Some _ _ (sym at ∙ s.1)) ∙ s.2, s.3)

  pub relink : (i : ℕ) (c : SlotCell) (to : Option ℕ) → AreCellsKept cells first last limit →
      IsTakenCell cells first i → slice_get cells i ≡ Some c →
      IsThreaded (slice_set cells i (record c { link = to })) first last limit (free_of cells first)
  relink i c to k t at =
      let s = taken_at i c k t at in
      let f : free_count c.standing ≡ 0 = ap free_count s.0 in
      let u : c.uses + free_count c.standing ≤ limit = k.used i c at in
      stays i c (record c { link = to }) k s.1 at f (omega arith) (k.given i c at)

  pub wear : (i : ℕ) (c : SlotCell) → AreCellsKept cells first last limit → IsTakenCell cells first i → slice_get cells i ≡ Some c →
      IsThreaded (slice_set cells i (given_cell c Worn)) first last limit (free_of cells first)
  wear i c k t at =
      let s = taken_at i c k t at in
      let f : free_count c.standing ≡ 0 = ap free_count s.0 in
      let g : taken_count c.standing ≡ 1 = ap taken_count s.0 in
      let u : c.uses + free_count c.standing ≤ limit = k.used i c at in
      let v : c.generation + taken_count c.standing ≤ c.uses = k.given i c at in
      stays i c (given_cell c Worn) k s.1 at refl (omega arith) (omega arith)

  pub free_again : (i : ℕ) (c : SlotCell) → AreCellsKept cells first last limit → IsTakenCell cells first i → slice_get cells i ≡ Some c → c.uses ≢ limit →
      IsThreaded (linked_behind (slice_set cells i (given_cell c Free)) last i) (first_with first last i) (Some i) limit (free_of cells first ++ i ∷ [])
  free_again i c k t at ne =
      let s = taken_at i c k t at in
      let f : free_count c.standing ≡ 0 = ap free_count s.0 in
      let u : c.uses + free_count c.standing ≤ limit = k.used i c at in
      gave i c (given_cell c Free) k s.1 at refl (omega arith) refl s.0 refl refl

  -- the last free slot is free
  pub last_free : (i l : ℕ) (b d : SlotCell) → AreCellsKept cells first last limit →
      times_in i (free_of cells first) ≡ 0 → last ≡ Some l → slice_get (slice_set cells i d) l ≡ Some b →
      (b.standing ≡ Free) × (l < length cells)
  last_free i l b d k gone e at =
      let held : 0 < times_in l (free_of cells first) = last-held (free_of cells first) l (sym k.ends ∙ e) in
      let ne : l ≢ i = λ y. let h' : 0 < times_in i (free_of cells first) = subst (λ z. 0 < times_in z (free_of cells first)) y held in absurd (omega arith) in
      let s : times_in l (free_of cells first) ≡ free_count b.standing = k.standing l b (sym (get-set_other cells i l d ne) ∙ at) in
      let o : times_in l (free_of cells first) ≤ 1 = k.once l in
      (is_free b.standing (omega arith), k.inside l held)

pub length-behind : (cells : List SlotCell) (last : Option ℕ) (i : ℕ) → length (linked_behind cells last i) ≡ length cells
length-behind cells None i = refl
length-behind cells (Some l) i = by_cell (slice_get cells l)
  where
    by_cell : (o : Option SlotCell) → length (relinked cells l (Some i) o) ≡ length cells
    by_cell None = refl
    by_cell (Some b) = length-set cells l (record b { link = Some i })
