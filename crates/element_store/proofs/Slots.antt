-- What the slots show, where cells and bytes change.
use Rattle.bpf_model.proofs.Prelude.{◌≡◌, ◌≢◌, ◌∙◌, ℕ, zero, suc, ◌+◌, ◌*◌, ◌<◌, ◌≤◌, List, [], ◌∷◌, length, Option, Some, None, refl, sym, ap, arith, subst}
use Rattle.bpf_model.proofs.Prelude.{take, drop, map, slice_get, slice_set, none-some, same_Some, slice_get_within, slice_get_past, length-drop, length-take}
use Rattle.bpf_model.proofs.Prelude.{length-take-le, length-map, SlotView, key_in, uses_at, get-below, get-map}
use Rattle.element_store.proofs.Prelude.{ArenaState, IsTaken, key_at, value_at, with_slot_value, block, with_block, slots_shown, state_with, arena_state_of}
use Rattle.element_store.proofs.Prelude.{free_of, IsThreaded, AreCellsKept, IsLaidOut, taken_count, relinked, linked_behind}
use Rattle.element_store.specs.State.{generation_at}
use Rattle.element_store.specs.Kept.{shown_bytes}
use Rattle.element_store.specs.declared.cell.SlotCell.{SlotCell}
use Rattle.element_store.proofs.Keeps.{IsTakenCell, free-is, taken_cell}
use Rattle.element_store.proofs.BlockLaws.{room, block-zero, block-suc, times-suc, first-here, rest-here, first-past, rest-past}

pub state-is : (cells : List SlotCell) (first last : Option ℕ) (limit : ℕ) (ys : List ℕ) (ks vs : List ℕ) (kl vl : ℕ)
    → IsThreaded cells first last limit ys → arena_state_of cells first ks vs kl vl limit ≡ state_with
    (slots_shown kl vl cells ks vs) cells ys kl vl limit
state-is cells first last limit ys ks vs kl vl t = ap (λ f.
    state_with (slots_shown kl vl cells ks vs) cells f kl vl limit) (free-is cells first last limit ys t)

pub length-shown : (kl vl : ℕ) (cells : List SlotCell) (ks vs : List ℕ) → length (slots_shown kl vl cells ks vs) ≡ length cells
length-shown kl vl [] ks vs = refl
length-shown kl vl (c ∷ cells) ks vs = ap suc (length-shown kl vl cells (drop kl ks) (drop vl vs))

pub held_from : (kl vl limit : ℕ) (cells : List SlotCell) (first : Option ℕ) (ks vs : List ℕ) (i : ℕ) →
    IsTaken (arena_state_of cells first ks vs kl vl limit) i → IsTakenCell cells first i
held_from kl vl limit cells first ks vs i t =
    record { inside = subst (λ n. i < n) (length-shown kl vl cells ks vs) t.inside; not_free = t.not_free; not_worn = t.not_worn }

-- a cell of as many uses shows the same
pub shown-same : (kl vl : ℕ) (cells : List SlotCell) (ks vs : List ℕ) (i : ℕ) (c d : SlotCell) →
    slice_get cells i ≡ Some c → d.uses ≡ c.uses → slots_shown kl vl (slice_set cells i d) ks vs ≡ slots_shown kl vl
    cells ks vs
shown-same kl vl [] ks vs i c d at e = refl
shown-same kl vl (b ∷ cells) ks vs zero c d at e =
    ap (λ (n : ℕ). record { key = shown_bytes n (take kl ks); value = shown_bytes n (take vl vs); uses = n }
    ∷ slots_shown kl vl cells (drop kl ks) (drop vl vs))
    (e ∙ ap (λ (z : SlotCell). z.uses) (sym (same_Some b c at)))
shown-same kl vl (b ∷ cells) ks vs (suc i) c d at e =
    ap (λ l. record { key = shown_bytes b.uses (take kl ks); value = shown_bytes b.uses (take vl vs); uses = b.uses } ∷ l)
    (shown-same kl vl cells (drop kl ks) (drop vl vs) i c d at e)

pub shown-behind : (kl vl : ℕ) (cells : List SlotCell) (ks vs : List ℕ) (last : Option ℕ) (i : ℕ) →
    slots_shown kl vl (linked_behind cells last i) ks vs ≡ slots_shown kl vl cells ks vs
shown-behind kl vl cells ks vs None i = refl
shown-behind kl vl cells ks vs (Some l) i = by_cell (slice_get cells l) refl
  where
    by_cell : (o : Option SlotCell) → slice_get cells l ≡ o → slots_shown kl vl (relinked cells l (Some i) o) ks vs ≡ slots_shown kl vl cells ks vs
    by_cell None at = refl
    by_cell (Some b) at = shown-same kl vl cells ks vs l b (record b { link = Some i }) at refl

pub shown-uses : (kl vl : ℕ) (cells : List SlotCell) (ks vs : List ℕ) (i : ℕ) (c : SlotCell) →
    slice_get cells i ≡ Some c → uses_at (slots_shown kl vl cells ks vs) i ≡ c.uses
shown-uses kl vl [] ks vs i c at = absurd (none-some c at)
shown-uses kl vl (b ∷ cells) ks vs zero c at = ap (λ (z : SlotCell). z.uses) (same_Some b c at)
shown-uses kl vl (b ∷ cells) ks vs (suc i) c at = shown-uses kl vl cells (drop kl ks) (drop vl vs) i c at

pub shown-key : (kl vl : ℕ) (cells : List SlotCell) (ks vs : List ℕ) (i : ℕ) (c : SlotCell) →
    slice_get cells i ≡ Some c → key_at (slots_shown kl vl cells ks vs) i ≡ shown_bytes c.uses (block kl i ks)
shown-key kl vl [] ks vs i c at = absurd (none-some c at)
shown-key kl vl (b ∷ cells) ks vs zero c at = ap (λ (z : SlotCell). shown_bytes z.uses (take kl ks))
    (same_Some b c at) ∙ ap (shown_bytes c.uses) (sym (block-zero kl ks))
shown-key kl vl (b ∷ cells) ks vs (suc i) c at = shown-key kl vl cells (drop kl ks) (drop vl vs) i c at ∙ ap (shown_bytes c.uses) (sym (block-suc kl i ks))

pub shown-value : (kl vl : ℕ) (cells : List SlotCell) (ks vs : List ℕ) (i : ℕ) (c : SlotCell) →
    slice_get cells i ≡ Some c → value_at (slots_shown kl vl cells ks vs) i ≡ shown_bytes c.uses (block vl i vs)
shown-value kl vl [] ks vs i c at = absurd (none-some c at)
shown-value kl vl (b ∷ cells) ks vs zero c at = ap (λ (z : SlotCell). shown_bytes z.uses (take vl vs))
    (same_Some b c at) ∙ ap (shown_bytes c.uses) (sym (block-zero vl vs))
shown-value kl vl (b ∷ cells) ks vs (suc i) c at = shown-value kl vl cells (drop kl ks) (drop vl vs) i c at ∙ ap (shown_bytes c.uses) (sym (block-suc vl i vs))

same_slot : (u : ℕ) (k k' v v' : List ℕ) (rest rest' : List SlotView) → k ≡ k' → v ≡ v' → rest ≡ rest' →
    let a : SlotView = record { key = shown_bytes u k; value = shown_bytes u v; uses = u } in
    let b : SlotView = record { key = shown_bytes u k'; value = shown_bytes u v'; uses = u } in
    (a ∷ rest) ≡ (b ∷ rest')
same_slot u k k' v v' rest rest' p q r = cc

-- a slot is written
pub shown-written : (key value : List ℕ) (cells : List SlotCell) (ks vs : List ℕ) (i : ℕ) (d : SlotCell) →
    i < length cells → length ks ≡ length cells * length key → length vs ≡ length cells * length value →
    slots_shown (length key) (length value) (slice_set cells i d) (with_block i key ks) (with_block i value vs) ≡
    slice_set (slots_shown (length key) (length value) cells ks vs) i
    (record { key = shown_bytes d.uses key; value = shown_bytes d.uses value; uses = d.uses })
shown-written key value [] ks vs i d h lk lv = absurd (omega arith)
shown-written key value (b ∷ cells) ks vs zero d h lk lv =
    same_slot d.uses _ key _ value _ _ (first-here key ks) (first-here value vs)
    (ap (λ l. slots_shown (length key) (length value) cells l (drop (length value) (with_block 0 value vs))) (rest-here key ks)
    ∙ ap (λ l. slots_shown (length key) (length value) cells (drop (length key) ks) l) (rest-here value vs))
shown-written key value (b ∷ cells) ks vs (suc i) d h lk lv =
    let rk : length key ≤ length ks = omega (arith, times-suc (length cells) (length key)) in
    let rv : length value ≤ length vs = omega (arith, times-suc (length cells) (length value)) in
    let lk' : length (drop (length key) ks) ≡ length cells * length key = omega (arith, times-suc (length cells) (length key), length-drop (length key) ks) in
    let lv' : length (drop (length value) vs) ≡ length cells * length value =
    omega (arith, times-suc (length cells) (length value), length-drop (length value) vs) in
    same_slot b.uses _ _ _ _ _ _ (first-past key ks i rk) (first-past value vs i rv)
    (ap (λ l. slots_shown (length key) (length value) (slice_set cells i d) l (drop (length value) (with_block (suc i) value vs))) (rest-past key ks i rk)
    ∙ (ap (λ l. slots_shown (length key) (length value) (slice_set cells i d) (with_block i key (drop (length key) ks)) l) (rest-past value vs i rv)
    ∙ shown-written key value cells (drop (length key) ks) (drop (length value) vs) i d (omega arith) lk' lv'))

-- the bytes have room for as many cells
pub laid-out : (cells cells' : List SlotCell) (ks ks' vs vs' : List ℕ) (kl vl : ℕ) → IsLaidOut cells ks vs kl vl →
    length cells' ≡ length cells → length ks' ≡ length ks → length vs' ≡ length vs → IsLaidOut cells' ks' vs' kl vl
laid-out cells cells' ks ks' vs vs' kl vl l e ek ev = record {
  key_room = ek ∙ (l.key_room ∙ ap (λ n. n * kl) (sym e));
  value_room = ev ∙ (l.value_room ∙ ap (λ n. n * vl) (sym e));
  key_bound = l.key_bound;
  value_bound = l.value_bound;
}

pub inside_from : (kl vl limit : ℕ) (cells : List SlotCell) (first : Option ℕ) (ks vs : List ℕ) (i : ℕ)
    (a : ArenaState) → arena_state_of cells first ks vs kl vl limit ≡ a → i < length a.slots → i < length cells
inside_from kl vl limit cells first ks vs i a e h = subst (λ n. i < n) (length-shown kl vl cells ks vs)
    (subst (λ (b : ArenaState). i < length b.slots) (sym e) h)

pub shown-unused : (n : ℕ) (bytes : List ℕ) → n ≡ 0 → shown_bytes n bytes ≡ []
shown-unused n bytes e = ap (λ m. shown_bytes m bytes) e

pub shown-used : (n : ℕ) (bytes : List ℕ) → (n ≡ 0 → ⊥) → shown_bytes n bytes ≡ bytes
shown-used zero bytes h = absurd (h refl)
shown-used (suc n) bytes h = refl

same_view : (k k' v v' : List ℕ) (u u' : ℕ) → k ≡ k' → v ≡ v' → u ≡ u' →
    let a : SlotView = record { key = k; value = v; uses = u } in
    let b : SlotView = record { key = k'; value = v'; uses = u' } in
    a ≡ b
same_view k k' v v' u u' p q r = cc

-- a slot is used once more
pub shown-taken : (kl vl : ℕ) (key value : List ℕ) (cells : List SlotCell) (ks vs : List ℕ) (i : ℕ) (c d : SlotCell) →
    slice_get cells i ≡ Some c → length key ≡ kl → length value ≡ vl → IsLaidOut cells ks vs kl vl →
    d.uses ≡ c.uses + 1 →
    slots_shown kl vl (slice_set cells i d) (with_block i key ks) (with_block i value vs) ≡ slice_set
    (slots_shown kl vl cells ks vs) i (record {
      key = key;
      value = value;
      uses =
          uses_at (slots_shown kl vl cells ks vs) i + 1;
    })
shown-taken kl vl key value cells ks vs i c d at ek ev l used =
    let some : d.uses ≡ 0 → ⊥ = λ z. absurd (omega arith) in
    subst (λ k. slots_shown k vl (slice_set cells i d) (with_block i key ks) (with_block i value vs) ≡ slice_set
    (slots_shown k vl cells ks vs) i (record {
      key = key;
      value = value;
      uses =
          uses_at (slots_shown k vl cells ks vs) i + 1;
    })) ek
    (subst (λ v. slots_shown (length key) v (slice_set cells i d) (with_block i key ks) (with_block i value vs) ≡
    slice_set (slots_shown (length key) v cells ks vs) i
    (record { key = key; value = value; uses = uses_at (slots_shown (length key) v cells ks vs) i + 1 })) ev
    (shown-written key value cells ks vs i d (slice_get_within cells i c at)
    (l.key_room ∙ ap (λ n. length cells * n) (sym ek)) (l.value_room ∙ ap (λ n. length cells * n) (sym ev))
    ∙ ap (slice_set (slots_shown (length key) (length value) cells ks vs) i)
    (same_view _ key _ value _ _ (shown-used d.uses key some) (shown-used d.uses value some)
    (used ∙ ap (λ n. n + 1) (sym (shown-uses (length key) (length value) cells ks vs i c at))))))

-- a slot's bytes lie inside
pub inside-bytes : (len i n : ℕ) (bytes new : List ℕ) → i < n → length bytes ≡ n * len → length new ≡ len → i * length new + length new ≤ length bytes
inside-bytes len i n bytes new h e l =
    subst (λ m. i * length new + length new ≤ m) (ap (λ k. n * k) l ∙ sym e) (room (length new) i n h)

-- a value is written over
pub shown-stored : (kl vl : ℕ) (new : List ℕ) (cells : List SlotCell) (ks vs : List ℕ) (i : ℕ) (c : SlotCell) →
    slice_get cells i ≡ Some c → (c.uses ≡ 0 → ⊥) → length new ≡ vl → length vs ≡ length cells * vl →
    slots_shown kl vl cells ks (with_block i new vs) ≡ slice_set (slots_shown kl vl cells ks vs) i
    (record {
      key = key_at (slots_shown kl vl cells ks vs) i;
      value = new;
      uses =
          uses_at (slots_shown kl vl cells ks vs) i;
    })
shown-stored kl vl new cells ks vs i c at some e lv =
    subst (λ v. slots_shown kl v cells ks (with_block i new vs) ≡ slice_set (slots_shown kl v cells ks vs) i
    (record {
      key = key_at (slots_shown kl v cells ks vs) i;
      value = new;
      uses =
          uses_at (slots_shown kl v cells ks vs) i;
    })) e
    (stored cells ks vs i at (lv ∙ ap (λ n. length cells * n) (sym e)))
  where
    stored : (cells : List SlotCell) (ks vs : List ℕ) (i : ℕ) → slice_get cells i ≡ Some c → length vs ≡ length cells * length new →
        slots_shown kl (length new) cells ks (with_block i new vs) ≡ slice_set
        (slots_shown kl (length new) cells ks vs) i
        (record {
          key = key_at (slots_shown kl (length new) cells ks vs) i;
          value = new;
          uses =
              uses_at (slots_shown kl (length new) cells ks vs) i;
        })
    stored [] ks vs i at lv = absurd (none-some c at)
    stored (b ∷ cells) ks vs zero at lv =
        let used : b.uses ≡ 0 → ⊥ = λ z. some (ap (λ (x : SlotCell). x.uses) (sym (same_Some b c at)) ∙ z) in
        ap (λ l. record { key = shown_bytes b.uses (take kl ks); value = shown_bytes b.uses l; uses = b.uses }
        ∷ slots_shown kl (length new) cells (drop kl ks) (drop (length new) (with_block 0 new vs)))
        (first-here new vs)
        ∙ (ap (λ l. record { key = shown_bytes b.uses (take kl ks); value = l; uses = b.uses }
        ∷ slots_shown kl (length new) cells (drop kl ks) (drop (length new) (with_block 0 new vs)))
        (shown-used b.uses new used)
        ∙ ap (λ l. record { key = shown_bytes b.uses (take kl ks); value = new; uses = b.uses }
        ∷ slots_shown kl (length new) cells (drop kl ks) l) (rest-here new vs))
    stored (b ∷ cells) ks vs (suc i) at lv =
        let r : length new ≤ length vs = omega (arith, times-suc (length cells) (length new)) in
        let lv' : length (drop (length new) vs) ≡ length cells * length new =
        omega (arith, times-suc (length cells) (length new), length-drop (length new) vs) in
        ap (λ l. record { key = shown_bytes b.uses (take kl ks); value = shown_bytes b.uses l; uses = b.uses }
        ∷ slots_shown kl (length new) cells (drop kl ks) (drop (length new) (with_block (suc i) new vs)))
        (first-past new vs i r)
        ∙ (ap (λ l. record {
          key = shown_bytes b.uses (take kl ks);
          value = shown_bytes b.uses (take (length new) vs);
          uses = b.uses;
        } ∷ slots_shown kl (length new) cells (drop kl ks) l) (rest-past new vs i r)
        ∙ ap (λ l. record {
          key = shown_bytes b.uses (take kl ks);
          value = shown_bytes b.uses (take (length new) vs);
          uses = b.uses;
        } ∷ l) (stored cells (drop kl ks) (drop (length new) vs) i at lv'))

-- a taken slot was used
pub used_of : (cells : List SlotCell) (first last : Option ℕ) (limit i : ℕ) → AreCellsKept cells first last limit →
    IsTakenCell cells first i → (c : SlotCell) × (slice_get cells i ≡ Some c) × (c.uses ≡ 0 → ⊥)
used_of cells first last limit i k h =
    let t = taken_cell cells first last limit i k h in
    let g : t.0.generation + taken_count t.0.standing ≤ t.0.uses = k.given i t.0 t.1 in
    let one : taken_count t.0.standing ≡ 1 = ap taken_count t.2 in
    (t.0, t.1, λ z. absurd (omega arith))

pub shown-length : (n len : ℕ) (bytes : List ℕ) → length bytes ≤ len → length (shown_bytes n bytes) ≤ len
shown-length zero len bytes h = omega arith
shown-length (suc n) len bytes h = h

pub block-length : (len i : ℕ) (bytes : List ℕ) → length (block len i bytes) ≤ len
block-length len i bytes = omega (arith, length-take len (drop (i * len) bytes))

pub block-full : (len i : ℕ) (bytes : List ℕ) → i * len + len ≤ length bytes → length (block len i bytes) ≡ len
block-full len i bytes h = length-take-le len (drop (i * len) bytes) (omega (arith, length-drop (i * len) bytes))

-- what a taken slot's value is
pub value_is : (kl vl limit : ℕ) (cells : List SlotCell) (first last : Option ℕ) (ks vs : List ℕ) (i : ℕ)
    (a : ArenaState) → arena_state_of cells first ks vs kl vl limit ≡ a → AreCellsKept cells first last limit →
    IsTaken a i → value_at a.slots i ≡ block vl i vs
value_is kl vl limit cells first last ks vs i a e k t =
    let u = used_of cells first last limit i k (held_from kl vl limit cells first ks vs i (subst (λ (b : ArenaState). IsTaken b i) (sym e) t)) in
    ap (λ (b : ArenaState). value_at b.slots i) (sym e) ∙ (shown-value kl vl cells ks vs i u.0 u.1 ∙ shown-used u.0.uses (block vl i vs) u.2)

pub state-stored : (kl vl limit : ℕ) (cells : List SlotCell) (first last : Option ℕ) (ks vs : List ℕ) (i : ℕ)
    (a : ArenaState) (new : List ℕ) → arena_state_of cells first ks vs kl vl limit ≡ a →
    AreCellsKept cells first last limit → IsLaidOut cells ks vs kl vl → IsTaken a i → length new ≡ vl →
    arena_state_of cells first ks (with_block i new vs) kl vl limit ≡ with_slot_value a i new
state-stored kl vl limit cells first last ks vs i a new e k l t en =
    let u = used_of cells first last limit i k (held_from kl vl limit cells first ks vs i (subst (λ (b : ArenaState). IsTaken b i) (sym e) t)) in
    ap (λ s. state_with s cells (free_of cells first) kl vl limit) (shown-stored kl vl new cells ks vs i u.0 u.1 u.2 en l.value_room)
    ∙ ap (λ (b : ArenaState). with_slot_value b i new) e

-- a slot's bytes are no longer than the arena's keys and values
pub key-short : (kl vl limit : ℕ) (cells : List SlotCell) (first : Option ℕ) (ks vs : List ℕ) (i : ℕ) (a : ArenaState)
    → arena_state_of cells first ks vs kl vl limit ≡ a → i < length cells → length (key_at a.slots i) ≤ kl
key-short kl vl limit cells first ks vs i a e h =
    let c = get-below cells i h in
    subst (λ (l : List ℕ). length l ≤ kl) (sym (shown-key kl vl cells ks vs i c.0 c.1) ∙ ap (λ (b : ArenaState). key_at b.slots i) e)
    (shown-length c.0.uses kl (block kl i ks) (block-length kl i ks))

pub value-short : (kl vl limit : ℕ) (cells : List SlotCell) (first : Option ℕ) (ks vs : List ℕ) (i : ℕ)
    (a : ArenaState) → arena_state_of cells first ks vs kl vl limit ≡ a → i < length cells →
    length (value_at a.slots i) ≤ vl
value-short kl vl limit cells first ks vs i a e h =
    let c = get-below cells i h in
    subst (λ (l : List ℕ). length l ≤ vl) (sym (shown-value kl vl cells ks vs i c.0 c.1) ∙ ap (λ (b : ArenaState). value_at b.slots i) e)
    (shown-length c.0.uses vl (block vl i vs) (block-length vl i vs))

pub generation_is : (kl vl limit : ℕ) (cells : List SlotCell) (first : Option ℕ) (ks vs : List ℕ) (i : ℕ)
    (a : ArenaState) (c : SlotCell) → arena_state_of cells first ks vs kl vl limit ≡ a → slice_get cells i ≡ Some c →
    generation_at a i ≡ Some c.generation
generation_is kl vl limit cells first ks vs i a c e at =
    ap (λ (b : ArenaState). generation_at b i) (sym e) ∙ get-map (λ (z : SlotCell). z.generation) cells i c at

pub generation_past : (kl vl limit : ℕ) (cells : List SlotCell) (first : Option ℕ) (ks vs : List ℕ) (i : ℕ)
    (a : ArenaState) (g : ℕ) → arena_state_of cells first ks vs kl vl limit ≡ a → length cells ≤ i →
    generation_at a i ≢ Some g
generation_past kl vl limit cells first ks vs i a g e h there =
    let in_ : i < length (map (λ (z : SlotCell). z.generation) cells) = slice_get_within _ i g (ap (λ (b : ArenaState). generation_at b i) e ∙ there) in
    let l : length (map (λ (z : SlotCell). z.generation) cells) ≡ length cells = length-map cells (λ (z : SlotCell). z.generation) in
    absurd (omega arith)

pub inside_to : (kl vl limit : ℕ) (cells : List SlotCell) (first : Option ℕ) (ks vs : List ℕ) (i : ℕ) (a : ArenaState)
    → arena_state_of cells first ks vs kl vl limit ≡ a → i < length cells → i < length a.slots
inside_to kl vl limit cells first ks vs i a e h = subst (λ (b : ArenaState). i < length b.slots) e (subst (λ n. i < n) (sym (length-shown kl vl cells ks vs)) h)

-- a slot past the last has the key of no bytes
pub past_to : (kl vl limit : ℕ) (cells : List SlotCell) (first : Option ℕ) (ks vs : List ℕ) (i : ℕ) (a : ArenaState)
    → arena_state_of cells first ks vs kl vl limit ≡ a → length cells ≤ i → key_at a.slots i ≡ []
past_to kl vl limit cells first ks vs i a e h = subst (λ (b : ArenaState). key_at b.slots i ≡ []) e
    (ap key_in (slice_get_past (slots_shown kl vl cells ks vs) i (subst (λ n. n ≤ i) (sym (length-shown kl vl cells ks vs)) h)))
