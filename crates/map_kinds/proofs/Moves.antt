-- Each call of a part keeps the parts fitting the arena, and its slots in their standings.
use Rattle.bpf_model.proofs.Prelude.{◌≡◌, ◌≢◌, ◌∙◌, ℕ, ◌+◌, ◌<◌, ◌≤◌, List, [], ◌∷◌, ◌++◌, length, Option, Some, None, refl, sym, ap, arith, cond, eqb, subst}
use Rattle.bpf_model.proofs.Prelude.{get, insert, remove, Queues, turned, KeyMap, none-some, same_Some, length-set, get-set_other, option_flatten}
use Rattle.element_store.proofs.Prelude.{ArenaState, IsTaken, LinksOf, SameAt, is_at, indexed, times_in, key_at, taken, given_back, with_slot_value}
use Rattle.element_store.proofs.Prelude.{DeferredFits, deferred_lists, queued, retired_lists, reaped_lists, link_at}
use Rattle.element_store.proofs.Counts.{one_same, one_other, times-append}
use Rattle.element_store.proofs.Views.{taken_same}
use Rattle.element_store.specs.declared.deferred.DeferredSlots.{DeferredSlots}
use Rattle.element_store.proofs.DeferredFrame.{deferred-frame}
use Rattle.map_kinds.specs.Parted.{PartsView, standings, IsParted, IsInHand}
use Rattle.map_kinds.proofs.Parting.{standing-taken, parted-links, parted-put, parted-removed, removed-held, parted-retired, parted-turned, parted-reaped}
use Rattle.map_kinds.proofs.Parting.{parted-taken, taken-held, taken-indexed, other-key, taken-key, parted-given, written-key, parted-written}
use Rattle.hash_index.proofs.Runs.{remove_absent}

-- an arena that is another but for its links has the same slots in hand
pub held-links : (m : KeyMap) (q : Queues) (a b : ArenaState) (j : ℕ) → b ≡ record a { links = b.links } →
    IsInHand (record { index = m; lists = q; arena = a }) j → IsInHand (record { index = m; lists = q; arena = b }) j
held-links m q a b j e h = record {
  taken = taken_same a b j e h.taken;
  unlinked = ap (λ (z : ArenaState). indexed m z.slots j) e ∙ h.unlinked;
  unlisted = h.unlisted;
}

-- slots whose links have not changed are as they were
links-same : (own mine : ℕ → ℕ) (a b : ArenaState) → LinksOf own a b → ((j : ℕ) → 0 < mine j → own j ≡ 0) →
    ((j : ℕ) → 0 < mine j → IsTaken a j) → SameAt mine a b
links-same own mine a b l apart taken = record {
  long = ap (λ (z : ArenaState). length z.slots) l.rest;
  key = λ j h. ap (λ (z : ArenaState). key_at z.slots j) l.rest;
  link = λ j h. l.others j (apart j h);
  taken = λ j h. taken_same a b j l.rest (taken j h);
}

abbrev parts_of : KeyMap → Queues → ArenaState → PartsView
parts_of m q a = record { index = m; lists = q; arena = a }

-- arenas that are one but at a slot where nothing stands
module _ (a b : ArenaState) (m : KeyMap) (q : Queues) (pb : IsParted (parts_of m q b)) (long : length b.slots ≡ length a.slots)
    (same : (j : ℕ) → indexed m b.slots j ≡ indexed m a.slots j)
    (key : (j : ℕ) → 0 < indexed m a.slots j + queued q j → key_at b.slots j ≡ key_at a.slots j)
    (link : (j : ℕ) → 0 < indexed m a.slots j + queued q j → link_at b.links j ≡ link_at a.links j) where
  agree : (own : ℕ → ℕ) → ((j : ℕ) → 0 < own j → 0 < indexed m a.slots j + queued q j) → SameAt own a b
  agree own g = record {
    long = long;
    key = λ j o. key j (g j o);
    link = λ j o. link j (g j o);
    taken = λ j o. standing-taken (parts_of m q b) j pb (let s = same j in let z = g j o in omega arith);
  }

  both-agree : SameAt (indexed m a.slots) a b × SameAt (queued q) a b
  both-agree = (agree (indexed m a.slots) (λ j o. omega arith), agree (queued q) (λ j o. omega arith))

module _ (X : Type 0) (contents : X → ArenaState → KeyMap) (fits_index : X → ArenaState → Type 0)
    (index_frame : (x : X) (a b : ArenaState) → fits_index x a → SameAt (indexed (contents x a) a.slots) a b →
    fits_index x b × (contents x b ≡ contents x a)) where
  abbrev view : X → DeferredSlots → ArenaState → PartsView
  view x y a = parts_of (contents x a) (deferred_lists y a) a

  abbrev Fits : X → DeferredSlots → ArenaState → Type 0
  Fits x y a = (fits_index x a × DeferredFits y a) × IsParted (view x y a)

  -- parts that fit and read as these
  abbrev Settles : X → DeferredSlots → ArenaState → PartsView → Type 0
  Settles x y b s = Fits x y b × (view x y b ≡ s)

  settle : (x : X) (y : DeferredSlots) (b : ArenaState) (m : KeyMap) (q : Queues) → fits_index x b → DeferredFits y b
      → contents x b ≡ m → deferred_lists y b ≡ q → IsParted (parts_of m q b) → Settles x y b (parts_of m q b)
  settle x y b m q fi fl ei el p =
      let e = ap (λ (z : KeyMap). parts_of z (deferred_lists y b) b) ei ∙ ap (λ (z : Queues). parts_of m z b) el in
      (((fi, fl), subst IsParted (sym e) p), e)

  -- the index and the lists, where links of other slots have changed
  index-kept : (x : X) (y : DeferredSlots) (a b : ArenaState) (own : ℕ → ℕ) → Fits x y a → LinksOf own a b →
      ((j : ℕ) → 0 < indexed (contents x a) a.slots j → own j ≡ 0) → fits_index x b × (contents x b ≡ contents x a)
  index-kept x y a b own w l apart = index_frame x a b w.0.0 (links-same own (indexed (contents x a) a.slots) a b l apart
      (λ j g. standing-taken (view x y a) j w.1 (omega arith)))

  lists-kept : (x : X) (y : DeferredSlots) (a b : ArenaState) (own : ℕ → ℕ) → Fits x y a → LinksOf own a b →
      ((j : ℕ) → 0 < queued (deferred_lists y a) j → own j ≡ 0) → DeferredFits y b × (deferred_lists y b ≡ deferred_lists y a)
  lists-kept x y a b own w l apart = deferred-frame y a b w.0.1 (links-same own (queued (deferred_lists y a)) a b l apart
      (λ j g. standing-taken (view x y a) j w.1 (omega arith)))

  -- a slot stands once
  once : (x : X) (y : DeferredSlots) (a : ArenaState) (j : ℕ) → Fits x y a → standings (view x y a) j ≤ 1
  once x y a j w = w.1.once j

  unlinked-step : (x x' : X) (y : DeferredSlots) (a b : ArenaState) (i : ℕ) → Fits x y a →
      get (contents x a) (key_at a.slots i) ≡ Some i → contents x' b ≡ remove (contents x a) (key_at a.slots i) →
      fits_index x' b → LinksOf (indexed (contents x a) a.slots) a b →
      Settles x' y b (parts_of (remove (contents x a) (key_at a.slots i)) (deferred_lists y a) b) × IsInHand (view x' y b) i
  unlinked-step x x' y a b i w found e f l =
      let m = remove (contents x a) (key_at a.slots i) in
      let fd = lists-kept x y a b (indexed (contents x a) a.slots) w l (λ j g. let o = once x y a j w in omega arith) in
      let pb = parted-links m (deferred_lists y a) a b l.rest (parted-removed (view x y a) i w.1 found) in
      let s = settle x' y b m (deferred_lists y a) f fd.0 e fd.1 pb in (
        s,
        subst (λ (z : PartsView). IsInHand z i) (sym s.1)
            (held-links m (deferred_lists y a) a b i l.rest (removed-held (view x y a) i w.1 found)),
      )

  -- a slot that is held is none of those of a count that leaves it out
  other-slot : (own : ℕ → ℕ) (i : ℕ) → own i ≡ 0 → (j : ℕ) → 0 < own j → cond {A = ℕ} (eqb i j) 1 0 ≡ 0
  other-slot own i none j g = one_other i j (λ s. let z : 0 < own i = subst (λ k. 0 < own k) (sym s) g in absurd (omega arith))

  pub retired-step : (x : X) (y y' : DeferredSlots) (a b : ArenaState) (i : ℕ) → Fits x y a → IsInHand (view x y a) i →
      deferred_lists y' b ≡ retired_lists (deferred_lists y a) i → DeferredFits y' b → LinksOf (queued (deferred_lists y' b)) a b →
      Settles x y' b (parts_of (contents x a) (retired_lists (deferred_lists y a) i) b)
  retired-step x y y' a b i w held e f l0 =
      let q = retired_lists (deferred_lists y a) i in
      let l : LinksOf (queued q) a b = subst (λ z. LinksOf (queued z) a b) e l0 in
      let more : (j : ℕ) → times_in j ((deferred_lists y a).next ++ i ∷ []) ≡ times_in j (deferred_lists y a).next +
      (cond {A = ℕ} (eqb i j) 1 0 + 0) = λ j. times-append j (deferred_lists y a).next (i ∷ []) in
      let fi = index-kept x y a b (queued q) w l (λ j g. let o = once x y a j w in
      let c = other-slot (indexed (contents x a) a.slots) i held.unlinked j g in omega (arith, more j)) in
      settle x y' b (contents x a) q fi.0 f fi.1 e (parted-links (contents x a) q a b l.rest (parted-retired (view x y a) i w.1 held))

  -- a call of the lists that links none but their own slots, and leaves q of them
  moved-step : (x : X) (y y' : DeferredSlots) (a b : ArenaState) (q : Queues) → Fits x y a → IsParted (parts_of (contents x a) q a) →
      deferred_lists y' b ≡ q → DeferredFits y' b → LinksOf (queued (deferred_lists y a)) a b → Settles x y' b (parts_of (contents x a) q b)
  moved-step x y y' a b q w parted e f l =
      let fi = index-kept x y a b (queued (deferred_lists y a)) w l (λ j g. let o = once x y a j w in omega arith) in
      settle x y' b (contents x a) q fi.0 f fi.1 e (parted-links (contents x a) q a b l.rest parted)

  pub turned-step : (x : X) (y y' : DeferredSlots) (a b : ArenaState) → Fits x y a → deferred_lists y' b ≡ turned (deferred_lists y a) →
      DeferredFits y' b → LinksOf (queued (deferred_lists y a)) a b → Settles x y' b (parts_of (contents x a) (turned (deferred_lists y a)) b)
  turned-step x y y' a b w e f l = moved-step x y y' a b (turned (deferred_lists y a)) w (parted-turned (view x y a) w.1) e f l

  pub reaped-step : (x : X) (y y' : DeferredSlots) (a b : ArenaState) → Fits x y a → deferred_lists y' b ≡ reaped_lists (deferred_lists y a) →
      DeferredFits y' b → LinksOf (queued (deferred_lists y a)) a b → Settles x y' b (parts_of (contents x a) (reaped_lists (deferred_lists y a)) b)
  reaped-step x y y' a b w e f l = moved-step x y y' a b (reaped_lists (deferred_lists y a)) w (parted-reaped (view x y a) w.1) e f l

  -- an arena in which the slots that stand are as they were
  kept-step : (x : X) (y : DeferredSlots) (a b : ArenaState) → Fits x y a → IsParted (parts_of (contents x a) (deferred_lists y a) b) →
      SameAt (indexed (contents x a) a.slots) a b × SameAt (queued (deferred_lists y a)) a b →
      Settles x y b (parts_of (contents x a) (deferred_lists y a) b)
  kept-step x y a b w parted same =
      let fi = index_frame x a b w.0.0 same.0 in
      let fd = deferred-frame y a b w.0.1 same.1 in
      settle x y b (contents x a) (deferred_lists y a) fi.0 fd.0 fi.1 fd.1 parted

  -- a slot that is taken is none of those that stand
  pub taken-agree : (x : X) (y : DeferredSlots) (a b : ArenaState) (i : ℕ) (rest key value : List ℕ) →
      IsParted (view x y a) → a.free ≡ i ∷ rest → b ≡ taken a i rest key value →
      SameAt (indexed (contents x a) a.slots) a b × SameAt (queued (deferred_lists y a)) a b
  taken-agree x y a b i rest key value h split e =
      let p = view x y a in
      let free : times_in i a.free ≡ cond {A = ℕ} (eqb i i) 1 0 + times_in i rest = ap (times_in i) split in
      let nowhere : (j : ℕ) → 0 < indexed (contents x a) a.slots j + queued (deferred_lists y a) j → j ≢ i = (λ j g s.
      let z : 0 < indexed (contents x a) a.slots i + queued (deferred_lists y a) i =
      subst (λ k. 0 < indexed (contents x a) a.slots k + queued (deferred_lists y a) k) s g in
      let o : standings p i ≤ 1 = h.once i in absurd (omega (arith, free, one_same i))) in
      subst (λ z. SameAt (indexed (contents x a) a.slots) a z × SameAt (queued (deferred_lists y a)) a z) (sym e)
      (both-agree a (taken a i rest key value) (contents x a) (deferred_lists y a) (parted-taken p i rest key value h split)
      (length-set a.slots i _) (taken-indexed p i rest key value h split)
      (λ j g. other-key p i rest key value h split j (nowhere j g))
      (λ j g. ap option_flatten (get-set_other a.links i j None (nowhere j g))))

  pub taken-step : (x : X) (y : DeferredSlots) (a b : ArenaState) (i : ℕ) (rest key value : List ℕ) → Fits x y a →
      a.free ≡ i ∷ rest → b ≡ taken a i rest key value →
      Settles x y b (parts_of (contents x a) (deferred_lists y a) b) × (IsInHand (view x y b) i × (key_at b.slots i ≡ key))
  taken-step x y a b i rest key value w split e =
      let p = view x y a in
      let pb = subst (λ (z : ArenaState). IsParted (parts_of (contents x a) (deferred_lists y a) z)) (sym e) (parted-taken p i rest key value w.1 split) in
      let s = kept-step x y a b w pb (taken-agree x y a b i rest key value w.1 split e) in
      let held = subst (λ (z : ArenaState). IsInHand (parts_of (contents x a) (deferred_lists y a) z) i) (sym e) (taken-held p i rest key value w.1 split) in
      (s, (subst (λ (z : PartsView). IsInHand z i) (sym s.1) held, ap (λ (z : ArenaState). key_at z.slots i) e ∙ taken-key p i rest key value w.1 split))

  -- a slot in hand is put in the place of the one that was found, which is in hand then
  pub put-step : (x x' : X) (y : DeferredSlots) (a b : ArenaState) (i : ℕ) (found : Option ℕ) → Fits x y a →
      IsInHand (view x y a) i → get (contents x a) (key_at a.slots i) ≡ found → contents x' b ≡ insert (contents x a) (key_at a.slots i) i →
      fits_index x' b → LinksOf (λ j. indexed (contents x a) a.slots j + is_at (Some i) j) a b →
      Settles x' y b (parts_of (insert (contents x a) (key_at a.slots i) i) (deferred_lists y a) b)
      × ((old : ℕ) → found ≡ Some old → IsInHand (view x' y b) old)
  put-step x x' y a b i found w held g e f l =
      let m = insert (contents x a) (key_at a.slots i) i in
      let fd = lists-kept x y a b (λ j. indexed (contents x a) a.slots j + is_at (Some i) j) w l (λ j g. let o = once x y a j w in
      let c = other-slot (queued (deferred_lists y a)) i held.unlisted j g in omega arith) in
      let q = parted-put (view x y a) i found w.1 held g in
      let s = settle x' y b m (deferred_lists y a) f fd.0 e fd.1 (parted-links m (deferred_lists y a) a b l.rest q.0) in
      (s, λ old o. subst (λ (z : PartsView). IsInHand z old) (sym s.1) (held-links m (deferred_lists y a) a b old l.rest (q.1 old o)))

  -- a key's slot, if there is one, leaves the index, and is in hand then
  pub removed-step : (x x' : X) (y : DeferredSlots) (a b : ArenaState) (key : List ℕ) (found : Option ℕ) → Fits x y a →
      get (contents x a) key ≡ found → contents x' b ≡ remove (contents x a) key → fits_index x' b → LinksOf (indexed (contents x a) a.slots) a b →
      Settles x' y b (parts_of (remove (contents x a) key) (deferred_lists y a) b) × ((i : ℕ) → found ≡ Some i → IsInHand (view x' y b) i)
  removed-step x x' y a b key None w g e f l =
      let m = remove (contents x a) key in
      let fd = lists-kept x y a b (indexed (contents x a) a.slots) w l (λ j g. let o = once x y a j w in omega arith) in
      let same = subst (λ (m : KeyMap). IsParted (parts_of m (deferred_lists y a) a)) (sym (remove_absent (contents x a) key g)) w.1 in
      (settle x' y b m (deferred_lists y a) f fd.0 e fd.1 (parted-links m (deferred_lists y a) a b l.rest same), λ i o. absurd (none-some i o))
  removed-step x x' y a b key (Some i) w g e f l =
      let k : key_at a.slots i ≡ key = w.1.keyed key i g in
      let u = unlinked-step x x' y a b i w (ap (get (contents x a)) k ∙ g) (e ∙ ap (remove (contents x a)) (sym k)) f l in (
        (u.0.0, u.0.1 ∙ ap (λ (q : List ℕ). parts_of (remove (contents x a) q) (deferred_lists y a) b) k),
        λ j o. subst (λ n. IsInHand (view x' y b) n) (same_Some i j o) u.1,
      )

  pub given-step : (x : X) (y : DeferredSlots) (a b : ArenaState) (i : ℕ) → Fits x y a → IsInHand (view x y a) i → b ≡ given_back a i →
      Settles x y b (parts_of (contents x a) (deferred_lists y a) b)
  given-step x y a b i w held e =
      let pt = parted-given (view x y a) i w.1 held in
      let ul : indexed (contents x a) a.slots i ≡ 0 = held.unlinked in
      let uq : queued (deferred_lists y a) i ≡ 0 = held.unlisted in
      let nowhere : (j : ℕ) → 0 < indexed (contents x a) a.slots j + queued (deferred_lists y a) j → j ≢ i = (λ j g s.
      let z : 0 < indexed (contents x a) a.slots i + queued (deferred_lists y a) i =
      subst (λ k. 0 < indexed (contents x a) a.slots k + queued (deferred_lists y a) k) s g in absurd
      (omega arith)) in
      let Kept : ArenaState → Type 0 = λ z. SameAt (indexed (contents x a) a.slots) a z × SameAt (queued (deferred_lists y a)) a z in
      kept-step x y a b w (subst (λ (z : ArenaState). IsParted (parts_of (contents x a) (deferred_lists y a) z)) (sym e) pt)
      (subst Kept (sym e) (both-agree a (given_back a i) (contents x a) (deferred_lists y a) pt refl (λ j. refl) (λ j g. refl)
      (λ j g. ap option_flatten (get-set_other a.links i j None (nowhere j g)))))

  pub written-step : (x : X) (y : DeferredSlots) (a b : ArenaState) (i : ℕ) (value : List ℕ) → Fits x y a →
      i < length a.slots → b ≡ with_slot_value a i value → Settles x y b (parts_of (contents x a) (deferred_lists y a) b)
  written-step x y a b i value w in_ e =
      let pt = parted-written (view x y a) i value w.1 in_ in
      let Kept : ArenaState → Type 0 = λ z. SameAt (indexed (contents x a) a.slots) a z × SameAt (queued (deferred_lists y a)) a z in
      kept-step x y a b w (subst (λ (z : ArenaState). IsParted (parts_of (contents x a) (deferred_lists y a) z)) (sym e) pt)
      (subst Kept (sym e) (both-agree a (with_slot_value a i value) (contents x a) (deferred_lists y a) pt (length-set a.slots i _)
      (λ j. ap (λ k. is_at (get (contents x a) k) j) (written-key a.slots i j value in_))
      (λ j g. written-key a.slots i j value in_) (λ j g. refl)))
