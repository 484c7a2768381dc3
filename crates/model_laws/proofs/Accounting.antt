-- Each map slot is free, holds an element that isn't reclaimed, or is worn out.
use Rattle.bpf_model.proofs.Prelude.{◌≡◌, ◌≢◌, ℕ, zero, suc, ◌+◌, ◌*◌, ◌<◌, ◌≤◌, List, [], ◌∷◌, ◌++◌, length, replicate, Option, Some, None, inl, inr, refl}
use Rattle.bpf_model.proofs.Prelude.{sym, ap, ◌∙◌, arith, subst, Result, Bool, true, false, slice_get, slice_set, ◌↔◌, ◌==◌, not, if◌then◌else◌, sum_by}
use Rattle.bpf_model.proofs.Prelude.{add-mul, cases_eq, eqb-true, eq-eqb, false≢true, and_parts, sum_by-cons, sum_by-append, sum_by_push, sum_by-replicate}
use Rattle.bpf_model.proofs.Prelude.{length-append, length-replicate, nil_from_length, helper_of, Section, Element, Linked, is_reclaimed, Unlinked, Reclaimed}
use Rattle.bpf_model.proofs.Prelude.{unlinked, with_life, with_value, set_to, newborn, overwritten, MapState, Store, new_map, with_bag, with_elements}
use Rattle.bpf_model.proofs.Prelude.{with_given, given_of, returned, most_births, LooksUp, Replaces, Settles, Updates, Removes, Deletes, Writes, RemovesFrom}
use Rattle.bpf_model.proofs.Prelude.{Reclaims, Run, Machine, Loaded, environment, open_sections, start_machine, Schedule, IsScheduledHistory, start_schedule}
use Rattle.bpf_model.proofs.Prelude.{times, IsReachedSchedule, IsShape, AreShapes, slots_of_shape, new_bag, all_new_elements, get-append_cases, get-set_cases}
use Rattle.bpf_model.proofs.Prelude.{last_of}
use Rattle.model_laws.proofs.Prelude.{Insn, Call, Helper, Errno, Event, Answer, Given, Free, Worn, MapShape, Value, MapKind, Hash, Array, StepsByKind}
use Rattle.model_laws.proofs.Prelude.{HelperStep, kept_count, born_count, IsFull}
use Rattle.std.proofs.Math.Numerals.{lt_of_le_of_ne}
use Rattle.bpf_model.specs.declared.insn.CallKind.TheVariants as kinds
use Rattle.bpf_model.specs.declared.call.Helper.TheVariants as helpers
use Rattle.bpf_model.specs.MapState.{TakesOut}
use Rattle.model_laws.proofs.Changing.{StoreChange, ByUpdate, ByDelete, ByReclaim, Change, Still, Begins, Steps, Stores, Leaves, change}
use Rattle.model_laws.proofs.Stores.{Touches, touches-found, touches-acts, shape-given}
use Rattle.bpf_model.specs.Shapes.{IsArrayShape}
use Rattle.model_laws.proofs.NewElements.{new_count, new-once, fresh-counts, born-new}
use Rattle.model_laws.proofs.Counting.{map-back, times-append, times-first, times-other}
use Rattle.model_laws.proofs.Tallies.{one_of, count-set, sum-set, uses_of, is_kept, of-same, of-other, kept-touched, kept-born, kept-reclaimed, kept-kinds}
use Rattle.model_laws.proofs.Tallies.{kept_uses, uses-touched, born-touched, kept-was, kept-is, uses-here, uses-away, uses-born, born-born, uses-reclaimed}
use Rattle.model_laws.proofs.Tallies.{born-reclaimed, uses-most}
use Rattle.model_laws.proofs.Requests.{run_by_kind}

abbrev total : List ℕ → ℕ
total counts = sum_by (λ c. c) counts

-- The map slots of a map, and the uses of all of them: each birth was one. No map slot is used more often than the map's shape allows.
pub record AddsUp (k : ℕ) (es : List Element) (m : MapState) : Type 0 where
  pub slots : length m.bag + kept_count k es + m.worn ≡ m.shape.entries + m.shape.spare
  pub births : total m.bag + kept_uses k es + m.worn * m.shape.reuse_limit ≡ born_count k es
  pub free : 1 ≤ m.shape.reuse_limit → (c : ℕ) → 0 < times c m.bag → c < m.shape.reuse_limit
  pub kept : 1 ≤ m.shape.reuse_limit → (n : ℕ) (e : Element) → slice_get es n ≡ Some e → is_kept k e ≡ true → e.uses ≤ m.shape.reuse_limit

abbrev Accounted : Store → Type 0
Accounted s = (k : ℕ) (m : MapState) → slice_get s.maps k ≡ Some m → AddsUp k s.elements m

-- the start
unused-free : (n c : ℕ) → 0 < times c (replicate n 0) → c ≡ 0
unused-free zero c h = absurd (omega arith)
unused-free (suc n) c h = elim (cases_eq 0 c) [
  | inl same ↦ sym same
  | inr ne ↦ let t = times-other c 0 (replicate n 0) ne in unused-free n c (omega arith)
]

hash-adds : (k : ℕ) (shape : MapShape) (es : List Element) → born_count k es ≡ 0 → kept_count k es ≡ 0 →
    kept_uses k es ≡ 0 → ((n : ℕ) (e : Element) → slice_get es n ≡ Some e → e.uses ≡ 1) →
    AddsUp k es (record { shape = shape; bag = replicate (slots_of_shape shape) 0; worn = 0 })
hash-adds k shape es born kept uses ones = record {
  slots = let free : length (replicate {A = ℕ} (shape.entries + shape.spare) 0) ≡ shape.entries + shape.spare =
      length-replicate (shape.entries + shape.spare) 0 in omega arith;
  births = let a : total (replicate (shape.entries + shape.spare) 0) ≡ (shape.entries + shape.spare) * 0 =
      sum_by-replicate (λ c. c) (shape.entries + shape.spare) 0 in omega arith;
  free = λ some c h. let z = unused-free (shape.entries + shape.spare) c h in omega arith;
  kept = λ some n e at kept. let one = ones n e at in omega arith;
}

array-adds : (k : ℕ) (shape : MapShape) (es : List Element) → IsArrayShape shape → born_count k es ≡ shape.entries →
    kept_count k es ≡ shape.entries → kept_uses k es ≡ shape.entries →
    ((n : ℕ) (e : Element) → slice_get es n ≡ Some e → e.uses ≡ 1) →
    AddsUp k es (record { shape = shape; bag = []; worn = 0 })
array-adds k shape es array born kept uses ones = record {
  slots = let spare = array.spare in omega arith;
  births = omega arith;
  free = λ some c h. absurd (omega arith);
  kept = λ some n e at kept. let one = ones n e at in omega arith;
}

new-map-adds : (k : ℕ) (kind : MapKind) (shape : MapShape) (es : List Element) → shape.kind ≡ kind → IsShape shape →
    born_count k es ≡ new_count kind shape → kept_count k es ≡ born_count k es → kept_uses k es ≡ born_count k es →
    ((n : ℕ) (e : Element) → slice_get es n ≡ Some e → e.uses ≡ 1) →
    AddsUp k es (record { shape = shape; bag = new_bag kind shape; worn = 0 })
new-map-adds k Hash shape es is limits born kept uses ones = hash-adds k shape es born (kept ∙ born) (uses ∙ born) ones
new-map-adds k Array shape es is limits born kept uses ones = array-adds k shape es (limits.array is) born (kept ∙ born) (uses ∙ born) ones

accounted-start : (shapes : List MapShape) (programs : List Loaded) → AreShapes shapes → Accounted (start_machine shapes programs).store
accounted-start shapes programs limits k m at =
    let b = map-back new_map shapes k m at in
    let es : List Element = all_new_elements 0 shapes in
    let ones = new-once 0 shapes in
    let counts = fresh-counts k es ones in
    subst (AddsUp k es) b.2 (new-map-adds k b.0.kind b.0 es refl (limits k b.0 b.1)
    (born-new 0 shapes k k b.0 b.1 (omega arith)) counts.0 counts.1 (λ n e h. (ones n e h).1))

-- what a step keeps
abbrev Accounts : Store → Store → Type 0
Accounts s new = Accounted s → Accounted new

accounts-same : (s new : Store) → new ≡ s → Accounts s new
accounts-same s new e h = subst Accounted (sym e) h

adds-touched : (opened : List Section) (es fs : List Element) (k : ℕ) (m : MapState) → Touches false opened es fs → AddsUp k es m → AddsUp k fs m
adds-touched opened es fs k m t a = record {
  slots = ap (λ n. length m.bag + n + m.worn) (kept-touched opened es fs t k) ∙ a.slots;
  births = ap (λ n. total m.bag + n + m.worn * m.shape.reuse_limit) (uses-touched opened es fs t k) ∙ (a.births ∙ sym (born-touched opened es fs t k));
  free = a.free;
  kept = λ some n f at kept. let x = kept-was opened es fs k n f t at kept in subst (λ u. u ≤ m.shape.reuse_limit) (sym x.3) (a.kept some n x.0 x.1 x.2);
}

accounts-elements : (opened : List Section) (s new : Store) (es : List Element) → Touches false opened s.elements es → new ≡ with_elements es s → Accounts s new
accounts-elements opened s new es t e h = subst Accounted (sym e) (λ k m at. adds-touched opened s.elements es k m t (h k m at))

-- a birth takes a map slot out of the bag
taken-one : (old new : List ℕ) (count : ℕ) → TakesOut old count new → length old ≡ length new + 1
taken-one old new count t =
    let a : length old ≡ length (t.before ++ count ∷ t.after) = ap length t.old_is in
    let b : length new ≡ length (t.before ++ t.after) = ap length t.new_is in
    let c = length-append t.before (count ∷ t.after) in
    let d = length-append t.before t.after in
    omega arith

-- what a bag loses when a count is taken out
module _ (old new : List ℕ) (count : ℕ) (t : TakesOut old count new) where
  taken-total : total old ≡ total new + count
  taken-total =
      let a : total old ≡ total (t.before ++ count ∷ t.after) = ap total t.old_is in
      let b : total new ≡ total (t.before ++ t.after) = ap total t.new_is in
      let c = sum_by-append (λ (c : ℕ). c) t.before (count ∷ t.after) in
      let d = sum_by-append (λ (c : ℕ). c) t.before t.after in
      let e = sum_by-cons (λ (c : ℕ). c) count t.after in
      omega arith

  taken-times : (c : ℕ) → times c new ≤ times c old
  taken-times c =
      let a : times c old ≡ times c (t.before ++ count ∷ t.after) = ap (times c) t.old_is in
      let b : times c new ≡ times c (t.before ++ t.after) = ap (times c) t.new_is in
      let d = times-append c t.before (count ∷ t.after) in
      let e = times-append c t.before t.after in
      let f : times c t.after ≤ times c (count ∷ t.after) = elim (cases_eq count c) [
        | inl same ↦ let x = times-first c count t.after same in omega arith
        | inr ne ↦ let x = times-other c count t.after ne in omega arith
      ] in
      omega arith

  taken-there : 0 < times count old
  taken-there =
      let a : times count old ≡ times count (t.before ++ count ∷ t.after) = ap (times count) t.old_is in
      let d = times-append count t.before (count ∷ t.after) in
      let e = times-first count count t.after refl in
      omega arith

module _ (s : Store) (map : ℕ) (m : MapState) (h : Accounted s) (opened : List Section) (mid : List Element)
    (key value bag : List ℕ) (count : ℕ) (there : slice_get s.maps map ≡ Some m) (taken : TakesOut m.bag count bag)
    (touched : Touches false opened s.elements mid) where
  abbrev nb : Element
  nb = newborn map key value count

  abbrev es : List Element
  es = mid ++ nb ∷ []

  before : (k : ℕ) (state : MapState) → slice_get s.maps k ≡ Some state → AddsUp k mid state
  before k state at = adds-touched opened s.elements mid k state touched (h k state at)

  born-here : AddsUp map es (with_bag bag m)
  born-here =
      let a = before map m there in
      let one = kept-born mid nb map refl in
      let same = of-same map in
      let uses = uses-born mid nb map in
      let own = uses-here map nb Linked refl refl refl in
      let births = born-born mid nb map in
      let less = taken-one m.bag bag count taken in
      let sum = taken-total m.bag bag count taken in
      let old : total m.bag + kept_uses map mid + m.worn * m.shape.reuse_limit ≡ born_count map mid = a.births in
      let slots : length m.bag + kept_count map mid + m.worn ≡ m.shape.entries + m.shape.spare = a.slots in
      record {
        slots = omega arith;
        births = omega arith;
        free = λ some c h. let t = taken-times m.bag bag count taken c in a.free some c (omega arith);
        kept = λ some n e at kept. elim (get-append_cases mid nb n e at) [
          | inl x ↦ a.kept some n e x kept
          | inr x ↦
              let low = a.free some count (taken-there m.bag bag count taken) in
              let is : count + 1 ≡ e.uses = ap (λ (z : Element). z.uses) x.1 in
              omega arith
        ];
      }

  born-elsewhere : (k : ℕ) (state : MapState) → k ≢ map → slice_get s.maps k ≡ Some state → AddsUp k es state
  born-elsewhere k state away at =
      let a = before k state at in
      let one = kept-born mid nb k refl in
      let none = of-other map k (λ same. away (sym same)) in
      let uses = uses-born mid nb k in
      let own = uses-away k nb (λ same. away (sym same)) in
      let births = born-born mid nb k in
      let old : total state.bag + kept_uses k mid + state.worn * state.shape.reuse_limit ≡ born_count k mid = a.births in
      let slots : length state.bag + kept_count k mid + state.worn ≡ state.shape.entries + state.shape.spare = a.slots in
      record {
        slots = omega arith;
        births = omega arith;
        free = a.free;
        kept = λ some n e g kept. elim (get-append_cases mid nb n e g) [
          | inl x ↦ a.kept some n e x kept
          | inr x ↦ absurd (away (sym (eqb-true e.map k (and_parts (not (is_reclaimed e.life)) (e.map == k) kept).1) ∙ ap (λ (z : Element). z.map) (sym x.1)))
        ];
      }

  accounts-born : (new : Store) → new ≡ record { elements = es; maps = slice_set s.maps map (with_bag bag m) } → Accounted new
  accounts-born new e =
      let holds : Accounted (record { elements = es; maps = slice_set s.maps map (with_bag bag m) }) = λ k state at.
      elim (get-set_cases s.maps map k (with_bag bag m) state at) [
        | inl x ↦ subst (λ z. AddsUp z es state) (sym x.0) (subst (AddsUp map es) x.1 born-here)
        | inr x ↦ born-elsewhere k state x.0 x.1
      ] in
      subst Accounted (sym e) holds

accounts-replaces : (s : Store) (opened : List Section) (map : ℕ) (m : MapState) (key value : List ℕ)
    (found : Option ℕ) (new : Store) → slice_get s.maps map ≡ Some m → LooksUp s map key found →
    Replaces s opened map m key value found new → Accounts s new
accounts-replaces s opened map m key value found new there l r h =
    accounts-born s map m h opened (unlinked opened s.elements found) key value r.bag r.count there r.taken
    (touches-found false opened s map key found l) new r.new_is

-- another value changes no count
adds-set : (k : ℕ) (es : List Element) (n : ℕ) (e : Element) (value : List ℕ) (m : MapState) → slice_get es n ≡ Some e
    → AddsUp k es m → AddsUp k (slice_set es n (with_value value e)) m
adds-set k es n e value m at a =
    let fs : List Element = slice_set es n (with_value value e) in
    let kept : kept_count k fs + one_of (is_kept k e) ≡ kept_count k es + one_of (is_kept k e) = count-set (is_kept k) es n e (with_value value e) at in
    let uses : kept_uses k fs + uses_of k e ≡ kept_uses k es + uses_of k e = sum-set (uses_of k) es n e (with_value value e) at in
    let born : born_count k fs + one_of (e.map == k) ≡ born_count k es + one_of (e.map == k) =
    count-set (λ (x : Element). x.map == k) es n e (with_value value e) at in
    let old : total m.bag + kept_uses k es + m.worn * m.shape.reuse_limit ≡ born_count k es = a.births in
    let slots : length m.bag + kept_count k es + m.worn ≡ m.shape.entries + m.shape.spare = a.slots in
    record {
      slots = omega arith;
      births = omega arith;
      free = a.free;
      kept = λ some j f g is. elim (get-set_cases es n j (with_value value e) f g) [
        | inl x ↦ subst (λ (z : Element). z.uses ≤ m.shape.reuse_limit) x.1 (a.kept some n e at (ap (is_kept k) x.1 ∙ is))
        | inr x ↦ a.kept some j f x.1 is
      ];
    }

adds-set_to : (k : ℕ) (es : List Element) (n : ℕ) (value : List ℕ) (m : MapState) (o : Option Element) →
    slice_get es n ≡ o → AddsUp k es m → AddsUp k (set_to (with_value value) es n o) m
adds-set_to k es n value m None at a = a
adds-set_to k es n value m (Some e) at a = adds-set k es n e value m at a

adds-overwritten : (k : ℕ) (es : List Element) (found : Option ℕ) (value : List ℕ) (m : MapState) → AddsUp k es m → AddsUp k (overwritten value es found) m
adds-overwritten k es None value m a = a
adds-overwritten k es (Some n) value m a = adds-set_to k es n value m (slice_get es n) refl a

accounts-writes : (kind : MapKind) (s : Store) (opened : List Section) (map : ℕ) (m : MapState) (key value : List ℕ)
    (found : Option ℕ) (new : Store) → slice_get s.maps map ≡ Some m → LooksUp s map key found →
    Writes kind s opened map m key value found new → Accounts s new
accounts-writes Hash s opened map m key value found new there l r = accounts-replaces s opened map m key value found new there l r
accounts-writes Array s opened map m key value found new there l r = λ h.
    subst Accounted (sym r) (λ k state at. adds-overwritten k s.elements found value state (h k state at))

accounts-settles : (kind : MapKind) (s : Store) (opened : List Section) (map : ℕ) (m : MapState) (key value : List ℕ)
    (found : Option ℕ) (new : Store) (error : Option Errno) (ret : Result (Unit {0}) Errno) →
    slice_get s.maps map ≡ Some m → LooksUp s map key found →
    Settles error ret s new (Writes kind s opened map m key value found new) → Accounts s new
accounts-settles kind s opened map m key value found new None ret there l h = accounts-writes kind s opened map m key value found new there l h.1
accounts-settles kind s opened map m key value found new (Some e) ret there l h = accounts-same s new h.1

accounts-updates : (s : Store) (opened : List Section) (map : ℕ) (key value : List ℕ) (flags : ℕ)
    (ret : Result (Unit {0}) Errno) (new : Store) → Updates s opened map key value flags ret new → Accounts s new
accounts-updates s opened map key value flags ret new u =
    accounts-settles u.state.shape.kind s opened map u.state key value u.found new _ ret u.there u.lookup u.settled

accounts-removes : (s : Store) (opened : List Section) (map : ℕ) (key : List ℕ) (ret : Result (Unit {0}) Errno)
    (new : Store) (found : Option ℕ) → LooksUp s map key found → Removes found opened ret s new → Accounts s new
accounts-removes s opened map key ret new None l h = accounts-same s new h.1
accounts-removes s opened map key ret new (Some n) l h =
    accounts-elements opened s new (unlinked opened s.elements (Some n))
    (touches-found false opened s map key (Some n) l) h.1

accounts-deletes : (s : Store) (opened : List Section) (map : ℕ) (key : List ℕ) (ret : Result (Unit {0}) Errno)
    (new : Store) → Deletes s opened map key ret new → Accounts s new
accounts-deletes s opened map key ret new d = by d.state.shape.kind d.removed
  where
    by : (kind : MapKind) → RemovesFrom kind d.found opened ret s new → Accounts s new
    by Hash h = accounts-removes s opened map key ret new d.found d.lookup h
    by Array h = accounts-same s new h.1

-- a reclamation gives one back, or wears it out
given-one : (given : Given) (uses : ℕ) (m : MapState) → length (with_given given uses m).bag + (with_given given uses m).worn ≡ length m.bag + m.worn + 1
given-one Free uses m = let a = length-append m.bag (uses ∷ []) in omega arith
given-one Worn uses m = omega arith

abbrev spent : MapState → ℕ
spent m = total m.bag + m.worn * m.shape.reuse_limit

given-uses : (b : Bool) (uses : ℕ) (m : MapState) → (uses == m.shape.reuse_limit) ≡ b → spent (with_given (if b then Worn else Free) uses m) ≡ spent m + uses
given-uses true uses m is =
    let same : uses ≡ m.shape.reuse_limit = eqb-true uses m.shape.reuse_limit is in
    let more : (m.worn + 1) * m.shape.reuse_limit ≡ m.worn * m.shape.reuse_limit + 1 * m.shape.reuse_limit = add-mul m.worn 1 m.shape.reuse_limit in
    omega arith
given-uses false uses m is = let a : total (m.bag ++ uses ∷ []) ≡ total m.bag + uses = sum_by_push (λ (c : ℕ). c) m.bag uses in omega arith

given-free : (b : Bool) (uses : ℕ) (m : MapState) → (uses == m.shape.reuse_limit) ≡ b → uses ≤ m.shape.reuse_limit →
    ((c : ℕ) → 0 < times c m.bag → c < m.shape.reuse_limit) → (c : ℕ) →
    0 < times c (with_given (if b then Worn else Free) uses m).bag → c < m.shape.reuse_limit
given-free true uses m is most h c g = h c g
given-free false uses m is most h c g = elim (cases_eq uses c) [
  | inl same ↦
      let ne : uses ≢ m.shape.reuse_limit = λ e. false≢true (sym is ∙ eq-eqb uses m.shape.reuse_limit e) in
      let less : uses < m.shape.reuse_limit = lt_of_le_of_ne most ne in
      subst (λ z. z < m.shape.reuse_limit) same less
  | inr ne ↦
      let a = times-append c m.bag (uses ∷ []) in
      let b : times c (uses ∷ []) ≡ 0 = times-other c uses [] ne in
      h c (omega arith)
]

module _ (s : Store) (n : ℕ) (e : Element) (since : List Section) (m : MapState)
    (born : slice_get s.elements n ≡ Some e) (life : e.life ≡ Unlinked since)
    (there : slice_get s.maps e.map ≡ Some m) (h : Accounted s) where
  abbrev rs : List Element
  rs = slice_set s.elements n (with_life Reclaimed e)

  -- what is kept afterwards was so before
  still-kept : (k a : ℕ) (f : Element) → slice_get rs a ≡ Some f → is_kept k f ≡ true → slice_get s.elements a ≡ Some f
  still-kept k a f at kept = elim (get-set_cases s.elements n a (with_life Reclaimed e) f at) [
    | inl x ↦ absurd (false≢true (ap (is_kept k) x.1 ∙ kept))
    | inr x ↦ x.1
  ]

  given-here : AddsUp e.map rs (returned e.uses m)
  given-here =
      let a = h e.map m there in
      let b : Bool = e.uses == m.shape.reuse_limit in
      let less = kept-reclaimed s.elements n e since e.map born life in
      let one = of-same e.map in
      let uses = uses-reclaimed s.elements n e e.map born in
      let own = uses-here e.map e (Unlinked since) life refl refl in
      let births = born-reclaimed s.elements n e e.map born in
      let back = given-one (given_of e.uses m) e.uses m in
      let sum : spent (returned e.uses m) ≡ spent m + e.uses = given-uses b e.uses m refl in
      let shape : (returned e.uses m).shape ≡ m.shape = shape-given (given_of e.uses m) e.uses m in
      let limits : (returned e.uses m).shape.reuse_limit ≡ m.shape.reuse_limit = ap (λ x. x.reuse_limit) shape in
      let rooms : (returned e.uses m).shape.entries + (returned e.uses m).shape.spare ≡ m.shape.entries + m.shape.spare = ap (λ x. x.entries + x.spare) shape in
      let old : total m.bag + kept_uses e.map s.elements + m.worn * m.shape.reuse_limit ≡ born_count e.map s.elements = a.births in
      let slots : length m.bag + kept_count e.map s.elements + m.worn ≡ m.shape.entries + m.shape.spare = a.slots in
      record {
        slots = omega arith;
        births = omega arith;
        free = λ some c g.
            let low : 1 ≤ m.shape.reuse_limit = subst (λ l. 1 ≤ l) limits some in
            subst (λ l. c < l) (sym limits) (given-free b e.uses m refl
            (a.kept low n e born (kept-is e.map e (Unlinked since) life refl refl)) (a.free low) c g);
        kept = λ some i f at kept. subst (λ l. f.uses ≤ l) (sym limits) (a.kept (subst (λ l. 1 ≤ l) limits some) i f (still-kept e.map i f at kept) kept);
      }

  given-elsewhere : (k : ℕ) (state : MapState) → k ≢ e.map → slice_get s.maps k ≡ Some state → AddsUp k rs state
  given-elsewhere k state away at =
      let a = h k state at in
      let b = kept-reclaimed s.elements n e since k born life in
      let c = of-other e.map k (λ same. away (sym same)) in
      let uses = uses-reclaimed s.elements n e k born in
      let own = uses-away k e (λ same. away (sym same)) in
      let births = born-reclaimed s.elements n e k born in
      let old : total state.bag + kept_uses k s.elements + state.worn * state.shape.reuse_limit ≡ born_count k s.elements = a.births in
      let slots : length state.bag + kept_count k s.elements + state.worn ≡ state.shape.entries + state.shape.spare = a.slots in
      record { slots = omega arith; births = omega arith; free = a.free; kept = λ some i f g kept. a.kept some i f (still-kept k i f g kept) kept }

  accounted-given : Accounted (record { elements = rs; maps = slice_set s.maps e.map (returned e.uses m) })
  accounted-given k state at = elim (get-set_cases s.maps e.map k (returned e.uses m) state at) [
    | inl x ↦ subst (λ z. AddsUp z rs state) (sym x.0) (subst (AddsUp e.map rs) x.1 given-here)
    | inr x ↦ given-elsewhere k state x.0 x.1
  ]

accounts-reclaims : (s : Store) (opened : List Section) (n : ℕ) (e : Element) (given : Given) (new : Store) → Reclaims s opened n e given new → Accounts s new
accounts-reclaims s opened n e given new r h = subst Accounted (sym r.new_is) (accounted-given s n e r.since r.state r.born r.unlinked r.there h)

-- a step
accounts-helper : (h : Option Helper) (s : Store) (opened : List Section) (run : Run) (ret : Value) (new : Store) →
    HelperStep h s opened run ret new → Accounts s new
accounts-helper (Some helpers.Lookup) s opened run ret new h = accounts-same s new h.1
accounts-helper (Some helpers.Update) s opened run ret new h = accounts-updates s opened h.map h.key h.value h.flags h.outcome new h.updated
accounts-helper (Some helpers.Delete) s opened run ret new h = accounts-deletes s opened h.map h.key h.outcome new h.deleted
accounts-helper None s opened run ret new h = absurd h

accounts-insn : (i : Insn) (s : Store) (opened : List Section) (run : Run) (answer : Answer) (new : Store)
    (new_run : Run) → StepsByKind i s opened run answer new new_run → Accounts s new
accounts-insn (Call kinds.Kernel imm) s opened run answer new new_run h = accounts-same s new h.2
accounts-insn (Call kinds.Helper imm) s opened run answer new new_run h = accounts-helper (helper_of imm) s opened run h.0 new h.1
accounts-insn i s opened run answer new new_run h = accounts-elements opened s new h.1
    (touches-acts i opened (environment run) s.elements run.state h.0 h.1 h.2) h.3

accounts-with : (m new : Machine) (store : Store) → Accounts m.store store → new.store ≡ store → Accounts m.store new.store
accounts-with m new store a e h = subst Accounted (sym e) (a h)

accounts-store_change : (s : Store) (opened : List Section) (new : Store) (event : Event) → StoreChange s opened new event → Accounts s new
accounts-store_change s opened new event (ByUpdate map key value flags ret u) = accounts-updates s opened map key.items value.items flags ret new u
accounts-store_change s opened new event (ByDelete map key ret d) = accounts-deletes s opened map key.items ret new d
accounts-store_change s opened new event (ByReclaim n e given r) = accounts-reclaims s opened n e given new r

accounts-change : (m new : Machine) (event : Event) (answer : Answer) → Change m new event answer → Accounts m.store new.store
accounts-change m new event answer (Still e counts) = accounts-same m.store new.store (ap (λ x. x.store) e)
accounts-change m new event answer (Begins prog ctx r pass h) = accounts-same m.store new.store (ap (λ x. x.store) h.new_is)
accounts-change m new event answer (Steps r h) = accounts-with m new h.new_store
    (accounts-insn h.step.0 m.store (open_sections m.runs) h.run answer h.new_store h.new_run
    (run_by_kind m r answer new h)) (ap (λ x. x.store) h.new_is)
accounts-change m new event answer (Stores store pass c e) =
    accounts-with m new store (accounts-store_change m.store (open_sections m.runs) store event c) (ap (λ x. x.store) e)
accounts-change m new event answer (Leaves r e) = accounts-same m.store new.store (ap (λ x. x.store) e)

-- a history
accounted-along : (s : Schedule) (events : List Event) (answers : List Answer) (states : List Schedule) →
    Accounted s.machine.store → IsScheduledHistory s events answers states →
    Accounted (last_of s states).machine.store
accounted-along s [] [] [] a h = a
accounted-along s (event ∷ events) (answer ∷ answers) (next ∷ states) a h =
    accounted-along next events answers states (accounts-change s.machine next.machine event answer (change s.machine next.machine event answer h.0.step) a) h.1
accounted-along s events answers states a h = absurd h

reached-adds : (shapes : List MapShape) (programs : List Loaded) (s : Schedule) → IsReachedSchedule shapes programs s → Accounted s.machine.store
reached-adds shapes programs s r = subst (λ (x : Schedule). Accounted x.machine.store) r.last
    (accounted-along (start_schedule shapes programs) r.events r.answers r.states
    (accounted-start shapes programs r.limits) r.history)

pub slots_accounted : (shapes : List MapShape) (programs : List Loaded) (s : Schedule) (k : ℕ) (m : MapState) →
    IsReachedSchedule shapes programs s → slice_get s.machine.store.maps k ≡ Some m →
    length m.bag + kept_count k s.machine.store.elements + m.worn ≡ m.shape.entries + m.shape.spare
slots_accounted shapes programs s k m r at =
    (reached-adds shapes programs s r k m at).slots

pub enomem_exactly : (shapes : List MapShape) (programs : List Loaded) (s : Schedule) (k : ℕ) (m : MapState) →
    IsReachedSchedule shapes programs s → slice_get s.machine.store.maps k ≡ Some m →
    (m.bag ≡ []) ↔ IsFull k s.machine.store.elements m
enomem_exactly shapes programs s k m r at =
    let total = slots_accounted shapes programs s k m r at in
    let kinds = kept-kinds k s.machine.store.elements in
    (λ h. let none : length m.bag ≡ 0 = ap length h in omega arith, λ h. nil_from_length m.bag (omega arith))

-- no more births than the map slots bear
free-most : (counts : List ℕ) (limit : ℕ) → ((c : ℕ) → 0 < times c counts → c < limit) → total counts ≤ length counts * limit
free-most [] limit h = omega arith
free-most (c ∷ counts) limit h =
    let a = sum_by-cons (λ (x : ℕ). x) c counts in
    let rest = free-most counts limit (λ x g. h x (more c x counts g)) in
    let first = h c (let t = times-first c c counts refl in omega arith) in
    let b : (1 + length counts) * limit ≡ 1 * limit + length counts * limit = add-mul 1 (length counts) limit in
    omega arith
  where
    more : (c x : ℕ) (counts : List ℕ) → 0 < times x counts → 0 < times x (c ∷ counts)
    more c x counts g = elim (cases_eq c x) [
      | inl same ↦ let t = times-first x c counts same in omega arith
      | inr ne ↦ let t = times-other x c counts ne in omega arith
    ]

adds-most : (k : ℕ) (es : List Element) (m : MapState) → AddsUp k es m → 1 ≤ m.shape.reuse_limit → born_count k es ≤ most_births m.shape
adds-most k es m a some =
    let limit : ℕ = m.shape.reuse_limit in
    let free : total m.bag ≤ length m.bag * m.shape.reuse_limit = free-most m.bag m.shape.reuse_limit (a.free some) in
    let kept : kept_uses k es ≤ kept_count k es * m.shape.reuse_limit = uses-most k m.shape.reuse_limit es (a.kept some) in
    let births : total m.bag + kept_uses k es + m.worn * m.shape.reuse_limit ≡ born_count k es = a.births in
    let one : (length m.bag + kept_count k es) * m.shape.reuse_limit ≡ length m.bag * m.shape.reuse_limit + kept_count
    k es * m.shape.reuse_limit = add-mul (length m.bag) (kept_count k es) m.shape.reuse_limit in
    let two : (length m.bag + kept_count k es + m.worn) * m.shape.reuse_limit ≡ (length m.bag + kept_count k es) *
    m.shape.reuse_limit + m.worn * m.shape.reuse_limit =
    add-mul (length m.bag + kept_count k es) m.worn m.shape.reuse_limit in
    let slots : (length m.bag + kept_count k es + m.worn) * m.shape.reuse_limit ≡ most_births m.shape = ap (λ n. n * m.shape.reuse_limit) a.slots in
    omega arith

pub births_bounded : (shapes : List MapShape) (programs : List Loaded) (s : Schedule) (k : ℕ) (m : MapState) →
    IsReachedSchedule shapes programs s → slice_get s.machine.store.maps k ≡ Some m → 1 ≤ m.shape.reuse_limit →
    born_count k s.machine.store.elements ≤ most_births m.shape
births_bounded shapes programs s k m r at some = adds-most k s.machine.store.elements m (reached-adds shapes programs s r k m at) some
