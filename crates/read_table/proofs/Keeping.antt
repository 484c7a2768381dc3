-- What the writer keeps through its steps.
use Rattle.bpf_model.proofs.Prelude.{◌≡◌, ◌≢◌, ⊎_elim, ℕ, zero, suc, ◌+◌, ◌^◌, ◌%◌, ◌<◌, ◌≤◌, List, [], ◌∷◌, ◌++◌, get_or, set, refl, sym, ap, ◌∙◌, subst}
use Rattle.bpf_model.proofs.Prelude.{inl, inr, arith, append_assoc, dite, ℕ_discrete, All}
use Rattle.read_table.proofs.Prelude.{header_in, Cleared, MayLink, Holder, Went, Goes, Fills, Leaves, times_in, IsFree, IsLinked, IsUnlinked, AreSlots}
use Rattle.read_table.proofs.Prelude.{IsWriter}
use Rattle.std.proofs.Common.{eq-eqb, ne_eqb, length-set, get_or-set_other, get_or-set_same}
use Rattle.std.proofs.lemmas.List.Elements.{All-push}
use Rattle.atomic_table.specs.Seated.{TableId}
use Rattle.read_table.specs.declared.view.Move.{Move}
use Rattle.read_table.specs.declared.view.Move.TheVariants.{Store, Header, Scan}
use Rattle.read_table.specs.declared.view.TableShape.{TableShape}
use Rattle.read_table.specs.declared.view.View.{View}
use Rattle.read_table.proofs.Going.{went_known, went_mine}
use Rattle.read_table.proofs.Calls.{holder}
use Rattle.read_table.proofs.Slots.{one_same, at_leaves, all_leaves, times_leaves, times_push, length_leaves, length_pushed, all_else, all_to}

-- a stretch that changes no header, and takes back nothing that was seen
pub record IsQuiet (ns : List Move) : Type 0 where
  pub headers : (s : ℕ) (ms : List Move) → header_in s (ns ++ ms) ≡ header_in s ms
  pub cleared : (r s : ℕ) (ms : List Move) → Cleared r s ms → Cleared r s (ns ++ ms)

pub quiet_none : IsQuiet []
quiet_none = record { headers = λ s ms. refl; cleared = λ r s ms c. c }

quiet_store : (slot place x : ℕ) (ns : List Move) → IsQuiet ns → IsQuiet (Store slot place x ∷ ns)
quiet_store slot place x ns q = record { headers = λ s ms. q.headers s ms; cleared = λ r s ms c. q.cleared r s ms c }

pub quiet_scan : (reader x : ℕ) (ns : List Move) → IsQuiet ns → IsQuiet (Scan reader x ∷ ns)
quiet_scan reader x ns q = record { headers = λ s ms. q.headers s ms; cleared = λ r s ms c. inr (q.cleared r s ms c) }

pub quiet_append : (ns ms : List Move) → IsQuiet ns → IsQuiet ms → IsQuiet (ns ++ ms)
quiet_append ns ms p q = record {
  headers = λ s qs. ap (header_in s) (append_assoc ns ms qs) ∙ (p.headers s (ms ++ qs) ∙ q.headers s qs);
  cleared = λ r s qs c. subst (Cleared r s) (sym (append_assoc ns ms qs)) (p.cleared r s (ms ++ qs) (q.cleared r s qs c));
}

pub fills_quiet : (slot from n : ℕ) (bytes : List ℕ) (ms : List Move) → Fills slot from bytes n ms → IsQuiet ms
fills_quiet slot from zero bytes ms f = subst IsQuiet (sym f) quiet_none
fills_quiet slot from (suc n) bytes ms f = subst IsQuiet (sym f.2) (quiet_store slot (from + n) f.0 f.1 (fills_quiet slot from n bytes f.1 f.4))

pub went_shape : (v w : View) (ms : List Move) → Went v ms w → w.shape ≡ v.shape
went_shape v w ms g = ap (λ (z : View). z.shape) g.1

pub went_me : (v w : View) (ms : List Move) → Went v ms w → w.me ≡ v.me
went_me v w ms g = ap (λ (z : View). z.me) g.1

pub free_stays : (v w : View) (s : ℕ) → w.shape ≡ v.shape → header_in s w.mine ≡ header_in s v.mine →
    ((r : ℕ) → Cleared r s v.mine → Cleared r s w.mine) → IsFree v s → IsFree w s
free_stays v w s same h c f = record {
  within = subst (λ (k : TableShape). s < k.slots) (sym same) f.within;
  even = ap (λ z. z % 2) h ∙ f.even;
  bounded = subst (λ z. z < 2 ^ 63) (sym h) f.bounded;
  may = subst (λ (k : TableShape). MayLink k.readers s w.mine) (sym same) (⊎_elim (λ z. inl (h ∙ z)) (λ all. inr (λ r p q. c r (all r p q))) f.may);
}

linked_stays : (v w : View) (s : ℕ) → w.shape ≡ v.shape → header_in s w.mine ≡ header_in s v.mine → IsLinked v s → IsLinked w s
linked_stays v w s same h f = record {
  within = subst (λ (k : TableShape). s < k.slots) (sym same) f.within;
  odd = ap (λ z. z % 2) h ∙ f.odd;
  bounded = subst (λ z. z < 2 ^ 63) (sym h) f.bounded;
}

unlinked_stays : (v w : View) (s : ℕ) → w.shape ≡ v.shape → header_in s w.mine ≡ header_in s v.mine → IsUnlinked v s → IsUnlinked w s
unlinked_stays v w s same h f = record {
  within = subst (λ (k : TableShape). s < k.slots) (sym same) f.within;
  even = ap (λ z. z % 2) h ∙ f.even;
  bounded = subst (λ z. z ≤ 2 ^ 63) (sym h) f.bounded;
}

-- after a quiet stretch
module _ (v w : View) (ns : List Move) (q : IsQuiet ns) (g : Went v (ns ++ v.mine) w) where
  quiet_header : (s : ℕ) → header_in s w.mine ≡ header_in s v.mine
  quiet_header s = ap (header_in s) (went_mine v w (ns ++ v.mine) g) ∙ q.headers s v.mine

  quiet_cleared : (s r : ℕ) → Cleared r s v.mine → Cleared r s w.mine
  quiet_cleared s r c = subst (Cleared r s) (sym (went_mine v w (ns ++ v.mine) g)) (q.cleared r s v.mine c)

  pub quiet_same : (s : ℕ) → header_in s w.mine ≡ header_in s v.mine
  quiet_same s = quiet_header s

  pub quiet_free : (s : ℕ) → IsFree v s → IsFree w s
  quiet_free s f = free_stays v w s (went_shape v w (ns ++ v.mine) g) (quiet_header s) (quiet_cleared s) f

  pub quiet_linked : (s : ℕ) → IsLinked v s → IsLinked w s
  quiet_linked s f = linked_stays v w s (went_shape v w (ns ++ v.mine) g) (quiet_header s) f

  pub quiet_writer : (headers : List ℕ) → IsWriter v headers → IsWriter w headers
  quiet_writer headers b = let slots : w.shape.slots ≡ v.shape.slots = ap (λ (k : TableShape). k.slots) (went_shape v w (ns ++ v.mine) g) in record {
    me = went_me v w (ns ++ v.mine) g ∙ b.me;
    known = went_known v w (ns ++ v.mine) g;
    count = b.count ∙ sym slots;
    are_headers = λ s l. b.are_headers s (omega arith) ∙ sym (quiet_header s);
  }

  pub quiet_slots : (free linked unlinked : List ℕ) → AreSlots v free linked unlinked → AreSlots w free linked unlinked
  quiet_slots free linked unlinked a =
      let same = went_shape v w (ns ++ v.mine) g in
      let slots : w.shape.slots ≡ v.shape.slots = ap (λ (k : TableShape). k.slots) same in record {
        once = λ s l. a.once s (omega arith);
        count = a.count ∙ sym slots;
        are_free = all_to (IsFree v) (IsFree w) free quiet_free a.are_free;
        are_linked = all_to (IsLinked v) (IsLinked w) linked (λ s f. linked_stays v w s same (quiet_header s) f) a.are_linked;
        are_unlinked = all_to (IsUnlinked v) (IsUnlinked w) unlinked (λ s f. unlinked_stays v w s same (quiet_header s) f) a.are_unlinked;
      }

-- after a change of the slot's header
module _ (v w : View) (slot : ℕ) (g : Went v (Header slot (header_in slot v.mine + 1) ∷ v.mine) w) where
  here : header_in slot w.mine ≡ header_in slot v.mine + 1
  here = ap (header_in slot) (went_mine v w (Header slot (header_in slot v.mine + 1) ∷ v.mine) g) ∙ (rw (eq-eqb slot slot refl) refl)

  there : (s : ℕ) → s ≢ slot → header_in s w.mine ≡ header_in s v.mine
  there s ne = ap (header_in s) (went_mine v w (Header slot (header_in slot v.mine + 1) ∷ v.mine) g) ∙ (rw (ne_eqb slot s (λ e. ne (sym e))) refl)

  cleared : (s : ℕ) → s ≢ slot → (r : ℕ) → Cleared r s v.mine → Cleared r s w.mine
  cleared s ne r c = subst (Cleared r s) (sym (went_mine v w (Header slot (header_in slot v.mine + 1) ∷ v.mine) g)) ((λ e. ne (sym e)), c)

  shape : w.shape ≡ v.shape
  shape = went_shape v w (Header slot (header_in slot v.mine + 1) ∷ v.mine) g

  pub changed_writer : (headers : List ℕ) → slot < v.shape.slots → IsWriter v headers → IsWriter w (set headers slot (header_in slot v.mine + 1))
  changed_writer headers within b =
      let count = b.count in
      let slots : w.shape.slots ≡ v.shape.slots = ap (λ (k : TableShape). k.slots) shape in record {
        me = went_me v w (Header slot (header_in slot v.mine + 1) ∷ v.mine) g ∙ b.me;
        known = went_known v w (Header slot (header_in slot v.mine + 1) ∷ v.mine) g;
        count = length-set headers slot (header_in slot v.mine + 1) ∙ (count ∙ sym slots);
        are_headers = λ s l. dite (ℕ_discrete s slot)
            (λ e. subst (λ z. get_or (set headers slot (header_in slot v.mine + 1)) z 0 ≡ header_in z w.mine) (sym e)
            (get_or-set_same headers slot (header_in slot v.mine + 1) 0 (omega arith) ∙ sym here))
            (λ ne. get_or-set_other headers slot s (header_in slot v.mine + 1) 0 ne ∙ (b.are_headers s (omega arith) ∙ sym (there s ne)));
      }

  free_else : (free : List ℕ) → times_in slot free ≡ 0 → All (IsFree v) free → All (IsFree w) free
  free_else free none all = all_else (IsFree v) (IsFree w) slot free none (λ s ne f. free_stays v w s shape (there s ne) (cleared s ne) f) all

  linked_else : (linked : List ℕ) → times_in slot linked ≡ 0 → All (IsLinked v) linked → All (IsLinked w) linked
  linked_else linked none all = all_else (IsLinked v) (IsLinked w) slot linked none (λ s ne f. linked_stays v w s shape (there s ne) f) all

  unlinked_else : (unlinked : List ℕ) → times_in slot unlinked ≡ 0 → All (IsUnlinked v) unlinked → All (IsUnlinked w) unlinked
  unlinked_else unlinked none all = all_else (IsUnlinked v) (IsUnlinked w) slot unlinked none (λ s ne f. unlinked_stays v w s shape (there s ne) f) all

  -- a free slot is linked now
  pub linked_slots : (old free linked unlinked : List ℕ) → Leaves slot old free → AreSlots v old linked unlinked →
      AreSlots w free (linked ++ slot ∷ []) unlinked
  linked_slots old free linked unlinked leaves a =
      let f = at_leaves (IsFree v) slot old free leaves a.are_free in
      let slots : w.shape.slots ≡ v.shape.slots = ap (λ (k : TableShape). k.slots) shape in
      let once = a.once slot f.within in
      let more = times_leaves slot slot old free leaves in
      let one = one_same slot slot refl in
      let even = f.even in
      let bounded = f.bounded in
      let h = here in
      let count = a.count in
      let less = length_leaves slot old free leaves in
      let longer = length_pushed slot linked in record {
        once = λ s l.
            let b = a.once s (omega arith) in
            let p = times_leaves s slot old free leaves in
            let q = times_push s slot linked in
            omega arith;
        count = omega arith;
        are_free = free_else free (omega arith) (all_leaves (IsFree v) slot old free leaves a.are_free);
        are_linked = All-push (IsLinked w) linked slot (linked_else linked (omega arith) a.are_linked)
            record { within = subst (λ (k : TableShape). slot < k.slots) (sym shape) f.within; odd = omega arith; bounded = omega arith };
        are_unlinked = unlinked_else unlinked (omega arith) a.are_unlinked;
      }

  -- a linked slot is unlinked now
  pub unlinked_slots : (free old linked unlinked : List ℕ) → Leaves slot old linked → AreSlots v free old unlinked →
      AreSlots w free linked (unlinked ++ slot ∷ [])
  unlinked_slots free old linked unlinked leaves a =
      let f = at_leaves (IsLinked v) slot old linked leaves a.are_linked in
      let slots : w.shape.slots ≡ v.shape.slots = ap (λ (k : TableShape). k.slots) shape in
      let once = a.once slot f.within in
      let more = times_leaves slot slot old linked leaves in
      let one = one_same slot slot refl in
      let odd = f.odd in
      let bounded = f.bounded in
      let h = here in
      let count = a.count in
      let less = length_leaves slot old linked leaves in
      let longer = length_pushed slot unlinked in record {
        once = λ s l.
            let b = a.once s (omega arith) in
            let p = times_leaves s slot old linked leaves in
            let q = times_push s slot unlinked in
            omega arith;
        count = omega arith;
        are_free = free_else free (omega arith) a.are_free;
        are_linked = linked_else linked (omega arith) (all_leaves (IsLinked v) slot old linked leaves a.are_linked);
        are_unlinked = All-push (IsUnlinked w) unlinked slot (unlinked_else unlinked (omega arith) a.are_unlinked)
            record { within = subst (λ (k : TableShape). slot < k.slots) (sym shape) f.within; even = omega arith; bounded = omega arith };
      }

-- an unlinked slot is free now
pub reclaimed_slots : (v : View) (slot : ℕ) (free linked old unlinked : List ℕ) → Leaves slot old unlinked →
    header_in slot v.mine < 2 ^ 63 → MayLink v.shape.readers slot v.mine → AreSlots v free linked old →
    AreSlots v (free ++ slot ∷ []) linked unlinked
reclaimed_slots v slot free linked old unlinked leaves bounded may a =
    let f = at_leaves (IsUnlinked v) slot old unlinked leaves a.are_unlinked in
    let count = a.count in
    let less = length_leaves slot old unlinked leaves in
    let longer = length_pushed slot free in record {
      once = λ s l.
          let b = a.once s l in
          let p = times_leaves s slot old unlinked leaves in
          let q = times_push s slot free in
          omega arith;
      count = omega arith;
      are_free = All-push (IsFree v) free slot a.are_free record { within = f.within; even = f.even; bounded = bounded; may = may };
      are_linked = a.are_linked;
      are_unlinked = all_leaves (IsUnlinked v) slot old unlinked leaves a.are_unlinked;
    }

-- what a stretch told, as a clause says it
pub works : (t t' : TableId) (v w : View) (s : Holder) (ns : List Move) → holder t v ≡ s → t' ≡ t → Went v (ns ++ v.mine) w → Goes s ns (holder t' w)
works t t' v w s ns is same g = subst (λ z. Goes z ns (holder t' w)) is record { table = λ i. record { id = same i; shape = (g.1 i).shape }; went = g }

pub fits : (v w : View) (old new : ℕ) → w.shape ≡ v.shape → new ≡ old → v.shape.slots ≤ old → w.shape.slots ≤ new
fits v w old new same e l = let slots : w.shape.slots ≡ v.shape.slots = ap (λ (k : TableShape). k.slots) same in omega arith

-- a slot that is to be linked, once its words are written
pub record Filled (v w : View) (headers free linked unlinked : List ℕ) (slot : ℕ) : Type 0 where
  pub before : IsFree v slot
  pub now : IsFree w slot
  pub writer : IsWriter w headers
  pub slots : AreSlots w free linked unlinked
  pub same : header_in slot w.mine ≡ header_in slot v.mine
  pub shape : w.shape ≡ v.shape

pub filled : (v w : View) (headers free linked unlinked new : List ℕ) (slot : ℕ) (k : TableShape) (key value : List ℕ)
    → IsWriter v headers → AreSlots v free linked unlinked → Leaves slot free new
    → (ks vs : List Move) → Fills slot 0 key k.key_words ks → Fills slot k.key_words value k.value_words vs →
    Went v ((vs ++ ks) ++ v.mine) w → Filled v w headers free linked unlinked slot
filled v w headers free linked unlinked new slot k key value b a leaves ks vs fk fv g =
    let f = at_leaves (IsFree v) slot free new leaves a.are_free in
    let q = quiet_append vs ks (fills_quiet slot k.key_words k.value_words value vs fv) (fills_quiet slot 0 k.key_words key ks fk) in record {
      before = f;
      now = quiet_free v w (vs ++ ks) q g slot f;
      writer = quiet_writer v w (vs ++ ks) q g headers b;
      slots = quiet_slots v w (vs ++ ks) q g free linked unlinked a;
      same = quiet_same v w (vs ++ ks) q g slot;
      shape = went_shape v w ((vs ++ ks) ++ v.mine) g;
    }
