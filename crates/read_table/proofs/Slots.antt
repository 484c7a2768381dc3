-- The writer's lists of slots.
use Rattle.bpf_model.proofs.Prelude.{◌≡◌, ◌≢◌, ℕ, zero, suc, ◌+◌, ◌<◌, ◌≤◌, List, [], ◌∷◌, ◌++◌, length, get_or, refl, sym, ap, ◌∙◌, subst, inl, arith}
use Rattle.bpf_model.proofs.Prelude.{add-one, dite, ℕ_discrete, All, range_with_len, Contains, length-range_with_len, get_or-range_with_len}
use Rattle.read_table.proofs.Prelude.{writer_after, one_for, times_in, Leaves, IsFree, IsLinked, IsUnlinked, AreSlots, IsWriter}
use Rattle.std.proofs.Common.{eq-eqb, ne_eqb, length-append}
use Rattle.std.specs.List.{remove}
use Rattle.read_table.specs.declared.view.TableShape.{TableShape}
use Rattle.read_table.specs.declared.view.View.{View}

pub one_same : (slot s : ℕ) → s ≡ slot → one_for slot s ≡ 1
one_same slot s e = rw (eq-eqb s slot e) refl

pub one_other : (slot s : ℕ) → s ≢ slot → one_for slot s ≡ 0
one_other slot s ne = rw (ne_eqb s slot ne) refl

range_more' : (a n : ℕ) → range_with_len a (suc n) ≡ range_with_len a n ++ (a + n) ∷ []
range_more' a zero = ap (λ z. z ∷ []) (omega arith)
range_more' a (suc n) = ap (λ zs. a ∷ zs) (range_more' (a + 1) n ∙ ap (λ z. range_with_len (a + 1) n ++ z ∷ []) (omega arith))

pub range_more : (n : ℕ) → range_with_len 0 (n + 1) ≡ range_with_len 0 n ++ n ∷ []
range_more n =
    let same : 0 + n ≡ n = omega arith in
    ap (range_with_len 0) (add-one n) ∙ (range_more' 0 n ∙ ap (λ z. range_with_len 0 n ++ z ∷ []) same)

times_below : (s a n : ℕ) → s < a → times_in s (range_with_len a n) ≡ 0
times_below s a zero l = refl
times_below s a (suc n) l =
    let one : one_for s a ≡ 0 = one_other s a (λ e. absurd (omega arith)) in
    let rest : times_in s (range_with_len (a + 1) n) ≡ 0 = times_below s (a + 1) n (omega arith) in
    omega arith

times_range : (s a n : ℕ) → a ≤ s → s < a + n → times_in s (range_with_len a n) ≡ 1
times_range s a zero l m = absurd (omega arith)
times_range s a (suc n) l m = dite (ℕ_discrete a s)
    (λ e. let one : one_for s a ≡ 1 = one_same s a e in
    let rest : times_in s (range_with_len (a + 1) n) ≡ 0 = times_below s (a + 1) n (omega arith) in
    omega arith)
    (λ ne. let one : one_for s a ≡ 0 = one_other s a ne in
    let rest : times_in s (range_with_len (a + 1) n) ≡ 1 = times_range s (a + 1) n (omega arith) (omega arith) in
    omega arith)

none_at : (P : ℕ → Type 0) → All P []
none_at P k d l = absurd (omega arith)

-- the writer at first: each slot is free
pub begins_writer : (n : ℕ) (k : TableShape) (headers : List ℕ) → length headers ≡ k.slots →
    ((j : ℕ) → get_or headers j 0 ≡ 0) → IsWriter (writer_after n k) headers
begins_writer n k headers len zeros = record { me = refl; known = (tt, refl); count = len; are_headers = λ slot _. zeros slot }

add : (j : ℕ) → 0 + j ≡ j
add j = omega arith

begins_at_slots : (n : ℕ) (k : TableShape) → AreSlots (writer_after n k) (range_with_len 0 k.slots) [] []
begins_at_slots n k = let len = length-range_with_len 0 k.slots in record {
  once = λ slot l. let one = times_range slot 0 k.slots (omega arith) (omega arith) in omega arith;
  count = omega arith;
  are_free = λ j d l.
      let is : get_or (range_with_len 0 k.slots) j d ≡ j = get_or-range_with_len 0 k.slots j d (omega arith) ∙ add j in
      subst (IsFree (writer_after n k)) (sym is) record { within = omega arith; even = refl; bounded = omega arith; may = inl refl };
  are_linked = none_at (IsLinked (writer_after n k));
  are_unlinked = none_at (IsUnlinked (writer_after n k));
}

pub begins_slots : (v : View) (n : ℕ) (k : TableShape) (free linked unlinked : List ℕ) → v ≡ writer_after n k →
    free ≡ range_with_len 0 k.slots → linked ≡ [] → unlinked ≡ [] → AreSlots v free linked unlinked
begins_slots v n k free linked unlinked e f l u =
    subst (λ z. AreSlots z free linked unlinked) (sym e)
    (subst (λ z. AreSlots (writer_after n k) z linked unlinked) (sym f)
    (subst (λ z. AreSlots (writer_after n k) (range_with_len 0 k.slots) z unlinked) (sym l)
    (subst (AreSlots (writer_after n k) (range_with_len 0 k.slots) []) (sym u) (begins_at_slots n k))))

pub at_most : (a b c : ℕ) → a ≡ b → b ≤ c → a ≤ c
at_most a b c e l = omega arith

-- a list without one of its places
pub leaves_remove : (xs : List ℕ) (at slot : ℕ) → at < length xs → get_or xs at slot ≡ slot → Leaves slot xs (remove xs at)
leaves_remove [] at slot l e = absurd (omega arith)
leaves_remove (x ∷ xs) zero slot l e = ([], xs, ap (λ z. z ∷ xs) e, refl)
leaves_remove (x ∷ xs) (suc at) slot l e =
    let r = leaves_remove xs at slot (omega arith) e in
    (x ∷ r.0, r.1, ap (λ zs. x ∷ zs) r.2, ap (λ zs. x ∷ zs) r.3)

all_tail : (P : ℕ → Type 0) (x : ℕ) (xs : List ℕ) → All P (x ∷ xs) → All P xs
all_tail P x xs all k d l = all (suc k) d (omega arith)

all_head : (P : ℕ → Type 0) (x : ℕ) (xs : List ℕ) → All P (x ∷ xs) → P x
all_head P x xs all = all 0 0 (omega arith)

all_cons : (P : ℕ → Type 0) (x : ℕ) (xs : List ℕ) → P x → All P xs → All P (x ∷ xs)
all_cons P x xs one all zero d l = one
all_cons P x xs one all (suc k) d l = all k d (omega arith)

all_at : (P : ℕ → Type 0) (slot : ℕ) (front back : List ℕ) → All P (front ++ slot ∷ back) → P slot
all_at P slot [] back all = all_head P slot back all
all_at P slot (x ∷ front) back all = all_at P slot front back (all_tail P x (front ++ slot ∷ back) all)

all_without : (P : ℕ → Type 0) (slot : ℕ) (front back : List ℕ) → All P (front ++ slot ∷ back) → All P (front ++ back)
all_without P slot [] back all = all_tail P slot back all
all_without P slot (x ∷ front) back all =
    all_cons P x (front ++ back) (all_head P x (front ++ slot ∷ back) all) (all_without P slot front back (all_tail P x (front ++ slot ∷ back) all))

pub at_leaves : (P : ℕ → Type 0) (slot : ℕ) (old new : List ℕ) → Leaves slot old new → All P old → P slot
at_leaves P slot old new e all = all_at P slot e.0 e.1 (subst (All P) e.2 all)

pub all_leaves : (P : ℕ → Type 0) (slot : ℕ) (old new : List ℕ) → Leaves slot old new → All P old → All P new
all_leaves P slot old new e all = subst (All P) (sym e.3) (all_without P slot e.0 e.1 (subst (All P) e.2 all))

times_append : (s : ℕ) (xs ys : List ℕ) → times_in s (xs ++ ys) ≡ times_in s xs + times_in s ys
times_append s [] ys = sym (add (times_in s ys))
times_append s (x ∷ xs) ys = let e = times_append s xs ys in omega arith

pub times_leaves : (s slot : ℕ) (old new : List ℕ) → Leaves slot old new → times_in s old ≡ times_in s new + one_for s slot
times_leaves s slot old new e =
    let o : times_in s old ≡ times_in s (e.0 ++ slot ∷ e.1) = ap (times_in s) e.2 in
    let n : times_in s new ≡ times_in s (e.0 ++ e.1) = ap (times_in s) e.3 in
    let a = times_append s e.0 (slot ∷ e.1) in
    let b = times_append s e.0 e.1 in
    omega arith

pub times_push : (s slot : ℕ) (xs : List ℕ) → times_in s (xs ++ slot ∷ []) ≡ times_in s xs + one_for s slot
times_push s slot xs = let a = times_append s xs (slot ∷ []) in omega arith

pub length_leaves : (slot : ℕ) (old new : List ℕ) → Leaves slot old new → length old ≡ length new + 1
length_leaves slot old new e =
    let o : length old ≡ length (e.0 ++ slot ∷ e.1) = ap length e.2 in
    let n : length new ≡ length (e.0 ++ e.1) = ap length e.3 in
    let a = length-append e.0 (slot ∷ e.1) in
    let b = length-append e.0 e.1 in
    omega arith

pub length_pushed : (slot : ℕ) (xs : List ℕ) → length (xs ++ slot ∷ []) ≡ length xs + 1
length_pushed slot xs = length-append xs (slot ∷ [])

-- what is nowhere in a list is none of its elements
not_at : (slot : ℕ) (xs : List ℕ) (k d : ℕ) → times_in slot xs ≡ 0 → k < length xs → get_or xs k d ≢ slot
not_at slot [] k d none l e = absurd (omega arith)
not_at slot (x ∷ xs) zero d none l e = let one : one_for slot x ≡ 1 = one_same slot x e in absurd (omega arith)
not_at slot (x ∷ xs) (suc k) d none l e = not_at slot xs k d (omega arith) (omega arith) e

pub all_else : (P Q : ℕ → Type 0) (slot : ℕ) (xs : List ℕ) → times_in slot xs ≡ 0 → ((s : ℕ) → s ≢ slot → P s → Q s) → All P xs → All Q xs
all_else P Q slot xs none to all k d l = to (get_or xs k d) (not_at slot xs k d none l) (all k d l)

pub all_to : (P Q : ℕ → Type 0) (xs : List ℕ) → ((s : ℕ) → P s → Q s) → All P xs → All Q xs
all_to P Q xs to all k d l = to (get_or xs k d) (all k d l)

pub at_contained : (P : ℕ → Type 0) (slot : ℕ) (xs : List ℕ) → Contains xs slot → All P xs → P slot
at_contained P slot xs c all = subst P c.2 (all c.0 slot c.1)
