-- What the calls of a seat rest on.
use Rattle.bpf_model.proofs.Prelude.{◌≡◌, ℕ, ◌+◌, ◌-◌, ◌*◌, ◌/◌, ◌%◌, ◌<◌, ◌≤◌, inl, inr, [], ◌∷◌, ◌++◌, refl, sym, ap, ◌∙◌, subst, arith, none}
use Rattle.read_table.proofs.Prelude.{section_stride, inside, header_in, word_at_place, Knows, IsLearnt, IsLawful, IsReader, MayLink, headers_from, count_of}
use Rattle.read_table.proofs.Prelude.{width_of, Kept, Gains, opens, closes, learns, stores, changes, scans, Holder, Does, IsUnchanged, IsFree}
use Rattle.atomic_table.specs.Table.{Me, step, Allows}
use Rattle.atomic_table.specs.Seated.{TableId}
use Rattle.read_table.specs.declared.view.Move.{Move}
use Rattle.read_table.specs.declared.view.Move.TheVariants.{Load, Store}
use Rattle.read_table.specs.declared.view.TableShape.{TableShape}
use Rattle.read_table.specs.declared.view.View.{View}
use Rattle.read_table.proofs.Places.{IsAt}
use Rattle.read_table.proofs.Lists.{stored_here}
use Rattle.read_table.proofs.Keeps.{opens_ok, closes_ok, learns_ok, stores_ok, changes_ok, scans_ok}
use Rattle.read_table.proofs.Going.{went_one, goes_known, goes_fact, known_unchanged}

pub stores_at : (k : TableShape) (slots id : ℕ) (me : Me ℕ View) (i slot place x : ℕ) → IsAt k i slot place →
    slot < k.slots → k.key_words ≤ place → place < width_of k → IsLearnt slot me.0.mine
    → Allows (Kept k) slots id me i (λ _. x) (λ _. stores (step slots i x 0 none) me x)
stores_at k slots id me i slot place x e low in_value in_slot known = stores_ok k slots id me i slot place x e low in_slot (inr (known, in_value))

pub writes_at : (k : TableShape) (slots id : ℕ) (me : Me ℕ View) (i slot place x : ℕ) → me.0.shape ≡ k →
    IsAt k i slot place → place < width_of k → me.0.me ≡ 0 → IsFree me.0 slot
    → Allows (Kept k) slots id me i (λ _. x) (λ _. stores (step slots i x 0 none) me x)
writes_at k slots id me i slot place x is e in_slot writer free =
    stores_ok k slots id me i slot place x e
    (subst (λ (z : TableShape). slot < z.slots) is free.within) in_slot
    (inl (writer, (free.even, subst (λ (z : TableShape). MayLink z.readers slot me.0.mine) is free.may)))

-- a word by what the holder saw after a step
word_seen : (v w : View) (m m' : Move) (slot place : ℕ) → m ≡ m' → (g : Gains v m w) →
    word_at_place slot place w.seen ≡ word_at_place slot place ((v.me, m') ∷ (g.0 ++ v.seen))
word_seen v w m m' slot place is g = ap (λ (z : View). word_at_place slot place z.seen) g.1 ∙
    ap (λ z. word_at_place slot place ((v.me, z) ∷ (g.0 ++ v.seen))) is

-- what a load found, as a clause says it
pub load_found : (v w : View) (m : Move) (slot place x : ℕ) → m ≡ Load slot place x → Gains v m w → x ≡ word_at_place slot place w.seen
load_found v w m slot place x is g =
    let now : IsLawful v.shape ((v.me, Load slot place x) ∷ (g.0 ++ v.seen)) =
    subst (λ z. IsLawful v.shape ((v.me, z) ∷ (g.0 ++ v.seen))) is
    (subst (λ (z : View). IsLawful v.shape z.seen) g.1 g.2) in
    now.0.1 ∙ sym (word_seen v w m (Load slot place x) slot place is g)

-- what a store left, as a clause says it
pub store_left : (v w : View) (m : Move) (slot place x : ℕ) → m ≡ Store slot place x → Gains v m w → word_at_place slot place w.seen ≡ x
store_left v w m slot place x is g = word_seen v w m (Store slot place x) slot place is g ∙ stored_here v.me slot place slot place x (g.0 ++ v.seen) refl refl

abbrev pub holder : TableId → View → Holder
holder t v = record { table = record { id = t; shape = v.shape }; view = v }

-- what a step told, as a clause says it
pub does : (t t' : TableId) (v w : View) (s : Holder) (m m' : Move) → holder t v ≡ s → t' ≡ t → m ≡ m' → Gains v m w → Does s m' (holder t' w)
does t t' v w s m m' is same move g =
    subst (λ z. Does z m' (holder t' w)) is record {
      table = λ i. record { id = same i; shape = (g.1 i).shape };
      went = went_one v w m' (subst (λ z. Gains v z w) move g);
    }

pub load_unchanged : (s t : Holder) (slot place x : ℕ) → Does s (Load slot place x) t → IsLearnt slot s.view.mine → IsUnchanged slot t
load_unchanged s t slot place x d known = known_unchanged t slot known.0 (goes_known s t (Load slot place x ∷ []) d)
    (goes_fact (Knows slot known.0) s t (Load slot place x ∷ []) d known.1)

pub store_unchanged : (s t : Holder) (slot place x : ℕ) → Does s (Store slot place x) t → IsLearnt slot s.view.mine → IsUnchanged slot t
store_unchanged s t slot place x d known = known_unchanged t slot known.0 (goes_known s t (Store slot place x ∷ []) d)
    (goes_fact (Knows slot known.0) s t (Store slot place x ∷ []) d known.1)

-- where a reader's section word lies, as an equation
abbrev pub IsSection : ℕ → ℕ → Type 0
IsSection i me = i + section_stride ≡ me * section_stride

pub section_within : (j k : TableShape) (i me n : ℕ) → j ≡ k → IsReader j me → IsSection i me → n ≡ count_of k → i < n
section_within j k i me n same reader at e = let r : IsReader k me = subst (λ (z : TableShape). IsReader z me) same reader in omega arith

pub opens_at : (j k : TableShape) (slots id : ℕ) (me : Me ℕ View) (i : ℕ) → j ≡ k → IsReader j me.0.me →
    IsSection i me.0.me → Allows (Kept k) slots id me i (λ _. 1) (λ _. opens (step slots i 1 0 none) me 1)
opens_at j k slots id me i same reader at =
    let r : IsReader k me.0.me = subst (λ (z : TableShape). IsReader z me.0.me) same reader in
    opens_ok k slots id me i (me.0.me - 1) (omega arith) (omega arith) (omega arith)

pub closes_at : (j k : TableShape) (slots id : ℕ) (me : Me ℕ View) (i : ℕ) → j ≡ k → IsReader j me.0.me →
    IsSection i me.0.me → Allows (Kept k) slots id me i (λ _. 0) (λ _. closes (step slots i 0 0 none) me 0)
closes_at j k slots id me i same reader at =
    let r : IsReader k me.0.me = subst (λ (z : TableShape). IsReader z me.0.me) same reader in
    closes_ok k slots id me i (me.0.me - 1) (omega arith) (omega arith) (omega arith)

pub learns_at : (j k : TableShape) (slots id : ℕ) (me : Me ℕ View) (slot from : ℕ) → from ≡ headers_from j →
    me.0.shape ≡ j → j ≡ k → slot < j.slots → IsReader me.0.shape me.0.me → inside me.0.mine ≡ 1
    → Allows (Kept k) slots id me (from + slot) (λ n. n) (learns (step slots (from + slot) 0 0 none) me)
learns_at j k slots id me slot from starts same is l reader one =
    let e : headers_from j ≡ headers_from k = ap headers_from is in
    let m : slot < k.slots = subst (λ (z : TableShape). slot < z.slots) is l in
    learns_ok k slots id me (from + slot) (omega arith) (omega arith) (subst (λ (z : TableShape). IsReader z me.0.me) (same ∙ is) reader) one

slot_is : (r s i : ℕ) → i ≡ r → (i + s) - r ≡ s
slot_is r s i e = omega arith

pub header_slot : (j k : TableShape) (slot from : ℕ) → from ≡ headers_from k → j ≡ k → (from + slot) - headers_from j ≡ slot
header_slot j k slot from starts same = slot_is (headers_from j) slot from (starts ∙ ap headers_from (sym same))

pub header_within : (j k : TableShape) (slot from n : ℕ) → from ≡ headers_from k → j ≡ k → slot < j.slots →
    n ≡ count_of k → from + slot < n
header_within j k slot from n starts same l e = let m : slot < k.slots = subst (λ (z : TableShape). slot < z.slots) same l in omega arith

pub changes_at : (j k : TableShape) (slots id : ℕ) (me : Me ℕ View) (slot from x : ℕ) → from ≡ headers_from j →
    me.0.shape ≡ j → j ≡ k → slot < j.slots → me.0.me ≡ 0 → x ≡ header_in slot me.0.mine + 1 → (x % 2 ≡ 1 → MayLink j.readers slot me.0.mine)
    → Allows (Kept k) slots id me (from + slot) (λ _. x) (λ _. changes (step slots (from + slot) x 0 none) me x)
changes_at j k slots id me slot from x starts same is l writer h may =
    let e : headers_from j ≡ headers_from k = ap headers_from is in
    let m : slot < k.slots = subst (λ (z : TableShape). slot < z.slots) is l in
    let back : (from + slot) - headers_from me.0.shape ≡ slot = header_slot me.0.shape j slot from starts same in
    changes_ok k slots id me (from + slot) x (omega arith) (omega arith) writer
    (h ∙ ap (λ z. header_in z me.0.mine + 1) (sym back))
    (λ odd. subst (λ (z : ℕ × TableShape). MayLink z.1.readers z.0 me.0.mine) (λ i. (sym back i, is i)) (may odd))

pub scan_within : (k : TableShape) (reader n : ℕ) → reader < k.readers → n ≡ count_of k → reader * section_stride < n
scan_within k reader n l e = omega arith

pub scan_reader : (reader : ℕ) → reader * section_stride / section_stride ≡ reader
scan_reader reader = omega arith

pub scans_at : (j k : TableShape) (slots id : ℕ) (me : Me ℕ View) (reader : ℕ) → j ≡ k → reader < j.readers → me.0.me ≡ 0
    → Allows (Kept k) slots id me (reader * section_stride) (λ n. n) (scans (step slots (reader * section_stride) 0 0 none) me)
scans_at j k slots id me reader is l writer = scans_ok k slots id me (reader * section_stride) reader refl
    (subst (λ (z : TableShape). reader < z.readers) is l) writer
