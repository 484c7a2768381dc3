-- What the calls of a seat rest on.
use Rattle.table_words.proofs.Prelude.{◌≡◌, ◌≢◌, ◌⊎◌, ℕ, suc, ◌+◌, ◌-◌, ◌*◌, ◌/◌, ◌<◌, ◌≤◌, ◌^◌, inl, inr, List, [], ◌∷◌, ◌++◌, refl, sym, ap, ◌∙◌, subst}
use Rattle.table_words.proofs.Prelude.{⊎_elim, arith, none, Names, moves_of, inside, opened, section_word, word_in, word_at, Settles, Holds, IsSpare}
use Rattle.table_words.proofs.Prelude.{IsLawful, IsReader, MayDouble, MayLink, min-eq_left, min-eq_right, dite, dec_lt}
use Rattle.map_table.proofs.Prelude.{Move, Open, Close, Learn, Load, Store, section_stride, layout_of, TableShape, View, ways_from, ways_of, count_of}
use Rattle.map_table.proofs.Prelude.{width_of, did, Kept, Gains, opens, closes, learns, stores, puts, doubles, scans, Holder, Does, IsKnown, first_of}
use Rattle.std.proofs.Common.{min}
use Rattle.atomic_table.specs.Table.{Me, step, Allows}
use Rattle.atomic_table.specs.Seated.{TableId}
use Rattle.table_words.specs.History.{most_sections}
use Rattle.table_words.proofs.Standing.{named, fits}
use Rattle.std.proofs.Math.Nat.{min-le_right}
use Rattle.map_table.proofs.Places.{IsAt}
use Rattle.map_table.proofs.Lists.{stored_here}
use Rattle.map_table.proofs.Valued.{behind_key, in_element, is_open}
use Rattle.map_table.proofs.Keeps.{opens_ok, closes_ok, learns_ok, stores_ok, puts_ok, doubles_ok, scans_ok}
use Rattle.map_table.proofs.Going.{went_one}

pub stores_at : (k : TableShape) (slots id : ℕ) (me : Me ℕ View) (i element place x : ℕ) → IsAt k i element place →
    element < k.elements → IsReader (layout_of k) me.0.me → first_of k me.0.me ≤ place → place < first_of k me.0.me + k.value_words
    → Holds element me.0.mine → Allows (Kept k) slots id me i (λ _. x) (λ _. stores (step slots i x 0 none) me x)
stores_at k slots id me i element place x e low reader from below known =
    stores_ok k slots id me i element place x e low (in_element k me.0.me place reader from below)
    (inr (known, behind_key k me.0.me place from, is_open k me.0.me element place reader from below))

pub writes_at : (k : TableShape) (slots id : ℕ) (me : Me ℕ View) (i element place x : ℕ) →
    IsAt k i element place → element < k.elements → place < width_of k → me.0.me ≡ 0 → IsSpare k.readers element me.0.mine
    → Allows (Kept k) slots id me i (λ _. x) (λ _. stores (step slots i x 0 none) me x)
writes_at k slots id me i element place x e low in_element writer spare =
    stores_ok k slots id me i element place x e low in_element (inl (writer, spare))

-- a word by what the holder saw after a step
word_seen : (v w : View) (m m' : Move) (element place : ℕ) → m ≡ m' → (g : Gains v m w) →
    word_at element place w.seen ≡ word_at element place ((v.me, m') ∷ (g.0 ++ v.seen))
word_seen v w m m' element place is g = ap (λ (z : View). word_at element place z.seen) g.1 ∙
    ap (λ z. word_at element place ((v.me, z) ∷ (g.0 ++ v.seen))) is

pub lawful_now : (v w : View) (m m' : Move) → m ≡ m' → (g : Gains v m w) → IsLawful (layout_of v.shape) ((v.me, m') ∷ (g.0 ++ v.seen))
lawful_now v w m m' is g = subst (λ z. IsLawful (layout_of v.shape) ((v.me, z) ∷ (g.0 ++ v.seen))) is
    (subst (λ (z : View). IsLawful (layout_of v.shape) z.seen) g.1 g.2)

-- what a load found, as a clause says it
pub load_found : (v w : View) (m : Move) (element place x : ℕ) → m ≡ Load element place x → Gains v m w → x ≡ word_at element place w.seen
load_found v w m element place x is g =
    (lawful_now v w m (Load element place x) is g).0.1 ∙ sym (word_seen v w m (Load element place x) element place is g)

-- what a store left, as a clause says it
pub store_left : (v w : View) (m : Move) (element place x : ℕ) → m ≡ Store element place x → Gains v m w → word_at element place w.seen ≡ x
store_left v w m element place x is g = word_seen v w m (Store element place x) element place is g ∙
    stored_here v.me element place element place x (g.0 ++ v.seen) refl refl

-- a way that was learnt names only an element that there is
pub learn_within : (v w : View) (m : Move) (way x element : ℕ) → m ≡ Learn way x → Gains v m w → Names x element → element < v.shape.elements
learn_within v w m way x element is g names =
    let now = lawful_now v w m (Learn way x) is g in
    (fits (layout_of v.shape) (g.0 ++ v.seen) now.1 way element (subst (λ z. Names z element) now.0.2 names)).within

-- and where it was not empty, it names one
pub learn_named : (v w : View) (m : Move) (way x : ℕ) → m ≡ Learn way x → Gains v m w → x ≢ 0 → (element : ℕ) × Names x element
learn_named v w m way x is g some =
    let now = lawful_now v w m (Learn way x) is g in
    let log : List (ℕ × Move) = g.0 ++ v.seen in ⊎_elim
    (λ (empty : word_in way (moves_of 0 log) ≡ 0). absurd (some (now.0.2 ∙ empty)))
    (λ (t : (element : ℕ) × Names (word_in way (moves_of 0 log)) element). (t.0, subst (λ z. Names z t.0) (sym now.0.2) t.1))
    (named (layout_of v.shape) log now.1 way)

abbrev pub holder : TableId → View → Holder
holder t v = record { table = record { id = t; shape = v.shape }; view = v }

-- what a step told, as a clause says it
pub does : (t t' : TableId) (v w : View) (s : Holder) (m m' : Move) → holder t v ≡ s → t' ≡ t → m ≡ m' → Gains v m w → Does s m' (holder t' w)
does t t' v w s m m' is same move g =
    subst (λ z. Does z m' (holder t' w)) is record {
      table = λ i. record { id = same i; shape = (g.1 i).shape };
      went = went_one v w m' (subst (λ z. Gains v z w) move g);
    }

-- where a reader's section word lies, as an equation
abbrev pub IsSection : ℕ → ℕ → Type 0
IsSection i me = i + section_stride ≡ me * section_stride

pub section_within : (j k : TableShape) (i me n : ℕ) → j ≡ k → IsReader (layout_of j) me → IsSection i me → n ≡ count_of k → i < n
section_within j k i me n same reader at e =
    let r : IsReader (layout_of k) me = subst (λ (z : TableShape). IsReader (layout_of z) me) same reader in omega arith

pub opens_at : (j k : TableShape) (slots id : ℕ) (me : Me ℕ View) (i x : ℕ) → j ≡ k → IsReader (layout_of j) me.0.me →
    IsSection i me.0.me → x ≡ section_word (Open ∷ me.0.mine) → Allows (Kept k) slots id me i (λ _. x) (λ _. opens (step slots i x 0 none) me x)
opens_at j k slots id me i x same reader at word =
    let r : IsReader (layout_of k) me.0.me = subst (λ (z : TableShape). IsReader (layout_of z) me.0.me) same reader in
    opens_ok k slots id me i (me.0.me - 1) x (omega arith) (omega arith) (omega arith) word

pub closes_at : (j k : TableShape) (slots id : ℕ) (me : Me ℕ View) (i x : ℕ) → j ≡ k → IsReader (layout_of j) me.0.me →
    IsSection i me.0.me → x ≡ section_word (Close ∷ me.0.mine) → Allows (Kept k) slots id me i (λ _. x) (λ _. closes (step slots i x 0 none) me x)
closes_at j k slots id me i x same reader at word =
    let r : IsReader (layout_of k) me.0.me = subst (λ (z : TableShape). IsReader (layout_of z) me.0.me) same reader in
    closes_ok k slots id me i (me.0.me - 1) x (omega arith) (omega arith) (omega arith) word

-- what a reader's seat keeps
abbrev pub IsSeat : Me ℕ View → ℕ → ℕ → ℕ → Type 0
IsSeat me section first even = IsReader (layout_of me.0.shape) me.0.me × IsSection section me.0.me × (me.1 ≡ [])
    × (first ≡ first_of me.0.shape me.0.me) × (even ≡ 2 * min (opened me.0.mine) most_sections)

-- it keeps it through each step
pub seat_kept : (me new : Me ℕ View) (m : Move) (section first old even : ℕ) → Gains me.0 m new.0 → new.1 ≡ me.1 → IsSeat me section first old →
    even ≡ 2 * min (opened (m ∷ me.0.mine)) most_sections → IsSeat new section first even
seat_kept me new m section first old even g held i is =
    let w : new ≡ (did me.0 m g.0, me.1) = λ j. (g.1 j, held j) in
    subst (λ (z : Me ℕ View). IsSeat z section first even) (sym w) (i.0, i.1, i.2, i.3, is)

-- the word of a reader outside is no more than the last
pub small_even : (n even : ℕ) → even ≡ 2 * min n most_sections → even ≤ 2 * most_sections
small_even n even is = let l = min-le_right n most_sections in omega (arith, is, l)

-- the even word after it
pub next_even : (n even x : ℕ) → even ≡ 2 * min n most_sections → (even < 2 * most_sections → x ≡ even + 2) → (even ≡ 2 * most_sections → x ≡ even) →
    x ≡ 2 * min (suc n) most_sections
next_even n even x is counts stops = dite (dec_lt n (2 ^ 62))
    (λ l.
    let e : min n most_sections ≡ n = min-eq_left (omega (arith, l)) in
    let f : min (suc n) most_sections ≡ suc n = min-eq_left (omega (arith, l)) in
    let x_is = counts (omega (arith, is, e, l)) in omega (arith, is, e, f, x_is))
    (λ l.
    let e : min n most_sections ≡ most_sections = min-eq_right (omega (arith, l)) in
    let f : min (suc n) most_sections ≡ most_sections = min-eq_right (omega (arith, l)) in
    let x_is = stops (omega (arith, is, e)) in omega (arith, is, e, f, x_is))

-- which is the word of the reader once it has ended its section
pub outside_word : (ms : List Move) (even : ℕ) → even ≡ 2 * min (opened ms) most_sections → even ≡ section_word (Close ∷ ms)
outside_word ms even is = let e : 2 * min (opened ms) most_sections ≡ 2 * min (opened ms) most_sections - 0 = omega arith in is ∙ e

-- Where a way's word lies: the ways begin at w.
pub learns_at : (j k : TableShape) (slots id : ℕ) (me : Me ℕ View) (w way : ℕ) → w ≡ ways_from j → me.0.shape ≡ j → j ≡ k →
    way < ways_of j → IsReader (layout_of me.0.shape) me.0.me → inside me.0.mine ≡ 1
    → Allows (Kept k) slots id me (w + way) (λ n. n) (learns (step slots (w + way) 0 0 none) me)
learns_at j k slots id me w way at same is l reader one =
    let e : ways_from j ≡ ways_from k = ap ways_from is in
    let m : way < ways_of k = subst (λ (z : TableShape). way < ways_of z) is l in
    learns_ok k slots id me (w + way) (omega (arith, at, e)) (omega (arith, at, e, m))
    (subst (λ (z : TableShape). IsReader (layout_of z) me.0.me) (same ∙ is) reader) one

way_is : (r s i : ℕ) → i ≡ r → (i + s) - r ≡ s
way_is r s i e = omega arith

pub way_back : (j k : TableShape) (w way : ℕ) → w ≡ ways_from k → j ≡ k → (w + way) - ways_from j ≡ way
way_back j k w way at same = way_is (ways_from j) way w (at ∙ ap ways_from (sym same))

pub way_within : (k : TableShape) (w way n : ℕ) → w ≡ ways_from k → way < ways_of k → n ≡ count_of k → w + way < n
way_within k w way n at l e = omega (arith, at, l, e)

pub puts_at : (j k : TableShape) (slots id : ℕ) (me : Me ℕ View) (w way x : ℕ) → w ≡ ways_from j → me.0.shape ≡ j → j ≡ k →
    way < ways_of j → me.0.me ≡ 0 → IsKnown me.0 → (x ≡ 0) ⊎ MayLink (layout_of j) me.0.seen way x →
    Settles j.readers way x me.0.mine
    → Allows (Kept k) slots id me (w + way) (λ _. x) (λ _. puts (step slots (w + way) x 0 none) me x)
puts_at j k slots id me w way x at same is l writer known may settles =
    let e : ways_from j ≡ ways_from k = ap ways_from is in
    let m : way < ways_of k = subst (λ (z : TableShape). way < ways_of z) is l in
    let back : (w + way) - ways_from me.0.shape ≡ way = way_back me.0.shape j w way at same in
    puts_ok k slots id me (w + way) x (omega (arith, at, e)) (omega (arith, at, e, m)) writer known
    (subst (λ (z : ℕ × TableShape). (x ≡ 0) ⊎ MayLink (layout_of z.1) me.0.seen z.0 x) (λ i. (sym back i, is i)) may)
    (subst (λ (z : ℕ × TableShape). Settles z.1.readers z.0 x me.0.mine) (λ i. (sym back i, is i)) settles)

pub doubles_at : (j k : TableShape) (slots id : ℕ) (me : Me ℕ View) (w from way x : ℕ) → w ≡ ways_from j → me.0.shape ≡ j → j ≡ k →
    way < ways_of j → me.0.me ≡ 0 → IsKnown me.0 → MayDouble (layout_of j) me.0.seen from way x
    → Allows (Kept k) slots id me (w + way) (λ _. x) (λ _. doubles (step slots (w + way) x 0 none) me x)
doubles_at j k slots id me w from way x at same is l writer known may =
    let e : ways_from j ≡ ways_from k = ap ways_from is in
    let m : way < ways_of k = subst (λ (z : TableShape). way < ways_of z) is l in
    let back : (w + way) - ways_from me.0.shape ≡ way = way_back me.0.shape j w way at same in
    doubles_ok k slots id me (w + way) from x (omega (arith, at, e)) (omega (arith, at, e, m)) writer known
    (subst (λ (z : ℕ × TableShape). MayDouble (layout_of z.1) me.0.seen from z.0 x) (λ i. (sym back i, is i)) may)

pub scan_within : (k : TableShape) (reader n : ℕ) → reader < k.readers → n ≡ count_of k → reader * section_stride < n
scan_within k reader n l e = omega arith

pub scan_reader : (reader : ℕ) → reader * section_stride / section_stride ≡ reader
scan_reader reader = omega arith

pub scans_at : (j k : TableShape) (slots id : ℕ) (me : Me ℕ View) (reader : ℕ) → j ≡ k → reader < j.readers → me.0.me ≡ 0
    → Allows (Kept k) slots id me (reader * section_stride) (λ n. n) (scans (step slots (reader * section_stride) 0 0 none) me)
scans_at j k slots id me reader is l writer = scans_ok k slots id me (reader * section_stride) reader refl
    (subst (λ (z : TableShape). reader < z.readers) is l) writer
