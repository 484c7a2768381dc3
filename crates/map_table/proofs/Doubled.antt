-- What the writer keeps while it moves an element.
use Rattle.table_words.proofs.Prelude.{◌≡◌, ◌≢◌, ◌⊎◌, ℕ, suc, ◌+◌, ◌*◌, ◌%◌, ◌^◌, ◌<◌, ◌≤◌, List, [], ◌∷◌, ◌++◌, length, refl, sym, ap, ◌∙◌, subst, ⊎_elim}
use Rattle.table_words.proofs.Prelude.{inl, inr, arith, set, length-set, get_or, get_or-set_other, get_or-set_same, append_assoc, slice_index, dite}
use Rattle.table_words.proofs.Prelude.{ℕ_discrete, dec_lt, Layout, Names, IsCandidate, bucket_of, bucket_ways, moves_of, word_in, key_of, IsMoving}
use Rattle.table_words.proofs.Prelude.{IsSettled, since_double, Settles, Cleared, IsSpare, IsLinked, MayDouble, IsLawful, OnlySearches, IsLinkedAs}
use Rattle.table_words.proofs.Prelude.{OnlyMoves, AreLinkedOnce, OnlyScans}
use Rattle.map_table.proofs.Prelude.{Move, Open, Close, Learn, Load, Store, Put, Double, Scan, TableShape, View, Sighting, layout_of, first_bucket}
use Rattle.map_table.proofs.Prelude.{second_bucket, Gains, ways_of, Went, IsKnown, IsSized, HasGone, HaveGone, IsSomeInside, NoneCanMove, StandStill}
use Rattle.map_table.proofs.Prelude.{StayLinked, AreSightings, WriterView, IsFree, IsUnlinked, IsNoneLost, IsWriter}
use Rattle.std.proofs.Math.ListN.{get_or-eq_default}
use Rattle.table_words.proofs.Moved.{stays_linked, linked_early, moves_once}
use Rattle.table_words.proofs.Steps.{doubled_here, doubled_there, nothing_named, put_here, put_there}
use Rattle.table_words.proofs.Standing.{named, one_way}
use Rattle.table_words.specs.Ways.{IsOfBoth}
use Rattle.map_table.specs.Moving.{HasFullBuckets, IsNth}
use Rattle.map_table.proofs.Filling.{own_list, tail_of, went_shape, went_me}
use Rattle.map_table.proofs.Going.{went_as, went_known, went_mine, went_then}
use Rattle.map_table.proofs.Keeping.{IsQuiet, quiet_writer, quiet_settled, same_word, searches_quiet, only_scans_quiet, put_writer, put_settled, here, there}
use Rattle.map_table.proofs.Keeping.{empty_names_none}
use Rattle.map_table.proofs.Linking.{of_both, way_low}
use Rattle.map_table.proofs.Members.{all_to}
use Rattle.map_table.proofs.Peeking.{way_kept, key_kept}
use Rattle.map_table.proofs.Replacing.{stretch}
use Rattle.map_table.proofs.Seen.{inside_front, sightings_put}
use Rattle.map_table.proofs.Lists.{moves_self}

-- a word that names an element stands in one way: the one of which the step tells is that of the call
pub doubled_from : (k : TableShape) (v w : View) (from told to x : ℕ) → v.shape ≡ k → v.me ≡ 0 → IsKnown v →
    MayDouble (layout_of k) v.seen from to x → Gains v (Double told to x) w → told ≡ from
doubled_from k v w from told to x is writer known may g =
    let rest : List (ℕ × Move) = g.0 ++ v.seen in
    let m : Move = Double told to x in
    let seen : w.seen ≡ (v.me, m) ∷ rest = ap (λ (z : View). z.seen) g.1 in
    let lawful : IsLawful (layout_of k) ((v.me, m) ∷ rest) = subst (λ (z : TableShape). IsLawful (layout_of z) ((v.me, m) ∷ rest)) is
    (subst (IsLawful (layout_of v.shape)) seen g.2) in
    let list : m ∷ moves_of v.me rest ≡ m ∷ v.mine =
    sym (moves_self v.me m rest) ∙ (ap (moves_of v.me) (sym seen) ∙ (g.3 ∙ ap (λ (z : View). z.mine) g.1)) in
    let same : moves_of 0 rest ≡ moves_of 0 v.seen =
    ap (λ z. moves_of z rest) (sym writer) ∙ (ap tail_of list ∙ sym (own_list v writer known)) in
    let may_now = lawful.0.1 in
    one_way (layout_of k) rest lawful.1 may_now.settled told from may.element
    (subst (λ z. Names z may.element) (sym may_now.there) may.names)
    (subst (λ z. Names z may.element) (sym (ap (word_in from) same ∙ may.there)) may.names)

pub doubled_move : (k : TableShape) (v w : View) (from told to at x : ℕ) → at ≡ to → v.shape ≡ k → v.me ≡ 0 → IsKnown v →
    MayDouble (layout_of k) v.seen from to x → Gains v (Double told at x) w → Went v (Double from to x ∷ v.mine) w
doubled_move k v w from told to at x here is writer known may g =
    let h : Gains v (Double told to x) w = subst (λ z. Gains v (Double told z x) w) here g in
    let same = doubled_from k v w from told to x is writer known may h in
    went_as v w (Double told to x) (Double from to x) (λ i. Double (same i) to x) h

-- a word that is not 0 names an element
pub low_named : (v : View) (way x : ℕ) → v.me ≡ 0 → IsKnown v → x ≡ word_in way v.mine → x ≢ 0 → x % 2 ^ 32 ≢ 0
low_named v way x writer known is some none =
    let mine = ap (word_in way) (own_list v writer known) in
    ⊎_elim
    (λ (z : word_in way (moves_of 0 v.seen) ≡ 0). some (is ∙ (sym mine ∙ z)))
    (λ (t : (element : ℕ) × Names (word_in way (moves_of 0 v.seen)) element).
    let names : x % 2 ^ 32 ≡ suc t.0 = subst (λ z. Names z t.0) (mine ∙ sym is) t.1 in absurd (omega (arith, names, none)))
    (named (layout_of v.shape) v.seen known.0 way)

-- where the writer has searched
module _ (k : TableShape) (v w : View) (ns : List Move) (shape : v.shape ≡ k) (writer : v.me ≡ 0) (known : IsKnown v)
    (only : OnlySearches (layout_of k) 0 ns) (g : Went v (ns ++ v.mine) w) (ways : List ℕ)
    (words : (x : ℕ) → x < ways_of k → slice_index ways x ≡ word_in x v.mine) where
  pub words_later : (x : ℕ) → x < ways_of k → slice_index ways x ≡ word_in x w.mine
  words_later x low = words x low ∙ sym (same_word v w ns (searches_quiet (layout_of k) 0 ns only) g x)

  seen_word : (x : ℕ) → x < ways_of k → word_in x (moves_of 0 w.seen) ≡ slice_index ways x
  seen_word x low = way_kept k v w ns shape writer known only g x ∙ (ap (word_in x) (own_list v writer known) ∙ sym (words x low))

  pub settled_later : IsSettled v.mine → IsSettled w.mine
  settled_later = quiet_settled v w ns (searches_quiet (layout_of k) 0 ns only) g

  -- an empty way of the buckets of a key that is linked in another
  pub second_found : IsSettled v.mine → (key : List ℕ) (from one two to element : ℕ) → from < ways_of k → Names (slice_index ways from) element →
      key_of (layout_of k) element w.seen ≡ key → one ≡ first_bucket k key * 8 → two ≡ second_bucket k key * 8 → one + bucket_ways ≤ ways_of k →
      two + bucket_ways ≤ ways_of k → IsOfBoth one two to → slice_index ways to ≡ 0 →
      (to < ways_of k) × MayDouble (layout_of k) w.seen from to (slice_index ways from)
  second_found none key from one two to element low names is first second p q both empty =
      let to_low = way_low one two to (ways_of k) p q both in (
        to_low,
        record {
          element = element;
          names = names;
          there = seen_word from low;
          empty = seen_word to to_low ∙ empty;
          bucket = subst (λ z. IsCandidate (layout_of k) 0 z to) (sym is) (of_both k key one two to first second both);
          settled = subst IsSettled (sym (own_list w (went_me v w (ns ++ v.mine) g ∙ writer) (went_known v w (ns ++ v.mine) g))) (settled_later none);
        },
      )

-- the way is one of the first of those of two buckets, so many
abbrev pub IsAmong : ℕ → ℕ → ℕ → ℕ → Type 0
IsAmong first second at way = ((first ≤ way) × (way < first + at) × (way < first + bucket_ways)) ⊎ ((second ≤ way) × (way + bucket_ways < second + at))

-- the keys in them can go nowhere else
abbrev pub NoneYet : TableShape → List ℕ → ℕ → ℕ → ℕ → View → Type 0
NoneYet k ways first second at v = (way element : ℕ) → IsAmong first second at way → Names (slice_index ways way) element →
    HasFullBuckets k ways (key_of (layout_of k) element v.seen)

among_more : (first second at way nth : ℕ) → IsNth first second at nth → IsAmong first second (at + 1) way → IsAmong first second at way ⊎ (way ≡ nth)
among_more first second at way nth n (inl a) =
    let low = a.0 in
    let high = a.1 in
    let within = a.2 in
    dite (dec_lt way (first + at))
    (λ l. inl (inl (low, l, within)))
    (λ l. ⊎_elim
    (λ (t : (at < bucket_ways) × (nth ≡ first + at)). let e = t.1 in inr (omega (arith, e, l, high)))
    (λ (t : (bucket_ways ≤ at) × (nth + bucket_ways ≡ second + at)). let h = t.0 in absurd (omega (arith, h, l, within)))
    n)
among_more first second at way nth n (inr a) =
    let low = a.0 in
    let high = a.1 in
    dite (dec_lt (way + bucket_ways) (second + at))
    (λ l. inl (inr (low, l)))
    (λ l. ⊎_elim
    (λ (t : (at < bucket_ways) × (nth ≡ first + at)). let h = t.0 in absurd (omega (arith, h, low, high)))
    (λ (t : (bucket_ways ≤ at) × (nth + bucket_ways ≡ second + at)). let e = t.1 in inr (omega (arith, e, l, high)))
    n)

pub among_all : (first second way : ℕ) → IsOfBoth first second way → IsAmong first second 16 way
among_all first second way (inl t) = let a = t.0 in let b = t.1 in inl (a, omega (arith, b), b)
among_all first second way (inr t) = let a = t.0 in let b = t.1 in inr (a, omega (arith, b))

pub among_none : (first second way : ℕ) → IsAmong first second 0 way → ⊥
among_none first second way (inl a) = let l = a.0 in let h = a.1 in absurd (omega (arith, l, h))
among_none first second way (inr a) = let l = a.0 in let h = a.1 in absurd (omega (arith, l, h))

pub nth_both : (first second at way : ℕ) → at < 16 → IsNth first second at way → IsOfBoth first second way
nth_both first second at way few (inl t) = let l = t.0 in let e = t.1 in inl (omega (arith, e), omega (arith, l, e))
nth_both first second at way few (inr t) = let l = t.0 in let e = t.1 in inr (omega (arith, l, e), omega (arith, few, e))

pub none_more : (k : TableShape) (v w : View) (ns : List Move) → v.shape ≡ k → v.me ≡ 0 → IsKnown v → OnlySearches (layout_of k) 0 ns →
    Went v (ns ++ v.mine) w → (ways : List ℕ) (first second at nth : ℕ) → IsNth first second at nth → NoneYet k ways first second at v →
    ((element : ℕ) → Names (slice_index ways nth) element → HasFullBuckets k ways (key_of (layout_of k) element w.seen)) →
    NoneYet k ways first second (at + 1) w
none_more k v w ns shape writer known only g ways first second at nth n before now way element among names = ⊎_elim
    (λ (a : IsAmong first second at way). subst (HasFullBuckets k ways) (sym (key_kept k v w ns shape writer known only g element))
    (before way element a names))
    (λ (is : way ≡ nth). now element (subst (λ z. Names (slice_index ways z) element) is names))
    (among_more first second at way nth n among)

-- after a word was put in a second way
module _ (v u : View) (from to word element : ℕ) (g : Went v (Double from to word ∷ v.mine) u) (names : Names word element)
    (from_is : word_in from v.mine ≡ word) (empty : word_in to v.mine ≡ 0) where
  shape_of : u.shape ≡ v.shape
  shape_of = went_shape v u (Double from to word ∷ v.mine) g

  pub to_here : word_in to u.mine ≡ word
  to_here = ap (word_in to) (went_mine v u (Double from to word ∷ v.mine) g) ∙ doubled_here from to to word v.mine refl

  pub to_there : (other : ℕ) → to ≢ other → word_in other u.mine ≡ word_in other v.mine
  to_there other ne = ap (word_in other) (went_mine v u (Double from to word ∷ v.mine) g) ∙ doubled_there from to other word v.mine ne

  still_away : (e : ℕ) → (IsLinked e v.mine → ⊥) → IsLinked e u.mine → ⊥
  still_away e not l = dite (ℕ_discrete to l.0)
      (λ same. not (from, subst (λ z. Names z e) (ap (λ z. word_in z u.mine) (sym same) ∙ (to_here ∙ sym from_is)) l.1))
      (λ ne. not (l.0, subst (λ z. Names z e) (to_there l.0 ne) l.1))

  double_free : (e : ℕ) → IsFree v e → IsFree u e
  double_free e f = subst (λ (k : TableShape). (e < k.elements) × IsSpare k.readers e u.mine) (sym shape_of) (
    f.0,
    (
      still_away e f.1.0,
      λ r some within. subst (Cleared r e) (sym (went_mine v u (Double from to word ∷ v.mine) g)) (f.1.1 r some within),
    ),
  )

  double_away : (e : ℕ) → IsUnlinked v e → IsUnlinked u e
  double_away e f = (subst (λ (k : TableShape). e < k.elements) (sym shape_of) f.0, still_away e f.1)

  pub double_writer : (ways free unlinked : List ℕ) → IsWriter v ways free unlinked → to < ways_of v.shape → IsWriter u (set ways to word) free unlinked
  double_writer ways free unlinked b low = record {
    me = went_me v u (Double from to word ∷ v.mine) g ∙ b.me;
    known = went_known v u (Double from to word ∷ v.mine) g;
    sized = subst IsSized (sym shape_of) b.sized;
    count = length-set ways to word ∙ (b.count ∙ ap ways_of (sym shape_of));
    are_ways = λ other l. let count = b.count in dite (ℕ_discrete other to)
        (λ e. subst (λ z. get_or (set ways to word) z 0 ≡ word_in z u.mine) (sym e)
        (get_or-set_same ways to word 0 (omega (arith, low, count)) ∙ sym to_here))
        (λ ne. get_or-set_other ways to other word 0 ne ∙
        (b.are_ways other (subst (λ (k : TableShape). other < ways_of k) shape_of l) ∙ sym (to_there other (λ e. ne (sym e)))));
    are_free = all_to (IsFree v) (IsFree u) free double_free b.are_free;
    are_unlinked = all_to (IsUnlinked v) (IsUnlinked u) unlinked double_away b.are_unlinked;
    once = b.once;
  }

  -- what was linked before is linked after a way of the two was emptied
  module _ (x w : View) (ns : List Move) (q : IsQuiet ns) (h : Went u (ns ++ u.mine) x) (z : ℕ) (j : Went x (Put z 0 ∷ x.mine) w)
      (z_is : (z ≡ to) ⊎ (z ≡ from)) where
    two : from ≢ to
    two same = nothing_named element (subst (λ n. Names n element) (sym from_is ∙ (ap (λ n. word_in n v.mine) same ∙ empty)) names)

    same_x : (way : ℕ) → word_in way x.mine ≡ word_in way u.mine
    same_x = same_word u x ns q h

    later : (way e : ℕ) → z ≢ way → Names (word_in way x.mine) e → IsLinked e w.mine
    later way e ne n = (way, subst (λ y. Names y e) (sym (there x w z 0 j way ne)) n)

    -- both ways have one word
    at_from : word_in from x.mine ≡ word
    at_from = same_x from ∙ (to_there from (λ e. two (sym e)) ∙ from_is)

    at_to : word_in to x.mine ≡ word
    at_to = same_x to ∙ to_here

    other_way : (e : ℕ) → Names word e → IsLinked e w.mine
    other_way e n = ⊎_elim
        (λ (is : z ≡ to). later from e (λ same. two (sym (sym is ∙ same))) (subst (λ y. Names y e) (sym at_from) n))
        (λ (is : z ≡ from). later to e (λ same. two (sym is ∙ same)) (subst (λ y. Names y e) (sym at_to) n))
        z_is

    linked_on : (e : ℕ) → IsLinked e v.mine → IsLinked e w.mine
    linked_on e l =
        let not_to : to ≢ l.0 = λ same. nothing_named e (subst (λ y. Names y e) (ap (λ y. word_in y v.mine) (sym same) ∙ empty) l.1) in
        let in_x : Names (word_in l.0 x.mine) e = subst (λ y. Names y e) (sym (same_x l.0 ∙ to_there l.0 not_to)) l.1 in
        dite (ℕ_discrete z l.0)
        (λ same. ⊎_elim
        (λ (is : z ≡ to). absurd (not_to (sym is ∙ same)))
        (λ (is : z ≡ from). other_way e (subst (λ y. Names y e) (ap (λ y. word_in y x.mine) (sym same ∙ is) ∙ at_from) in_x))
        z_is)
        (λ ne. later l.0 e ne in_x)

    pub move_none_lost : (free unlinked : List ℕ) → IsNoneLost v free unlinked → IsNoneLost w free unlinked
    move_none_lost free unlinked each e low none =
        let all : w.shape ≡ v.shape = went_shape x w (Put z 0 ∷ x.mine) j ∙ (went_shape u x (ns ++ u.mine) h ∙ shape_of) in
        linked_on e (each e (subst (λ (k : TableShape). e < k.elements) all low) none)

-- scans behind a word that was put in a second way
since_scans : (low high : ℕ) (ns ms : List Move) (from to word : ℕ) → OnlyScans low high ns → since_double (ns ++ Double from to word ∷ ms) ≡ ns
since_scans low high [] ms from to word n = refl
since_scans low high (Open ∷ ns) ms from to word n = absurd n
since_scans low high (Close ∷ ns) ms from to word n = absurd n
since_scans low high (Learn w x ∷ ns) ms from to word n = absurd n
since_scans low high (Load e p x ∷ ns) ms from to word n = absurd n
since_scans low high (Store e p x ∷ ns) ms from to word n = absurd n
since_scans low high (Put w x ∷ ns) ms from to word n = absurd n
since_scans low high (Double v w x ∷ ns) ms from to word n = absurd n
since_scans low high (Scan r x ∷ ns) ms from to word n = ap (λ z. Scan r x ∷ z) (since_scans low high ns ms from to word n.2)

moving_scans : (low high : ℕ) (ns ms : List Move) (from to word : ℕ) → OnlyScans low high ns → IsMoving from to ((ns ++ Double from to word ∷ []) ++ ms)
moving_scans low high [] ms from to word n = (refl, refl)
moving_scans low high (Open ∷ ns) ms from to word n = absurd n
moving_scans low high (Close ∷ ns) ms from to word n = absurd n
moving_scans low high (Learn w x ∷ ns) ms from to word n = absurd n
moving_scans low high (Load e p x ∷ ns) ms from to word n = absurd n
moving_scans low high (Store e p x ∷ ns) ms from to word n = absurd n
moving_scans low high (Put w x ∷ ns) ms from to word n = absurd n
moving_scans low high (Double v w x ∷ ns) ms from to word n = absurd n
moving_scans low high (Scan r x ∷ ns) ms from to word n = moving_scans low high ns ms from to word n.2

only_scans_move : (low high : ℕ) (ns ms : List Move) (from to word : ℕ) → OnlyScans low high ns → OnlyMoves (ns ++ Double from to word ∷ []) ms
only_scans_move low high [] ms from to word n = tt
only_scans_move low high (Open ∷ ns) ms from to word n = absurd n
only_scans_move low high (Close ∷ ns) ms from to word n = absurd n
only_scans_move low high (Learn w x ∷ ns) ms from to word n = absurd n
only_scans_move low high (Load e p x ∷ ns) ms from to word n = absurd n
only_scans_move low high (Store e p x ∷ ns) ms from to word n = absurd n
only_scans_move low high (Put w x ∷ ns) ms from to word n = absurd n
only_scans_move low high (Double v w x ∷ ns) ms from to word n = absurd n
only_scans_move low high (Scan r x ∷ ns) ms from to word n = only_scans_move low high ns ms from to word n.2

-- the moves of a whole move
pub moves_only : (low high : ℕ) (ns ms : List Move) (from to z word : ℕ) → OnlyScans low high ns →
    OnlyMoves (Put z 0 ∷ (ns ++ Double from to word ∷ [])) ms
moves_only low high ns ms from to z word n = ((from, to, moving_scans low high ns ms from to word n), only_scans_move low high ns ms from to word n)

pub move_settles : (readers from to z word : ℕ) (v u x : View) (ns : List Move) → OnlyScans 0 readers ns → Went v (Double from to word ∷ v.mine) u →
    Went u (ns ++ u.mine) x → (z ≡ to) ⊎ ((z ≡ from) × HaveGone readers ns) → Settles readers z 0 x.mine
move_settles readers from to z word v u x ns only g h ends f t moving =
    let mine : x.mine ≡ ns ++ Double from to word ∷ v.mine =
    went_mine u x (ns ++ u.mine) h ∙ ap (λ ms. ns ++ ms) (went_mine v u (Double from to word ∷ v.mine) g) in
    let is : (from ≡ f) × (to ≡ t) = (only_scans_quiet 0 readers ns only).moving f t (Double from to word ∷ v.mine) (subst (IsMoving f t) mine moving) in (
      refl,
      ⊎_elim
          (λ (e : z ≡ to). inl (e ∙ is.1))
          (λ (e : (z ≡ from) × HaveGone readers ns). inr (
            e.0 ∙ is.0,
            subst (HaveGone readers) (sym (ap since_double mine ∙ since_scans 0 readers ns v.mine from to word only)) e.1,
          ))
          ends,
    )

-- searches only move
pub searches_only_move : (k : Layout) (table : ℕ) (ns ms : List Move) → OnlySearches k table ns → OnlyMoves ns ms
searches_only_move k table [] ms n = tt
searches_only_move k table (Open ∷ ns) ms n = absurd n
searches_only_move k table (Close ∷ ns) ms n = absurd n
searches_only_move k table (Learn w x ∷ ns) ms n = searches_only_move k table ns ms n
searches_only_move k table (Load e p x ∷ ns) ms n = searches_only_move k table ns ms n.1
searches_only_move k table (Store e p x ∷ ns) ms n = absurd n
searches_only_move k table (Put w x ∷ ns) ms n = absurd n
searches_only_move k table (Double v w x ∷ ns) ms n = absurd n
searches_only_move k table (Scan r x ∷ ns) ms n = absurd n

pub only_moves_append : (ns ms bs : List Move) → OnlyMoves ns (ms ++ bs) → OnlyMoves ms bs → OnlyMoves (ns ++ ms) bs
only_moves_append [] ms bs n m = m
only_moves_append (Open ∷ ns) ms bs n m = only_moves_append ns ms bs n m
only_moves_append (Close ∷ ns) ms bs n m = only_moves_append ns ms bs n m
only_moves_append (Learn w x ∷ ns) ms bs n m = only_moves_append ns ms bs n m
only_moves_append (Load e p x ∷ ns) ms bs n m = only_moves_append ns ms bs n m
only_moves_append (Store e p x ∷ ns) ms bs n m = only_moves_append ns ms bs n m
only_moves_append (Double v w x ∷ ns) ms bs n m = only_moves_append ns ms bs n m
only_moves_append (Scan r x ∷ ns) ms bs n m = only_moves_append ns ms bs n m
only_moves_append (Put w x ∷ ns) ms bs n m = (
  (n.0.0, n.0.1, subst (IsMoving n.0.0 n.0.1) (sym (append_assoc ns ms bs)) n.0.2),
  only_moves_append ns ms bs n.1 m,
)

-- what moves leave, as the clauses say it
module _ (k : TableShape) (v w : View) (ms : List Move) (shape : v.shape ≡ k) (writer : v.me ≡ 0) (known : IsKnown v)
    (only : OnlyMoves ms v.mine) (g : Went v (ms ++ v.mine) w) where
  seen_is : w.seen ≡ g.0 ++ v.seen
  seen_is = ap (λ (z : View). z.seen) g.1

  lawful_seen : IsLawful (layout_of k) (g.0 ++ v.seen)
  lawful_seen = subst (λ (z : TableShape). IsLawful (layout_of z) (g.0 ++ v.seen)) shape (subst (IsLawful (layout_of v.shape)) seen_is g.2)

  only_seen : OnlyMoves (moves_of 0 g.0) (moves_of 0 v.seen)
  only_seen = subst (λ (z : List Move × List Move). OnlyMoves z.0 z.1)
      (λ i. (sym (stretch v w ms writer known g) i, sym (own_list v writer known) i)) only

  pub room_stays : StayLinked k v.seen w.seen
  room_stays = (g.0, seen_is, λ key element l. stays_linked (layout_of k) 0 key element g.0 v.seen lawful_seen only_seen l)

  pub room_new : (key : List ℕ) (element : ℕ) → IsLinkedAs (layout_of k) 0 key element w.seen → IsLinkedAs (layout_of k) 0 key element v.seen
  room_new key element l = linked_early (layout_of k) 0 key element g.0 v.seen lawful_seen only_seen
      (subst (IsLinkedAs (layout_of k) 0 key element) seen_is l)

  pub room_once : IsSettled w.mine → AreLinkedOnce (layout_of k) 0 v.seen → AreLinkedOnce (layout_of k) 0 w.seen
  room_once none once =
      let w_known = went_known v w (ms ++ v.mine) g in
      let mine = own_list w (went_me v w (ms ++ v.mine) g ∙ writer) w_known in
      let settled : IsSettled (moves_of 0 (g.0 ++ v.seen)) = subst IsSettled (sym mine ∙ ap (moves_of 0) seen_is) none in
      subst (AreLinkedOnce (layout_of k) 0) (sym seen_is) (moves_once (layout_of k) g.0 v.seen lawful_seen 0 settled only_seen once)

-- what the writer knows of the two ways of a move
pub move_facts : (k : TableShape) (v : View) (ways free unlinked : List ℕ) (from to : ℕ) → IsWriter v ways free unlinked → v.shape ≡ k → from < ways_of k →
    MayDouble (layout_of k) v.seen from to (word_in from v.mine) →
    (element : ℕ) × Names (slice_index ways from) element × (word_in from v.mine ≡ slice_index ways from) × (word_in to v.mine ≡ 0)
move_facts k v ways free unlinked from to b shape low may =
    let is = b.are_ways from (subst (λ (z : TableShape). from < ways_of z) (sym shape) low) in
    let mine = own_list v b.me b.known in
    (may.element, subst (λ z. Names z may.element) (sym is) may.names, sym is, ap (word_in to) (sym mine) ∙ may.empty)

pub writer_may : (k : TableShape) (w : WriterView) (v : View) (from to : ℕ) → v ≡ w.view →
    MayDouble (layout_of k) w.view.seen from to (word_in from w.view.mine) →
    MayDouble (layout_of k) v.seen from to (word_in from v.mine)
writer_may k w v from to is may = subst (λ (z : View). MayDouble (layout_of k) z.seen from to (word_in from z.mine)) (sym is) may

-- what the writer keeps when a move has ended
abbrev pub Ended : (v w : View) (ways free unlinked : List ℕ) (seen : List Sighting) → Type 0
Ended v w ways free unlinked seen =
    IsWriter w ways free unlinked × AreSightings w unlinked seen × IsNoneLost w free unlinked × IsSettled w.mine × (w.shape ≡ v.shape)

pub move_ended : (k : TableShape) (v u x w : View) (ways new free unlinked : List ℕ) (seen : List Sighting) (from to z : ℕ) (ns : List Move) →
    IsWriter v ways free unlinked → IsNoneLost v free unlinked → v.shape ≡ k → from < ways_of k → to < ways_of k →
    MayDouble (layout_of k) v.seen from to (word_in from v.mine) → Went v (Double from to (slice_index ways from) ∷ v.mine) u →
    OnlyScans 0 k.readers ns → Went u (ns ++ u.mine) x → AreSightings x unlinked seen → Went x (Put z 0 ∷ x.mine) w → (z ≡ to) ⊎ (z ≡ from) →
    new ≡ set (set ways to (slice_index ways from)) z 0 → Ended v w new free unlinked seen
move_ended k v u x w ways new free unlinked seen from to z ns b lost shape low high may g only h a j ends is =
    let word = slice_index ways from in
    let f = move_facts k v ways free unlinked from to b shape low may in
    let q = only_scans_quiet 0 k.readers ns only in
    let to_low : to < ways_of v.shape = subst (λ (t : TableShape). to < ways_of t) (sym shape) high in
    let at_u = double_writer v u from to word f.0 g f.1 f.2 f.3 ways free unlinked b to_low in
    let at_x = quiet_writer u x ns q h (set ways to word) free unlinked at_u in
    let u_shape = went_shape v u (Double from to word ∷ v.mine) g in
    let x_shape = went_shape u x (ns ++ u.mine) h in
    let z_low : z < ways_of x.shape = subst (λ (t : TableShape). z < ways_of t) (sym (x_shape ∙ (u_shape ∙ shape)))
    (⊎_elim (λ (e : z ≡ to). subst (λ n. n < ways_of k) (sym e) high) (λ (e : z ≡ from). subst (λ n. n < ways_of k) (sym e) low) ends) in (
      subst (λ ws. IsWriter w ws free unlinked) (sym is)
          (put_writer x w z 0 j (set ways to word) free unlinked at_x z_low (empty_names_none free) (empty_names_none unlinked)),
      sightings_put x w z 0 unlinked seen j at_x.are_unlinked a,
      move_none_lost v u from to word f.0 g f.1 f.2 f.3 x w ns q h z j ends free unlinked lost,
      put_settled x w z 0 j,
      went_shape x w (Put z 0 ∷ x.mine) j ∙ (x_shape ∙ u_shape),
    )

-- and what it did
pub move_went : (v u x w : View) (from to z word : ℕ) (ns : List Move) → Went v (Double from to word ∷ v.mine) u → Went u (ns ++ u.mine) x →
    Went x (Put z 0 ∷ x.mine) w → Went v ((Put z 0 ∷ (ns ++ Double from to word ∷ [])) ++ v.mine) w
move_went v u x w from to z word ns g h j =
    went_then v x w (ns ++ Double from to word ∷ []) (Put z 0 ∷ []) (went_then v u x (Double from to word ∷ []) ns g h) j

-- a reader inside was found by the whole move
pub moved_inside : (readers from to z word : ℕ) (ns : List Move) → IsSomeInside readers ns → IsSomeInside readers (Put z 0 ∷ (ns ++ Double from to word ∷ []))
moved_inside readers from to z word ns s = (s.0, s.1, s.2, inside_front s.0 ns (Double from to word ∷ []) s.3)

-- a way of the buckets of a key is one of both
pub candidate_both : (k : TableShape) (key : List ℕ) (one two way : ℕ) → one ≡ first_bucket k key * 8 → two ≡ second_bucket k key * 8 →
    IsCandidate (layout_of k) 0 key way → IsOfBoth one two way
candidate_both k key one two way first second c = ⊎_elim
    (λ (e : bucket_of way ≡ first_bucket k key). inl (omega (arith, first, e), omega (arith, first, e)))
    (λ (e : bucket_of way ≡ second_bucket k key). inr (omega (arith, second, e), omega (arith, second, e))) c

-- a word of the list that is not 0 is that of its way
pub words_full : (w : View) (ways : List ℕ) (n : ℕ) → length ways ≡ n → ((x : ℕ) → x < n → slice_index ways x ≡ word_in x w.mine) → (x : ℕ) →
    slice_index ways x ≢ 0 → word_in x w.mine ≢ 0
words_full w ways n count words x some none = dite (dec_lt x n)
    (λ low. some (words x low ∙ none))
    (λ high. some (get_or-eq_default ways 0 (omega (arith, high, count))))

-- moves behind a search
pub went_moves : (v w old : View) → v ≡ old → (k : Layout) (ns ms : List Move) → OnlySearches k 0 ns → Went v (ns ++ v.mine) w → OnlyMoves ms w.mine →
    OnlyMoves (ms ++ ns) old.mine
went_moves v w old is k ns ms only g moves =
    let mine : w.mine ≡ ns ++ old.mine = went_mine v w (ns ++ v.mine) g ∙ ap (λ (z : View). ns ++ z.mine) is in
    only_moves_append ms ns old.mine (subst (OnlyMoves ms) mine moves) (searches_only_move k 0 ns old.mine only)

-- a move that is taken back leaves each word
pub still_again : (v u x w : View) (from to word : ℕ) (ns : List Move) → IsQuiet ns → word_in to v.mine ≡ 0 →
    Went v (Double from to word ∷ v.mine) u → Went u (ns ++ u.mine) x → Went x (Put to 0 ∷ x.mine) w → StandStill v w
still_again v u x w from to word ns quiet none g h j way =
    let mine = ap (word_in way) (went_mine x w (Put to 0 ∷ x.mine) j) in
    dite (ℕ_discrete to way)
    (λ (is : to ≡ way). mine ∙ (put_here to way 0 x.mine is ∙ (sym none ∙ ap (λ z. word_in z v.mine) is)))
    (λ other. mine ∙ (put_there to way 0 x.mine other ∙ (same_word u x ns quiet h way ∙
    (ap (word_in way) (went_mine v u (Double from to word ∷ v.mine) g) ∙ doubled_there from to way word v.mine other))))

-- an element that may be moved was one that could
pub could_move : (k : TableShape) (v w : View) (ns : List Move) (key ways : List ℕ) (from to : ℕ) → v.shape ≡ k → v.me ≡ 0 → IsKnown v →
    OnlySearches (layout_of k) 0 ns → Went v (ns ++ v.mine) w → IsCandidate (layout_of k) 0 key from → slice_index ways from ≡ word_in from v.mine →
    MayDouble (layout_of k) w.seen from to (slice_index ways from) → NoneCanMove v key → ⊥
could_move k v w ns key ways from to shape writer known only g candidate word may none =
    let e = may.element in
    let bucket : IsCandidate (layout_of k) 0 (key_of (layout_of k) e v.seen) to =
    subst (λ z. IsCandidate (layout_of k) 0 z to) (key_kept k v w ns shape writer known only g e) may.bucket in
    none from e (subst (λ (t : TableShape). IsCandidate (layout_of t) 0 key from) (sym shape) candidate) (subst (λ z. Names z e) word may.names) to
    (subst (λ (t : TableShape). IsCandidate (layout_of t) 0 (key_of (layout_of t) e v.seen) to) (sym shape) bucket)
    (ap (word_in to) (sym (own_list v writer known)) ∙ (sym (way_kept k v w ns shape writer known only g to) ∙ may.empty))

-- a move that is ended in the first way
pub has_gone : (v u x w : View) (from to word : ℕ) (ns : List Move) → IsQuiet ns → word_in to v.mine ≡ 0 → word_in from v.mine ≢ 0 →
    word_in from v.mine ≡ word → Went v (Double from to word ∷ v.mine) u → Went u (ns ++ u.mine) x → Went x (Put from 0 ∷ x.mine) w →
    HasGone from to v w
has_gone v u x w from to word ns quiet none some is g h j =
    let mine : (way : ℕ) → word_in way w.mine ≡ word_in way (Put from 0 ∷ x.mine) = λ way. ap (word_in way) (went_mine x w (Put from 0 ∷ x.mine) j) in
    let before : (way : ℕ) → word_in way x.mine ≡ word_in way (Double from to word ∷ v.mine) =
    λ way. same_word u x ns quiet h way ∙ ap (word_in way) (went_mine v u (Double from to word ∷ v.mine) g) in
    let apart : from ≢ to = λ e. some (ap (λ z. word_in z v.mine) e ∙ none) in
    record {
      empty = none;
      emptied = mine from ∙ put_here from from 0 x.mine refl;
      there = mine to ∙ (put_there from to 0 x.mine apart ∙ (before to ∙ (doubled_here from to to word v.mine refl ∙ sym is)));
      others = λ way one other. mine way ∙ (put_there from way 0 x.mine (λ e. one (sym e)) ∙
          (before way ∙ doubled_there from to way word v.mine (λ e. other (sym e))));
    }
