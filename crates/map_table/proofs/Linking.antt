-- What linking an element leaves.
use Rattle.table_words.proofs.Prelude.{◌≡◌, ℕ, ◌+◌, ◌*◌, ◌<◌, ◌≤◌, List, [], ◌∷◌, ◌++◌, length, set, refl, sym, ap, ◌∙◌, subst, ⊎_elim, inl, inr, arith}
use Rattle.table_words.proofs.Prelude.{length-append, All, dite, ℕ_discrete, Layout, IsCandidate, Names, tag_in, bucket_of, bucket_ways, moves_of, word_in}
use Rattle.table_words.proofs.Prelude.{key_of, IsSpare, MayLink, IsLawful, IsLinkedUnder}
use Rattle.map_table.proofs.Prelude.{Move, Put, TableShape, View, layout_of, tag_of, first_bucket, second_bucket, ways_of, Holder, Goes, Went, IsKnown, Fills}
use Rattle.map_table.proofs.Prelude.{times_in, IsFree, IsWriter}
use Rattle.table_words.proofs.Steps.{own, others, key_put}
use Rattle.table_words.specs.Ways.{IsOfBoth}
use Rattle.map_table.proofs.Going.{went_known}
use Rattle.atomic_table.specs.Seated.{TableId}
use Rattle.map_table.proofs.Calls.{holder}
use Rattle.map_table.proofs.Own.{readers_leave, keys_stay}
use Rattle.map_table.proofs.Filling.{own_list, went_shape, went_me, head_of, tail_of}
use Rattle.map_table.proofs.Members.{one_same, times_push, all_front, all_last}
use Rattle.map_table.proofs.Keeping.{quiet_append, fills_quiet, quiet_writer, same_word, put_writer, here, names_none}

-- the writer's put leaves each key
key_one_put : (k : Layout) (before es : List (ℕ × Move)) (element way word : ℕ) → IsLawful k (before ++ es) →
    moves_of 0 (before ++ es) ≡ Put way word ∷ moves_of 0 es → key_of k element (before ++ es) ≡ key_of k element es
key_one_put k [] es element way word lawful is =
    let long = ap (λ (ms : List Move). length ms) is in absurd (omega (arith, long))
key_one_put k (e ∷ before) es element way word lawful is = dite (ℕ_discrete e.0 0)
    (λ writer. let list = sym (own 0 e (before ++ es) writer) ∙ is in
    let move : e.1 ≡ Put way word = ap (head_of (Put way word)) list in
    subst (λ (m : Move). key_of k element ((e.0, m) ∷ (before ++ es)) ≡ key_of k element (before ++ es)) (sym move)
    (key_put k (before ++ es) e.0 element way word) ∙ keys_stay k before es element lawful.1 (ap tail_of list))
    (λ ne. readers_leave k (before ++ es) e.0 element e.1 ne lawful.0 ∙
    key_one_put k before es element way word lawful.1 (sym (others 0 e (before ++ es) ne) ∙ is))

pub may_link : (k : TableShape) (v : View) (element way word tag : ℕ) (key : List ℕ) → v.me ≡ 0 → IsKnown v → element < k.elements →
    IsSpare k.readers element v.mine → key_of (layout_of k) element v.seen ≡ key → Names word element → tag_in word ≡ tag → tag ≡ tag_of k key →
    IsCandidate (layout_of k) 0 key way → MayLink (layout_of k) v.seen way word
may_link k v element way word tag key writer known within spare key_now names bears is candidate = record {
  element = element;
  names = names;
  within = within;
  spare = subst (IsSpare k.readers element) (sym (own_list v writer known)) spare;
  bucket = subst (λ z. IsCandidate (layout_of k) 0 z way) (sym key_now) candidate;
  tag = bears ∙ (is ∙ ap (tag_of k) (sym key_now));
}

pub linked_under : (k : TableShape) (v w : View) (element way word : ℕ) (key : List ℕ) → v.shape ≡ k → v.me ≡ 0 → IsKnown v →
    key_of (layout_of k) element v.seen ≡ key → Names word element → Went v (Put way word ∷ v.mine) w →
    IsLinkedUnder (layout_of k) 0 key way w.seen
linked_under k v w element way word key is writer known key_now names g =
    let mine = own_list v writer known in
    let w_known = went_known v w (Put way word ∷ v.mine) g in
    let w_mine = own_list w (went_me v w (Put way word ∷ v.mine) g ∙ writer) w_known in
    let seen : w.seen ≡ g.0 ++ v.seen = ap (λ (z : View). z.seen) g.1 in
    let lawful : IsLawful (layout_of k) (g.0 ++ v.seen) = subst (λ (z : TableShape). IsLawful (layout_of z) (g.0 ++ v.seen)) is
    (subst (IsLawful (layout_of v.shape)) seen g.2) in
    let list : moves_of 0 (g.0 ++ v.seen) ≡ Put way word ∷ moves_of 0 v.seen =
    ap (moves_of 0) (sym seen) ∙ (ap (λ z. moves_of z w.seen) (sym writer) ∙ (g.3 ∙ ap (λ z. Put way word ∷ z) (sym mine))) in (
      element,
      record {
        names = subst (λ z. Names z element) (sym (ap (word_in way) w_mine ∙ here v w way word g)) names;
        table_is = refl;
        key_is = ap (key_of (layout_of k) element) seen ∙ (key_one_put (layout_of k) g.0 v.seen element way word lawful list ∙ key_now);
      },
    )

-- the element that was taken from the list
pub taken : (v : View) (ways old free unlinked : List ℕ) (element : ℕ) → IsWriter v ways old unlinked → old ≡ free ++ element ∷ [] →
    IsFree v element × IsWriter v ways free unlinked × (times_in element free ≡ 0) × (times_in element unlinked ≡ 0)
taken v ways old free unlinked element b is =
    let all = subst (All (IsFree v)) is b.are_free in
    let times = λ (e : ℕ). ap (times_in e) is ∙ times_push e element free in
    let one = one_same element element refl in
    let t = times element in
    let o = b.once element in (
      all_last (IsFree v) element free all,
      record {
        me = b.me;
        known = b.known;
        sized = b.sized;
        count = b.count;
        are_ways = b.are_ways;
        are_free = all_front (IsFree v) free (element ∷ []) all;
        are_unlinked = b.are_unlinked;
        once = λ e. let u = times e in let p = b.once e in omega (arith, u, p);
      },
      omega (arith, one, t, o),
      omega (arith, one, t, o),
    )

-- after its words were stored
pub filled_writer : (v u : View) (ways old free unlinked : List ℕ) (element n from m : ℕ) (key value : List ℕ) (ks vs : List Move) →
    IsWriter v ways old unlinked → old ≡ free ++ element ∷ [] → Fills element 0 key n ks → Fills element from value m vs →
    Went v ((vs ++ ks) ++ v.mine) u → IsWriter u ways free unlinked × ((way : ℕ) → word_in way u.mine ≡ word_in way v.mine)
filled_writer v u ways old free unlinked element n from m key value ks vs b is fk fv g =
    let t = taken v ways old free unlinked element b is in
    let q = quiet_append vs ks (fills_quiet element from m value vs fv) (fills_quiet element 0 n key ks fk) in
    (quiet_writer v u (vs ++ ks) q g ways free unlinked t.1, same_word v u (vs ++ ks) q g)

pub linked_writer : (v u w : View) (ways old free unlinked : List ℕ) (element way word n from m : ℕ) (key value : List ℕ) (ks vs : List Move) →
    IsWriter v ways old unlinked → old ≡ free ++ element ∷ [] → Fills element 0 key n ks → Fills element from value m vs →
    Went v ((vs ++ ks) ++ v.mine) u → Went u (Put way word ∷ u.mine) w → way < ways_of v.shape → Names word element →
    IsWriter w (set ways way word) free unlinked
linked_writer v u w ways old free unlinked element way word n from m key value ks vs b is fk fv g h low names =
    let t = taken v ways old free unlinked element b is in
    let q = quiet_append vs ks (fills_quiet element from m value vs fv) (fills_quiet element 0 n key ks fk) in
    let filled = quiet_writer v u (vs ++ ks) q g ways free unlinked t.1 in
    put_writer u w way word h ways free unlinked filled (subst (λ (k : TableShape). way < ways_of k) (sym (went_shape v u ((vs ++ ks) ++ v.mine) g)) low)
    (names_none word element free names t.2) (names_none word element unlinked names t.3)

is_bucket : (way one bucket : ℕ) → one ≡ bucket * 8 → one ≤ way → way < one + bucket_ways → bucket_of way ≡ bucket
is_bucket way one bucket is l m = omega (arith, is, l, m)

-- a way of one of two buckets may bear the key
pub of_both : (k : TableShape) (key : List ℕ) (one two way : ℕ) → one ≡ first_bucket k key * 8 → two ≡ second_bucket k key * 8 → IsOfBoth one two way →
    IsCandidate (layout_of k) 0 key way
of_both k key one two way first second b = ⊎_elim
    (λ (t : (one ≤ way) × (way < one + bucket_ways)). inl (is_bucket way one (first_bucket k key) first t.0 t.1))
    (λ (t : (two ≤ way) × (way < two + bucket_ways)). inr (is_bucket way two (second_bucket k key) second t.0 t.1)) b

pub way_low : (one two way n : ℕ) → one + bucket_ways ≤ n → two + bucket_ways ≤ n → IsOfBoth one two way → way < n
way_low one two way n p q b = ⊎_elim
    (λ (t : (one ≤ way) × (way < one + bucket_ways)). let h = t.1 in omega (arith, p, h))
    (λ (t : (two ≤ way) × (way < two + bucket_ways)). let h = t.1 in omega (arith, q, h)) b

pub fits_still : (v w : View) (old new : ℕ) → w.shape ≡ v.shape → new ≡ old → v.shape.elements ≤ old → w.shape.elements ≤ new
fits_still v w old new same e l = let n : w.shape.elements ≡ v.shape.elements = ap (λ (k : TableShape). k.elements) same in omega (arith, n, e, l)

pub works : (t t' : TableId) (v w : View) (s : Holder) (ns : List Move) → holder t v ≡ s → t' ≡ t → Went v (ns ++ v.mine) w → Goes s ns (holder t' w)
works t t' v w s ns is same g = subst (λ z. Goes z ns (holder t' w)) is record { table = λ i. record { id = same i; shape = (g.1 i).shape }; went = g }

-- a list with an element is not empty
pub some_free : (old free : List ℕ) (element : ℕ) → old ≡ free ++ element ∷ [] → old ≡ [] → ⊥
some_free old free element is none =
    let a = ap (λ (xs : List ℕ). length xs) (sym is ∙ none) in
    let b = length-append free (element ∷ []) in absurd (omega (arith, a, b))
