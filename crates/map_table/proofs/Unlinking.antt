-- What unlinking and reclaiming leave.
use Rattle.table_words.proofs.Prelude.{◌≡◌, ◌≢◌, ℕ, suc, ◌+◌, ◌%◌, ◌^◌, ◌<◌, ◌≤◌, List, [], ◌∷◌, ◌++◌, length, get_or, set, refl, sym, ap, ◌∙◌, subst}
use Rattle.table_words.proofs.Prelude.{⊎_elim, arith, length-append, slice_index, range_with_len, get_or_default, dite, ℕ_discrete, IsCandidate, Names}
use Rattle.table_words.proofs.Prelude.{moves_of, word_in, IsSettled, IsLinkedUnder}
use Rattle.map_table.proofs.Prelude.{Move, Put, TableShape, View, layout_of, ways_of, writer_after, Went, IsSized, Fills, times_in, IsFree, IsUnlinked}
use Rattle.map_table.proofs.Prelude.{IsWriter}
use Rattle.table_words.proofs.Steps.{one_name, nothing_named}
use Rattle.table_words.proofs.Standing.{named, fits, one_way}
use Rattle.map_table.proofs.Filling.{own_list, went_shape}
use Rattle.map_table.proofs.Members.{one_for, times_append, times_push, times_range, all_nil, all_append, all_push, all_to, all_range, nowhere, room, few}
use Rattle.map_table.proofs.Members.{at_most_one, none_for}
use Rattle.map_table.proofs.Linking.{taken, filled_writer, linked_writer}
use Rattle.map_table.proofs.Keeping.{quiet_append, fills_quiet, quiet_settled, put_writer, put_unlinked, empty_names_none}

pub names_some : (v : View) (ways free unlinked : List ℕ) (way : ℕ) → IsWriter v ways free unlinked → word_in way v.mine ≢ 0 →
    (element : ℕ) × Names (word_in way v.mine) element
names_some v ways free unlinked way b some =
    let mine = own_list v b.me b.known in
    ⊎_elim (λ (z : word_in way (moves_of 0 v.seen) ≡ 0). absurd (some (ap (word_in way) (sym mine) ∙ z)))
    (λ (t : (element : ℕ) × Names (word_in way (moves_of 0 v.seen)) element). (t.0, subst (λ z. Names (word_in way z) t.0) mine t.1))
    (named (layout_of v.shape) v.seen b.known.0 way)

pub low_half : (v : View) (ways free unlinked : List ℕ) (way x : ℕ) → IsWriter v ways free unlinked → word_in way v.mine ≢ 0 →
    x ≡ word_in way v.mine → x % 2 ^ 32 ≢ 0
low_half v ways free unlinked way x b some is zero_half =
    let n = names_some v ways free unlinked way b some in
    let names : x % 2 ^ 32 ≡ suc n.0 = subst (λ z. Names z n.0) (sym is) n.1 in absurd (omega (arith, names, zero_half))

-- the element that a way names
module _ (v : View) (ways free unlinked : List ℕ) (way element : ℕ) (b : IsWriter v ways free unlinked) (names : Names (word_in way v.mine) element) where
  seen_names : Names (word_in way (moves_of 0 v.seen)) element
  seen_names = subst (λ z. Names (word_in way z) element) (sym (own_list v b.me b.known)) names

  pub within : element < v.shape.elements
  within = (fits (layout_of v.shape) v.seen b.known.0 way element seen_names).within

  pub not_free : times_in element free ≡ 0
  not_free = nowhere (IsFree v) element free b.are_free (λ f. f.1.0 (way, names))

  not_unlinked : times_in element unlinked ≡ 0
  not_unlinked = nowhere (IsUnlinked v) element unlinked b.are_unlinked (λ f. f.1 (way, names))

  pub space : length free + length unlinked < v.shape.elements
  space = room v.shape.elements element free unlinked within
      (all_to (IsFree v) (λ x. x < v.shape.elements) free (λ e f. f.0) b.are_free)
      (all_to (IsUnlinked v) (λ x. x < v.shape.elements) unlinked (λ e f. f.0) b.are_unlinked) b.once not_free not_unlinked

  alone : IsSettled v.mine → (other : ℕ) → way ≢ other → Names (word_in other v.mine) element → ⊥
  alone none other ne there =
      ne (one_way (layout_of v.shape) v.seen b.known.0 (subst IsSettled (sym (own_list v b.me b.known)) none) way other element seen_names
      (subst (λ z. Names (word_in other z) element) (sym (own_list v b.me b.known)) there))

  -- after its way was given another word, it's unlinked
  pub unlinked_writer : IsSettled v.mine → (w : View) (word : ℕ) (new : List ℕ) → Went v (Put way word ∷ v.mine) w → (Names word element → ⊥) →
      times_in element free ≡ 0 → IsWriter w new free unlinked → IsWriter w new free (unlinked ++ element ∷ [])
  unlinked_writer settled w word new g not none a = record {
    me = a.me;
    known = a.known;
    sized = a.sized;
    count = a.count;
    are_ways = a.are_ways;
    are_free = a.are_free;
    are_unlinked = all_push (IsUnlinked w) element unlinked a.are_unlinked (
      subst (λ (k : TableShape). element < k.elements) (sym (went_shape v w (Put way word ∷ v.mine) g)) within,
      put_unlinked v w way word g element not (alone settled),
    );
    once = λ e.
        let t = times_push e element unlinked in
        let o = a.once e in
        let u = not_unlinked in
        dite (ℕ_discrete element e)
        (λ same. let z : one_for e element ≤ 1 = at_most_one e element in
        let f = ap (λ z. times_in z free + times_in z unlinked) (sym same) in omega (arith, t, f, none, u, z))
        (λ ne. let z : one_for e element ≡ 0 = none_for e element ne in omega (arith, t, o, z));
  }

  pub emptied_writer : IsSettled v.mine → (w : View) → Went v (Put way 0 ∷ v.mine) w → way < ways_of v.shape →
      IsWriter w (set ways way 0) free (unlinked ++ element ∷ [])
  emptied_writer settled w g low = unlinked_writer settled w 0 (set ways way 0) g (nothing_named element) not_free
      (put_writer v w way 0 g ways free unlinked b low (empty_names_none free) (empty_names_none unlinked))

pub all_fit : (v : View) (ways free unlinked : List ℕ) → IsWriter v ways free unlinked → length free + length unlinked ≤ v.shape.elements
all_fit v ways free unlinked b =
    let long = length-append free unlinked in
    let f = few v.shape.elements (free ++ unlinked) (all_append (λ x. x < v.shape.elements) free unlinked
    (all_to (IsFree v) (λ x. x < v.shape.elements) free (λ e f. f.0) b.are_free)
    (all_to (IsUnlinked v) (λ x. x < v.shape.elements) unlinked (λ e f. f.0) b.are_unlinked))
    (λ e. let t = times_append e free unlinked in let o = b.once e in omega (arith, t, o)) in omega (arith, long, f)

-- the writer at first
pub begins : (v : View) (n : ℕ) (k : TableShape) (ways free unlinked : List ℕ) → v ≡ writer_after n k → IsSized k → length ways ≡ ways_of k →
    ((j : ℕ) → slice_index ways j ≡ 0) → free ≡ range_with_len 0 k.elements → unlinked ≡ [] → IsWriter v ways free unlinked
begins v n k ways free unlinked is sized count zeros all none =
    subst (λ (z : View × List ℕ × List ℕ). IsWriter z.0 ways z.1 z.2) (λ i. (sym is i, sym all i, sym none i)) record {
      me = refl;
      known = (tt, refl);
      sized = sized;
      count = count;
      are_ways = λ way l. zeros way;
      are_free = all_range (IsFree (writer_after n k)) k.elements (λ e l. (l, ((λ x. nothing_named e x.1), λ r some low. tt)));
      are_unlinked = all_nil (IsUnlinked (writer_after n k));
      once = λ e. let t = times_range e 0 k.elements in omega (arith, t);
    }

pub at_most : (a b c : ℕ) → a ≡ b → b ≤ c → a ≤ c
at_most a b c e l = omega (arith, e, l)

pub at_least : (a b c : ℕ) → a ≤ b → b ≤ c → a ≤ c
at_least a b c e l = omega (arith, e, l)

-- the word of a way, as reading the list tells it
pub read_way : (v : View) (ways free unlinked : List ℕ) (way x : ℕ) → IsWriter v ways free unlinked → way < ways_of v.shape → x ≡ get_or ways way x →
    x ≡ word_in way v.mine
read_way v ways free unlinked way x b low is =
    let count = b.count in
    is ∙ (get_or_default ways way x 0 (omega (arith, low, count)) ∙ b.are_ways way low)

pub less_most : (a b n m : ℕ) → a + b < n → n ≤ m → b < m
less_most a b n m l e = omega (arith, l, e)

-- a way in which a key is linked may bear another element with it
pub linked_way : (v : View) (ways free unlinked key : List ℕ) (way : ℕ) → IsWriter v ways free unlinked →
    IsLinkedUnder (layout_of v.shape) 0 key way v.seen → IsCandidate (layout_of v.shape) 0 key way × (word_in way v.mine ≢ 0)
linked_way v ways free unlinked key way b l =
    let mine = own_list v b.me b.known in
    let f = fits (layout_of v.shape) v.seen b.known.0 way l.0 l.1.names in (
      subst (λ z. IsCandidate (layout_of v.shape) 0 z way) l.1.key_is f.bucket,
      λ none. nothing_named l.0 (subst (λ z. Names z l.0) (ap (word_in way) mine ∙ none) l.1.names),
    )

-- after one element was put in the place of another
pub replaced_writer : (v u w : View) (ways old free unlinked : List ℕ) (element gone way word n from m : ℕ) (key value : List ℕ) (ks vs : List Move) →
    IsWriter v ways old unlinked → old ≡ free ++ element ∷ [] → Fills element 0 key n ks → Fills element from value m vs →
    Went v ((vs ++ ks) ++ v.mine) u → Went u (Put way word ∷ u.mine) w → way < ways_of v.shape → Names word element →
    Names (word_in way v.mine) gone → IsSettled v.mine →
    IsWriter w (set ways way word) free (unlinked ++ gone ∷ []) × (length free + length unlinked < v.shape.elements)
replaced_writer v u w ways old free unlinked element gone way word n from m key value ks vs b is fk fv g h low names there settled =
    let f = filled_writer v u ways old free unlinked element n from m key value ks vs b is fk fv g in
    let now : Names (word_in way u.mine) gone = subst (λ z. Names z gone) (sym (f.1 way)) there in
    let spare = (taken v ways old free unlinked element b is).0 in
    let not : Names word gone → ⊥ = λ same. spare.1.0
    (way, subst (λ z. Names (word_in way v.mine) z) (one_name word gone element same names) there) in
    let linked = linked_writer v u w ways old free unlinked element way word n from m key value ks vs b is fk fv g h low names in (
      unlinked_writer u ways free unlinked way gone f.0 now
          (quiet_settled v u (vs ++ ks) (quiet_append vs ks (fills_quiet element from m value vs fv) (fills_quiet element 0 n key ks fk)) g settled)
          w word (set ways way word) h not (not_free u ways free unlinked way gone f.0 now) linked,
      subst (λ (k : TableShape). length free + length unlinked < k.elements) (went_shape v u ((vs ++ ks) ++ v.mine) g)
          (space u ways free unlinked way gone f.0 now),
    )
