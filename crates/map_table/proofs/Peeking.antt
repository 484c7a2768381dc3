-- What the writer reads of elements stays so.
use Rattle.table_words.proofs.Prelude.{◌≡◌, ◌≢◌, ◌⊎◌, ℕ, ◌+◌, ◌*◌, ◌%◌, ◌^◌, ◌<◌, ◌≤◌, List, [], ◌∷◌, ◌++◌, refl, sym, ap, ◌∙◌, subst, ⊎_elim, arith}
use Rattle.table_words.proofs.Prelude.{slice_index, true, false, dite, ℕ_discrete, Layout, IsCandidate, Names, tag_in, bucket_of, bucket_ways, moves_of}
use Rattle.table_words.proofs.Prelude.{word_in, word_at, key_of, IsLawful, OnlySearches, IsLinkedUnder}
use Rattle.map_table.proofs.Prelude.{Move, Open, Close, Learn, Load, Store, Put, Double, Scan, TableShape, View, layout_of, tag_of, first_bucket}
use Rattle.map_table.proofs.Prelude.{second_bucket, Went, IsKnown}
use Rattle.table_words.proofs.Steps.{own, others, key_learn, key_load, key_word, one_name}
use Rattle.table_words.proofs.Standing.{fits}
use Rattle.map_table.proofs.Going.{went_known}
use Rattle.map_table.proofs.Filling.{own_list, went_me}
use Rattle.map_table.proofs.Own.{readers_leave}
use Rattle.map_table.proofs.Keeping.{searches_quiet, same_word}
use Rattle.map_table.proofs.Replacing.{stretch}

-- a move of a search changes no key
key_searched : (k : Layout) (table who element : ℕ) (m : Move) (ms : List Move) (es : List (ℕ × Move)) → OnlySearches k table (m ∷ ms) →
    (key_of k element ((who, m) ∷ es) ≡ key_of k element es) × OnlySearches k table ms
key_searched k table who element Open ms es s = absurd s
key_searched k table who element Close ms es s = absurd s
key_searched k table who element (Learn w x) ms es s = (key_learn k es who element w x, s)
key_searched k table who element (Load e p x) ms es s = (key_load k es who element e p x, s.1)
key_searched k table who element (Store e p x) ms es s = absurd s
key_searched k table who element (Put w x) ms es s = absurd s
key_searched k table who element (Double f w x) ms es s = absurd s
key_searched k table who element (Scan r x) ms es s = absurd s

-- while the writer only searches, each key stays
keys_searched : (k : Layout) (table element : ℕ) (late early : List (ℕ × Move)) → IsLawful k (late ++ early) → OnlySearches k table (moves_of 0 late) →
    key_of k element (late ++ early) ≡ key_of k element early
keys_searched k table element [] early lawful s = refl
keys_searched k table element (e ∷ late) early lawful s = dite (ℕ_discrete e.0 0)
    (λ writer. let t = key_searched k table e.0 element e.1 (moves_of 0 late) (late ++ early) (subst (OnlySearches k table) (own 0 e late writer) s) in
    t.0 ∙ keys_searched k table element late early lawful.1 t.1)
    (λ ne. readers_leave k (late ++ early) e.0 element e.1 ne lawful.0 ∙
    keys_searched k table element late early lawful.1 (subst (OnlySearches k table) (others 0 e late ne) s))

module _ (k : TableShape) (v w : View) (ns : List Move) (shape : v.shape ≡ k) (writer : v.me ≡ 0) (known : IsKnown v)
    (only : OnlySearches (layout_of k) 0 ns) (g : Went v (ns ++ v.mine) w) where
  -- a key that an element has, it had before
  pub key_kept : (element : ℕ) → key_of (layout_of k) element w.seen ≡ key_of (layout_of k) element v.seen
  key_kept element =
      let seen : w.seen ≡ g.0 ++ v.seen = ap (λ (z : View). z.seen) g.1 in
      let lawful : IsLawful (layout_of k) (g.0 ++ v.seen) = subst (λ (z : TableShape). IsLawful (layout_of z) (g.0 ++ v.seen)) shape
      (subst (IsLawful (layout_of v.shape)) seen g.2) in
      ap (key_of (layout_of k) element) seen ∙
      keys_searched (layout_of k) 0 element g.0 v.seen lawful (subst (OnlySearches (layout_of k) 0) (sym (stretch v w ns writer known g)) only)

  pub word_kept : (element p : ℕ) → p < k.key_words → word_at element p w.seen ≡ word_at element p v.seen
  word_kept element p low = sym (key_word (layout_of k) element p w.seen low) ∙
      (ap (λ z. slice_index z p) (key_kept element) ∙ key_word (layout_of k) element p v.seen low)

  -- the word of a way, by all that was done
  pub way_kept : (way : ℕ) → word_in way (moves_of 0 w.seen) ≡ word_in way (moves_of 0 v.seen)
  way_kept way =
      ap (word_in way) (own_list w (went_me v w (ns ++ v.mine) g ∙ writer) (went_known v w (ns ++ v.mine) g)) ∙
      (same_word v w ns (searches_quiet (layout_of k) 0 ns only) g way ∙ ap (word_in way) (sym (own_list v writer known)))

  -- a key that is linked in a way was so before
  pub under_before : (key : List ℕ) (way : ℕ) → IsLinkedUnder (layout_of k) 0 key way w.seen → IsLinkedUnder (layout_of k) 0 key way v.seen
  under_before key way l = (
    l.0,
    record {
      names = subst (λ z. Names z l.0) (way_kept way) l.1.names;
      table_is = l.1.table_is;
      key_is = sym (key_kept l.0) ∙ l.1.key_is;
    },
  )

-- a way's word that names another key
pub not_under : (k : TableShape) (v : View) (key : List ℕ) (way word tag : ℕ) → v.shape ≡ k → v.me ≡ 0 → IsKnown v → word ≡ word_in way v.mine →
    tag ≡ tag_of k key → (word % 2 ^ 32 ≡ 0) ⊎ (tag_in word ≢ tag) → IsLinkedUnder (layout_of k) 0 key way v.seen → ⊥
not_under k v key way word tag shape writer known is tag_is other l =
    let here : word ≡ word_in way (moves_of 0 v.seen) = is ∙ ap (word_in way) (sym (own_list v writer known)) in
    let names : Names word l.0 = subst (λ z. Names z l.0) (sym here) l.1.names in
    let lawful : IsLawful (layout_of k) v.seen = subst (λ (z : TableShape). IsLawful (layout_of z) v.seen) shape known.0 in
    let bears : tag_in word ≡ tag = ap tag_in here ∙ ((fits (layout_of k) v.seen lawful way l.0 l.1.names).tag ∙
    (ap (tag_of k) l.1.key_is ∙ sym tag_is)) in
    ⊎_elim (λ (none : word % 2 ^ 32 ≡ 0). absurd (omega (arith, sym none ∙ names))) (λ ne. ne bears) other

-- the element that a way's word names
pub named_here : (k : TableShape) (v : View) (way word element : ℕ) → v.me ≡ 0 → IsKnown v → word ≡ word_in way v.mine → Names word element →
    Names (word_in way (moves_of 0 v.seen)) element
named_here k v way word element writer known is names =
    subst (λ z. Names z element) (is ∙ ap (word_in way) (sym (own_list v writer known))) names

pub named_within : (k : TableShape) (v : View) (way word element : ℕ) → v.shape ≡ k → v.me ≡ 0 → IsKnown v → word ≡ word_in way v.mine → Names word element →
    element < k.elements
named_within k v way word element shape writer known is names =
    let lawful : IsLawful (layout_of k) v.seen = subst (λ (z : TableShape). IsLawful (layout_of z) v.seen) shape known.0 in
    (fits (layout_of k) v.seen lawful way element (named_here k v way word element writer known is names)).within

-- whether it has the key tells whether the key is linked there
module _ (k : TableShape) (v w : View) (ns : List Move) (shape : v.shape ≡ k) (writer : v.me ≡ 0) (known : IsKnown v)
    (only : OnlySearches (layout_of k) 0 ns) (g : Went v (ns ++ v.mine) w) (key : List ℕ) (way word element : ℕ)
    (is : word ≡ word_in way v.mine) (names : Names word element) where
  now : Names (word_in way (moves_of 0 w.seen)) element
  now = subst (λ z. Names z element) (sym (way_kept k v w ns shape writer known only g way)) (named_here k v way word element writer known is names)

  pub has_under : key_of (layout_of k) element w.seen ≡ key → IsLinkedUnder (layout_of k) 0 key way w.seen
  has_under key_now = (element, record { names = now; table_is = refl; key_is = key_now })

  pub under_has : IsLinkedUnder (layout_of k) 0 key way w.seen → key_of (layout_of k) element w.seen ≡ key
  under_has l =
      let same : l.0 ≡ element = one_name (word_in way (moves_of 0 w.seen)) l.0 element l.1.names now in
      ap (λ z. key_of (layout_of k) z w.seen) (sym same) ∙ l.1.key_is

in_bucket : (way one bucket : ℕ) → one ≡ bucket * bucket_ways → bucket_of way ≡ bucket → (one ≤ way) × (way < one + bucket_ways)
in_bucket way one bucket is e = (omega (arith, is, e), omega (arith, is, e))

-- no way but those of both buckets
pub in_neither : (k : TableShape) (v : View) (key : List ℕ) (one two way : ℕ) → v.shape ≡ k → IsKnown v → one ≡ first_bucket k key * 8 →
    two ≡ second_bucket k key * 8 →
    ((w : ℕ) → one ≤ w → w < one + 8 → IsLinkedUnder (layout_of k) 0 key w v.seen → ⊥) →
    ((w : ℕ) → two ≤ w → w < two + 8 → IsLinkedUnder (layout_of k) 0 key w v.seen → ⊥) → IsLinkedUnder (layout_of k) 0 key way v.seen → ⊥
in_neither k v key one two way shape known is_one is_two p q l =
    let lawful : IsLawful (layout_of k) v.seen = subst (λ (z : TableShape). IsLawful (layout_of z) v.seen) shape known.0 in
    let f = fits (layout_of k) v.seen lawful way l.0 l.1.names in
    let bucket = subst (λ z. IsCandidate (layout_of k) 0 z way) l.1.key_is f.bucket in
    ⊎_elim
    (λ (e : bucket_of way ≡ first_bucket k key). let b = in_bucket way one (first_bucket k key) is_one e in p way b.0 b.1 l)
    (λ (e : bucket_of way ≡ second_bucket k key). let b = in_bucket way two (second_bucket k key) is_two e in q way b.0 b.1 l) bucket

pub false_true : false ≡ true → ⊥
false_true t = absurd (cc)
