-- Stretches that only search.
use Rattle.table_words.proofs.Prelude.{◌≡◌, ◌⊎◌, ℕ, ◌+◌, ◌*◌, ◌<◌, ◌≤◌, List, [], ◌∷◌, ◌++◌, refl, sym, ap, ◌∙◌, subst, ⊎_elim, inl, inr}
use Rattle.table_words.proofs.Prelude.{arith, length, Some, None, append_cancel_right, mul-le, slice_index, dite, ℕ_discrete, Names, bucket_of}
use Rattle.table_words.proofs.Prelude.{bucket_ways, inside, Holds, IsLawful, OnlySearches, FoundIn, HadWord, Refuted, AnswersLookup}
use Rattle.map_table.proofs.Prelude.{Move, Open, Close, Learn, Load, Store, Put, Double, Scan, TableShape, layout_of, first_bucket, second_bucket}
use Rattle.map_table.proofs.Prelude.{Holder, Goes}
use Rattle.std.proofs.Common.{Option}
use Rattle.std.proofs.lemmas.List.{length-append}
use Rattle.std.specs.Prelude.{IfSome, IsSome}
use Rattle.table_words.specs.Lookups.{LooksUp}
use Rattle.table_words.proofs.Moments.{lawful_early, stays_found}
use Rattle.table_words.proofs.Hits.{hit_linked}
use Rattle.map_table.specs.Search.{HadKey, HadOther, Searched, StaysThere, WasThere}
use Rattle.map_table.proofs.Going.{goes_fact, goes_known, went_mine}

-- a stretch of steps that only search
abbrev pub Only : TableShape → List Move → Type 0
Only k ms = OnlySearches (layout_of k) 0 ms

pub only_append : (k : TableShape) (ns ms : List Move) → Only k ns → Only k ms → Only k (ns ++ ms)
only_append k [] ms n m = m
only_append k (Open ∷ ns) ms n m = absurd n
only_append k (Close ∷ ns) ms n m = absurd n
only_append k (Learn s h ∷ ns) ms n m = only_append k ns ms n m
only_append k (Load s p x ∷ ns) ms n m = (n.0, only_append k ns ms n.1 m)
only_append k (Store s p x ∷ ns) ms n m = absurd n
only_append k (Put s w ∷ ns) ms n m = absurd n
only_append k (Double v s w ∷ ns) ms n m = absurd n
only_append k (Scan r x ∷ ns) ms n m = absurd n

-- what was held stays held
pub only_holds : (k : TableShape) (element : ℕ) (ns ms : List Move) → Only k ns → Holds element ms → Holds element (ns ++ ms)
only_holds k element [] ms n h = h
only_holds k element (Open ∷ ns) ms n h = absurd n
only_holds k element (Close ∷ ns) ms n h = absurd n
only_holds k element (Learn s x ∷ ns) ms n h = inr (only_holds k element ns ms n h)
only_holds k element (Load s p x ∷ ns) ms n h = only_holds k element ns ms n.1 h
only_holds k element (Store s p x ∷ ns) ms n h = absurd n
only_holds k element (Put s w ∷ ns) ms n h = absurd n
only_holds k element (Double v s w ∷ ns) ms n h = absurd n
only_holds k element (Scan r x ∷ ns) ms n h = absurd n

-- the section stays as it is
pub only_inside : (k : TableShape) (ns ms : List Move) → Only k ns → inside (ns ++ ms) ≡ inside ms
only_inside k [] ms n = refl
only_inside k (Open ∷ ns) ms n = absurd n
only_inside k (Close ∷ ns) ms n = absurd n
only_inside k (Learn s x ∷ ns) ms n = only_inside k ns ms n
only_inside k (Load s p x ∷ ns) ms n = only_inside k ns ms n.1
only_inside k (Store s p x ∷ ns) ms n = absurd n
only_inside k (Put s w ∷ ns) ms n = absurd n
only_inside k (Double v s w ∷ ns) ms n = absurd n
only_inside k (Scan r x ∷ ns) ms n = absurd n

pub searched_holds : (k : TableShape) (s t : Holder) (ms : List Move) → Goes s ms t → Only k ms → (element : ℕ)
    → Holds element s.view.mine → Holds element t.view.mine
searched_holds k s t ms g o element h = goes_fact (Holds element) s t ms g (only_holds k element ms s.view.mine o h)

pub searched_inside : (k : TableShape) (s t : Holder) (ms : List Move) → Goes s ms t → Only k ms → inside s.view.mine ≡ 1 → inside t.view.mine ≡ 1
searched_inside k s t ms g o one = goes_fact (λ ns. inside ns ≡ 1) s t ms g (only_inside k ms s.view.mine o ∙ one)

-- what a stretch found is so of a longer one
found_front : (way element : ℕ) (ns ms : List Move) → FoundIn way element ns → FoundIn way element (ns ++ ms)
found_front way element [] ms r = absurd r
found_front way element (Open ∷ ns) ms r = found_front way element ns ms r
found_front way element (Close ∷ ns) ms r = found_front way element ns ms r
found_front way element (Learn s x ∷ ns) ms r = elim r [ inl a ↦ inl a | inr b ↦ inr (found_front way element ns ms b) ]
found_front way element (Load s p x ∷ ns) ms r = found_front way element ns ms r
found_front way element (Store s p x ∷ ns) ms r = found_front way element ns ms r
found_front way element (Put s w ∷ ns) ms r = found_front way element ns ms r
found_front way element (Double v s w ∷ ns) ms r = found_front way element ns ms r
found_front way element (Scan q x ∷ ns) ms r = found_front way element ns ms r

pub found_back : (way element : ℕ) (ns ms : List Move) → FoundIn way element ms → FoundIn way element (ns ++ ms)
found_back way element [] ms r = r
found_back way element (Open ∷ ns) ms r = found_back way element ns ms r
found_back way element (Close ∷ ns) ms r = found_back way element ns ms r
found_back way element (Learn s x ∷ ns) ms r = inr (found_back way element ns ms r)
found_back way element (Load s p x ∷ ns) ms r = found_back way element ns ms r
found_back way element (Store s p x ∷ ns) ms r = found_back way element ns ms r
found_back way element (Put s w ∷ ns) ms r = found_back way element ns ms r
found_back way element (Double v s w ∷ ns) ms r = found_back way element ns ms r
found_back way element (Scan q x ∷ ns) ms r = found_back way element ns ms r

pub had_front : (element place word : ℕ) (ns ms : List Move) → HadWord element place word ns → HadWord element place word (ns ++ ms)
had_front element place word [] ms r = absurd r
had_front element place word (Open ∷ ns) ms r = had_front element place word ns ms r
had_front element place word (Close ∷ ns) ms r = had_front element place word ns ms r
had_front element place word (Learn s x ∷ ns) ms r = had_front element place word ns ms r
had_front element place word (Load s p x ∷ ns) ms r = elim r [ inl a ↦ inl a | inr b ↦ inr (had_front element place word ns ms b) ]
had_front element place word (Store s p x ∷ ns) ms r = had_front element place word ns ms r
had_front element place word (Put s w ∷ ns) ms r = had_front element place word ns ms r
had_front element place word (Double v s w ∷ ns) ms r = had_front element place word ns ms r
had_front element place word (Scan q x ∷ ns) ms r = had_front element place word ns ms r

module _ (k : TableShape) (key : List ℕ) where
  abbrev Refutes : ℕ → List Move → Type 0
  Refutes way ms = Refuted (layout_of k) 0 key way ms

  refuted_front : (way : ℕ) (ns ms : List Move) → Refutes way ns → Refutes way (ns ++ ms)
  refuted_front way [] ms r = absurd r
  refuted_front way (Open ∷ ns) ms r = refuted_front way ns ms r
  refuted_front way (Close ∷ ns) ms r = refuted_front way ns ms r
  refuted_front way (Learn s h ∷ ns) ms r = elim r [ inl x ↦ inl x | inr y ↦ inr (refuted_front way ns ms y) ]
  refuted_front way (Load s p x ∷ ns) ms r = elim r [
    | inl a ↦ inl (found_front way s ns ms a.0, a.1, a.2)
    | inr y ↦ inr (refuted_front way ns ms y)
  ]
  refuted_front way (Store s p x ∷ ns) ms r = refuted_front way ns ms r
  refuted_front way (Put s w ∷ ns) ms r = refuted_front way ns ms r
  refuted_front way (Double v s w ∷ ns) ms r = refuted_front way ns ms r
  refuted_front way (Scan q x ∷ ns) ms r = refuted_front way ns ms r

  refuted_back : (way : ℕ) (ns ms : List Move) → Refutes way ms → Refutes way (ns ++ ms)
  refuted_back way [] ms r = r
  refuted_back way (Open ∷ ns) ms r = refuted_back way ns ms r
  refuted_back way (Close ∷ ns) ms r = refuted_back way ns ms r
  refuted_back way (Learn s h ∷ ns) ms r = inr (refuted_back way ns ms r)
  refuted_back way (Load s p x ∷ ns) ms r = inr (refuted_back way ns ms r)
  refuted_back way (Store s p x ∷ ns) ms r = refuted_back way ns ms r
  refuted_back way (Put s w ∷ ns) ms r = refuted_back way ns ms r
  refuted_back way (Double v s w ∷ ns) ms r = refuted_back way ns ms r
  refuted_back way (Scan q x ∷ ns) ms r = refuted_back way ns ms r

  -- another key word of an element that was found in a way refutes the way
  other_refutes : (way element : ℕ) (ns ms : List Move) → HadOther k key element ns → FoundIn way element ms → Refutes way (ns ++ ms)
  other_refutes way element [] ms o f = absurd o
  other_refutes way element (Open ∷ ns) ms o f = other_refutes way element ns ms o f
  other_refutes way element (Close ∷ ns) ms o f = other_refutes way element ns ms o f
  other_refutes way element (Learn s h ∷ ns) ms o f = inr (other_refutes way element ns ms o f)
  other_refutes way element (Load s p x ∷ ns) ms o f = elim o [
    | inl a ↦ inl (subst (λ z. FoundIn way z (ns ++ ms)) (sym a.0) (found_back way element ns ms f), a.1, a.2)
    | inr y ↦ inr (other_refutes way element ns ms y f)
  ]
  other_refutes way element (Store s p x ∷ ns) ms o f = other_refutes way element ns ms o f
  other_refutes way element (Put s w ∷ ns) ms o f = other_refutes way element ns ms o f
  other_refutes way element (Double v s w ∷ ns) ms o f = other_refutes way element ns ms o f
  other_refutes way element (Scan q x ∷ ns) ms o f = other_refutes way element ns ms o f

  -- one more word of a key was found
  pub more_had : (element place : ℕ) (ms : List Move) → ((p : ℕ) → p < place → HadWord element p (slice_index key p) ms) → (x : ℕ) →
      x ≡ slice_index key place → (p : ℕ) → p < place + 1 → HadWord element p (slice_index key p) (Load element place x ∷ ms)
  more_had element place ms had x is p l = dite (ℕ_discrete place p)
      (λ same. inl (refl, same, is ∙ ap (slice_index key) same))
      (λ ne. inr (had p (omega (arith, l, ne))))

  -- the way at which a search stands, and those before it
  pub more_refuted : (low at : ℕ) (ns ms : List Move) → ((w : ℕ) → low ≤ w → w < low + at → Refutes w ms) →
      Searched k key (low + at) (low + at + 1) ns None → (w : ℕ) → low ≤ w → w < low + (at + 1) → Refutes w (ns ++ ms)
  more_refuted low at ns ms all one w l m = dite (ℕ_discrete (low + at) w)
      (λ e. refuted_front w ns ms (one w (omega (arith, e)) (omega (arith, e))))
      (λ ne. refuted_back w ns ms (all w l (omega (arith, m, ne))))

  pub some_found : (low high a b element : ℕ) (ns ms : List Move) → a ≤ low → high ≤ b → Searched k key low high ns (Some element) →
      Searched k key a b (ns ++ ms) (Some element)
  some_found low high a b element ns ms p q f =
      let l = f.0.1 in
      let h = f.0.2 in (
        (f.0.0, omega (arith, p, l), omega (arith, q, h), found_front f.0.0 element ns ms f.0.3),
        λ place m. had_front element place (slice_index key place) ns ms (f.1 place m),
        f.2,
      )

  pub way_found : (way word element : ℕ) (ms : List Move) → Names word element → element < k.elements → HadKey k key element ms →
      Searched k key way (way + 1) (ms ++ Learn way word ∷ []) (Some element)
  way_found way word element ms names within had = (
    (way, omega arith, omega arith, found_back way element ms (Learn way word ∷ []) (inl (refl, names))),
    (λ place m. had_front element place (slice_index key place) ms (Learn way word ∷ []) (had place m)),
    within,
  )

  pub way_refuted : (way word element : ℕ) (ms : List Move) → Names word element → HadOther k key element ms →
      Searched k key way (way + 1) (ms ++ Learn way word ∷ []) None
  way_refuted way word element ms names other = λ w l m. let same : way ≡ w = omega (arith, l, m) in
      other_refutes w element ms (Learn way word ∷ []) other (inl (same, names))

  -- one bucket and then the other
  in_bucket : (way one bucket : ℕ) → one ≡ bucket * bucket_ways → bucket_of way ≡ bucket → (one ≤ way) × (way < one + bucket_ways)
  in_bucket way one bucket is e = (omega (arith, is, e), omega (arith, is, e))

  bucket_is : (way one bucket : ℕ) → one ≡ bucket * bucket_ways → one ≤ way → way < one + bucket_ways → bucket_of way ≡ bucket
  bucket_is way one bucket is l m = omega (arith, is, l, m)

  pub first_found : (one element : ℕ) (ms : List Move) → one ≡ first_bucket k key * bucket_ways →
      Searched k key one (one + bucket_ways) ms (Some element) → AnswersLookup (layout_of k) 0 key ms (Some element)
  first_found one element ms is f = ((f.0.0, inl (bucket_is f.0.0 one (first_bucket k key) is f.0.1 f.0.2), f.0.3), f.1)

  pub both_searched : (one two : ℕ) (ns ms : List Move) (found : Option ℕ) → one ≡ first_bucket k key * bucket_ways →
      two ≡ second_bucket k key * bucket_ways → Searched k key one (one + bucket_ways) ms None →
      Searched k key two (two + bucket_ways) ns found → AnswersLookup (layout_of k) 0 key (ns ++ ms) found
  both_searched one two ns ms None is_one is_two p q = λ way c. ⊎_elim
      (λ (e : bucket_of way ≡ first_bucket k key). let b = in_bucket way one (first_bucket k key) is_one e in refuted_back way ns ms (p way b.0 b.1))
      (λ (e : bucket_of way ≡ second_bucket k key). let b = in_bucket way two (second_bucket k key) is_two e in
      refuted_front way ns ms (q way b.0 b.1)) c
  both_searched one two ns ms (Some element) is_one is_two p q =
      let way = q.0.0 in (
        (way, inr (bucket_is way two (second_bucket k key) is_two q.0.1 q.0.2), found_front way element ns ms q.0.3),
        λ place m. had_front element place (slice_index key place) ns ms (q.1 place m),
      )

  -- what was found is held
  pub found_holds : (way element : ℕ) (ns ms : List Move) → Only k ns → FoundIn way element ns → Holds element (ns ++ ms)
  found_holds way element [] ms n f = absurd f
  found_holds way element (Open ∷ ns) ms n f = absurd n
  found_holds way element (Close ∷ ns) ms n f = absurd n
  found_holds way element (Learn s x ∷ ns) ms n f = ⊎_elim
      (λ (t : (s ≡ way) × Names x element). inl t.1)
      (λ t. inr (found_holds way element ns ms n t)) f
  found_holds way element (Load s p x ∷ ns) ms n f = found_holds way element ns ms n.1 f
  found_holds way element (Store s p x ∷ ns) ms n f = absurd n
  found_holds way element (Put s w ∷ ns) ms n f = absurd n
  found_holds way element (Double v s w ∷ ns) ms n f = absurd n
  found_holds way element (Scan q x ∷ ns) ms n f = absurd n

  pub answers_held : (s t : Holder) (ms : List Move) (found : Option ℕ) → Goes s ms t → LooksUp (layout_of k) 0 key ms found →
      IfSome found (λ element. Holds element t.view.mine)
  answers_held s t ms None g l = tt
  answers_held s t ms (Some element) g l =
      goes_fact (Holds element) s t ms g (found_holds l.answers.0.0 element ms s.view.mine l.only l.answers.0.2)

  -- a key that stays is found
  pub lookup_finds : (s t : Holder) (ms : List Move) (found : Option ℕ) → t.view.shape ≡ k → Goes s ms t → LooksUp (layout_of k) 0 key ms found →
      (ns : List Move) → t.view.mine ≡ ns ++ s.view.mine → StaysThere k key s.view.me s.view.mine ns t.view.seen → IsSome found
  lookup_finds s t ms (Some element) shape g l ns list there = refl
  lookup_finds s t ms None shape g l ns list there =
      let same : ms ≡ ns = append_cancel_right ms ns s.view.mine (sym (went_mine s.view t.view (ms ++ s.view.mine) g.went) ∙ list) in
      let moves = sym (there.moves_are ∙ sym same) in
      let lawful : IsLawful (layout_of k) t.view.seen = subst (λ (z : TableShape). IsLawful (layout_of z) t.view.seen) shape (goes_known s t ms g).0 in
      absurd (stays_found (layout_of k) 0 key s.view.me there.way there.late there.early
      (lawful_early (layout_of k) there.newer (there.late ++ there.early) (subst (IsLawful (layout_of k)) there.history lawful))
      (subst (OnlySearches (layout_of k) 0) moves l.only) (subst (λ z. AnswersLookup (layout_of k) 0 key z None) moves l.answers) there.stays)

  -- an element that was answered was linked
  pub hit_was_there : (s t : Holder) (ms : List Move) (found : Option ℕ) → length key ≡ k.key_words → 0 < s.view.me → t.view.shape ≡ k → Goes s ms t →
      LooksUp (layout_of k) 0 key ms found → (ns : List Move) → t.view.mine ≡ ns ++ s.view.mine →
      IfSome found (λ element. WasThere k key element s.view.me s.view.mine ns t.view.seen)
  hit_was_there s t ms None count some shape g l ns list = tt
  hit_was_there s t ms (Some element) count some shape g l ns list = λ newer late early history before_are moves_are.
      let same : ms ≡ ns = append_cancel_right ms ns s.view.mine (sym (went_mine s.view t.view (ms ++ s.view.mine) g.went) ∙ list) in
      let moves = same ∙ sym moves_are in
      let lawful : IsLawful (layout_of k) t.view.seen = subst (λ (z : TableShape). IsLawful (layout_of z) t.view.seen) shape (goes_known s t ms g).0 in
      hit_linked (layout_of k) 0 (λ e w a b p q. refl) key count s.view.me element late early some
      (lawful_early (layout_of k) newer (late ++ early) (subst (IsLawful (layout_of k)) history lawful))
      (subst (OnlySearches (layout_of k) 0) moves l.only) (subst (λ z. AnswersLookup (layout_of k) 0 key z (Some element)) moves l.answers)

-- how many moves a search takes
pub more_steps : (at w : ℕ) (ns ms : List Move) → length ms ≤ at * w → length ns ≤ w → length (ns ++ ms) ≤ (at + 1) * w
more_steps at w ns ms few one = omega (arith, few, one, length-append ns ms)

pub last_steps : (at high w : ℕ) (ns ms : List Move) → at < high → length ms ≤ at * w → length ns ≤ w → length (ns ++ ms) ≤ high * w
last_steps at high w ns ms below few one =
    let more = more_steps at w ns ms few one in
    let le = mul-le (at + 1) w high w (omega (arith, below)) (omega arith) in omega (arith, more, le)

pub upper_steps : (at high w : ℕ) (ms : List Move) → at ≤ high → length ms ≤ at * w → length ms ≤ high * w
upper_steps at high w ms below few = let le = mul-le at w high w below (omega arith) in omega (arith, few, le)

-- both buckets' steps
pub brief_both : (w : ℕ) (ns ms : List Move) → length ms ≤ bucket_ways * w → length ns ≤ bucket_ways * w → length (ns ++ ms) ≤ 2 * bucket_ways * w
brief_both w ns ms few more = omega (arith, few, more, length-append ns ms)

pub brief_one : (w : ℕ) (ms : List Move) → length ms ≤ bucket_ways * w → length ms ≤ 2 * bucket_ways * w
brief_one w ms few = omega (arith, few)
