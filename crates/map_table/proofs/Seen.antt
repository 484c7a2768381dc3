-- What the writer notes of its readers stays right.
use Rattle.table_words.proofs.Prelude.{◌≡◌, ◌≢◌, ◌⊎◌, ℕ, zero, suc, ◌+◌, ◌-◌, ◌%◌, ◌<◌, ◌≤◌, List, [], ◌∷◌, ◌++◌, length, refl, sym, ap, ◌∙◌, subst}
use Rattle.table_words.proofs.Prelude.{⊎_elim, inl, inr, arith, drop, set, length-set, get_or-set_same, get_or-set_other, slice_index, All, length-append}
use Rattle.table_words.proofs.Prelude.{length-drop, get_or-drop, dite, ℕ_discrete, dec_lt, Layout, Names, word_in, FoundSince, HasLeft, Cleared}
use Rattle.table_words.proofs.Prelude.{OnlySearches, ScansInTurn, FoundInside}
use Rattle.map_table.proofs.Prelude.{Move, Open, Close, Learn, Load, Store, Put, Double, Scan, TableShape, View, Sighting, AddsUp, Went, OnlyLoads}
use Rattle.map_table.proofs.Prelude.{writer_after, no_sighting, sighting_at, AreSightings, IsNoted, Fills, IsUnlinked}
use Rattle.std.proofs.Common.{◌↔◌}
use Rattle.std.proofs.lemmas.List.{get_or_append_left}
use Rattle.std.proofs.Math.Seq.{get_or-append_seam}
use Rattle.map_table.specs.Sightings.{IsSighting, IsLowered}
use Rattle.map_table.proofs.Going.{went_mine}
use Rattle.map_table.proofs.Filling.{went_shape}

-- a stretch in which the writer takes no word out of a way, and looks at no section word
abbrev pub IsBlind : List Move → Type 0
IsBlind [] = Unit {0}
IsBlind (Put w x ∷ ns) = ⊥
IsBlind (Scan r x ∷ ns) = ⊥
IsBlind (_ ∷ ns) = IsBlind ns

blind_append : (ns ms : List Move) → IsBlind ns → IsBlind ms → IsBlind (ns ++ ms)
blind_append [] ms n m = m
blind_append (Open ∷ ns) ms n m = blind_append ns ms n m
blind_append (Close ∷ ns) ms n m = blind_append ns ms n m
blind_append (Learn w x ∷ ns) ms n m = blind_append ns ms n m
blind_append (Load e p x ∷ ns) ms n m = blind_append ns ms n m
blind_append (Store e p x ∷ ns) ms n m = blind_append ns ms n m
blind_append (Put w x ∷ ns) ms n m = absurd n
blind_append (Double f w x ∷ ns) ms n m = blind_append ns ms n m
blind_append (Scan r x ∷ ns) ms n m = absurd n

-- it leaves what the looks tell
cleared_blind : (r e : ℕ) (ns ms : List Move) → IsBlind ns → Cleared r e ms ↔ Cleared r e (ns ++ ms)
cleared_blind r e [] ms n = ((λ c. c), (λ c. c))
cleared_blind r e (Open ∷ ns) ms n = cleared_blind r e ns ms n
cleared_blind r e (Close ∷ ns) ms n = cleared_blind r e ns ms n
cleared_blind r e (Learn w x ∷ ns) ms n = cleared_blind r e ns ms n
cleared_blind r e (Load s p x ∷ ns) ms n = cleared_blind r e ns ms n
cleared_blind r e (Store s p x ∷ ns) ms n = cleared_blind r e ns ms n
cleared_blind r e (Put w x ∷ ns) ms n = absurd n
cleared_blind r e (Double f w x ∷ ns) ms n = cleared_blind r e ns ms n
cleared_blind r e (Scan q x ∷ ns) ms n = absurd n

found_blind : (r e y : ℕ) (ns ms : List Move) → IsBlind ns → FoundSince r e y ms ↔ FoundSince r e y (ns ++ ms)
found_blind r e y [] ms n = ((λ c. c), (λ c. c))
found_blind r e y (Open ∷ ns) ms n = found_blind r e y ns ms n
found_blind r e y (Close ∷ ns) ms n = found_blind r e y ns ms n
found_blind r e y (Learn w x ∷ ns) ms n = found_blind r e y ns ms n
found_blind r e y (Load s p x ∷ ns) ms n = found_blind r e y ns ms n
found_blind r e y (Store s p x ∷ ns) ms n = found_blind r e y ns ms n
found_blind r e y (Put w x ∷ ns) ms n = absurd n
found_blind r e y (Double f w x ∷ ns) ms n = found_blind r e y ns ms n
found_blind r e y (Scan q x ∷ ns) ms n = absurd n

-- a note stays right where what the looks tell stays
sighting_stays : (r : ℕ) (old new : List Move) (unlinked : List ℕ) (s : Sighting) →
    ((at : ℕ) → at < length unlinked → Cleared r (slice_index unlinked at) old ↔ Cleared r (slice_index unlinked at) new) →
    ((at x : ℕ) → at < length unlinked → FoundSince r (slice_index unlinked at) x old ↔ FoundSince r (slice_index unlinked at) x new) →
    IsSighting r old unlinked s → IsSighting r new unlinked s
sighting_stays r old new unlinked s cleared found a = record {
  few = a.few;
  looked = a.looked;
  cleared = λ at below. let b = a.cleared at below in let e = cleared at below in ((λ t. e.0 (b.0 t)), (λ c. b.1 (e.1 c)));
  found = λ at x high below. let b = a.found at x high below in let e = found at x below in ((λ t. e.0 (b.0 t)), (λ c. b.1 (e.1 c)));
}

-- the notes stay right where what the looks tell stays
same_sightings : (v w : View) (ms : List Move) (unlinked : List ℕ) (seen : List Sighting) → w.shape ≡ v.shape → w.mine ≡ ms → AreSightings v unlinked seen →
    ((r at : ℕ) → at < length unlinked → Cleared r (slice_index unlinked at) v.mine ↔ Cleared r (slice_index unlinked at) ms) →
    ((r at x : ℕ) → at < length unlinked → FoundSince r (slice_index unlinked at) x v.mine ↔ FoundSince r (slice_index unlinked at) x ms) →
    AreSightings w unlinked seen
same_sightings v w ms unlinked seen same mine a cleared found =
    let readers : w.shape.readers ≡ v.shape.readers = ap (λ (k : TableShape). k.readers) same in
    record {
      room = a.room ∙ sym readers;
      each = λ r low. subst (λ z. IsSighting (r + 1) z unlinked (sighting_at seen r)) (sym mine)
          (sighting_stays (r + 1) v.mine ms unlinked (sighting_at seen r) (cleared (r + 1)) (found (r + 1)) (a.each r (omega (arith, low, readers))));
    }

-- after a stretch that takes nothing back and adds nothing
sightings_stay : (v w : View) (ns : List Move) (unlinked : List ℕ) (seen : List Sighting) → IsBlind ns → Went v (ns ++ v.mine) w →
    AreSightings v unlinked seen → AreSightings w unlinked seen
sightings_stay v w ns unlinked seen blind g a =
    same_sightings v w (ns ++ v.mine) unlinked seen (went_shape v w (ns ++ v.mine) g) (went_mine v w (ns ++ v.mine) g) a
    (λ r at below. cleared_blind r (slice_index unlinked at) ns v.mine blind)
    (λ r at x below. found_blind r (slice_index unlinked at) x ns v.mine blind)

fills_blind : (element from n : ℕ) (words : List ℕ) (ms : List Move) → Fills element from words n ms → IsBlind ms
fills_blind element from zero words ms f = subst IsBlind (sym f) tt
fills_blind element from (suc n) words ms f = subst IsBlind (sym f.1) (fills_blind element from n words f.0 f.2)

-- after the words of an element were stored
pub sightings_filled : (v w : View) (element n from m : ℕ) (key value : List ℕ) (ks vs : List Move) (unlinked : List ℕ) (seen : List Sighting) →
    Fills element 0 key n ks → Fills element from value m vs → Went v ((vs ++ ks) ++ v.mine) w → AreSightings v unlinked seen → AreSightings w unlinked seen
sightings_filled v w element n from m key value ks vs unlinked seen fk fv g a =
    sightings_stay v w (vs ++ ks) unlinked seen (blind_append vs ks (fills_blind element from m value vs fv) (fills_blind element 0 n key ks fk)) g a

searches_blind : (k : Layout) (table : ℕ) (ns : List Move) → OnlySearches k table ns → IsBlind ns
searches_blind k table [] n = tt
searches_blind k table (Open ∷ ns) n = absurd n
searches_blind k table (Close ∷ ns) n = absurd n
searches_blind k table (Learn w x ∷ ns) n = searches_blind k table ns n
searches_blind k table (Load s p x ∷ ns) n = searches_blind k table ns n.1
searches_blind k table (Store s p x ∷ ns) n = absurd n
searches_blind k table (Put w x ∷ ns) n = absurd n
searches_blind k table (Double f w x ∷ ns) n = absurd n
searches_blind k table (Scan q x ∷ ns) n = absurd n

-- after a search
pub sightings_searched : (k : Layout) (table : ℕ) (v w : View) (ns : List Move) (unlinked : List ℕ) (seen : List Sighting) → OnlySearches k table ns →
    Went v (ns ++ v.mine) w → AreSightings v unlinked seen → AreSightings w unlinked seen
sightings_searched k table v w ns unlinked seen only g a = sightings_stay v w ns unlinked seen (searches_blind k table ns only) g a

loads_blind : (ns : List Move) → OnlyLoads ns → IsBlind ns
loads_blind [] n = tt
loads_blind (Open ∷ ns) n = absurd n
loads_blind (Close ∷ ns) n = absurd n
loads_blind (Learn w x ∷ ns) n = absurd n
loads_blind (Load s p x ∷ ns) n = loads_blind ns n
loads_blind (Store s p x ∷ ns) n = absurd n
loads_blind (Put w x ∷ ns) n = absurd n
loads_blind (Double f w x ∷ ns) n = absurd n
loads_blind (Scan q x ∷ ns) n = absurd n

-- after loads
pub sightings_loaded : (v w : View) (ns : List Move) (unlinked : List ℕ) (seen : List Sighting) → OnlyLoads ns → Went v (ns ++ v.mine) w →
    AreSightings v unlinked seen → AreSightings w unlinked seen
sightings_loaded v w ns unlinked seen only g a = sightings_stay v w ns unlinked seen (loads_blind ns only) g a

adds_blind : (element place apart n : ℕ) (ms : List Move) (total : ℕ) → AddsUp element place apart n ms total → IsBlind ms
adds_blind element place apart zero ms total a = subst IsBlind (sym a.0) tt
adds_blind element place apart (suc n) ms total a = subst IsBlind (sym a.3) (adds_blind element place apart n a.0 a.1 a.4)

-- after words were added up
pub sightings_added : (element place apart n : ℕ) (v w : View) (ms : List Move) (total : ℕ) (unlinked : List ℕ) (seen : List Sighting) →
    AddsUp element place apart n ms total → Went v (ms ++ v.mine) w → AreSightings v unlinked seen → AreSightings w unlinked seen
sightings_added element place apart n v w ms total unlinked seen sum g a =
    sightings_stay v w ms unlinked seen (adds_blind element place apart n ms total sum) g a

-- after a word was put in a second way
pub sightings_doubled : (v w : View) (from to word : ℕ) (unlinked : List ℕ) (seen : List Sighting) → Went v (Double from to word ∷ v.mine) w →
    AreSightings v unlinked seen → AreSightings w unlinked seen
sightings_doubled v w from to word unlinked seen g a = sightings_stay v w (Double from to word ∷ []) unlinked seen tt g a

-- after a word was put in a way
pub sightings_put : (v w : View) (way word : ℕ) (unlinked : List ℕ) (seen : List Sighting) → Went v (Put way word ∷ v.mine) w → All (IsUnlinked v) unlinked →
    AreSightings v unlinked seen → AreSightings w unlinked seen
sightings_put v w way word unlinked seen g all a =
    same_sightings v w (Put way word ∷ v.mine) unlinked seen (went_shape v w (Put way word ∷ v.mine) g) (went_mine v w (Put way word ∷ v.mine) g) a
    (λ r at below. ((λ c. ((λ names. (all at 0 below).1 (way, names)), c)), (λ c. c.1)))
    (λ r at x below. ((λ c. ((λ names. (all at 0 below).1 (way, names)), c)), (λ c. c.1)))

-- a note, once an element was added to the unlinked ones of which nothing was found
sighting_added : (r element : ℕ) (mine : List Move) (unlinked : List ℕ) (s : Sighting) → (Cleared r element mine → ⊥) →
    ((x : ℕ) → FoundSince r element x mine → ⊥) → IsSighting r mine unlinked s → IsSighting r mine (unlinked ++ element ∷ []) s
sighting_added r element mine unlinked s unseen unfound a =
    let long = length-append unlinked (element ∷ []) in
    let few = a.few in
    let looked = a.looked in
    let here : (at : ℕ) → at ≡ length unlinked → slice_index (unlinked ++ element ∷ []) at ≡ element =
    λ at last. ap (λ z. slice_index (unlinked ++ element ∷ []) z) last ∙ get_or-append_seam unlinked element [] 0 in
    let there : (at : ℕ) → at < length unlinked → slice_index (unlinked ++ element ∷ []) at ≡ slice_index unlinked at =
    λ at before. get_or_append_left unlinked (element ∷ []) 0 at before in
    record {
      few = few;
      looked = omega (arith, looked, long);
      cleared = λ at below. dite (ℕ_discrete at (length unlinked))
          (λ last. ((λ t. absurd (omega (arith, t, few, looked, last))), (λ c. absurd (unseen (subst (λ z. Cleared r z mine) (here at last) c)))))
          (λ ne.
          let before : at < length unlinked = omega (arith, below, long, ne) in
          let t = a.cleared at before in
          ((λ z. subst (λ e. Cleared r e mine) (sym (there at before)) (t.0 z)), (λ c. t.1 (subst (λ e. Cleared r e mine) (there at before) c))));
      found = λ at x high below. dite (ℕ_discrete at (length unlinked))
          (λ last. (
            (λ (t : (at < s.looked) × (x ≡ s.word)). let l = t.0 in absurd (omega (arith, l, looked, last))),
            (λ c. absurd (unfound x (subst (λ z. FoundSince r z x mine) (here at last) c))),
          ))
          (λ ne.
          let before : at < length unlinked = omega (arith, below, long, ne) in
          let t = a.found at x high before in
          ((λ z. subst (λ e. FoundSince r e x mine) (sym (there at before)) (t.0 z)), (λ c. t.1 (subst (λ e. FoundSince r e x mine) (there at before) c))));
    }

-- after the element of that way was added to the unlinked ones
pub sightings_unlinked : (v w : View) (way word element : ℕ) (unlinked : List ℕ) (seen : List Sighting) → Went v (Put way word ∷ v.mine) w →
    All (IsUnlinked v) unlinked → Names (word_in way v.mine) element → AreSightings v unlinked seen → AreSightings w (unlinked ++ element ∷ []) seen
sightings_unlinked v w way word element unlinked seen g all names a =
    let mine = went_mine v w (Put way word ∷ v.mine) g in
    let b = sightings_put v w way word unlinked seen g all a in
    record {
      room = b.room;
      each = λ r low. sighting_added (r + 1) element w.mine unlinked (sighting_at seen r)
          (λ c. (subst (Cleared (r + 1) element) mine c).0 names)
          (λ x c. (subst (FoundSince (r + 1) element x) mine c).0 names) (b.each r low);
    }

-- the note of a reader after a look at it
module _ (r x : ℕ) (mine : List Move) (unlinked : List ℕ) (old new : Sighting) (a : IsSighting r mine unlinked old)
    (n : IsNoted old x (length unlinked) new) where
  -- it was outside
  noted_outside : x % 2 ≡ 0 → IsSighting r (Scan r x ∷ mine) unlinked new
  noted_outside even =
      let cleared = n.outside even in
      let looked = n.looked in
      record {
        few = omega (arith, cleared, looked);
        looked = omega (arith, looked);
        cleared = λ at below. ((λ t. inl (refl, inl even)), (λ c. omega (arith, cleared, below)));
        found = λ at y high below. absurd (omega (arith, cleared, high, below));
      }

  -- what the two looks tell of an element that was unlinked between them
  found_now : (at y : ℕ) → old.cleared ≤ at → at < length unlinked → (at < old.looked → y ≡ old.word → x ≡ y) →
      ((at < new.looked) × (y ≡ new.word)) ↔ FoundSince r (slice_index unlinked at) y (Scan r x ∷ mine)
  found_now at y high below same =
      let looked = n.looked in (
        (λ (t : (at < new.looked) × (y ≡ new.word)). inl (refl, sym n.word_is ∙ sym t.1)),
        (λ c. ⊎_elim
            (λ (t : (r ≡ r) × (x ≡ y)). (omega (arith, looked, below), sym t.1 ∙ sym n.word_is))
            (λ f. let t = (a.found at y high below).1 f in (omega (arith, looked, below), sym (same t.0 t.1) ∙ sym n.word_is)) c),
      )

  -- it was inside with another number
  noted_other : x % 2 ≢ 0 → x ≢ old.word → IsSighting r (Scan r x ∷ mine) unlinked new
  noted_other odd ne =
      let cleared = n.other odd ne in
      let looked = n.looked in
      let few = a.few in
      let most = a.looked in
      record {
        few = omega (arith, cleared, looked, most);
        looked = omega (arith, looked);
        cleared = λ at below. (
          (λ t. dite (dec_lt at old.cleared)
              (λ l. inr ((a.cleared at below).0 l))
              (λ l. inl (refl, inr (old.word, (λ e. ne (sym e)), (a.found at old.word (omega (arith, l)) below).0 (omega (arith, t, cleared), refl))))),
          (λ c. ⊎_elim
              (λ (t : (r ≡ r) × HasLeft r (slice_index unlinked at) x mine). ⊎_elim
              (λ (even : x % 2 ≡ 0). absurd (odd even))
              (λ (o : (y : ℕ) × (y ≢ x) × FoundSince r (slice_index unlinked at) y mine). dite (dec_lt at old.cleared)
              (λ l. omega (arith, l, few, cleared))
              (λ l. let f = ((a.found at o.0 (omega (arith, l)) below).1 o.2).0 in omega (arith, f, cleared))) t.1)
              (λ z. let l = (a.cleared at below).1 z in omega (arith, l, few, cleared)) c),
        );
        found = λ at y high below. found_now at y (omega (arith, few, cleared, high)) below
            (λ l e. absurd (omega (arith, l, cleared, high)));
      }

  -- it was inside with the same number
  noted_same : x % 2 ≢ 0 → x ≡ old.word → IsSighting r (Scan r x ∷ mine) unlinked new
  noted_same odd is =
      let cleared = n.same odd is in
      let looked = n.looked in
      let few = a.few in
      let most = a.looked in
      record {
        few = omega (arith, cleared, looked, few, most);
        looked = omega (arith, looked);
        cleared = λ at below. (
          (λ t. inr ((a.cleared at below).0 (omega (arith, t, cleared)))),
          (λ c. ⊎_elim
              (λ (t : (r ≡ r) × HasLeft r (slice_index unlinked at) x mine). ⊎_elim
              (λ (even : x % 2 ≡ 0). absurd (odd even))
              (λ (o : (y : ℕ) × (y ≢ x) × FoundSince r (slice_index unlinked at) y mine). dite (dec_lt at old.cleared)
              (λ l. omega (arith, l, cleared))
              (λ l. absurd (o.1 (((a.found at o.0 (omega (arith, l)) below).1 o.2).1 ∙ sym is)))) t.1)
              (λ z. let l = (a.cleared at below).1 z in omega (arith, l, cleared)) c),
        );
        found = λ at y high below. found_now at y (omega (arith, cleared, high)) below (λ l e. is ∙ sym e);
      }

  noted : IsSighting r (Scan r x ∷ mine) unlinked new
  noted = dite (ℕ_discrete (x % 2) 0) noted_outside
      (λ odd. dite (ℕ_discrete x old.word) (noted_same odd) (noted_other odd))

-- a look at another reader
sighting_else : (q r x : ℕ) (mine : List Move) (unlinked : List ℕ) (s : Sighting) → q ≢ r → IsSighting r mine unlinked s →
    IsSighting r (Scan q x ∷ mine) unlinked s
sighting_else q r x mine unlinked s ne a = sighting_stays r mine (Scan q x ∷ mine) unlinked s
    (λ at below. ((λ c. inr c), (λ c. ⊎_elim (λ (t : (q ≡ r) × HasLeft r (slice_index unlinked at) x mine). absurd (ne t.0)) (λ z. z) c)))
    (λ at y below. ((λ c. inr c), (λ c. ⊎_elim (λ (t : (q ≡ r) × (x ≡ y)). absurd (ne t.0)) (λ z. z) c))) a

pub set_here : (seen : List Sighting) (reader : ℕ) (s : Sighting) → reader < length seen → sighting_at (set seen reader s) reader ≡ s
set_here seen reader s l = get_or-set_same seen reader s no_sighting l

set_there : (seen : List Sighting) (reader r : ℕ) (s : Sighting) → r ≢ reader → sighting_at (set seen reader s) r ≡ sighting_at seen r
set_there seen reader r s ne = get_or-set_other seen reader r s no_sighting ne

-- a look at a reader, which is noted
pub sightings_looked : (v w : View) (reader x : ℕ) (unlinked : List ℕ) (seen : List Sighting) (new : Sighting) → reader < v.shape.readers →
    Went v (Scan (reader + 1) x ∷ v.mine) w → IsNoted (sighting_at seen reader) x (length unlinked) new →
    AreSightings v unlinked seen → AreSightings w unlinked (set seen reader new)
sightings_looked v w reader x unlinked seen new within g n a =
    let mine = went_mine v w (Scan (reader + 1) x ∷ v.mine) g in
    let readers : w.shape.readers ≡ v.shape.readers = ap (λ (k : TableShape). k.readers) (went_shape v w (Scan (reader + 1) x ∷ v.mine) g) in
    let room = a.room in
    record {
      room = length-set seen reader new ∙ (room ∙ sym readers);
      each = λ r low. subst (λ z. IsSighting (r + 1) z unlinked (sighting_at (set seen reader new) r)) (sym mine) (dite (ℕ_discrete r reader)
          (λ e. subst (λ z. IsSighting (z + 1) (Scan (reader + 1) x ∷ v.mine) unlinked (sighting_at (set seen reader new) z)) (sym e)
          (subst (IsSighting (reader + 1) (Scan (reader + 1) x ∷ v.mine) unlinked) (sym (set_here seen reader new (omega (arith, room, within))))
          (noted (reader + 1) x v.mine unlinked (sighting_at seen reader) new (a.each reader within) n)))
          (λ ne. subst (IsSighting (r + 1) (Scan (reader + 1) x ∷ v.mine) unlinked) (sym (set_there seen reader r new ne))
          (sighting_else (reader + 1) (r + 1) x v.mine unlinked (sighting_at seen r) (λ e. ne (omega (arith, e))) (a.each r (omega (arith, low, readers))))));
    }

-- the note of a reader after the first elements were freed
sighting_freed : (r count : ℕ) (mine : List Move) (unlinked : List ℕ) (s lower : Sighting) → count ≤ length unlinked → IsLowered count s lower →
    IsSighting r mine unlinked s → IsSighting r mine (drop count unlinked) lower
sighting_freed r count mine unlinked s lower few is a =
    let long = length-drop count unlinked in
    let cleared = is.cleared in
    let looked = is.looked in
    let less = a.few in
    let most = a.looked in
    let here : (at : ℕ) → slice_index (drop count unlinked) at ≡ slice_index unlinked (count + at) = λ at. get_or-drop count unlinked at 0 in
    record {
      few = omega (arith, cleared, looked, less);
      looked = omega (arith, looked, most, long, few);
      cleared = λ at below.
          let t = a.cleared (count + at) (omega (arith, below, long, few)) in (
            (λ z. subst (λ x. Cleared r x mine) (sym (here at)) (t.0 (omega (arith, z, cleared)))),
            (λ c. let f = t.1 (subst (λ x. Cleared r x mine) (here at) c) in omega (arith, f, cleared)),
          );
      found = λ at y high below.
          let t = a.found (count + at) y (omega (arith, high, cleared)) (omega (arith, below, long, few)) in (
            (λ (z : (at < lower.looked) × (y ≡ lower.word)). let l = z.0 in
                subst (λ x. FoundSince r x y mine) (sym (here at)) (t.0 (omega (arith, l, looked), z.1 ∙ is.word_is))),
            (λ c. let f = t.1 (subst (λ x. FoundSince r x y mine) (here at) c) in let l = f.0 in (omega (arith, l, looked), f.1 ∙ sym is.word_is)),
          );
    }

-- after the first elements were freed
pub sightings_freed : (v : View) (count : ℕ) (unlinked : List ℕ) (seen lower : List Sighting) → length lower ≡ length seen →
    ((r : ℕ) → r < length seen → IsLowered count (sighting_at seen r) (sighting_at lower r)) → count ≤ length unlinked →
    AreSightings v unlinked seen → AreSightings v (drop count unlinked) lower
sightings_freed v count unlinked seen lower room is few a =
    let have = a.room in
    record {
      room = room ∙ a.room;
      each = λ r low. sighting_freed (r + 1) count v.mine unlinked (sighting_at seen r) (sighting_at lower r) few
          (is r (omega (arith, low, have))) (a.each r low);
    }

-- the writer at first
pub sightings_first : (v : View) (n : ℕ) (k : TableShape) (unlinked : List ℕ) (seen : List Sighting) → v ≡ writer_after n k → length seen ≡ k.readers →
    ((r : ℕ) → sighting_at seen r ≡ no_sighting) → unlinked ≡ [] → AreSightings v unlinked seen
sightings_first v n k unlinked seen is room none nothing =
    let empty = ap (λ (xs : List ℕ). length xs) nothing in
    record {
      room = room ∙ ap (λ (z : View). z.shape.readers) (sym is);
      each = λ r low. subst (IsSighting (r + 1) v.mine unlinked) (sym (none r)) record {
        few = omega arith;
        looked = omega arith;
        cleared = λ at below. absurd (omega (arith, below, empty));
        found = λ at x high below. absurd (omega (arith, below, empty));
      };
    }

-- scans alone

pub scans_wider : (low high lower higher : ℕ) (ns : List Move) → lower ≤ low → high ≤ higher → ScansInTurn low high ns → ScansInTurn lower higher ns
scans_wider low high lower higher [] l h n = tt
scans_wider low high lower higher (Open ∷ ns) l h n = absurd n
scans_wider low high lower higher (Close ∷ ns) l h n = absurd n
scans_wider low high lower higher (Learn w x ∷ ns) l h n = absurd n
scans_wider low high lower higher (Load e p x ∷ ns) l h n = absurd n
scans_wider low high lower higher (Store e p x ∷ ns) l h n = absurd n
scans_wider low high lower higher (Put w x ∷ ns) l h n = absurd n
scans_wider low high lower higher (Double f w x ∷ ns) l h n = absurd n
scans_wider low high lower higher (Scan r x ∷ ns) l h n =
    let a = n.0 in
    let b = n.1 in
    (omega (arith, a, l), omega (arith, b, h), scans_wider low (r - 1) lower (r - 1) ns l (omega arith) n.2)

-- scans of later readers, behind those of earlier ones
pub scans_append : (low mid high : ℕ) (ns ms : List Move) → low ≤ mid → mid ≤ high → ScansInTurn mid high ns → ScansInTurn low mid ms →
    ScansInTurn low high (ns ++ ms)
scans_append low mid high [] ms l h n m = scans_wider low mid low high ms (omega arith) h m
scans_append low mid high (Open ∷ ns) ms l h n m = absurd n
scans_append low mid high (Close ∷ ns) ms l h n m = absurd n
scans_append low mid high (Learn w x ∷ ns) ms l h n m = absurd n
scans_append low mid high (Load e p x ∷ ns) ms l h n m = absurd n
scans_append low mid high (Store e p x ∷ ns) ms l h n m = absurd n
scans_append low mid high (Put w x ∷ ns) ms l h n m = absurd n
scans_append low mid high (Double f w x ∷ ns) ms l h n m = absurd n
scans_append low mid high (Scan r x ∷ ns) ms l h n m =
    let a = n.0 in
    (omega (arith, a, l), n.1, scans_append low mid (r - 1) ns ms l (omega (arith, a)) n.2 m)

pub inside_front : (reader : ℕ) (ns ms : List Move) → FoundInside reader ns → FoundInside reader (ns ++ ms)
inside_front reader [] ms f = absurd f
inside_front reader (Open ∷ ns) ms f = inside_front reader ns ms f
inside_front reader (Close ∷ ns) ms f = inside_front reader ns ms f
inside_front reader (Learn w x ∷ ns) ms f = inside_front reader ns ms f
inside_front reader (Load e p x ∷ ns) ms f = inside_front reader ns ms f
inside_front reader (Store e p x ∷ ns) ms f = inside_front reader ns ms f
inside_front reader (Put w x ∷ ns) ms f = inside_front reader ns ms f
inside_front reader (Double v w x ∷ ns) ms f = inside_front reader ns ms f
inside_front reader (Scan r x ∷ ns) ms f = ⊎_elim (λ z. inl z) (λ z. inr (inside_front reader ns ms z)) f

inside_back : (reader : ℕ) (ns ms : List Move) → FoundInside reader ms → FoundInside reader (ns ++ ms)
inside_back reader [] ms f = f
inside_back reader (Open ∷ ns) ms f = inside_back reader ns ms f
inside_back reader (Close ∷ ns) ms f = inside_back reader ns ms f
inside_back reader (Learn w x ∷ ns) ms f = inside_back reader ns ms f
inside_back reader (Load e p x ∷ ns) ms f = inside_back reader ns ms f
inside_back reader (Store e p x ∷ ns) ms f = inside_back reader ns ms f
inside_back reader (Put w x ∷ ns) ms f = inside_back reader ns ms f
inside_back reader (Double v w x ∷ ns) ms f = inside_back reader ns ms f
inside_back reader (Scan r x ∷ ns) ms f = inr (inside_back reader ns ms f)

-- each of the first readers is cleared of all that were unlinked, or was found inside
abbrev pub Looked : ℕ → ℕ → List Sighting → List Move → Type 0
Looked readers count seen ms = (r : ℕ) → r < readers → ((sighting_at seen r).cleared ≡ count) ⊎ FoundInside (r + 1) ms

pub looked_more : (at count : ℕ) (old new : List Sighting) (ns ms : List Move) → Looked at count old ms →
    ((r : ℕ) → r ≢ at → sighting_at new r ≡ sighting_at old r) → ((sighting_at new at).cleared ≡ count) ⊎ FoundInside (at + 1) ns →
    Looked (at + 1) count new (ns ++ ms)
looked_more at count old new ns ms before others here r low = dite (ℕ_discrete at r)
    (λ e. ⊎_elim (λ z. inl (ap (λ q. (sighting_at new q).cleared) (sym e) ∙ z))
    (λ z. inr (subst (λ q. FoundInside (q + 1) (ns ++ ms)) e (inside_front (at + 1) ns ms z))) here)
    (λ ne. ⊎_elim (λ z. inl (ap (λ (s : Sighting). s.cleared) (others r (λ e. ne (sym e))) ∙ z)) (λ z. inr (inside_back (r + 1) ns ms z))
    (before r (omega (arith, low, ne))))
