-- Stretches that only search.
use Rattle.bpf_model.proofs.Prelude.{◌≡◌, ◌≢◌, ℕ, ◌+◌, ◌*◌, ◌%◌, ◌<◌, ◌≤◌, List, [], ◌∷◌, ◌++◌, Bool, true, false, refl, sym, ap, ◌∙◌, subst, inl, inr, arith}
use Rattle.bpf_model.proofs.Prelude.{length, Option, Some, None, length-append, mul-le, MatchBool, IfSome, dite, ℕ_discrete, dec_lt}
use Rattle.read_table.proofs.Prelude.{inside, Knows, IsLearnt, key_word, OnlySearches, HadWord, Refuted, AnswersLookup, Holder, Goes, Searched}
use Rattle.read_table.specs.declared.view.Move.{Move}
use Rattle.read_table.specs.declared.view.Move.TheVariants.{Open, Close, Learn, Load, Store, Header, Scan}
use Rattle.read_table.specs.declared.view.TableShape.{TableShape}
use Rattle.read_table.specs.Search.{HadKey}
use Rattle.read_table.proofs.Going.{goes_fact}

pub only_append : (k : TableShape) (ns ms : List Move) → OnlySearches k ns → OnlySearches k ms → OnlySearches k (ns ++ ms)
only_append k [] ms n m = m
only_append k (Open ∷ ns) ms n m = absurd n
only_append k (Close ∷ ns) ms n m = absurd n
only_append k (Learn s h ∷ ns) ms n m = only_append k ns ms n m
only_append k (Load s p x ∷ ns) ms n m = (n.0, only_append k ns ms n.1 m)
only_append k (Store s p x ∷ ns) ms n m = absurd n
only_append k (Header s w ∷ ns) ms n m = absurd n
only_append k (Scan r x ∷ ns) ms n m = absurd n

-- what was known stays known
pub only_knows : (k : TableShape) (slot h : ℕ) (ns ms : List Move) → OnlySearches k ns → Knows slot h ms → Knows slot h (ns ++ ms)
only_knows k slot h [] ms n known = known
only_knows k slot h (Open ∷ ns) ms n known = absurd n
only_knows k slot h (Close ∷ ns) ms n known = absurd n
only_knows k slot h (Learn s x ∷ ns) ms n known = inr (only_knows k slot h ns ms n known)
only_knows k slot h (Load s p x ∷ ns) ms n known = only_knows k slot h ns ms n.1 known
only_knows k slot h (Store s p x ∷ ns) ms n known = absurd n
only_knows k slot h (Header s w ∷ ns) ms n known = absurd n
only_knows k slot h (Scan r x ∷ ns) ms n known = absurd n

-- the section stays as it is
pub only_inside : (k : TableShape) (ns ms : List Move) → OnlySearches k ns → inside (ns ++ ms) ≡ inside ms
only_inside k [] ms n = refl
only_inside k (Open ∷ ns) ms n = absurd n
only_inside k (Close ∷ ns) ms n = absurd n
only_inside k (Learn s x ∷ ns) ms n = only_inside k ns ms n
only_inside k (Load s p x ∷ ns) ms n = only_inside k ns ms n.1
only_inside k (Store s p x ∷ ns) ms n = absurd n
only_inside k (Header s w ∷ ns) ms n = absurd n
only_inside k (Scan r x ∷ ns) ms n = absurd n

-- a holder that only searched knows what it knew
pub searched_knows : (k : TableShape) (s t : Holder) (ms : List Move) → Goes s ms t → OnlySearches k ms → (slot h : ℕ)
    → Knows slot h s.view.mine → Knows slot h t.view.mine
searched_knows k s t ms g o slot h known = goes_fact (Knows slot h) s t ms g (only_knows k slot h ms s.view.mine o known)

-- and is inside its section, if it was
pub searched_inside : (k : TableShape) (s t : Holder) (ms : List Move) → Goes s ms t → OnlySearches k ms → inside s.view.mine ≡ 1 → inside t.view.mine ≡ 1
searched_inside k s t ms g o one = goes_fact (λ ns. inside ns ≡ 1) s t ms g (only_inside k ms s.view.mine o ∙ one)

pub knows_front : (slot h : ℕ) (ns ms : List Move) → Knows slot h ns → Knows slot h (ns ++ ms)
knows_front slot h [] ms r = absurd r
knows_front slot h (Open ∷ ns) ms r = absurd r
knows_front slot h (Close ∷ ns) ms r = absurd r
knows_front slot h (Learn s x ∷ ns) ms r = elim r [ inl a ↦ inl a | inr b ↦ inr (knows_front slot h ns ms b) ]
knows_front slot h (Load s p x ∷ ns) ms r = knows_front slot h ns ms r
knows_front slot h (Store s p x ∷ ns) ms r = knows_front slot h ns ms r
knows_front slot h (Header s w ∷ ns) ms r = knows_front slot h ns ms r
knows_front slot h (Scan q x ∷ ns) ms r = knows_front slot h ns ms r

-- what a stretch learnt is learnt afterwards
pub goes_learnt : (s t : Holder) (ms : List Move) (slot : ℕ) → Goes s ms t → IsLearnt slot ms → IsLearnt slot t.view.mine
goes_learnt s t ms slot g l = (l.0, goes_fact (Knows slot l.0) s t ms g (knows_front slot l.0 ms s.view.mine l.1))

pub had_front : (slot place word : ℕ) (ns ms : List Move) → HadWord slot place word ns → HadWord slot place word (ns ++ ms)
had_front slot place word [] ms r = absurd r
had_front slot place word (Open ∷ ns) ms r = had_front slot place word ns ms r
had_front slot place word (Close ∷ ns) ms r = had_front slot place word ns ms r
had_front slot place word (Learn s x ∷ ns) ms r = had_front slot place word ns ms r
had_front slot place word (Load s p x ∷ ns) ms r = elim r [ inl a ↦ inl a | inr b ↦ inr (had_front slot place word ns ms b) ]
had_front slot place word (Store s p x ∷ ns) ms r = had_front slot place word ns ms r
had_front slot place word (Header s w ∷ ns) ms r = had_front slot place word ns ms r
had_front slot place word (Scan q x ∷ ns) ms r = had_front slot place word ns ms r

pub refuted_front : (k : TableShape) (key : List ℕ) (slot : ℕ) (ns ms : List Move) → Refuted k key slot ns → Refuted k key slot (ns ++ ms)
refuted_front k key slot [] ms r = absurd r
refuted_front k key slot (Open ∷ ns) ms r = refuted_front k key slot ns ms r
refuted_front k key slot (Close ∷ ns) ms r = refuted_front k key slot ns ms r
refuted_front k key slot (Learn s h ∷ ns) ms r = elim r [ inl x ↦ inl x | inr y ↦ inr (refuted_front k key slot ns ms y) ]
refuted_front k key slot (Load s p x ∷ ns) ms r = elim r [ inl x ↦ inl x | inr y ↦ inr (refuted_front k key slot ns ms y) ]
refuted_front k key slot (Store s p x ∷ ns) ms r = refuted_front k key slot ns ms r
refuted_front k key slot (Header s w ∷ ns) ms r = refuted_front k key slot ns ms r
refuted_front k key slot (Scan q x ∷ ns) ms r = refuted_front k key slot ns ms r

pub refuted_back : (k : TableShape) (key : List ℕ) (slot : ℕ) (ns ms : List Move) → Refuted k key slot ms → Refuted k key slot (ns ++ ms)
refuted_back k key slot [] ms r = r
refuted_back k key slot (Open ∷ ns) ms r = refuted_back k key slot ns ms r
refuted_back k key slot (Close ∷ ns) ms r = refuted_back k key slot ns ms r
refuted_back k key slot (Learn s h ∷ ns) ms r = inr (refuted_back k key slot ns ms r)
refuted_back k key slot (Load s p x ∷ ns) ms r = inr (refuted_back k key slot ns ms r)
refuted_back k key slot (Store s p x ∷ ns) ms r = refuted_back k key slot ns ms r
refuted_back k key slot (Header s w ∷ ns) ms r = refuted_back k key slot ns ms r
refuted_back k key slot (Scan q x ∷ ns) ms r = refuted_back k key slot ns ms r

pub found_front : (k : TableShape) (key : List ℕ) (slot : ℕ) (ns ms : List Move) → AnswersLookup k key ns (Some slot)
    → AnswersLookup k key (ns ++ ms) (Some slot)
found_front k key slot ns ms a = (a.0, (a.1.0, knows_front slot a.1.0 ns ms a.1.1), λ place word l e. had_front slot place word ns ms (a.2 place word l e))

abbrev number_in : Option ℕ → ℕ
number_in None = 0
number_in (Some x) = x

pub same_number : (x y : ℕ) → Some x ≡ Some y → x ≡ y
same_number x y e = ap number_in e

-- one more word of a key was found
pub more_had : (key : List ℕ) (slot place x : ℕ) (ms : List Move) →
    ((p w : ℕ) → p < place → key_word key p ≡ Some w → HadWord slot p w ms) → key_word key place ≡ Some x
    → (p w : ℕ) → p < place + 1 → key_word key p ≡ Some w → HadWord slot p w (Load slot place x ∷ ms)
more_had key slot place x ms had is p w l e = dite (ℕ_discrete place p)
    (λ same. inl (refl, same, same_number x w (sym is ∙ (ap (key_word key) same ∙ e))))
    (λ ne. inr (had p w (omega arith) e))

-- another word was found
pub other_word : (k : TableShape) (key : List ℕ) (slot place x w : ℕ) (ms : List Move) → place < k.key_words →
    key_word key place ≡ Some w → x ≢ w → Refuted k key slot (Load slot place x ∷ ms)
other_word k key slot place x w ms l is ne = inl (refl, l, λ e. ne (same_number x w (e ∙ is)))

-- the words of a key that was found, and what was learnt before
pub found_key : (k : TableShape) (key : List ℕ) (slot h : ℕ) (ms : List Move) → slot < k.slots → h % 2 ≡ 1 →
    OnlySearches k ms → HadKey k key slot ms → AnswersLookup k key (ms ++ Learn slot h ∷ []) (Some slot)
found_key k key slot h ms l odd only had = (
  l,
  (h, only_knows k slot h ms (Learn slot h ∷ []) only (inl (refl, refl, odd))),
  λ place word m e. had_front slot place word ms (Learn slot h ∷ []) (had place word m e),
)

-- one more slot was searched
pub more_refuted : (k : TableShape) (key : List ℕ) (low at : ℕ) (ns ms : List Move) →
    ((s : ℕ) → low ≤ s → s < at → Refuted k key s ms) → Refuted k key at ns → (s : ℕ) → low ≤ s → s < at + 1 →
    Refuted k key s (ns ++ ms)
more_refuted k key low at ns ms all one s l m = dite (ℕ_discrete at s)
    (λ e. refuted_front k key s ns ms (subst (λ z. Refuted k key z ns) e one))
    (λ ne. refuted_back k key s ns ms (all s l (omega arith)))

-- the upper slots and then the lower ones were searched
pub both_searched : (k : TableShape) (key : List ℕ) (home : ℕ) (ns ms : List Move) (found : Option ℕ) →
    Searched k key home k.slots ms None → Searched k key 0 home ns found → AnswersLookup k key (ns ++ ms) found
both_searched k key home ns ms None upper lower = λ slot l. dite (dec_lt slot home)
    (λ low. refuted_front k key slot ns ms (lower slot (omega arith) low))
    (λ high. refuted_back k key slot ns ms (upper slot (omega arith) l))
both_searched k key home ns ms (Some slot) upper lower = found_front k key slot ns ms lower

-- whether a slot that was learnt as linked has the key
pub has_matched : (k : TableShape) (key : List ℕ) (slot h : ℕ) (ms : List Move) (b : Bool) → slot < k.slots →
    h % 2 ≡ 1 → OnlySearches k ms → MatchBool b (HadKey k key slot ms) (Refuted k key slot ms)
    → MatchBool b (AnswersLookup k key (ms ++ Learn slot h ∷ []) (Some slot)) (Refuted k key slot (ms ++ Learn slot h ∷ []))
has_matched k key slot h ms true l odd only had = found_key k key slot h ms l odd only had
has_matched k key slot h ms false l odd only r = refuted_front k key slot ms (Learn slot h ∷ []) r

pub answers_learnt : (k : TableShape) (key : List ℕ) (s t : Holder) (ms : List Move) (found : Option ℕ) → Goes s ms t
    → AnswersLookup k key ms found → IfSome found (λ slot. IsLearnt slot t.view.mine)
answers_learnt k key s t ms None g a = tt
answers_learnt k key s t ms (Some slot) g a = goes_learnt s t ms slot g a.1

pub answers_slot : (k : TableShape) (key : List ℕ) (ms : List Move) (found : Option ℕ) → AnswersLookup k key ms found → IfSome found (λ slot. slot < k.slots)
answers_slot k key ms None a = tt
answers_slot k key ms (Some slot) a = a.0

-- a slot that was learnt as not linked
pub not_linked : (k : TableShape) (key : List ℕ) (slot h : ℕ) (b : Bool) (P : Type 0) → b ≡ false → h % 2 ≡ 0 →
    MatchBool b P (Refuted k key slot (Learn slot h ∷ []))
not_linked k key slot h b P is even = subst (λ z. MatchBool z P (Refuted k key slot (Learn slot h ∷ []))) (sym is) (inl (refl, even))

-- how many moves a search of some slots takes, at most w of each
pub more_steps : (low slot w : ℕ) (ns ms : List Move) → length ms + low * w ≤ slot * w → length ns ≤ w →
    length (ns ++ ms) + low * w ≤ (slot + 1) * w
more_steps low slot w ns ms few one = omega (arith, few, one, length-append ns ms)

pub upper_steps : (low slot high w : ℕ) (ms : List Move) → slot ≤ high → length ms + low * w ≤ slot * w →
    length ms + low * w ≤ high * w
upper_steps low slot high w ms le few = omega (arith, few, mul-le slot w high w le (omega arith))

pub last_steps : (low slot high w : ℕ) (ns ms : List Move) → slot < high → length ms + low * w ≤ slot * w →
    length ns ≤ w → length (ns ++ ms) + low * w ≤ high * w
last_steps low slot high w ns ms below few one =
    upper_steps low (slot + 1) high w (ns ++ ms) (omega (arith, below)) (more_steps low slot w ns ms few one)

-- the upper slots and then the lower ones
pub both_steps : (slots home w : ℕ) (ns ms : List Move) → length ms + home * w ≤ slots * w →
    length ns + 0 * w ≤ home * w → length (ns ++ ms) ≤ slots * w
both_steps slots home w ns ms upper lower = omega (arith, upper, lower, length-append ns ms)
