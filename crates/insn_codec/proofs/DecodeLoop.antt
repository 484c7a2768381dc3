-- What is read so far, and what is left.
use Rattle.bpf_model.proofs.Prelude.{◌≡◌, ℕ, ◌+◌, ◌*◌, ◌%◌, ◌<◌, List, [], ◌∷◌, ◌++◌, length, refl, sym, ap, ◌∙◌, arith, append_assoc, true, false, eqb, inl}
use Rattle.bpf_model.proofs.Prelude.{inr, AllByRecursion, All-push, nat_tests, append-nil, length-append, sum_by-cons, FitsInsn, spelling, text, slot_count}
use Rattle.bpf_model.proofs.Prelude.{slot_total, starts_from, slot_count_some}
use Rattle.bpf_model.specs.declared.insn.Insn.{Insn}
use Rattle.insn_codec.proofs.InsnLaws.{shape}

-- what a test of a length for 0 says

pub none_from : (n : ℕ) → true ≡ eqb n 0 → n ≡ 0
none_from n e = grind (arith, nat_tests)

pub some_from : (n : ℕ) → false ≡ eqb n 0 → 0 < n
some_from n e = grind (arith, nat_tests)

-- the list is what was read and the rest of it
pub record Continues (is front : List Insn) (rest : List ℕ) : Type 0 where
  pub back : List Insn
  pub whole : is ≡ front ++ back
  pub rest_is : rest ≡ text back
  pub fits : AllByRecursion FitsInsn back

pub record ReadSoFar (bytes : List ℕ) (front : List Insn) (starts : List ℕ) (slot : ℕ) (rest : List ℕ) : Type 0 where
  pub parts : bytes ≡ text front ++ rest
  pub fits : AllByRecursion FitsInsn front
  pub slot_is : slot_total front ≡ slot
  pub starts_are : starts ≡ starts_from 0 front
  pub left : length rest % 8 ≡ 0
  pub bound : 8 * slot + length rest ≡ length bytes
  pub only : (is : List Insn) → AllByRecursion FitsInsn is → bytes ≡ text is → Continues is front rest

length_spelling : (i : Insn) → length (spelling i) ≡ 8 * slot_count i
length_spelling i = elim (shape i) [ inl one ↦ rw (one.slots, one.count) refl | inr two ↦ rw (two.slots, two.count) refl ]

pub total_cons : (i : Insn) (is : List Insn) → slot_total (i ∷ is) ≡ slot_count i + slot_total is
total_cons i is = sum_by-cons slot_count i is

pub length_text : (is : List Insn) → length (text is) ≡ 8 * slot_total is
length_text [] = refl
length_text (i ∷ is) = omega (arith, length-append (spelling i) (text is), length_spelling i, length_text is, total_cons i is)

text_push : (front : List Insn) (i : Insn) → text (front ++ i ∷ []) ≡ text front ++ spelling i
text_push [] i = append-nil (spelling i)
text_push (x ∷ front) i = ap (λ (t : List ℕ). spelling x ++ t) (text_push front i) ∙ sym (append_assoc (spelling x) (text front) (spelling i))

pub total_push : (front : List Insn) (i : Insn) → slot_total (front ++ i ∷ []) ≡ slot_total front + slot_count i
total_push [] i = omega arith
total_push (x ∷ front) i = omega (arith, total_push front i, total_cons x (front ++ i ∷ []), total_cons x front)

pub starts_push : (n : ℕ) (front : List Insn) (i : Insn) → starts_from n (front ++ i ∷ []) ≡ starts_from n front ++ (n + slot_total front) ∷ []
starts_push n [] i = ap (λ (k : ℕ). k ∷ []) (omega arith)
starts_push n (x ∷ front) i =
    let k : n + slot_count x + slot_total front ≡ n + slot_total (x ∷ front) = omega (arith, total_cons x front) in
    ap (λ (s : List ℕ). n ∷ s) (starts_push (n + slot_count x) front i ∙ ap (λ (m : ℕ). starts_from (n + slot_count x) front ++ m ∷ []) k)

-- what decode_first says of what is spelled
abbrev pub Only : List ℕ → Insn → List ℕ → Type 0
Only rest i after = (j : Insn) → (r : List ℕ) → FitsInsn j → rest ≡ spelling j ++ r → (i ≡ j) × (after ≡ r)

continues : (is front back : List Insn) (i : Insn) (rest after : List ℕ) → is ≡ front ++ back → rest ≡ text back →
    AllByRecursion FitsInsn back → 0 < length rest → Only rest i after → Continues is (front ++ i ∷ []) after
continues is front [] i rest after whole r fits long only = absurd (omega (arith, ap (λ (x : List ℕ). length x) r))
continues is front (j ∷ back) i rest after whole r fits long only =
    let e = only j (text back) fits.0 r in
    record { back = back; whole = whole ∙ rw e.0 (sym (append_assoc front (j ∷ []) back)); rest_is = e.1; fits = fits.1 }

pub goes_on : (bytes : List ℕ) (front : List Insn) (starts : List ℕ) (slot : ℕ) (rest after : List ℕ) (i : Insn) →
    ReadSoFar bytes front starts slot rest → 0 < length rest → FitsInsn i → rest ≡ spelling i ++ after →
    Only rest i after → ReadSoFar bytes (front ++ i ∷ []) (starts ++ slot ∷ []) (slot + slot_count i) after
goes_on bytes front starts slot rest after i so_far long fits parts only =
    let l : length rest ≡ 8 * slot_count i + length after = ap (λ (x : List ℕ). length x) parts ∙
    length-append (spelling i) after ∙ ap (λ (k : ℕ). k + length after) (length_spelling i) in
    record {
      parts = so_far.parts ∙ ap (λ (r : List ℕ). text front ++ r) parts ∙
          sym (append_assoc (text front) (spelling i) after) ∙
          ap (λ (t : List ℕ). t ++ after) (sym (text_push front i));
      fits = All-push FitsInsn front i so_far.fits fits;
      slot_is = total_push front i ∙ ap (λ (k : ℕ). k + slot_count i) so_far.slot_is;
      starts_are = rw (so_far.starts_are, starts_push 0 front i, ← so_far.slot_is)
          (ap (λ (k : ℕ). starts_from 0 front ++ k ∷ [])
          (let z : slot_total front ≡ 0 + slot_total front = omega arith in z));
      left = omega (arith, so_far.left);
      bound = omega (arith, so_far.bound);
      only = λ is f e. let k = so_far.only is f e in continues is front k.back i rest after k.whole k.rest_is k.fits long only;
    }

abbrev pub NotSpelled : List ℕ → Type 0
NotSpelled rest = (j : Insn) → (r : List ℕ) → FitsInsn j → rest ≡ spelling j ++ r → ⊥

pub stops : (is front : List Insn) (rest : List ℕ) → 0 < length rest → NotSpelled rest → Continues is front rest → ⊥
stops is front rest long never k = stops_at k.back k.rest_is k.fits
  where
    stops_at : (back : List Insn) → rest ≡ text back → AllByRecursion FitsInsn back → ⊥
    stops_at [] e f = absurd (omega (arith, ap (λ (x : List ℕ). length x) e))
    stops_at (j ∷ back) e f = never j (text back) f.0 e

pub ends : (is front : List Insn) (rest : List ℕ) → length rest ≡ 0 → Continues is front rest → front ≡ is
ends is front rest none k = ends_at k.back k.whole k.rest_is
  where
    ends_at : (back : List Insn) → is ≡ front ++ back → rest ≡ text back → front ≡ is
    ends_at [] e f = sym (e ∙ append-nil front)
    ends_at (j ∷ back) e f = absurd (omega (arith, slot_count_some j, total_cons j back, length_text (j ∷ back), ap (λ (x : List ℕ). length x) f))
