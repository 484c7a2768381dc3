-- Bytes that are cut at the first of one byte.
use Rattle.bpf_model.proofs.Prelude.{◌≡◌, ◌≢◌, ℕ, zero, suc, ◌+◌, ◌-◌, ◌<◌, ◌==◌, Bool, true, false, List, [], ◌∷◌, ◌++◌, length, get_or, take, drop, refl}
use Rattle.bpf_model.proofs.Prelude.{sym, ap, subst, ◌∙◌, arith, inl, inr, ne_eqb, eq-eqb, take_more, All-nil, All-cons, All-append, slice_split_none}
use Rattle.bpf_model.proofs.Prelude.{slice_split_at, slice_split-cons_yes, slice_split-cons_no, onto_first, Option, Some, None, is_some, ◌⊎◌}
use Rattle.classic_program.proofs.Prelude.{Lacks, parts_at, parts_left, filter_in}
use Rattle.std.proofs.Common.{length-drop}
use Rattle.std.specs.Borrow.{Bor}
use Rattle.classic_program.specs.Reading.{filter_of_words}
use Rattle.classic_program.proofs.Records.{take-whole}

-- one byte more that is another
pub lacks-more : (at : ℕ) (bytes : List ℕ) (i : ℕ) → i < length bytes → Lacks at (take i bytes) → get_or bytes i 0 ≢ at → Lacks at (take (i + 1) bytes)
lacks-more at bytes i inside h other =
    subst (Lacks at) (sym (take_more bytes i 0 inside))
    (All-append (λ b. (b == at) ≡ false) (take i bytes) (get_or bytes i 0 ∷ []) h
    (All-cons (λ b. (b == at) ≡ false) (get_or bytes i 0) [] (ne_eqb (get_or bytes i 0) at other)
    (All-nil (λ b. (b == at) ≡ false))))

pub cut-none : (at : ℕ) (bytes : List ℕ) → Lacks at bytes → parts_at at bytes ≡ bytes ∷ []
cut-none at bytes h = slice_split_none (λ b. b == at) bytes h

joined : (bytes : List ℕ) (i : ℕ) → i < length bytes → bytes ≡ take i bytes ++ get_or bytes i 0 ∷ drop (i + 1) bytes
joined [] i l = absurd (omega arith)
joined (x ∷ xs) zero l = refl
joined (x ∷ xs) (suc i) l =
    let e : suc (i + 1) ≡ suc i + 1 = omega arith in
    ap (λ (ys : List ℕ). x ∷ ys) (joined xs i (omega arith)) ∙ ap (λ (n : ℕ). x ∷ (take i xs ++ get_or xs i 0 ∷ drop n (x ∷ xs))) e

pub cut-some : (at : ℕ) (bytes rest : List ℕ) (i b : ℕ) → i < length bytes → Lacks at (take i bytes) → b ≡ get_or bytes i 0 → b ≡ at → rest ≡ take
    (length bytes - (i + 1)) (drop (i + 1) bytes)
    → parts_at at bytes ≡ take i bytes ∷ parts_at at rest
cut-some at bytes rest i b l h e f g =
    let same : get_or bytes i 0 ≡ at = sym e ∙ f in
    let behind : rest ≡ drop (i + 1) bytes = g ∙ take-whole (length bytes - (i + 1)) (drop (i + 1) bytes) (omega (arith, length-drop (i + 1) bytes)) in
    ap (parts_at at) (joined bytes i l) ∙ slice_split_at (λ b. b == at) (take i bytes) (get_or bytes i 0) (drop (i + 1) bytes) h
    (eq-eqb (get_or bytes i 0) at same)
    ∙ ap (λ (r : List ℕ). take i bytes ∷ parts_at at r) (sym behind)

cases_bool : (b : Bool) → (b ≡ true) ⊎ (b ≡ false)
cases_bool true = inl refl
cases_bool false = inr refl

-- there is a first part
pub first-part : (at : ℕ) (bytes : List ℕ) → (x : List ℕ) × (xs : List (List ℕ)) × (parts_at at bytes ≡ x ∷ xs)
first-part at [] = ([], [], refl)
first-part at (b ∷ bytes) =
    let r = first-part at bytes in
    elim (cases_bool (b == at)) [
      | inl e ↦ ([], parts_at at bytes, slice_split-cons_yes (λ b. b == at) b bytes e)
      | inr e ↦ (b ∷ r.0, r.1, slice_split-cons_no (λ b. b == at) b bytes e ∙ ap (onto_first b) r.2)
    ]

-- one part of no bytes: there are no bytes
pub no-bytes : (at : ℕ) (bytes : List ℕ) → parts_at at bytes ≡ [] ∷ [] → bytes ≡ []
no-bytes at [] h = refl
no-bytes at (b ∷ bytes) h =
    let r = first-part at bytes in
    elim (cases_bool (b == at)) [
      | inl e ↦ let two = sym (slice_split-cons_yes (λ b. b == at) b bytes e ∙ ap (λ (ps : List (List ℕ)). [] ∷ ps) r.2) ∙ h in absurd (cc)
      | inr e ↦ let other = sym (slice_split-cons_no (λ b. b == at) b bytes e ∙ ap (onto_first b) r.2) ∙ h in absurd (cc)
    ]

-- five words are no instruction
pub five-words : (line a b c d : List ℕ) (r0 r1 r2 r3 : Option (Bor (List ℕ))) (f1 f2 f3 : Bor (List ℕ)) → parts_at 32 line ≡ a ∷ parts_left 32 r0
    → r0 ≡ Some f1
    → parts_at 32 f1.now ≡ b ∷ parts_left 32 r1 → r1 ≡ Some f2 → parts_at 32 f2.now ≡ c ∷ parts_left 32 r2 → r2 ≡ Some f3
    → parts_at 32 f3.now ≡ d ∷ parts_left 32 r3
    → is_some r3 ≡ true → filter_in line ≡ None
five-words line a b c d r0 r1 r2 None f1 f2 f3 p0 e1 p1 e2 p2 e3 p3 h = absurd (cc)
five-words line a b c d r0 r1 r2 (Some r) f1 f2 f3 p0 e1 p1 e2 p2 e3 p3 h =
    let more = first-part 32 r.now in
    let w3 = p3 ∙ ap (λ (ps : List (List ℕ)). d ∷ ps) more.2 in
    let w2 = p2 ∙ ap (λ (r : Option (Bor (List ℕ))). c ∷ parts_left 32 r) e3 ∙ ap (λ (ps : List (List ℕ)). c ∷ ps) w3 in
    let w1 = p1 ∙ ap (λ (r : Option (Bor (List ℕ))). b ∷ parts_left 32 r) e2 ∙ ap (λ (ps : List (List ℕ)). b ∷ ps) w2 in
    let w0 = p0 ∙ ap (λ (r : Option (Bor (List ℕ))). a ∷ parts_left 32 r) e1 ∙ ap (λ (ps : List (List ℕ)). a ∷ ps) w1 in
    ap filter_of_words w0
