-- What is wrong with the lines of a listing.
use Rattle.bpf_model.proofs.Prelude.{◌≡◌, ℕ, zero, suc, ◌+◌, ◌<◌, ◌≤◌, List, [], ◌∷◌, ◌++◌, length, refl, sym, ap, ◌∙◌, subst, arith, inr, map, take, All}
use Rattle.bpf_model.proofs.Prelude.{Some, None, IfErr, Result, Ok, Err, All-nil, All-cons, append_cancel_left, append-nil, length-append, heads, tails}
use Rattle.classic_program.proofs.Prelude.{filter_in, parts_at}
use Rattle.classic_program.specs.declared.sock_filter.SockFilter.{SockFilter}
use Rattle.classic_program.specs.declared.fault.ReadFault.{ReadFault}
use Rattle.classic_program.specs.ReadFaults.{HasFilter, IsFirstWrong, IsMiscounted, IsLinesFault, IsListingFault}
use Rattle.script_lines.specs.Words.{number_in}
use Rattle.classic_program.proofs.Lines.{IsReadingLines, length-map}
use Rattle.classic_program.proofs.Splits.{first-part, no-bytes}

-- lines that were read
are-right : (lines : List (List ℕ)) (filters : List SockFilter) → map filter_in lines ≡ map Some filters → All HasFilter lines
are-right [] filters e = All-nil HasFilter
are-right (line ∷ lines) [] e = absurd (cc)
are-right (line ∷ lines) (f ∷ filters) e =
    All-cons HasFilter line lines (f, heads (filter_in line) (Some f) (map filter_in lines) (map Some filters) e)
    (are-right lines filters (tails (filter_in line) (Some f) (map filter_in lines) (map Some filters) e))

take-front : (front left : List (List ℕ)) (n : ℕ) → n ≡ length front → take n (front ++ left) ≡ front
take-front [] left n e = rw e
take-front (x ∷ front) left zero e = absurd (omega arith)
take-front (x ∷ front) left (suc n) e = ap (λ (xs : List (List ℕ)). x ∷ xs) (take-front front left n (omega arith))

take-past : (front : List (List ℕ)) (n : ℕ) → length front ≤ n → take n front ≡ front
take-past [] zero e = refl
take-past [] (suc n) e = refl
take-past (x ∷ front) zero e = absurd (omega arith)
take-past (x ∷ front) (suc n) e = ap (λ (xs : List (List ℕ)). x ∷ xs) (take-past front n (omega arith))

-- the first lines reach beyond those that were read
take-beyond : (front : List (List ℕ)) (line : List ℕ) (more : List (List ℕ)) (n : ℕ) → length front < n →
    (rest : List (List ℕ)) × (take n (front ++ line ∷ more) ≡ front ++ line ∷ rest)
take-beyond front line more zero l = absurd (omega arith)
take-beyond [] line more (suc n) l = (take n more, refl)
take-beyond (x ∷ front) line more (suc n) l =
    let rest = take-beyond front line more n (omega arith) in
    (rest.0, ap (λ (xs : List (List ℕ)). x ∷ xs) rest.1)

front-size : (all left : List (List ℕ)) (items : List SockFilter) (index : ℕ) (h : IsReadingLines all left items index) → length h.front ≡ index
front-size all left items index h =
    sym (length-map filter_in h.front) ∙ ap length h.each ∙ length-map Some items ∙ h.size

-- a line is missing
pub too-few : (count index : ℕ) (all left : List (List ℕ)) (items : List SockFilter) → IsReadingLines all left items index → left ≡ []
    → index < count → IsMiscounted count all
too-few count index all left items h e l =
    let size = front-size all left items index h in
    let all-is : all ≡ h.front = h.parts ∙ ap (λ (ps : List (List ℕ)). h.front ++ ps) e ∙ append-nil h.front in
    let n = ap length all-is in
    let taken : take count all ≡ h.front = ap (take count) all-is ∙ take-past h.front count (omega arith) in
    record {
      right = subst (All HasFilter) (sym taken) (are-right h.front items h.each);
      count_is_not = λ same. omega arith;
      none_behind = λ same.
          let m = ap length same ∙ length-append (take count all) ([] ∷ []) in
          let k = ap length taken in
          omega arith;
    }

-- more lines than there should be
pub too-many : (count : ℕ) (all left : List (List ℕ)) (bytes : List ℕ) (items : List SockFilter) → IsReadingLines all left items count
    → left ≡ parts_at 10 bytes → 0 < length bytes → IsMiscounted count all
too-many count all left bytes items h e some =
    let size = front-size all left items count h in
    let taken : take count all ≡ h.front = ap (take count) h.parts ∙ take-front h.front left count (sym size) in
    let first = first-part 10 bytes in
    let left-is = e ∙ first.2 in
    let left-size = ap length left-is in
    let total = ap length h.parts ∙ length-append h.front left in
    record {
      right = subst (All HasFilter) (sym taken) (are-right h.front items h.each);
      count_is_not = λ same. omega arith;
      none_behind = λ same.
          let one : left ≡ [] ∷ [] =
          append_cancel_left h.front left ([] ∷ []) (sym h.parts ∙ same ∙ ap (λ (xs : List (List ℕ)). xs ++ [] ∷ []) taken) in
          let zero-length = ap length (no-bytes 10 bytes (sym e ∙ one)) in
          omega arith;
    }

-- a line is no instruction
pub first-wrong : (count index : ℕ) (all left more : List (List ℕ)) (line : List ℕ) (items : List SockFilter) (number : ℕ)
    → IsReadingLines all left items index → left ≡ line ∷ more → None ≡ filter_in line → index < count → number ≡ length items + 2
    → IsFirstWrong (take count all) number
first-wrong count index all left more line items number h e none l n =
    let size = front-size all left items index h in
    let item-count = h.size in
    let beyond = take-beyond h.front line more count (omega arith) in
    record {
      front = h.front;
      wrong = line;
      behind = beyond.0;
      parts = ap (take count) (h.parts ∙ ap (λ (ps : List (List ℕ)). h.front ++ ps) e) ∙ beyond.1;
      right = are-right h.front items h.each;
      none = sym none;
      number_is = omega arith;
    }

-- a fault of the lines behind a count
pub in-lines : {A : Type 0} (text head : List ℕ) (behind : List (List ℕ)) (count : ℕ) (r : Result A ReadFault) → parts_at 10 text ≡ head ∷ behind
    → number_in head ≡ Some count → IfErr r (IsLinesFault count behind) → IfErr r (IsListingFault text)
in-lines text head behind count (Ok v) p n h = tt
in-lines text head behind count (Err e) p n h = record { head = head; behind = behind; parts = p; why = inr (count, n, h) }
