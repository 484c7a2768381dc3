-- The lines of a listing that are read so far.
use Rattle.bpf_model.proofs.Prelude.{◌≡◌, ℕ, suc, ◌+◌, ◌<◌, List, [], ◌∷◌, ◌++◌, length, refl, sym, ap, ◌∙◌, subst, arith, inl, inr, map, slice_get}
use Rattle.bpf_model.proofs.Prelude.{Option, Some, None, length-append, map-append, same_Some, get-below, get-map, get-append, heads, tails}
use Rattle.classic_program.proofs.Prelude.{filter_in, parts_at, IsListing}
use Rattle.std.proofs.lemmas.List.{append_assoc}
use Rattle.script_lines.specs.Words.{number_in}
use Rattle.classic_program.specs.declared.sock_filter.SockFilter.{SockFilter}
use Rattle.classic_program.specs.Reading.{HasLines}
use Rattle.classic_program.proofs.Splits.{first-part, no-bytes}

pub record IsReadingLines (all left : List (List ℕ)) (filters : List SockFilter) (index : ℕ) : Type 0 where
  pub front : List (List ℕ)
  pub parts : all ≡ front ++ left
  pub each : map filter_in front ≡ map Some filters
  pub size : length filters ≡ index

pub length-map : {A B : Type 0} (f : A → B) (xs : List A) → length (map f xs) ≡ length xs
length-map f [] = refl
length-map f (x ∷ xs) = ap suc (length-map f xs)

same-size : (lines : List (List ℕ)) (filters : List SockFilter) → map filter_in lines ≡ map Some filters → length lines ≡ length filters
same-size lines filters e = sym (length-map filter_in lines) ∙ ap length e ∙ length-map Some filters

pub lines-next : (all left more : List (List ℕ)) (line : List ℕ) (filters new : List SockFilter) (f : SockFilter) (index : ℕ)
    → IsReadingLines all left filters index → left ≡ line ∷ more
    → Some f ≡ filter_in line → new ≡ filters ++ f ∷ [] → IsReadingLines all more new (index + 1)
lines-next all left more line filters new f index h e g n = record {
  front = h.front ++ line ∷ [];
  parts = h.parts ∙ ap (λ (ps : List (List ℕ)). h.front ++ ps) e ∙ sym (append_assoc h.front (line ∷ []) more);
  each =
      map-append filter_in h.front (line ∷ []) ∙ ap (λ (x : List (Option SockFilter)). x ++ filter_in line ∷ []) h.each ∙ ap
      (λ (o : Option SockFilter). map Some filters ++ o ∷ []) (sym g)
      ∙ sym (map-append Some filters (f ∷ [])) ∙ ap (map Some) (sym n);
  size = let m = length-append filters (f ∷ []) in let k = ap length n in let s = h.size in omega arith;
}

get-behind : (front : List (List ℕ)) (line : List ℕ) (more : List (List ℕ)) → slice_get (front ++ line ∷ more) (length front) ≡ Some line
get-behind [] line more = refl
get-behind (x ∷ front) line more = get-behind front line more

there : (count k : ℕ) (all : List (List ℕ)) (line : List ℕ) (filters : List SockFilter) (has : HasLines count all filters) → k < count
    → slice_get all k ≡ Some line → slice_get has.lines k ≡ Some line
there count k all line filters has l e =
    let s = same-size has.lines filters has.each in
    let c = has.count_is in
    let x = get-below has.lines k (omega arith) in
    elim has.parts [
      | inl p ↦ sym (ap (λ (ps : List (List ℕ)). slice_get ps k) p) ∙ e
      | inr p ↦
          let y = get-append has.lines ([] ∷ []) k x.0 x.1 in
          let z = ap (λ (ps : List (List ℕ)). slice_get ps k) p in
          let same : x.0 ≡ line = cc in
          x.1 ∙ ap Some same
    ]

-- a line that is no instruction
pub none-wrong : (count index : ℕ) (all left more : List (List ℕ)) (line : List ℕ) (items filters : List SockFilter) → IsReadingLines all left items index
    → left ≡ line ∷ more → None ≡ filter_in line
    → index < count → HasLines count all filters → ⊥
none-wrong count index all left more line items filters h e none l has =
    let s = same-size h.front items h.each in
    let at : length h.front ≡ index = s ∙ h.size in
    let here : slice_get all index ≡ Some line =
    ap (λ (ps : List (List ℕ)). slice_get ps index) (h.parts ∙ ap (λ (ps : List (List ℕ)). h.front ++ ps) e) ∙ sym
    (ap (slice_get (h.front ++ line ∷ more)) at) ∙ get-behind h.front line more in
    let in-lines = there count index all line filters has l here in
    let is = get-map filter_in has.lines index line in-lines in
    let size = same-size has.lines filters has.each in
    let c = has.count_is in
    let f = get-below filters index (omega arith) in
    let some = get-map Some filters index f.0 f.1 in
    let same = ap (λ (x : List (Option SockFilter)). slice_get x index) has.each in
    absurd (cc)

empty : (xs : List (List ℕ)) → length xs ≡ 0 → xs ≡ []
empty [] e = refl
empty (x ∷ xs) e = absurd (omega arith)

-- more lines than there should be
pub none-more : (count : ℕ) (all left : List (List ℕ)) (bytes : List ℕ) (items filters : List SockFilter) → IsReadingLines all left items count
    → left ≡ parts_at 10 bytes → 0 < length bytes
    → HasLines count all filters → ⊥
none-more count all left bytes items filters h e some has =
    let s = same-size h.front items h.each in
    let size = h.size in
    let own = same-size has.lines filters has.each in
    let c = has.count_is in
    let first = first-part 10 bytes in
    let left-is = e ∙ first.2 in
    let total = ap length h.parts ∙ length-append h.front left in
    let left-size = ap length left-is in
    elim has.parts [
      | inl p ↦ let n = ap length p in absurd (omega arith)
      | inr p ↦
          let n = ap length p ∙ length-append has.lines ([] ∷ []) in
          let one : length first.1 ≡ 0 = omega arith in
          let last = get-behind h.front first.0 first.1 in
          let here = ap (λ (ps : List (List ℕ)). slice_get ps (length h.front)) (h.parts ∙ ap (λ (ps : List (List ℕ)). h.front ++ ps) left-is) ∙ last in
          let ends = get-behind has.lines [] [] in
          let at : length has.lines ≡ length h.front = omega arith in
          let there = ap (λ (ps : List (List ℕ)). slice_get ps (length h.front)) p ∙ sym (ap (slice_get (has.lines ++ [] ∷ [])) at) ∙ ends in
          let none : first.0 ≡ [] = cc in
          let rest : first.1 ≡ [] = empty first.1 one in
          let empty-bytes = no-bytes 10 bytes (first.2 ∙ ap (λ (x : List ℕ). x ∷ first.1) none ∙ ap (λ (xs : List (List ℕ)). [] ∷ xs) rest) in
          let zero-length = ap length empty-bytes in
          absurd (omega arith)
    ]

-- a listing's lines are those behind its first
pub listing-lines : (text bytes head : List ℕ) (left : List (List ℕ)) (count : ℕ) (filters : List SockFilter) → bytes ≡ text → parts_at 10 bytes ≡ head ∷ left
    → Some count ≡ number_in head
    → IsListing text filters → HasLines count left filters
listing-lines text bytes head left count filters e p n h =
    let both = sym p ∙ ap (parts_at 10) e ∙ h.parts in
    let same-head : head ≡ h.head = heads head h.head left h.behind both in
    let same-left : h.behind ≡ left = sym (tails head h.head left h.behind both) in
    let same-count : h.count ≡ count = same_Some h.count count (sym (n ∙ ap number_in same-head ∙ h.count_is)) in
    subst (λ (n : ℕ). HasLines n left filters) same-count (subst (λ (ps : List (List ℕ)). HasLines h.count ps filters) same-left h.lines)
