-- The marks of the instructions that paths lead to.
use Rattle.bpf_model.proofs.Prelude.{◌≡◌, ℕ, ◌+◌, ◌<◌, ◌≤◌, List, length, Some, Bool, true, false, get_or, refl, sym, ap, ◌∙◌, subst, arith, inl, inr}
use Rattle.bpf_model.proofs.Prelude.{slice_get, slice_set, replicate, ◌⊎◌, cases_eq, cases_lt, length-set, length-replicate, slice_get_within}
use Rattle.bpf_model.proofs.Prelude.{slice_get-get_or, get-set_same, get-set_other, get-set_cases, get-replicate}
use Rattle.classic_program.proofs.Prelude.{IsSkip, Marks, AreMarks, skips_of, MaySkip, Reaches, reaches_first, reaches_next}
use Rattle.classic_program.specs.declared.insn.ClassicInsn.{ClassicInsn}
use Rattle.classic_program.specs.declared.insn.ClassicInsn.TheVariants as classic
use Rattle.classic_program.specs.declared.paths.Skips.TheVariants.{One, Two}

pub to-skip : (i : ClassicInsn) (s : ℕ) → MaySkip i s → IsSkip (skips_of i) s
to-skip (classic.Load into datum) s h = h
to-skip (classic.Store word from) s h = h
to-skip (classic.Alu op operand) s h = h
to-skip classic.Negate s h = h
to-skip (classic.Jump skip) s h = h
to-skip (classic.JumpIf test operand if_true if_false) s h = h
to-skip (classic.ReturnNumber value) s h = h
to-skip classic.ReturnA s h = h
to-skip classic.CopyToX s h = h
to-skip classic.CopyToA s h = h

pub from-skip : (i : ClassicInsn) (s : ℕ) → IsSkip (skips_of i) s → MaySkip i s
from-skip (classic.Load into datum) s h = h
from-skip (classic.Store word from) s h = h
from-skip (classic.Alu op operand) s h = h
from-skip classic.Negate s h = h
from-skip (classic.Jump skip) s h = h
from-skip (classic.JumpIf test operand if_true if_false) s h = h
from-skip (classic.ReturnNumber value) s h = h
from-skip classic.ReturnA s h = h
from-skip classic.CopyToX s h = h
from-skip classic.CopyToA s h = h

-- a mark that is set, and those that were
set-kept : (old : List Bool) (at k : ℕ) → at < length old → slice_get old k ≡ Some true → slice_get (slice_set old at true) k ≡ Some true
set-kept old at k l e = elim (cases_eq k at) [
  | inl same ↦ ap (slice_get (slice_set old at true)) same ∙ get-set_same old at true l
  | inr other ↦ get-set_other old at k true other ∙ e
]

set-only : (old : List Bool) (at k : ℕ) → slice_get (slice_set old at true) k ≡ Some true → (slice_get old k ≡ Some true) ⊎ (k ≡ at)
set-only old at k e = elim (get-set_cases old at k true true e) [ inl h ↦ inr h.0 | inr h ↦ inl h.1 ]

pub marks-one : (behind skip : ℕ) (old : List Bool) → behind + skip < length old → Marks (One skip) behind old (slice_set old (behind + skip) true)
marks-one behind skip old l = record {
  size = length-set old (behind + skip) true;
  kept = λ k e. set-kept old (behind + skip) k l e;
  marked = λ s h. ap (λ (s : ℕ). slice_get (slice_set old (behind + skip) true) (behind + s)) h ∙ get-set_same old (behind + skip) true l;
  only = λ k e. elim (set-only old (behind + skip) k e) [ inl h ↦ inl h | inr h ↦ inr (skip, refl, h) ];
}

pub marks-two : (behind t f : ℕ) (old : List Bool) → behind + t < length old → behind + f < length old
    → Marks (Two t f) behind old (slice_set (slice_set old (behind + t) true) (behind + f) true)
marks-two behind t f old l m =
    let mid = slice_set old (behind + t) true in
    let size = length-set old (behind + t) true in
    let m2 : behind + f < length mid = omega arith in
    record {
      size = length-set mid (behind + f) true ∙ size;
      kept = λ k e. set-kept mid (behind + f) k m2 (set-kept old (behind + t) k l e);
      marked = λ s h. elim h [
        | inl e ↦ set-kept mid (behind + f) (behind + s) m2 (ap (λ (s : ℕ). slice_get mid (behind + s)) e ∙ get-set_same old (behind + t) true l)
        | inr e ↦ ap (λ (s : ℕ). slice_get (slice_set mid (behind + f) true) (behind + s)) e ∙ get-set_same mid (behind + f) true m2
      ];
      only = λ k e. elim (set-only mid (behind + f) k e) [
        | inl h ↦ elim (set-only old (behind + t) k h) [ inl g ↦ inl g | inr g ↦ inr (t, inl refl, g) ]
        | inr h ↦ inr (f, inr refl, h)
      ];
    }

-- what an index finds
pub get-at : {A : Type 0} (xs : List A) (i : ℕ) (x : A) → i < length xs → x ≡ get_or xs i x → slice_get xs i ≡ Some x
get-at xs i x l e = slice_get-get_or xs i x l ∙ ap Some (sym e)

-- the marks when so many instructions were gone through
pub record IsMarking (program : List ClassicInsn) (stops : ClassicInsn → Bool) (marks : List Bool) (index : ℕ) : Type 0 where
  pub size : length marks ≡ length program
  pub first : slice_get marks 0 ≡ Some true
  pub sound : (k : ℕ) → slice_get marks k ≡ Some true → Reaches program stops k
  pub closed : (k s : ℕ) (i : ClassicInsn) → k < index → slice_get marks k ≡ Some true → slice_get program k ≡ Some i → stops i ≡ false → MaySkip i s
      → slice_get marks (k + 1 + s) ≡ Some true

pub marking-start : (program : List ClassicInsn) (stops : ClassicInsn → Bool) (marks : List Bool) → 0 < length program → marks ≡ replicate
    (length program) false
    → IsMarking program stops (slice_set marks 0 true) 0
marking-start program stops marks l e =
    let size : length marks ≡ length program = ap length e ∙ length-replicate (length program) false in
    record {
      size = length-set marks 0 true ∙ size;
      first = get-set_same marks 0 true (omega arith);
      sound = λ k h. elim (get-set_cases marks 0 k true true h) [
        | inl g ↦ subst (λ (k : ℕ). Reaches program stops k) (sym g.0) reaches_first
        | inr g ↦ let wrong = get-replicate (length program) k false true (ap (λ (x : List Bool). slice_get x k) (sym e) ∙ g.1) in absurd (cc)
      ];
      closed = λ k s i l m here st may. absurd (omega arith);
    }

pub marking-goes : (program : List ClassicInsn) (stops : ClassicInsn → Bool) (marks new : List Bool) (index : ℕ) (i : ClassicInsn)
    → IsMarking program stops marks index
    → slice_get program index ≡ Some i → slice_get marks index ≡ Some true → stops i ≡ false → Marks (skips_of i) (index + 1) marks new
    → IsMarking program stops new (index + 1)
marking-goes program stops marks new index i h here marked st m = record {
  size = m.size ∙ h.size;
  first = m.kept 0 h.first;
  sound = λ k e. elim (m.only k e) [
    | inl g ↦ h.sound k g
    | inr g ↦ subst (λ (k : ℕ). Reaches program stops k) (sym g.2) (reaches_next index g.0 i (h.sound index marked) here st (from-skip i g.0 g.1))
  ];
  closed = λ k s j l e there st2 may. elim (cases_lt k index) [
    | inl b ↦ elim (m.only k e) [
      | inl g ↦ m.kept (k + 1 + s) (h.closed k s j b g there st2 may)
      | inr g ↦ let apart = g.2 in absurd (omega arith)
    ]
    | inr b ↦
        let same : k ≡ index = omega arith in
        let both : i ≡ j = let there2 = ap (slice_get program) (sym same) ∙ there in cc in
        let place : index + 1 + s ≡ k + 1 + s = omega arith in
        sym (ap (slice_get new) place) ∙ m.marked s (to-skip i s (subst (λ (i : ClassicInsn). MaySkip i s) (sym both) may))
  ];
}

pub marking-stays : (program : List ClassicInsn) (stops : ClassicInsn → Bool) (marks : List Bool) (index : ℕ) (i : ClassicInsn)
    → IsMarking program stops marks index
    → slice_get program index ≡ Some i → (slice_get marks index ≡ Some true → stops i ≡ true) → IsMarking program stops marks (index + 1)
marking-stays program stops marks index i h here none = record {
  size = h.size;
  first = h.first;
  sound = h.sound;
  closed = λ k s j l e there st may. elim (cases_lt k index) [
    | inl b ↦ h.closed k s j b e there st may
    | inr b ↦
        let same : k ≡ index = omega arith in
        let both : i ≡ j = let there2 = ap (slice_get program) (sym same) ∙ there in cc in
        let stopped = none (ap (slice_get marks) (sym same) ∙ e) in
        let going = ap stops both ∙ st in
        absurd (cc)
  ];
}

complete : (program : List ClassicInsn) (stops : ClassicInsn → Bool) (marks : List Bool) (index : ℕ) → IsMarking program stops marks index
    → length program ≤ index
    → (k : ℕ) → Reaches program stops k → slice_get marks k ≡ Some true
complete program stops marks index h l _ reaches_first = h.first
complete program stops marks index h l _ (reaches_next k s i r here st may) =
    let within = slice_get_within program k i here in
    h.closed k s i (omega arith) (complete program stops marks index h l k r) here st may

pub marking-all : (program : List ClassicInsn) (stops : ClassicInsn → Bool) (marks : List Bool) (index : ℕ) → IsMarking program stops marks index
    → length program ≤ index → AreMarks program stops marks
marking-all program stops marks index h l = record { size = h.size; exact = λ k. (h.sound k, complete program stops marks index h l k) }
