-- The lines above one, and the slots that their instructions take.
use Rattle.bpf_model.proofs.Prelude.{ℕ, zero, suc, ◌≡◌, ◌+◌, ◌<◌, inl, inr, true, List, [], ◌∷◌, ap, sym, subst, ◌∙◌, arith, Some, slice_get, take, drop}
use Rattle.bpf_model.proofs.Prelude.{sum_by-cons, sum_by-append, cases_lt, none-some, same_Some, cons-nil, heads, tails, take-next}
use Rattle.std.specs.Prelude.{sum_by}
use Rattle.asm_source.specs.Tokens.{lines_of, tokens_of}
use Rattle.asm_source.specs.Names.{instruction_in, slots_of}
use Rattle.asm_source.specs.Labels.{BeginsAt, has_instruction, slots_above}

abbrev pub line_slots : List ℕ → ℕ
line_slots line = slots_of (instruction_in (tokens_of line))

pub line_here : (lines rest : List (List ℕ)) (n : ℕ) (line : List ℕ) → drop n lines ≡ line ∷ rest → slice_get lines n ≡ Some line
line_here [] rest zero line e = cc e
line_here [] rest (suc n) line e = cc e
line_here (x ∷ lines) rest zero line e = ap Some (heads x line lines rest e)
line_here (x ∷ lines) rest (suc n) line e = line_here lines rest n line e

pub lines_behind : (lines rest : List (List ℕ)) (n : ℕ) (line : List ℕ) → drop n lines ≡ line ∷ rest → drop (suc n) lines ≡ rest
lines_behind [] rest zero line e = cc e
lines_behind [] rest (suc n) line e = cc e
lines_behind (x ∷ lines) rest zero line e = tails x line lines rest e
lines_behind (x ∷ lines) rest (suc n) line e = lines_behind lines rest n line e

-- the slots above the line behind line n
pub slots_more : (source line : List ℕ) (n : ℕ) → slice_get (lines_of source) n ≡ Some line →
    slots_above source (suc n) ≡ slots_above source n + line_slots line
slots_more source line n h =
    let parts = ap (sum_by line_slots) (take-next (lines_of source) n line h) in
    let sums = sum_by-append line_slots (take n (lines_of source)) (line ∷ []) in
    let one : sum_by line_slots (line ∷ []) ≡ line_slots line + 0 = sum_by-cons line_slots line [] in
    omega (arith, parts, sums, one)

-- line n has no instruction, or other slots above it
pub begins_not : (source line : List ℕ) (n slot : ℕ) → slice_get (lines_of source) n ≡ Some line →
    (slots_above source n ≡ slot → has_instruction line ≡ true → ⊥) → BeginsAt source n slot → ⊥
begins_not source line n slot h not b =
    let same = same_Some b.line line (sym b.line_is ∙ h) in
    not b.slot_is (sym (ap has_instruction same) ∙ b.instruction)

-- no line above the next one either
pub none_more : (source line : List ℕ) (number slot : ℕ) → slice_get (lines_of source) number ≡ Some line →
    ((n : ℕ) → n < number → BeginsAt source n slot → ⊥) →
    (slots_above source number ≡ slot → has_instruction line ≡ true → ⊥) →
    (n : ℕ) → n < number + 1 → BeginsAt source n slot → ⊥
none_more source line number slot h none not n l b = elim (cases_lt n number) [
  | inl less ↦ none n less b
  | inr more ↦
      let same : n ≡ number = omega (arith, l, more) in
      begins_not source line number slot h not (subst (λ k. BeginsAt source k slot) same b)
]

-- there is no line past the last one
past_end : (lines : List (List ℕ)) (number n : ℕ) (line : List ℕ) → drop number lines ≡ [] → slice_get lines n ≡ Some line → n < number
past_end [] number n line e h = absurd (none-some line h)
past_end (x ∷ lines) zero n line e h = absurd (cons-nil x lines e)
past_end (x ∷ lines) (suc number) zero line e h = omega arith
past_end (x ∷ lines) (suc number) (suc n) line e h = let l = past_end lines number n line e h in omega arith

pub none_past : (source : List ℕ) (number slot : ℕ) → drop number (lines_of source) ≡ [] →
    ((n : ℕ) → n < number → BeginsAt source n slot → ⊥) → (n : ℕ) → BeginsAt source n slot → ⊥
none_past source number slot e none n b = none n (past_end (lines_of source) number n b.line e b.line_is) b
