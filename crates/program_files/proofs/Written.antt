-- The lines of a program's slots say its bytes.
use Rattle.bpf_model.proofs.Prelude.{◌≡◌, ℕ, suc, ◌/◌, ◌%◌, ◌<◌, ◌==◌, false, List, [], ◌∷◌, ◌++◌, slice_index, refl, sym, ap, ap₂, ◌∙◌, arith, append_assoc}
use Rattle.bpf_model.proofs.Prelude.{Some, None, option_append, AllByRecursion, result_ok, ne_eqb, flat_map-append, All-nil, All-cons, none-some, slot_bytes}
use Rattle.bpf_model.proofs.Prelude.{slots_of, spelling, text, IsProgram}
use Rattle.model_laws.proofs.Prelude.{Insn, Slot}
use Rattle.std.proofs.Common.{flat_map}
use Rattle.hex.specs.Hex.{IsBytes, encode_with, encode_lower, lower_digits, hex_digit_value}
use Rattle.hex.proofs.HexLemmas.{IsDigits-lower_digits, decode_sized-encode_lower}
use Rattle.script_stream.specs.Lines.{lines_of}
use Rattle.program_files.specs.Heads.{slot_line, slot_lines}
use Rattle.program_files.specs.Lines.{file_words, slot_in, code_slots}
use Rattle.program_files.specs.Stages.{HasNoByte}
use Rattle.program_files.proofs.Cuts.{first_line, one_word}
use Rattle.program_files.proofs.SlotBytes.{IsSmall, slots_small}

-- a digit is no other byte
other : (at c d : ℕ) → hex_digit_value at ≡ None → hex_digit_value c ≡ Some d → (c == at) ≡ false
other at c d none some = ne_eqb c at (λ e. none-some d (sym none ∙ ap hex_digit_value (sym e) ∙ some))

no_digit : (at : ℕ) (bytes : List ℕ) → hex_digit_value at ≡ None → IsBytes bytes → HasNoByte at (encode_lower bytes)
unfolding encode_with
no_digit at [] none small = All-nil (λ b. (b == at) ≡ false)
no_digit at (b ∷ bytes) none small =
    let fits : b < 256 = small 0 in
    All-cons (λ c. (c == at) ≡ false) (slice_index lower_digits (b / 16)) (slice_index lower_digits (b % 16) ∷ encode_lower bytes)
    (other at (slice_index lower_digits (b / 16)) (b / 16) none (IsDigits-lower_digits (b / 16) (omega arith)))
    (All-cons (λ c. (c == at) ≡ false) (slice_index lower_digits (b % 16)) (encode_lower bytes)
    (other at (slice_index lower_digits (b % 16)) (b % 16) none (IsDigits-lower_digits (b % 16) (omega arith)))
    (no_digit at bytes none (λ i. small (suc i))))

one_slot : (s : Slot) (rest : List ℕ) → IsSmall s → lines_of (slot_line s ++ rest) ≡ encode_lower (slot_bytes s) ∷ lines_of rest
one_slot s rest small =
    ap lines_of (append_assoc (encode_lower (slot_bytes s)) (10 ∷ []) rest)
    ∙ first_line (encode_lower (slot_bytes s)) rest (no_digit 10 (slot_bytes s) refl small)

word_says : (s : Slot) → IsSmall s → slot_in (encode_lower (slot_bytes s)) ≡ Some (slot_bytes s)
word_says s small = ap result_ok (decode_sized-encode_lower (slot_bytes s) 8 refl small)

slots_say : (slots : List Slot) → AllByRecursion IsSmall slots →
    code_slots (flat_map file_words (lines_of (flat_map slot_line slots))) ≡ Some (flat_map slot_bytes slots)
slots_say [] h = refl
slots_say (s ∷ slots) h =
    let more = flat_map file_words (lines_of (flat_map slot_line slots)) in
    ap (λ ls. code_slots (flat_map file_words ls)) (one_slot s (flat_map slot_line slots) h.0)
    ∙ ap (λ ws. code_slots (ws ++ more)) (one_word (encode_lower (slot_bytes s)) (no_digit 32 (slot_bytes s) refl h.0))
    ∙ ap₂ option_append (word_says s h.0) (slots_say slots h.1)

pub text_of_slots : (program : List Insn) → flat_map slot_bytes (flat_map slots_of program) ≡ text program
text_of_slots [] = refl
text_of_slots (i ∷ program) =
    flat_map-append slot_bytes (slots_of i) (flat_map slots_of program) ∙ ap (λ bytes. spelling i ++ bytes) (text_of_slots program)

-- the lines of a program's slots say its bytes
pub program_says : (program : List Insn) → IsProgram program → code_slots (flat_map file_words (lines_of (slot_lines program))) ≡ Some (text program)
program_says program is = slots_say (flat_map slots_of program) (slots_small program is.fits) ∙ ap Some (text_of_slots program)
