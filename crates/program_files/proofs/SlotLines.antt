-- Digits that are cut into lines.
use Rattle.bpf_model.proofs.Prelude.{◌≡◌, ℕ, ◌+◌, ◌<◌, ◌≤◌, List, [], ◌∷◌, ◌++◌, length, take, drop, refl, sym, ap, subst, ◌∙◌, arith, append_assoc}
use Rattle.bpf_model.proofs.Prelude.{length-append, take-append_seam, drop-append_seam, slot_bytes, slots_of, text}
use Rattle.model_laws.proofs.Prelude.{Insn, Slot}
use Rattle.std.proofs.Common.{flat_map, append-nil}
use Rattle.hex.specs.Hex.{encode_with, encode_lower, lower_digits}
use Rattle.hex.proofs.HexLemmas.{length-encode_with}
use Rattle.program_files.specs.Heads.{slot_line}
use Rattle.program_files.proofs.Written.{text_of_slots}

-- The slots that are left have these digits, and the file has the lines of the others.
pub record IsWrittenTo (old file rest : List ℕ) (slots : List Slot) : Type 0 where
  pub left : List Slot
  pub digits : rest ≡ encode_lower (flat_map slot_bytes left)
  pub lines : file ++ flat_map slot_line left ≡ old ++ flat_map slot_line slots

digits_more : (a b : List ℕ) → encode_lower (a ++ b) ≡ encode_lower a ++ encode_lower b
unfolding encode_with
digits_more [] b = refl
digits_more (x ∷ a) b = let e = digits_more a b in cc

no_digits : encode_lower [] ≡ []
unfolding encode_with
no_digits = refl

digits_of : (s : Slot) (left : List Slot) →
    encode_lower (flat_map slot_bytes (s ∷ left)) ≡ encode_lower (slot_bytes s) ++ encode_lower (flat_map slot_bytes left)
digits_of s left = digits_more (slot_bytes s) (flat_map slot_bytes left)

sixteen : (s : Slot) → length (encode_lower (slot_bytes s)) ≡ 16
sixteen s = length-encode_with lower_digits (slot_bytes s)

front_of : (front more : List ℕ) → length front ≡ 16 → take 16 (front ++ more) ≡ front
front_of front more long = subst (λ n. take n (front ++ more) ≡ front) long (take-append_seam front more)

behind : (front more : List ℕ) → length front ≡ 16 → drop 16 (front ++ more) ≡ more
behind front more long = subst (λ n. drop n (front ++ more) ≡ more) long (drop-append_seam front more)

none_long : (rest : List ℕ) → rest ≡ encode_lower [] → length rest ≡ 0
none_long rest e = ap length (e ∙ no_digits)

some_long : (rest : List ℕ) (s : Slot) (left : List Slot) → rest ≡ encode_lower (flat_map slot_bytes (s ∷ left)) → 16 ≤ length rest
some_long rest s left e =
    let l : length rest ≡ length (encode_lower (slot_bytes s)) + length (encode_lower (flat_map slot_bytes left)) =
    ap length (e ∙ digits_of s left) ∙ length-append (encode_lower (slot_bytes s)) (encode_lower (flat_map slot_bytes left)) in
    omega (arith, sixteen s)

room_of : (left : List Slot) (rest : List ℕ) → rest ≡ encode_lower (flat_map slot_bytes left) → 0 < length rest → 16 ≤ length rest
room_of [] rest e some = absurd (omega (arith, none_long rest e))
room_of (s ∷ left) rest e some = some_long rest s left e

-- a line has room
pub has_room : (old file rest : List ℕ) (slots : List Slot) → IsWrittenTo old file rest slots → 0 < length rest → 16 ≤ length rest
has_room old file rest slots h some = room_of h.left rest h.digits some

one_line : (file slot more all : List ℕ) (s : Slot) → slot ≡ encode_lower (slot_bytes s) → file ++ (slot_line s ++ more) ≡ all →
    ((file ++ slot) ++ 10 ∷ []) ++ more ≡ all
one_line file slot more all s e h =
    append_assoc (file ++ slot) (10 ∷ []) more ∙ append_assoc file slot (10 ∷ more)
    ∙ ap (λ (x : List ℕ). file ++ (x ++ 10 ∷ more)) e
    ∙ ap (λ (x : List ℕ). file ++ x) (sym (append_assoc (encode_lower (slot_bytes s)) (10 ∷ []) more)) ∙ h

next_of : (left : List Slot) (old file rest slot more new : List ℕ) (slots : List Slot) → rest ≡ encode_lower (flat_map slot_bytes left) →
    file ++ flat_map slot_line left ≡ old ++ flat_map slot_line slots → 0 < length rest → slot ≡ take 16 rest → more ≡ drop 16 rest →
    new ≡ (file ++ slot) ++ 10 ∷ [] → IsWrittenTo old new more slots
next_of [] old file rest slot more new slots e h some a b n = absurd (omega (arith, none_long rest e))
next_of (s ∷ left) old file rest slot more new slots e h some a b n =
    let is : rest ≡ encode_lower (slot_bytes s) ++ encode_lower (flat_map slot_bytes left) = e ∙ digits_of s left in
    record {
      left = left;
      digits = b ∙ ap (drop 16) is ∙ behind (encode_lower (slot_bytes s)) (encode_lower (flat_map slot_bytes left)) (sixteen s);
      lines = ap (λ (x : List ℕ). x ++ flat_map slot_line left) n ∙
          one_line file slot (flat_map slot_line left) (old ++ flat_map slot_line slots) s
          (a ∙ ap (take 16) is ∙ front_of (encode_lower (slot_bytes s)) (encode_lower (flat_map slot_bytes left)) (sixteen s)) h;
    }

-- one line more
pub next_line : (old file rest slot more new : List ℕ) (slots : List Slot) → IsWrittenTo old file rest slots → 0 < length rest →
    slot ≡ take 16 rest → more ≡ drop 16 rest → new ≡ (file ++ slot) ++ 10 ∷ [] → IsWrittenTo old new more slots
next_line old file rest slot more new slots h some a b n = next_of h.left old file rest slot more new slots h.digits h.lines some a b n

pub from_digits : (file digits code : List ℕ) (program : List Insn) → code ≡ text program → digits ≡ encode_lower code →
    IsWrittenTo file file digits (flat_map slots_of program)
from_digits file digits code program e d = record {
  left = flat_map slots_of program;
  digits = d ∙ ap encode_lower (e ∙ sym (text_of_slots program));
  lines = refl;
}

all_of : (left : List Slot) (old file rest : List ℕ) (slots : List Slot) → rest ≡ encode_lower (flat_map slot_bytes left) →
    file ++ flat_map slot_line left ≡ old ++ flat_map slot_line slots → length rest ≡ 0 → file ≡ old ++ flat_map slot_line slots
all_of [] old file rest slots e h none = sym (append-nil file) ∙ h
all_of (s ∷ left) old file rest slots e h none = absurd (omega (arith, some_long rest s left e))

-- all lines
pub all_written : (old file rest : List ℕ) (slots : List Slot) → IsWrittenTo old file rest slots → length rest ≡ 0 → file ≡ old ++ flat_map slot_line slots
all_written old file rest slots h none = all_of h.left old file rest slots h.digits h.lines none
